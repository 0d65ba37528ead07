-- Places that are taken one after another.
use Rattle.std.proofs.Common.{◌≡◌, ℕ, ◌+◌, ◌<◌, ◌≤◌, List, [], ◌∷◌, ◌++◌, length, get_or, take, drop, Option, Some, None, refl, sym, ◌∙◌, ap, subst, append_assoc}
use Rattle.std.specs.List.{filter_map}
use Rattle.std.specs.Option.{option_map, option_to_list}
use Rattle.std.specs.Prelude.{IfSome, All}
use Rattle.std.proofs.lemmas.List.{append-nil, take_all, take-append-drop}
use Rattle.std.proofs.lemmas.List.Elements.{filter_map-append, All-append, All-cons, All-nil}
use Rattle.ae_base.specs.Rows.{Row, Rows}
use Rattle.ae_types.specs.Frozen.{present}
use Rattle.ae_types.proofs.Versions.{some-more}
use Rattle.ae_space.specs.declared.extent.Extent.{Extent}
use Rattle.ae_places.specs.Placing.{places_of, TakesPlaces, HaveNoPlaces}

-- ---- and then more

both-maps : (first second : List ℕ) (o : Option (List ℕ)) → option_map (λ rest. first ++ rest) (option_map (λ rest. second ++ rest) o) ≡ option_map (λ rest. (first ++ second) ++ rest) o
both-maps first second None = refl
both-maps first second (Some rest) = ap Some (sym (append_assoc first second rest))

pub takes-then : (taken : List Extent) (bytes more : List (List ℕ)) (mid space : List Extent) (places rest : List ℕ) (first : TakesPlaces taken bytes mid places) → TakesPlaces first.now more space rest → TakesPlaces taken (bytes ++ more) space (places ++ rest)
takes-then taken bytes more mid space places rest first second = record {
  now = second.now;
  left = second.left;
  follows = λ others. ap (places_of taken) (append_assoc bytes more others) ∙ first.follows (more ++ others) ∙ ap (option_map (λ l. places ++ l)) (second.follows others) ∙ both-maps places rest (places_of second.now others);
}

pub none-then : (taken : List Extent) (bytes more : List (List ℕ)) (mid : List Extent) (places : List ℕ) (first : TakesPlaces taken bytes mid places) → HaveNoPlaces first.now more → HaveNoPlaces taken (bytes ++ more)
none-then taken bytes more mid places first none others = ap (places_of taken) (append_assoc bytes more others) ∙ first.follows (more ++ others) ∙ ap (option_map (λ l. places ++ l)) (none others)

-- ---- a tree

pub one-row-more : (tree : Rows) (i : ℕ) (row : Row) → i < length tree → row ≡ get_or tree i row → present (take (i + 1) tree) ≡ present (take i tree) ++ option_to_list row.1
one-row-more tree i row lt is = some-more (λ (r : Row). r.1) tree i row lt is

-- all were taken
pub all-taken : (taken space : List Extent) (bytes : List (List ℕ)) (places : List ℕ) → TakesPlaces taken bytes space places → places_of taken bytes ≡ Some places
all-taken taken space bytes places takes = ap (places_of taken) (sym (append-nil bytes)) ∙ takes.follows [] ∙ ap Some (append-nil places)

-- one has none
pub one-not : (taken : List Extent) (bytes more : List (List ℕ)) → HaveNoPlaces taken bytes → places_of taken (bytes ++ more) ≡ None
one-not taken bytes more none = none more

whole : (tree : Rows) (n : ℕ) → present (take n tree) ++ present (drop n tree) ≡ present tree
whole tree n = parts (λ (r : Row). r.1)
  where
    parts : (f : Row → Option (List ℕ)) → filter_map f (take n tree) ++ filter_map f (drop n tree) ≡ filter_map f tree
    parts f = sym (filter_map-append f (take n tree) (drop n tree)) ∙ ap (filter_map f) (take-append-drop n tree)

-- a tree of which a row has no place
pub tree-not : (taken space : List Extent) (tree : Rows) (i : ℕ) (row : Row) (places : List ℕ) (first : TakesPlaces taken (present (take i tree)) space places) → i < length tree → row ≡ get_or tree i row → HaveNoPlaces first.now (option_to_list row.1) → places_of taken (present tree) ≡ None
tree-not taken space tree i row places first lt is none =
    ap (places_of taken) (sym (whole tree (i + 1)) ∙ ap (λ l. l ++ present (drop (i + 1) tree)) (one-row-more tree i row lt is))
    ∙ none-then taken (present (take i tree)) (option_to_list row.1) space places first none (present (drop (i + 1) tree))

-- one row more
pub tree-more : (taken mid space : List Extent) (tree : Rows) (i : ℕ) (row : Row) (places rest : List ℕ) (first : TakesPlaces taken (present (take i tree)) mid places) → i < length tree → row ≡ get_or tree i row → TakesPlaces first.now (option_to_list row.1) space rest
    → TakesPlaces taken (present (take (i + 1) tree)) space (places ++ rest)
tree-more taken mid space tree i row places rest first lt is second =
    subst (λ l. TakesPlaces taken l space (places ++ rest)) (sym (one-row-more tree i row lt is)) (takes-then taken (present (take i tree)) (option_to_list row.1) mid space places rest first second)

-- all rows
pub tree-all : (taken space : List Extent) (tree : Rows) (n : ℕ) (places : List ℕ) → length tree ≤ n → TakesPlaces taken (present (take n tree)) space places → places_of taken (present tree) ≡ Some places
tree-all taken space tree n places le takes = all-taken taken space (present tree) places (subst (λ l. TakesPlaces taken l space places) (ap (λ (t : Rows). present t) (take_all n tree le)) takes)

pub low-more : (places : List ℕ) (place : Option ℕ) → All (λ at. at ≤ 16777216) places → IfSome place (λ at. at ≤ 16777216) → All (λ at. at ≤ 16777216) (places ++ option_to_list place)
low-more places None all low = All-append (λ at. at ≤ 16777216) places [] all (All-nil (λ at. at ≤ 16777216))
low-more places (Some at) all low = All-append (λ at. at ≤ 16777216) places (at ∷ []) all (All-cons (λ at. at ≤ 16777216) at [] low (All-nil (λ at. at ≤ 16777216)))
