-- The least folder on the way to a path of the project that is a path of the project itself is the least path that clashes.
use Rattle.std.specs.Prelude.{◌≡◌, ℕ, Bool, true, false, ◌&&◌, not, List, [], ◌∷◌, ◌++◌, map, Option, Some, None, is_some}
use Rattle.std.specs.List.{find}
use Rattle.std.specs.Option.{is_none, option_map, option_and_then}
use Rattle.std.specs.Ordering.{is_lt, ordering_then}
use Rattle.std.specs.Cmp.{nat_cmp_is}
use Rattle.std.specs.declared.cmp.Ordering.{Ordering}
use Rattle.std.specs.declared.cmp.Ordering.TheVariants.{Less, Equal, Greater}
use Rattle.std.proofs.Common.{refl, sym, ap, subst, ◌∙◌, cond, if◌then◌else◌, ◌⊎◌, inl, inr}
use Rattle.std.proofs.lemmas.Bool.{and_parts, not-true}
use Rattle.std.proofs.lemmas.Option.{same_Some}
use Rattle.ae_base.specs.Names.{is_slash}
use Rattle.ae_base.specs.declared.refusal.Refusal.TheVariants.{PathClash}
use Rattle.ae_types.specs.declared.change.ChangeFile.{ChangeFile}
use Rattle.ae_types.specs.declared.file_table.FileRow.{FileRow}
use Rattle.ae_types.specs.Clashes.{folders_of, has_path}
use Rattle.ae_types.specs.Found.{file_in, file_path, row_in, row_path}
use Rattle.ae_types.specs.Observation.{Observation}
use Rattle.ae_types.specs.Ordered.{itself}
use Rattle.ae_types.specs.Phases.{is_remove}
use Rattle.ae_types.specs.Sound.{Sound}
use Rattle.ae_types.specs.Trees.{last_delta, tree_row}
use Rattle.ae_base.specs.Rows.{text_cmp}
use Rattle.ae_types.proofs.Clashing.{has-in, in-has}
use Rattle.ae_types.proofs.Keys.{by_text}
use Rattle.ae_types.proofs.Members.{In}
use Rattle.ae_types.proofs.Ordered.{Above, Ascends, found-key, greater-less, less-other, none-some}
use Rattle.ae_types.proofs.Searched.{found-in, in-found, is_less}
use Rattle.ae_types.proofs.TreePaths.{stands}
use Rattle.ae_machine.specs.Filing.{are_clear}
use Rattle.ae_machine.specs.LeastClash.{file_folder, folder_in, least_folder, least_from, lesser, path_in, row_folder, rows_folder, standing_path}
use Rattle.ae_machine.specs.Paths.{no_clash, paths_with}
use Rattle.ae_machine.specs.Rules.{there_by}
use Rattle.ae_machine.proofs.LeastClash.{NoneBelow, clash-none, least-clash, above-in}
use Rattle.ae_machine.proofs.PathsThere.{paths-there}
use Rattle.ae_machine.proofs.PathsUp.{paths-with-up}

-- ---- at most

-- the first text is at most the second
abbrev pub AtMost : List ℕ → List ℕ → Type 0
AtMost c d = text_cmp d c ≡ Less → ⊥

most-trans : (c e d : List ℕ) → AtMost c e → AtMost e d → AtMost c d
most-trans c e d ce ed l = go (text_cmp d e) refl
  where
    go : (r : Ordering) → text_cmp d e ≡ r → ⊥
    go Less is = ed is
    go Equal is = ce (subst (λ (x : List ℕ). text_cmp x c ≡ Less) (by_text.anti d e is) l)
    go Greater is = ce (by_text.total.trans e d c (greater-less by_text d e is) l)

most-same : (c d : List ℕ) → d ≡ c → AtMost c d
most-same c d e l = less-other by_text d c l e

not-less : (r : Ordering) → is_lt r ≡ false → r ≡ Less → ⊥
not-less Less e is = cc
not-less Equal e is = cc
not-less Greater e is = cc

-- ---- the lesser of two

record IsLesser (a b : Option (List ℕ)) (c : List ℕ) : Type 0 where
  among : (a ≡ Some c) ⊎ (b ≡ Some c)
  left : (d : List ℕ) → a ≡ Some d → AtMost c d
  right : (d : List ℕ) → b ≡ Some d → AtMost c d

one-of : (v : Option (List ℕ)) (c d : List ℕ) → v ≡ Some c → v ≡ Some d → AtMost c d
one-of v c d is e = most-same c d (same_Some d c (sym e ∙ is))

lesser-is : (a b : Option (List ℕ)) (c : List ℕ) → lesser a b ≡ Some c → IsLesser a b c
lesser-is None b c e = record { among = inr e; left = λ d i. none-some d i; right = λ d i. one-of b c d e i }
lesser-is (Some p) None c e = record { among = inl e; left = λ d i. one-of (Some p) c d e i; right = λ d i. none-some d i }
lesser-is (Some p) (Some q) c e = go (is_lt (text_cmp q p)) refl e
  where
    go : (b : Bool) → is_lt (text_cmp q p) ≡ b → (if b then Some q else Some p) ≡ Some c → IsLesser (Some p) (Some q) c
    go true is e =
        let below : AtMost c p = λ l. less-other by_text q q (by_text.total.trans q p q (is_less (text_cmp q p) is) (subst (λ (x : List ℕ). text_cmp p x ≡ Less) (sym (same_Some q c e)) l)) refl in
        record { among = inr e; left = λ d i. subst (AtMost c) (same_Some p d i) below; right = λ d i. one-of (Some q) c d e i }
    go false is e =
        let below : AtMost c q = λ l. not-less (text_cmp q p) is (subst (λ (x : List ℕ). text_cmp q x ≡ Less) (sym (same_Some p c e)) l) in
        record { among = inl e; left = λ d i. one-of (Some p) c d e i; right = λ d i. subst (AtMost c) (same_Some q d i) below }

lesser-none : (a b : Option (List ℕ)) → lesser a b ≡ None → (a ≡ None) × (b ≡ None)
lesser-none None b e = (refl, e)
lesser-none (Some p) None e = cc
lesser-none (Some p) (Some q) e = go (is_lt (text_cmp q p)) e
  where
    go : (b : Bool) → (if b then Some q else Some p) ≡ None → (Some p ≡ None) × (Some q ≡ None)
    go true e = cc
    go false e = cc

lesser-some : (a b : Option (List ℕ)) (d : List ℕ) → a ≡ Some d → (c : List ℕ) × (lesser a b ≡ Some c)
lesser-some None b d e = none-some d e
lesser-some (Some p) None d e = (p, refl)
lesser-some (Some p) (Some q) d e = go (is_lt (text_cmp q p))
  where
    go : (b : Bool) → (c : List ℕ) × ((if b then Some q else Some p) ≡ Some c)
    go true = (q, refl)
    go false = (p, refl)

lesser-other : (a b : Option (List ℕ)) (d : List ℕ) → b ≡ Some d → (c : List ℕ) × (lesser a b ≡ Some c)
lesser-other None b d e = (d, e)
lesser-other (Some p) b d e = lesser-some (Some p) b p refl

-- ---- the least of what each gives

module _ {A : Type 0} (give : A → Option (List ℕ)) where
  record IsLeast (before : Option (List ℕ)) (xs : List A) (c : List ℕ) : Type 0 where
    among : (before ≡ Some c) ⊎ ((x : A) × In xs x × (give x ≡ Some c))
    first : (d : List ℕ) → before ≡ Some d → AtMost c d
    rest : (x : A) (d : List ℕ) → In xs x → give x ≡ Some d → AtMost c d

  least-is : (before : Option (List ℕ)) (xs : List A) (c : List ℕ) → least_from give before xs ≡ Some c → IsLeast before xs c
  least-is before [] c e = record { among = inl e; first = λ d i. one-of before c d e i; rest = λ x d m. absurd m }
  least-is before (y ∷ ys) c e = step (least-is (lesser before (give y)) ys c e)
    where
      below : (d : List ℕ) (made : (b : List ℕ) × (lesser before (give y) ≡ Some b)) → AtMost made.0 d → IsLeast (lesser before (give y)) ys c → AtMost c d
      below d made most known = most-trans c made.0 d (known.first made.0 made.1) most

      of_first : (d : List ℕ) → before ≡ Some d → IsLeast (lesser before (give y)) ys c → AtMost c d
      of_first d i known = let made = lesser-some before (give y) d i in below d made ((lesser-is before (give y) made.0 made.1).left d i) known

      of_this : (d : List ℕ) → give y ≡ Some d → IsLeast (lesser before (give y)) ys c → AtMost c d
      of_this d i known = let made = lesser-other before (give y) d i in below d made ((lesser-is before (give y) made.0 made.1).right d i) known

      from : (lesser before (give y) ≡ Some c) ⊎ ((x : A) × In ys x × (give x ≡ Some c)) → (before ≡ Some c) ⊎ ((x : A) × In (y ∷ ys) x × (give x ≡ Some c))
      from (inl is) = go ((lesser-is before (give y) c is).among)
        where
          go : (before ≡ Some c) ⊎ (give y ≡ Some c) → (before ≡ Some c) ⊎ ((x : A) × In (y ∷ ys) x × (give x ≡ Some c))
          go (inl i) = inl i
          go (inr i) = inr (y, inl refl, i)
      from (inr (x, m, i)) = inr (x, inr m, i)

      of_rest : IsLeast (lesser before (give y)) ys c → (x : A) (d : List ℕ) → In (y ∷ ys) x → give x ≡ Some d → AtMost c d
      of_rest known x d (inl is) i = of_this d (ap give is ∙ i) known
      of_rest known x d (inr m) i = known.rest x d m i

      step : IsLeast (lesser before (give y)) ys c → IsLeast before (y ∷ ys) c
      step known = record { among = from known.among; first = λ d i. of_first d i known; rest = of_rest known }

  least-none : (before : Option (List ℕ)) (xs : List A) → least_from give before xs ≡ None → (before ≡ None) × ((x : A) → In xs x → give x ≡ None)
  least-none before [] e = (e, λ x m. absurd m)
  least-none before (y ∷ ys) e =
      let known = least-none (lesser before (give y)) ys e in
      let both = lesser-none before (give y) known.0 in
      (both.0, λ x m. each both.1 known.1 x m)
    where
      each : give y ≡ None → ((x : A) → In ys x → give x ≡ None) → (x : A) → In (y ∷ ys) x → give x ≡ None
      each here there x (inl is) = ap give (sym is) ∙ here
      each here there x (inr m) = there x m

-- ---- the folders on the way to a path ascend

front-cmp : (b : ℕ) (x y : List ℕ) → text_cmp (b ∷ x) (b ∷ y) ≡ text_cmp x y
front-cmp b x y = ap (λ r. ordering_then r (text_cmp x y)) (sym (nat_cmp_is b b Equal refl))

put-above : (b : ℕ) (k : List ℕ) (xs : List (List ℕ)) → Above by_text itself k xs → Above by_text itself (b ∷ k) (map (λ folder. b ∷ folder) xs)
put-above b k [] a = tt
put-above b k (x ∷ xs) a = (front-cmp b k x ∙ a.0, put-above b k xs a.1)

put-all : (b : ℕ) (xs : List (List ℕ)) → Ascends by_text itself xs → Ascends by_text itself (map (λ folder. b ∷ folder) xs)
put-all b [] a = tt
put-all b (x ∷ xs) a = (put-above b x xs a.0, put-all b xs a.1)

above-empty : (b : ℕ) (xs : List (List ℕ)) → Above by_text itself [] (map (λ folder. b ∷ folder) xs)
above-empty b [] = tt
above-empty b (x ∷ xs) = (refl, above-empty b xs)

pub folders-up : (path : List ℕ) → Ascends by_text itself (folders_of path)
folders-up [] = tt
folders-up (b ∷ bs) = go (is_slash b) (put-all b (folders_of bs) (folders-up bs))
  where
    go : (c : Bool) → Ascends by_text itself (map (λ folder. b ∷ folder) (folders_of bs)) → Ascends by_text itself ((if c then [] ∷ [] else []) ++ map (λ folder. b ∷ folder) (folders_of bs))
    go true up = (above-empty b (folders_of bs), up)
    go false up = up

-- ---- the folder that is found

pub record IsFirst (t : List ℕ → Bool) (xs : List (List ℕ)) (c : List ℕ) : Type 0 where
  pub there : In xs c
  pub passes : t c ≡ true
  pub least : (f : List ℕ) → In xs f → t f ≡ true → AtMost c f

pub first-is : (t : List ℕ → Bool) (xs : List (List ℕ)) (c : List ℕ) → Ascends by_text itself xs → find t xs ≡ Some c → IsFirst t xs c
first-is t [] c up e = none-some c e
first-is t (x ∷ xs) c up e = go (t x) refl e (first-is t xs c up.1)
  where
    go : (b : Bool) → t x ≡ b → cond b (Some x) (find t xs) ≡ Some c → (find t xs ≡ Some c → IsFirst t xs c) → IsFirst t (x ∷ xs) c
    go true is e rest = record { there = inl (same_Some x c e); passes = ap t (sym (same_Some x c e)) ∙ is; least = least }
      where
        least : (f : List ℕ) → In (x ∷ xs) f → t f ≡ true → AtMost c f
        least f (inl same) p = most-same c f (sym same ∙ same_Some x c e)
        least f (inr m) p = λ l.
            let above : text_cmp c f ≡ Less = subst (λ (z : List ℕ). text_cmp z f ≡ Less) (same_Some x c e) (above-in x xs f up.0 m) in
            less-other by_text c c (by_text.total.trans c f c above l) refl
    go false is e rest = let known = rest e in record { there = inr known.there; passes = known.passes; least = least known }
      where
        differ : {P : Type 0} → true ≡ false → P
        differ e = cc

        least : IsFirst t xs c → (f : List ℕ) → In (x ∷ xs) f → t f ≡ true → AtMost c f
        least known f (inl same) p = differ (sym p ∙ ap t (sym same) ∙ is)
        least known f (inr m) p = known.least f m p

pub first-none : (t : List ℕ → Bool) (xs : List (List ℕ)) → find t xs ≡ None → (f : List ℕ) → In xs f → t f ≡ true → ⊥
first-none t [] e f m p = absurd m
first-none t (x ∷ xs) e f m p = go (t x) refl e m (first-none t xs)
  where
    go : (b : Bool) → t x ≡ b → cond b (Some x) (find t xs) ≡ None → In (x ∷ xs) f → (find t xs ≡ None → (f : List ℕ) → In xs f → t f ≡ true → ⊥) → ⊥
    go true is e m rest = cc
    go false is e (inl same) rest = no_true (sym p ∙ ap t (sym same) ∙ is)
      where
        no_true : true ≡ false → ⊥
        no_true e = cc
    go false is e (inr m) rest = rest e f m p

-- ---- the paths of the project

module _ (o : Observation) (files : List ChangeFile) (s : Sound o) (up : Ascends by_text file_path files) where
  abbrev paths : List (List ℕ)
  paths = paths_with o files

  abbrev pub row_counts : FileRow → Bool
  row_counts row = is_some (tree_row (last_delta o) row) && is_none (file_in files row.path)

  there : (q : List ℕ) → has_path paths q ≡ there_by (file_in files q) (stands (last_delta o) o.files q)
  there q = paths-there o files q s up

  -- each path is that of a row of the baseline outside the change, or of a file that the change keeps
  abbrev pub FromRow : List ℕ → Type 0
  FromRow q = (row : FileRow) × In o.files row × (row.path ≡ q) × (row_counts row ≡ true)

  abbrev pub FromFile : List ℕ → Type 0
  FromFile q = (file : ChangeFile) × In files file × (file.path ≡ q) × (is_remove file.action ≡ false)

  pub source : (q : List ℕ) → In paths q → FromRow q ⊎ FromFile q
  source q m = go (file_in files q) refl (sym (there q) ∙ in-has paths q m)
    where
      row_of : (v : Option FileRow) → row_in o.files q ≡ v → is_some (option_and_then (tree_row (last_delta o)) v) ≡ true → file_in files q ≡ None → FromRow q
      row_of (Some row) is e none =
          let path : row.path ≡ q = found-key by_text row_path q o.files row is in
          (row, found-in by_text row_path o.files q row is, path, (λ i. e i && is_none (file_in files (path i))) ∙ ap is_none none)
      row_of None is e none = cc

      go : (v : Option ChangeFile) → file_in files q ≡ v → there_by v (stands (last_delta o) o.files q) ≡ true → FromRow q ⊎ FromFile q
      go (Some file) is e = inr (file, found-in by_text file_path files q file is, found-key by_text file_path q files file is, not-true (is_remove file.action) e)
      go None is e = inl (row_of (row_in o.files q) refl e is)

  pub row-path : (row : FileRow) → In o.files row → row_counts row ≡ true → In paths row.path
  row-path row m e =
      let both = and_parts (is_some (tree_row (last_delta o) row)) (is_none (file_in files row.path)) e in
      has-in paths row.path (there row.path ∙ go (file_in files row.path) both.1 ∙ ap (λ v. is_some (option_and_then (tree_row (last_delta o)) v)) (in-found by_text row_path o.files s.rows.ascend row m) ∙ both.0)
    where
      go : (v : Option ChangeFile) → is_none v ≡ true → there_by v (stands (last_delta o) o.files row.path) ≡ stands (last_delta o) o.files row.path
      go (Some file) e = cc
      go None e = refl

  pub file-path : (file : ChangeFile) → In files file → is_remove file.action ≡ false → In paths file.path
  file-path file m e = has-in paths file.path (there file.path ∙ ap (λ v. there_by v (stands (last_delta o) o.files file.path)) (in-found by_text file_path files up file m) ∙ ap not e)

  -- ---- what a row and a file give

  row-gives : (row : FileRow) → row_counts row ≡ true → row_folder o files row ≡ folder_in paths row.path
  row-gives row e = ap (λ b. if b then folder_in paths row.path else None) e

  file-gives : (file : ChangeFile) → is_remove file.action ≡ false → file_folder o files file ≡ folder_in paths file.path
  file-gives file e = ap (λ b. if b then None else folder_in paths file.path) e

  row-counts : (row : FileRow) (c : List ℕ) → row_folder o files row ≡ Some c → row_counts row ≡ true
  row-counts row c e = go (row_counts row) e
    where
      go : (b : Bool) → (if b then folder_in paths row.path else None) ≡ Some c → b ≡ true
      go true e = refl
      go false e = none-some c e

  file-counts : (file : ChangeFile) (c : List ℕ) → file_folder o files file ≡ Some c → is_remove file.action ≡ false
  file-counts file c e = go (is_remove file.action) e
    where
      go : (b : Bool) → (if b then None else folder_in paths file.path) ≡ Some c → b ≡ false
      go true e = none-some c e
      go false e = refl

  -- a path in another one's folders gives the other a folder, and none that is greater
  gives-some : (f q : List ℕ) → In paths f → In (folders_of q) f → (d : List ℕ) × (folder_in paths q ≡ Some d) × AtMost d f
  gives-some f q m on = go (folder_in paths q) refl
    where
      go : (v : Option (List ℕ)) → folder_in paths q ≡ v → (d : List ℕ) × (folder_in paths q ≡ Some d) × AtMost d f
      go (Some d) is = (d, is, (first-is (has_path paths) (folders_of q) d (folders-up q) is).least f on (in-has paths f m))
      go None is = absurd (first-none (has_path paths) (folders_of q) is f on (in-has paths f m))

  -- ---- the least of all

  abbrev of_rows : Option (List ℕ)
  of_rows = rows_folder o files

  record IsClash (b : List ℕ) : Type 0 where
    inside : List ℕ
    among : In paths inside
    folder : In (folders_of inside) b
    there : In paths b

  clash-of : (q b : List ℕ) → In paths q → folder_in paths q ≡ Some b → IsClash b
  clash-of q b m is =
      let first = first-is (has_path paths) (folders_of q) b (folders-up q) is in
      record { inside = q; among = m; folder = first.there; there = has-in paths b first.passes }

  least-clashes : (b : List ℕ) → least_folder o files ≡ Some b → IsClash b
  least-clashes b e = go ((least-is (file_folder o files) of_rows files b e).among)
    where
      go : (of_rows ≡ Some b) ⊎ ((file : ChangeFile) × In files file × (file_folder o files file ≡ Some b)) → IsClash b
      go (inl is) = of_row ((least-is (row_folder o files) None o.files b is).among)
        where
          of_row : (None ≡ Some b) ⊎ ((row : FileRow) × In o.files row × (row_folder o files row ≡ Some b)) → IsClash b
          of_row (inl e) = none-some b e
          of_row (inr (row, m, gives)) = let counts = row-counts row b gives in clash-of row.path b (row-path row m counts) (sym (row-gives row counts) ∙ gives)
      go (inr (file, m, gives)) = let counts = file-counts file b gives in clash-of file.path b (file-path file m counts) (sym (file-gives file counts) ∙ gives)

  -- what a path gives is at least the least of all
  given-most : (b q d : List ℕ) → least_folder o files ≡ Some b → In paths q → folder_in paths q ≡ Some d → AtMost b d
  given-most b q d e m gives = go (source q m)
    where
      all : IsLeast (file_folder o files) of_rows files b
      all = least-is (file_folder o files) of_rows files b e

      by_row : (v : Option (List ℕ)) → of_rows ≡ v → (row : FileRow) → In o.files row → row_folder o files row ≡ Some d → AtMost b d
      by_row (Some c) is row m g = most-trans b c d (all.first c is) ((least-is (row_folder o files) None o.files c is).rest row d m g)
      by_row None is row m g = absurd_none (sym g ∙ (least-none (row_folder o files) None o.files is).1 row m)
        where
          absurd_none : Some d ≡ None → AtMost b d
          absurd_none e = cc

      go : FromRow q ⊎ FromFile q → AtMost b d
      go (inl (row, m, is, counts)) = by_row of_rows refl row m (row-gives row counts ∙ ap (folder_in paths) is ∙ gives)
      go (inr (file, m, is, counts)) = all.rest file d m (file-gives file counts ∙ ap (folder_in paths) is ∙ gives)

  least-below : (b : List ℕ) → least_folder o files ≡ Some b → NoneBelow paths b
  least-below b e f q there inside on l =
      let given = gives-some f q there on in
      most-trans b given.0 f (given-most b q given.0 e inside given.1) given.2 l

  none-given : least_folder o files ≡ None → (f q : List ℕ) → In paths f → In paths q → In (folders_of q) f → ⊥
  none-given e f q there inside on = go (source q inside)
    where
      known : (of_rows ≡ None) × ((file : ChangeFile) → In files file → file_folder o files file ≡ None)
      known = least-none (file_folder o files) of_rows files e

      given : (d : List ℕ) × (folder_in paths q ≡ Some d) × AtMost d f
      given = gives-some f q there on

      never : None ≡ Some given.0 → ⊥
      never e = cc

      go : FromRow q ⊎ FromFile q → ⊥
      go (inl (row, m, is, counts)) = never (sym ((least-none (row_folder o files) None o.files known.0).1 row m) ∙ row-gives row counts ∙ ap (folder_in paths) is ∙ given.1)
      go (inr (file, m, is, counts)) = never (sym (known.1 file m) ∙ file-gives file counts ∙ ap (folder_in paths) is ∙ given.1)

  pub clear-is : are_clear o files ≡ option_map PathClash (least_folder o files)
  clear-is = go (least_folder o files) refl
    where
      go : (v : Option (List ℕ)) → least_folder o files ≡ v → no_clash paths ≡ option_map PathClash v
      go (Some b) is = let c = least-clashes b is in least-clash paths b c.inside (paths-with-up o files s) c.there c.among c.folder (least-below b is)
      go None is = clash-none paths (none-given is)

-- ---- one path

pub standing-found : (o : Observation) (path : List ℕ) (row : FileRow) (b : Bool) → Some row ≡ row_in o.files path → b ≡ is_some (tree_row (last_delta o) row) → (if b then Some row.path else None) ≡ standing_path o path
standing-found o path row b found is =
    (λ i. if is i then Some (found-key by_text row_path path o.files row (sym found) i) else None)
    ∙ ap (λ (v : Option FileRow). if is_some (option_and_then (tree_row (last_delta o)) v) then Some path else None) found

module _ (o : Observation) (files : List ChangeFile) (path : List ℕ) (s : Sound o) (up : Ascends by_text file_path files) where
  in-paths : path_in (paths_with o files) path ≡ (if there_by (file_in files path) (stands (last_delta o) o.files path) then Some path else None)
  in-paths = ap (λ b. if b then Some path else None) (paths-there o files path s up)

  pub in-file : (file : ChangeFile) (b : Bool) → Some file ≡ file_in files path → b ≡ is_remove file.action → (if b then None else Some file.path) ≡ path_in (paths_with o files) path
  in-file file b found is = go b is ∙ sym (in-paths ∙ ap (λ (v : Option ChangeFile). if there_by v (stands (last_delta o) o.files path) then Some path else None) (sym found))
    where
      own : file.path ≡ path
      own = found-key by_text file_path path files file (sym found)

      go : (b : Bool) → b ≡ is_remove file.action → (if b then None else Some file.path) ≡ (if not (is_remove file.action) then Some path else None)
      go true is = ap (λ b. if not b then Some path else None) is
      go false is = ap (λ (p : List ℕ). Some p) own ∙ ap (λ b. if not b then Some path else None) is

  pub in-row : None ≡ file_in files path → standing_path o path ≡ path_in (paths_with o files) path
  in-row none = sym (in-paths ∙ ap (λ (v : Option ChangeFile). if there_by v (stands (last_delta o) o.files path) then Some path else None) (sym none))

-- ---- the folders of a path, from the front

abbrev pub folders_from : List ℕ → List ℕ → List (List ℕ)
folders_from front [] = []
folders_from front (b ∷ bs) = (if is_slash b then front ∷ [] else []) ++ folders_from (front ++ b ∷ []) bs

from-front : (front path : List ℕ) → map (λ folder. front ++ folder) (folders_of path) ≡ folders_from front path
from-front front [] = refl
from-front front (b ∷ bs) = go (is_slash b) (from-front (front ++ b ∷ []) bs)
  where
    assoc : (front folder : List ℕ) → front ++ (b ∷ folder) ≡ (front ++ b ∷ []) ++ folder
    assoc [] folder = refl
    assoc (a ∷ front) folder = ap (λ xs. a ∷ xs) (assoc front folder)

    empty : (front : List ℕ) → front ++ [] ≡ front
    empty [] = refl
    empty (a ∷ front) = ap (λ xs. a ∷ xs) (empty front)

    shifted : (fs : List (List ℕ)) → map (λ folder. front ++ folder) (map (λ folder. b ∷ folder) fs) ≡ map (λ folder. (front ++ b ∷ []) ++ folder) fs
    shifted [] = refl
    shifted (f ∷ fs) = λ i. assoc front f i ∷ shifted fs i

    go : (c : Bool) → map (λ folder. (front ++ b ∷ []) ++ folder) (folders_of bs) ≡ folders_from (front ++ b ∷ []) bs
        → map (λ folder. front ++ folder) ((if c then [] ∷ [] else []) ++ map (λ folder. b ∷ folder) (folders_of bs)) ≡ (if c then front ∷ [] else []) ++ folders_from (front ++ b ∷ []) bs
    go true rest = λ i. empty front i ∷ (shifted (folders_of bs) ∙ rest) i
    go false rest = shifted (folders_of bs) ∙ rest

pub folders-front : (path : List ℕ) → folders_of path ≡ folders_from [] path
folders-front path = sym (same (folders_of path)) ∙ from-front [] path
  where
    same : (fs : List (List ℕ)) → map (λ folder. [] ++ folder) fs ≡ fs
    same [] = refl
    same (f ∷ fs) = ap (λ gs. f ∷ gs) (same fs)
