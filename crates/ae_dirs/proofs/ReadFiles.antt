-- What was read of a file says what it holds.
use Rattle.std.specs.Prelude.{◌≡◌, ℕ, ◌+◌, ◌<◌, Bool, true, false, nat_le, if◌then◌else◌, List, [], ◌∷◌, ◌++◌, map, take, length, Option, Some, None, refl}
use Rattle.std.proofs.Common.{sym, ap, ◌∙◌, get_or}
use Rattle.std.proofs.lemmas.List.{map_more, map_push, take_more}
use Rattle.std.proofs.lemmas.Slice.Eq.{bytes_eq-Decides}
use Rattle.ae_outside.specs.Site.{content_within, contents}
use Rattle.ae_outside.specs.Trees.{Tree}
use Rattle.ae_outside.specs.declared.dir.Content.{Content}
use Rattle.ae_outside.specs.declared.dir.Content.TheVariants.{Bytes, TooLong}
use Rattle.ae_dirs.specs.Reads.{is_content}

-- Where these bytes are read of a file, it holds them.
pub read_is : (limit : ℕ) (x y : Option (List ℕ)) → is_content (content_within limit x) y ≡ true → x ≡ y
read_is limit None None h = refl
read_is limit None (Some c) h = cc
read_is limit (Some b) y h = by (nat_le (length b) limit) y h
  where
    by : (fits : Bool) (z : Option (List ℕ)) → is_content (if fits then Bytes b else TooLong) z ≡ true → Some b ≡ z
    by true None g = cc
    by true (Some c) g = ap Some ((bytes_eq-Decides b c).0 g)
    by false None g = cc
    by false (Some c) g = cc

-- One path more is read, in a directory that is as it was.
pub one_read : (limit : ℕ) (start now : Tree) (paths : List (List ℕ)) (i : ℕ) (path copy : List ℕ) (content : Content) (rows next : List (List ℕ × Content)) → i < length paths → path ≡ get_or paths i path → copy ≡ path
    → now ≡ start → content ≡ content_within limit (now path) → rows ≡ contents limit start (take i paths) → next ≡ rows ++ (copy, content) ∷ [] → next ≡ contents limit start (take (i + 1) paths)
one_read limit start now paths i path copy content rows next below is copied same held so_far more =
    let read : content ≡ content_within limit (start path) = held ∙ ap (λ (tree : Tree). content_within limit (tree path)) same in
    more
    ∙ (λ j. so_far j ++ (copied j, read j) ∷ [])
    ∙ ap (λ (p : List ℕ). contents limit start (take i paths) ++ (p, content_within limit (start p)) ∷ []) is
    ∙ sym (map_more (λ (p : List ℕ). (p, content_within limit (start p))) paths i path below)

-- And its row has that path.
pub one_path : {A : Type 0} (paths : List (List ℕ)) (i : ℕ) (path copy : List ℕ) (held : A) (rows next : List (List ℕ × A)) → i < length paths → path ≡ get_or paths i path → copy ≡ path
    → map (λ (row : List ℕ × A). row.0) rows ≡ take i paths → next ≡ rows ++ (copy, held) ∷ [] → map (λ (row : List ℕ × A). row.0) next ≡ take (i + 1) paths
one_path {A} paths i path copy held rows next below is copied so_far more =
    ap (map (λ (row : List ℕ × A). row.0)) more
    ∙ map_push (λ (row : List ℕ × A). row.0) rows (copy, held)
    ∙ (λ j. so_far j ++ (copied ∙ is) j ∷ [])
    ∙ sym (take_more paths i path below)
