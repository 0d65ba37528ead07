-- A total is set.
use Rattle.std.proofs.Common.{◌≡◌, ℕ, ◌+◌, ◌<◌, ◌≤◌, ◌∙◌, List, [], ◌∷◌, ◌++◌, length, take, drop, get_or, set, sym, ap}
use Rattle.std.specs.Prelude.{ℤ, Bool, true, if◌then◌else◌}
use Rattle.std.specs.Str.{bytes_eq}
use Rattle.std.proofs.lemmas.List.{take-append-drop, take-set, drop-set, drop_more, drop_all, take_all, get_or_default}
use Rattle.ae_report.specs.declared.total.Tally.{Tally}
use Rattle.ae_report.specs.Out.{set_total}

-- a write, as the parts before and behind it
written : {A : Type 0} (xs : List A) (i : ℕ) (x : A) → i < length xs → set xs i x ≡ take i xs ++ x ∷ drop (i + 1) xs
written xs i x below = sym (take-append-drop i (set xs i x)) ∙ (λ j. take-set xs i x j ++ drop-set xs i x below j)

-- where the tally at a place has the name, and none before it
pub found : (name : List ℕ) (v w : ℤ) (ts : List Tally) (whole : List Tally) (i : ℕ) (t u : Tally) → i < length ts → t ≡ get_or ts i t → u ≡ get_or ts i u → bytes_eq t.name name ≡ true → w ≡ v
    → whole ≡ take i ts ++ set_total name v (drop i ts) → set ts i (record { name = u.name; value = w }) ≡ whole
found name v w ts whole i t u below here there same value so_far =
    let one : u ≡ t = there ∙ get_or_default ts i u t below ∙ sym here in
    let front : drop i ts ≡ t ∷ drop (i + 1) ts = drop_more ts i t below ∙ ap (λ (x : Tally). x ∷ drop (i + 1) ts) (sym here) in
    let r : Tally = record { name = t.name; value = v } in
    let tail : set_total name v (drop i ts) ≡ r ∷ drop (i + 1) ts =
    ap (set_total name v) front ∙ ap (λ (b : Bool). if b then r ∷ drop (i + 1) ts else t ∷ set_total name v (drop (i + 1) ts)) same in
    let made : record { name = u.name; value = w } ≡ r = λ j. record { name = (one j).name; value = value j } in
    ap (set ts i) made ∙ written ts i r below ∙ ap (λ (xs : List Tally). take i ts ++ xs) (sym tail) ∙ sym so_far

-- where none has it
pub not-found : (name : List ℕ) (v : ℤ) (ts : List Tally) (whole : List Tally) (i : ℕ) → length ts ≤ i → whole ≡ take i ts ++ set_total name v (drop i ts)
    → ts ++ record { name = name; value = v } ∷ [] ≡ whole
not-found name v ts whole i past so_far =
    let r : Tally = record { name = name; value = v } in
    sym (so_far ∙ ap (λ (xs : List Tally). take i ts ++ set_total name v xs) (drop_all i ts past) ∙ ap (λ (xs : List Tally). xs ++ r ∷ []) (take_all i ts past))
