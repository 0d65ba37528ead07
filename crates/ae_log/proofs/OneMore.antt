-- Lists with one more at their end.
use Rattle.std.proofs.Common.{◌≡◌, ℕ, ◌+◌, ◌<◌, ◌≤◌, refl, sym, ◌∙◌, ap, List, [], ◌∷◌, ◌++◌, map, Option, Some, None, Bool, true, false, cond, nat_eq, eqb-true, arith, ◌&&◌}
use Rattle.std.specs.Prelude.{length, is_some}
use Rattle.std.specs.Option.{option_or}
use Rattle.std.specs.Cmp.{nat_cmp_is}
use Rattle.std.specs.declared.cmp.Ordering.TheVariants.{Less}
use Rattle.std.proofs.lemmas.Bool.{false≢true}
use Rattle.std.proofs.lemmas.Option.{same_Some}
use Rattle.ae_types.specs.declared.project.DeltaRow.{DeltaRow}
use Rattle.ae_types.specs.declared.file_table.FileVersion.{FileVersion}
use Rattle.ae_types.specs.Found.{number_of_delta, delta_in, entry_delta, entry_in}
use Rattle.ae_types.specs.Rules.{counts_up}
use Rattle.ae_types.proofs.Keys.{by_number}
use Rattle.ae_types.proofs.Ordered.{Above, Ascends, above-at, apart, at-first, less-other, none-some}

pub counts_up-snoc : (n : ℕ) (ms : List ℕ) (k : ℕ) → counts_up n ms ≡ true → k ≡ n + length ms → counts_up n (ms ++ k ∷ []) ≡ true
counts_up-snoc n [] k h e = ap (λ b. b && true) (ap (nat_eq n) (start n k e) ∙ by_number.same_self n)
  where
    start : (n k : ℕ) → k ≡ n + 0 → k ≡ n
    start n k e = omega (arith, e)
counts_up-snoc n (m ∷ ms) k h e = go (nat_eq n m) h (counts_up-snoc (n + 1) ms k)
  where
    shifted : (a : ℕ) → a ≡ n + length (m ∷ ms) → a ≡ (n + 1) + length ms
    shifted a e = omega (arith, e)

    go : (b : Bool) → (b && counts_up (n + 1) ms) ≡ true → (counts_up (n + 1) ms ≡ true → k ≡ (n + 1) + length ms → counts_up (n + 1) (ms ++ k ∷ []) ≡ true) → (b && counts_up (n + 1) (ms ++ k ∷ [])) ≡ true
    go true h rest = rest h (shifted k e)
    go false h rest = h

-- a delta that is there is one of as many
pub counted : (n : ℕ) (ds : List DeltaRow) (k : ℕ) (d : DeltaRow) → counts_up n (map number_of_delta ds) ≡ true → delta_in ds k ≡ Some d → (n ≤ k) × (k < n + length ds)
counted n [] k d h e = none-some d e
counted n (c ∷ ds) k d h e = go (nat_eq n c.delta) refl h (nat_eq k c.delta) refl e (counted (n + 1) ds k d)
  where
    first : n ≡ c.delta → k ≡ c.delta → (n ≤ k) × (k < n + length (c ∷ ds))
    first p q = (omega (arith, p, q), omega (arith, p, q))

    rest_of : (n + 1 ≤ k) × (k < (n + 1) + length ds) → (n ≤ k) × (k < n + length (c ∷ ds))
    rest_of h = (omega (arith, h.0), omega (arith, h.1))

    go : (b : Bool) → nat_eq n c.delta ≡ b → (b && counts_up (n + 1) (map number_of_delta ds)) ≡ true → (t : Bool) → nat_eq k c.delta ≡ t → cond t (Some c) (delta_in ds k) ≡ Some d
        → (counts_up (n + 1) (map number_of_delta ds) ≡ true → delta_in ds k ≡ Some d → (n + 1 ≤ k) × (k < (n + 1) + length ds)) → (n ≤ k) × (k < n + length (c ∷ ds))
    go true is h true kc e rest = first (eqb-true n c.delta is) (eqb-true k c.delta kc)
    go true is h false kc e rest = rest_of (rest h e)
    go false is h t kc e rest = absurd (false≢true h)

pub ascends-snoc : (xs : List FileVersion) (y : FileVersion) → Ascends by_number entry_delta xs → ((n : ℕ) (x : FileVersion) → entry_in xs n ≡ Some x → n < y.delta) → Ascends by_number entry_delta (xs ++ y ∷ [])
ascends-snoc [] y a all = (tt, tt)
ascends-snoc (x ∷ xs) y a all =
    let below : x.delta < y.delta = all x.delta x (at-first by_number entry_delta x xs) in
    (above xs a.0 (sym (nat_cmp_is x.delta y.delta Less below)), ascends-snoc xs y a.1 (λ n z e. all n z (skip n z e)))
  where
    above : (zs : List FileVersion) → Above by_number entry_delta x.delta zs → by_number.cmp x.delta y.delta ≡ Less → Above by_number entry_delta x.delta (zs ++ y ∷ [])
    above [] h l = (l, tt)
    above (z ∷ zs) h l = (h.0, above zs h.1 l)

    skip : (n : ℕ) (z : FileVersion) → entry_in xs n ≡ Some z → cond (nat_eq n x.delta) (Some x) (entry_in xs n) ≡ Some z
    skip n z e = ap (λ b. cond b (Some x) (entry_in xs n)) (apart by_number n x.delta (λ is. less-other by_number x.delta n (above-at by_number entry_delta x.delta n xs z a.0 e) (sym is))) ∙ e

-- what is found in a list with one more is what was found, or that one
pub either : {A P : Type 0} (x : Option A) (b : Bool) (y z : A) → option_or x (cond b (Some y) None) ≡ Some z → (x ≡ Some z → P) → (b ≡ true → y ≡ z → P) → P
either (Some x) b y z e old new = old e
either None true y z e old new = new refl (same_Some y z e)
either None false y z e old new = none-some z e

pub some-or : {A : Type 0} (x y : Option A) → is_some x ≡ true → is_some (option_or x y) ≡ true
some-or (Some x) y e = refl
some-or None y e = absurd (false≢true e)

pub new-or : {A : Type 0} (x : Option A) (y : A) → is_some (option_or x (Some y)) ≡ true
new-or (Some x) y = refl
new-or None y = refl
