-- The least number that isn't among others.
use Rattle.std.proofs.Common.{◌≡◌, ℕ, suc, ◌+◌, ◌-◌, ◌<◌, ◌≤◌, Bool, true, false, not, if◌then◌else◌, List, [], ◌∷◌, Some, None, find, refl, sym, ap, ◌∙◌, subst, arith}
use Rattle.ae_types.specs.Found.{has_number}
use Rattle.ae_log.specs.Settings.{upward, change_numbers}
use Rattle.ae_machine.specs.Verdict.{is_unused}

-- below the last one there is a next
pub upward-next : (n last : ℕ) → n < last → upward n (last - n) ≡ n ∷ upward (n + 1) (last - (n + 1))
upward-next n last h = ap (upward n) (let e : last - n ≡ suc (last - (n + 1)) = omega (arith, h) in e)

pub upward-ends : (n last : ℕ) → last ≤ n → upward n (last - n) ≡ []
upward-ends n last h = ap (upward n) (let e : last - n ≡ 0 = omega (arith, h) in e)

-- the first one is free
pub found-free : (numbers : List ℕ) (n found : ℕ) (taken : Bool) → n < 2000 → found ≡ n → taken ≡ has_number numbers found → taken ≡ false
    → Some found ≡ find (is_unused numbers) (upward n (2000 - n))
found-free numbers n found taken below same is free =
    let at_found : is_unused numbers found ≡ true = sym (ap not is) ∙ ap not free in
    let P : ℕ → Type 0 = λ m. is_unused numbers m ≡ true in
    let at_n : is_unused numbers n ≡ true = subst P same at_found in
    ap (λ m. Some m) same
    ∙ sym (ap (λ b. if b then Some n else find (is_unused numbers) (upward (n + 1) (2000 - (n + 1)))) at_n)
    ∙ sym (ap (find (is_unused numbers)) (upward-next n 2000 below))

-- the first one is taken
pub not-free : (numbers : List ℕ) (n found : ℕ) (taken : Bool) → n < 2000 → found ≡ n → taken ≡ has_number numbers found → taken ≡ true
    → find (is_unused numbers) (upward (n + 1) (2000 - (n + 1))) ≡ find (is_unused numbers) (upward n (2000 - n))
not-free numbers n found taken below same is free =
    let at_found : is_unused numbers found ≡ false = sym (ap not is) ∙ ap not free in
    let P : ℕ → Type 0 = λ m. is_unused numbers m ≡ false in
    let at_n : is_unused numbers n ≡ false = subst P same at_found in
    sym (ap (λ b. if b then Some n else find (is_unused numbers) (upward (n + 1) (2000 - (n + 1)))) at_n)
    ∙ sym (ap (find (is_unused numbers)) (upward-next n 2000 below))

pub none-free : (numbers : List ℕ) (n : ℕ) → 2000 ≤ n → None ≡ find (is_unused numbers) (upward n (2000 - n))
none-free numbers n above = sym (ap (find (is_unused numbers)) (upward-ends n 2000 above))

-- from the first number on they are all
pub all-numbers : (numbers : List ℕ) → find (is_unused numbers) (upward 10 (2000 - 10)) ≡ find (is_unused numbers) change_numbers
unfolding change_numbers
all-numbers numbers = refl
