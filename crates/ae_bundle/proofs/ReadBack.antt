-- What a number's digits are read as.
use Rattle.std.proofs.Common.{◌≡◌, ℕ, ◌+◌, ◌*◌, ◌-◌, ◌/◌, ◌%◌, ◌^◌, ◌<◌, ◌≤◌, List, [], ◌∷◌, ◌++◌, Bool, true, false, cond, Some, None, ap, ◌∙◌, arith}
use Rattle.std.specs.Prelude.{nat_le}
use Rattle.std.specs.Fmt.{decimal}
use Rattle.std.proofs.lemmas.Fmt.{decimal_by_steps}
use Rattle.std.proofs.lemmas.Bool.Decides.{nat_tests}
use Rattle.ae_base.specs.Numbers.{number_from}
use Rattle.ae_base.specs.Names.{is_digit}

-- one digit more
one_more : (n : ℕ) (ds : List ℕ) (m c : ℕ) → number_from n ds ≡ Some m → number_from n (ds ++ c ∷ []) ≡ number_from m (c ∷ [])
one_more n [] m c e = ap (λ k. number_from k (c ∷ [])) (let e2 : Some n ≡ Some m = e in cc)
one_more n (d ∷ ds) m c e = go (is_digit d) (nat_le (10 * n + (d - 48)) 18446744073709551615) e (one_more (10 * n + (d - 48)) ds m c)
  where
    go : (b l : Bool) → cond b (cond l (number_from (10 * n + (d - 48)) ds) None) None ≡ Some m
        → (number_from (10 * n + (d - 48)) ds ≡ Some m → number_from (10 * n + (d - 48)) (ds ++ c ∷ []) ≡ number_from m (c ∷ []))
        → cond b (cond l (number_from (10 * n + (d - 48)) (ds ++ c ∷ [])) None) None ≡ number_from m (c ∷ [])
    go true true h rest = rest h
    go true false h rest = absurd (cc h)
    go false l h rest = absurd (cc h)

abbrev IsReadBack : ℕ → List ℕ → Type 0
IsReadBack n ds = n < 2 ^ 64 → number_from 0 ds ≡ Some n

last_digit : (m c n : ℕ) → 48 ≤ c → c ≤ 57 → 10 * m + (c - 48) ≡ n → n < 2 ^ 64 → number_from m (c ∷ []) ≡ Some n
last_digit m c n low high is fits =
    let digit : is_digit c ≡ true = grind (arith, nat_tests) in
    let within : nat_le (10 * m + (c - 48)) 18446744073709551615 ≡ true = grind (arith, nat_tests) in
    ap (λ b. cond b (cond (nat_le (10 * m + (c - 48)) 18446744073709551615) (Some (10 * m + (c - 48))) None) None) digit
    ∙ ap (λ b. cond b (Some (10 * m + (c - 48))) None) within ∙ ap Some is

pub decimal-read : (n : ℕ) → n < 2 ^ 64 → number_from 0 (decimal n) ≡ Some n
decimal-read n fits = decimal_by_steps IsReadBack
    (λ n low fits. last_digit 0 (48 + n) n (omega arith) (omega (arith, low)) (omega arith) fits)
    (λ n ds high so fits. one_more 0 ds (n / 10) (48 + n % 10) (so (omega (arith, fits))) ∙ last_digit (n / 10) (48 + n % 10) n (omega arith) (omega arith) (omega arith) fits)
    n fits fits
