-- The digits of small numbers: how many they are, and which number they write.
use Rattle.std.specs.Prelude.{◌≡◌, ◌≢◌, ◌==◌, ◌≤◌, ◌<◌, ◌&&◌, ℕ, zero, suc, Bool, true, false, List, [], ◌∷◌, Option, Some, None, length, nat_le}
use Rattle.std.specs.Fmt.{decimal, digits}
use Rattle.std.specs.List.{list_all}
use Rattle.std.proofs.Common.{refl, sym, ap, subst, arith}
use Rattle.std.proofs.lemmas.Bool.{and_parts, eqb-true, eqb-false}
use Rattle.std.proofs.lemmas.Bool.Decides.{nat_tests}
use Rattle.ae_base.specs.Names.{is_digit}
use Rattle.ae_base.specs.Numbers.{number_from, change_number, in_range}

abbrev is_number : Option ℕ → ℕ → Bool
is_number (Some m) n = m == n
is_number None n = false

-- one to three digits that write the number
abbrev is_written : ℕ → Bool
is_written n = list_all is_digit (decimal n) && (nat_le 1 (length (decimal n)) && (nat_le (length (decimal n)) 3 && is_number (number_from 0 (decimal n)) n))

abbrev all_below : (ℕ → Bool) → ℕ → Bool
all_below test zero = true
all_below test (suc n) = test n && all_below test n

below_all : (test : ℕ → Bool) (m n : ℕ) → all_below test m ≡ true → n < m → test n ≡ true
below_all test zero n all lt = absurd (omega arith)
below_all test (suc m) n all lt =
    let parts = and_parts (test m) (all_below test m) all in
    at (n == m) refl parts.0 (λ less. below_all test m n parts.1 less)
  where
    at : (b : Bool) → (n == m) ≡ b → test m ≡ true → (n < m → test n ≡ true) → test n ≡ true
    at true is last before = subst (λ (x : ℕ). test x ≡ true) (sym (eqb-true n m is)) last
    at false is last before = before (let other : n ≢ m = eqb-false n m is in omega arith)

table : all_below is_written 210 ≡ true
unfolding digits
table = refl

pub record Digits (n : ℕ) : Type 0 where
  pub digits : list_all is_digit (decimal n) ≡ true
  pub some : 1 ≤ length (decimal n)
  pub few : length (decimal n) ≤ 3
  pub write : number_from 0 (decimal n) ≡ Some n

writes : (o : Option ℕ) (n : ℕ) → is_number o n ≡ true → o ≡ Some n
writes (Some m) n is = ap Some (eqb-true m n is)
writes None n is = absurd cc

at_least_one : (m : ℕ) → nat_le 1 m ≡ true → 1 ≤ m
at_least_one m is = grind (arith, nat_tests)

at_most_three : (m : ℕ) → nat_le m 3 ≡ true → m ≤ 3
at_most_three m is = grind (arith, nat_tests)

pub digits_of : (n : ℕ) → n < 210 → Digits n
digits_of n lt =
    let all = below_all is_written 210 n table lt in
    let first = and_parts (list_all is_digit (decimal n)) (nat_le 1 (length (decimal n)) && (nat_le (length (decimal n)) 3 && is_number (number_from 0 (decimal n)) n)) all in
    let second = and_parts (nat_le 1 (length (decimal n))) (nat_le (length (decimal n)) 3 && is_number (number_from 0 (decimal n)) n) first.1 in
    let third = and_parts (nat_le (length (decimal n)) 3) (is_number (number_from 0 (decimal n)) n) second.1 in
    record { digits = first.0; some = at_least_one _ second.0; few = at_most_three _ third.0; write = writes (number_from 0 (decimal n)) n third.1 }

in_change_range : (n : ℕ) → 10 ≤ n → n < 210 → in_range 10 1999 (Some n) ≡ Some n
in_change_range n low high =
    let lower : nat_le 10 n ≡ true = grind (arith, nat_tests) in
    let upper : nat_le n 1999 ≡ true = grind (arith, nat_tests) in
    rw (lower, upper) refl

change_read : (d : List ℕ) (n : ℕ) → 1 ≤ length d → length d ≤ 3 → number_from 0 d ≡ Some n → 10 ≤ n → n < 210 → change_number d ≡ Some n
change_read [] n some few is low high = absurd (omega arith)
change_read (b ∷ bs) n some few is low high =
    let within : nat_le (length (b ∷ bs)) 10 ≡ true = grind (arith, nat_tests) in
    rw (within, is) (in_change_range n low high)

-- the digits of a change's number are read as it
pub change_of : (n : ℕ) → 10 ≤ n → n < 210 → change_number (decimal n) ≡ Some n
change_of n low high =
    let d = digits_of n high in
    change_read (decimal n) n d.some d.few d.write low high
