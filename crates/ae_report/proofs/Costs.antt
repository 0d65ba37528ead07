-- A report takes no more steps than N * (R + 1) * (R + 1): each statement is begun, or goes on to a row, at most so often as
-- the `for` around it, two at most, have rows.
use Rattle.std.proofs.Common.{◌≡◌, ℕ, zero, suc, ◌+◌, ◌*◌, ◌≤◌, length, refl, sym, arith}
use Rattle.std.proofs.Math.Nat.{add-mul, mul_left_comm, mul_assoc, mul-one}
use Rattle.std.proofs.lemmas.Nat.{mul-le}
use Rattle.ae_rlang.specs.Report.{Deed, Deeds, title, columns, add, each, choose, no_deeds, deed}
use Rattle.ae_rlang.specs.Shape.{fors, fors_of}
use Rattle.ae_types.specs.Observation.{Observation}
use Rattle.ae_report.specs.Rows.{rows}
use Rattle.ae_report.specs.Steps.{statements_of, statements_in, rows_of, rows_in, steps_of, steps_in, most_steps}

-- m * m * .., so often
abbrev power : ℕ → ℕ → ℕ
power m zero = 1
power m (suc k) = m * power m k

power-some : (m k : ℕ) → 1 ≤ m → 1 ≤ power m k
power-some m zero h = omega arith
power-some m (suc k) h = mul-le 1 1 m (power m k) h (power-some m k h)

both : (a b s t p : ℕ) → a ≤ s * p → b ≤ t * p → a + b ≤ (s + t) * p
both a b s t p h k = let e : (s + t) * p ≡ s * p + t * p = add-mul s t p in omega (arith, e, h, k)

one-more : (a s p : ℕ) → a ≤ s * p → 1 ≤ p → a + 1 ≤ (s + 1) * p
one-more a s p h one = let e : (s + 1) * p ≡ s * p + 1 * p = add-mul s 1 p in omega (arith, e, h, one)

alone : (s p : ℕ) → s ≡ 1 → 1 ≤ p → 1 ≤ s * p
alone s p e one = mul-le 1 1 s p (omega (arith, e)) one

-- a loop over r rows, whose body takes b steps
looped : (r b s m p : ℕ) → r + 1 ≤ m → b ≤ s * p → 1 ≤ p → r + 1 + r * b ≤ (s + 1) * (m * p)
looped r b s m p few body one =
    let e : (s + 1) * (m * p) ≡ s * (m * p) + 1 * (m * p) = add-mul s 1 (m * p) in
    let first : (r + 1) * 1 ≤ m * p = mul-le (r + 1) 1 m p few one in
    let rest : r * b ≤ m * (s * p) = mul-le r b m (s * p) (omega (arith, few)) body in
    let same : m * (s * p) ≡ s * (m * p) = mul_left_comm m s p in
    omega (arith, e, first, rest, same)

mutual
  pub steps_of-most : (d : Deed) (o : Observation) (k m : ℕ) → fors_of d ≤ k → rows_of d o + 1 ≤ m → steps_of d o ≤ statements_of d * power m k
  steps_of-most (title text) o k m f r = alone 1 (power m k) refl (power-some m k r)
  steps_of-most (columns cells) o k m f r = alone 1 (power m k) refl (power-some m k r)
  steps_of-most (add line name e) o k m f r = alone 1 (power m k) refl (power-some m k r)
  steps_of-most (each name table test body) o zero m f r = absurd (omega (arith, f))
  steps_of-most (each name table test body) o (suc k) m f r =
      looped (length (rows o table)) (steps_in body o) (statements_in body) m (power m k) (omega (arith, r))
      (steps_in-most body o k m (omega (arith, f)) (omega (arith, r))) (power-some m k (omega (arith, r)))
  steps_of-most (choose test first second) o k m f r =
      one-more (steps_in first o + steps_in second o) (statements_in first + statements_in second) (power m k)
      (both (steps_in first o) (steps_in second o) (statements_in first) (statements_in second) (power m k)
      (steps_in-most first o k m (omega (arith, f)) (omega (arith, r))) (steps_in-most second o k m (omega (arith, f)) (omega (arith, r))))
      (power-some m k (omega (arith, r)))

  pub steps_in-most : (ds : Deeds) (o : Observation) (k m : ℕ) → fors ds ≤ k → rows_in ds o + 1 ≤ m → steps_in ds o ≤ statements_in ds * power m k
  steps_in-most no_deeds o k m f r = omega arith
  steps_in-most (deed d ds) o k m f r =
      both (steps_of d o) (steps_in ds o) (statements_of d) (statements_in ds) (power m k)
      (steps_of-most d o k m (omega (arith, f)) (omega (arith, r))) (steps_in-most ds o k m (omega (arith, f)) (omega (arith, r)))

-- where at most two stand in each other
pub steps-most : (ds : Deeds) (o : Observation) → fors ds ≤ 2 → steps_in ds o ≤ most_steps ds o
steps-most ds o f =
    let m = rows_in ds o + 1 in
    let bound : steps_in ds o ≤ statements_in ds * (m * (m * 1)) = steps_in-most ds o 2 m f (omega arith) in
    let plain : statements_in ds * (m * (m * 1)) ≡ statements_in ds * m * m = rw (mul-one m) (sym (mul_assoc (statements_in ds) m m)) in
    omega (arith, bound, plain)
