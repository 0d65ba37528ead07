-- While there are fewer changes than numbers, a number is free.
use Rattle.std.proofs.Common.{◌≡◌, ℕ, zero, suc, ◌+◌, ◌<◌, ◌≤◌, refl, sym, ◌∙◌, ap, List, [], ◌∷◌, Option, Some, None, Bool, true, false, cond, not, length, nat_eq, eqb-true, ◌⊎◌, inl, inr, find, arith}
use Rattle.std.specs.Prelude.{filter, is_some, nat_le, IsSomeAnd}
use Rattle.std.proofs.lemmas.Bool.{leb-true, false≢true}
use Rattle.ae_types.specs.Found.{has_number}
use Rattle.ae_types.specs.Observation.{Observation}
use Rattle.ae_log.specs.Applies.{IsChangeNumber}
use Rattle.ae_log.specs.Settings.{upward, change_numbers}
use Rattle.ae_machine.specs.Verdict.{is_unused, free_number}

-- the numbers but for one
abbrev pub others : ℕ → List ℕ → List ℕ
others n numbers = filter (λ other. not (nat_eq n other)) numbers

no-longer : (n : ℕ) (numbers : List ℕ) → length (others n numbers) ≤ length numbers
no-longer n [] = omega arith
no-longer n (m ∷ numbers) = go (nat_eq n m) (no-longer n numbers)
  where
    go : (b : Bool) → length (others n numbers) ≤ length numbers → length (cond (not b) (m ∷ others n numbers) (others n numbers)) ≤ length (m ∷ numbers)
    go true h = omega (arith, h)
    go false h = omega (arith, h)

shorter : (n : ℕ) (numbers : List ℕ) → has_number numbers n ≡ true → length (others n numbers) < length numbers
shorter n [] h = absurd (false≢true h)
shorter n (m ∷ numbers) h = go (nat_eq n m) h (shorter n numbers)
  where
    go : (b : Bool) → is_some (cond b (Some m) (find (λ other. nat_eq n other) numbers)) ≡ true → (has_number numbers n ≡ true → length (others n numbers) < length numbers)
        → length (cond (not b) (m ∷ others n numbers) (others n numbers)) < length (m ∷ numbers)
    go true e rest = let l = no-longer n numbers in omega (arith, l)
    go false e rest = let l = rest e in omega (arith, l)

-- a greater number is still among the others
still : (n k : ℕ) (numbers : List ℕ) → n < k → has_number numbers k ≡ true → has_number (others n numbers) k ≡ true
still n k [] above h = absurd (false≢true h)
still n k (m ∷ numbers) above h = go (nat_eq n m) refl (nat_eq k m) refl h (still n k numbers above)
  where
    go : (b : Bool) → nat_eq n m ≡ b → (d : Bool) → nat_eq k m ≡ d → is_some (cond d (Some m) (find (λ other. nat_eq k other) numbers)) ≡ true
        → (has_number numbers k ≡ true → has_number (others n numbers) k ≡ true) → has_number (cond (not b) (m ∷ others n numbers) (others n numbers)) k ≡ true
    go true e true f h rest = let same : n ≡ k = eqb-true n m e ∙ sym (eqb-true k m f) in absurd (omega (arith, above, same))
    go true e false f h rest = rest h
    go false e true f h rest = ap (λ d. is_some (cond d (Some m) (find (λ other. nat_eq k other) (others n numbers)))) f
    go false e false f h rest = ap (λ d. is_some (cond d (Some m) (find (λ other. nat_eq k other) (others n numbers)))) f ∙ rest h

-- so many numbers from n on are taken
abbrev pub Taken : List ℕ → ℕ → ℕ → Type 0
Taken numbers n zero = Unit {0}
Taken numbers n (suc count) = (has_number numbers n ≡ true) × Taken numbers (n + 1) count

still-taken : (numbers : List ℕ) (m n count : ℕ) → m < n → Taken numbers n count → Taken (others m numbers) n count
still-taken numbers m n zero below t = tt
still-taken numbers m n (suc count) below t = (still m n numbers below t.0, still-taken numbers m (n + 1) count (omega (arith, below)) t.1)

-- there are that many
enough : (numbers : List ℕ) (n count : ℕ) → Taken numbers n count → count ≤ length numbers
enough numbers n zero t = omega arith
enough numbers n (suc count) t =
    let fewer = enough (others n numbers) (n + 1) count (still-taken numbers n (n + 1) count (omega arith) t.1) in
    let less = shorter n numbers t.0 in
    omega (arith, fewer, less)

-- the number is one of so many from n on, and free
pub record IsFree (numbers : List ℕ) (n count k : ℕ) : Type 0 where
  pub low : n ≤ k
  pub high : k < n + count
  pub free : has_number numbers k ≡ false

free-or-taken : (numbers : List ℕ) (n count : ℕ) → IsSomeAnd (find (is_unused numbers) (upward n count)) (IsFree numbers n count) ⊎ Taken numbers n count
free-or-taken numbers n zero = inr tt
free-or-taken numbers n (suc count) = go (has_number numbers n) refl (free-or-taken numbers (n + 1) count)
  where
    further : (x : Option ℕ) → IsSomeAnd x (IsFree numbers (n + 1) count) → IsSomeAnd x (IsFree numbers n (suc count))
    further (Some k) f = record { low = omega (arith, f.low); high = omega (arith, f.high); free = f.free }
    further None f = f

    go : (b : Bool) → has_number numbers n ≡ b → IsSomeAnd (find (is_unused numbers) (upward (n + 1) count)) (IsFree numbers (n + 1) count) ⊎ Taken numbers (n + 1) count
        → IsSomeAnd (cond (not b) (Some n) (find (is_unused numbers) (upward (n + 1) count))) (IsFree numbers n (suc count)) ⊎ ((b ≡ true) × Taken numbers (n + 1) count)
    go true e (inl f) = inl (further (find (is_unused numbers) (upward (n + 1) count)) f)
    go true e (inr t) = inr (refl, t)
    go false e rest = inl (record { low = omega arith; high = omega arith; free = e })

free-among : (numbers : List ℕ) (n count : ℕ) → length numbers < count → IsSomeAnd (find (is_unused numbers) (upward n count)) (IsFree numbers n count)
free-among numbers n count fewer = go (free-or-taken numbers n count)
  where
    go : IsSomeAnd (find (is_unused numbers) (upward n count)) (IsFree numbers n count) ⊎ Taken numbers n count → IsSomeAnd (find (is_unused numbers) (upward n count)) (IsFree numbers n count)
    go (inl f) = f
    go (inr t) = let e = enough numbers n count t in absurd (omega (arith, fewer, e))

-- the least free number is a change's, and no change has it
pub a-number-is-free : (o : Observation) → nat_le (length o.numbers + 1) 1990 ≡ true → IsSomeAnd (free_number o) (λ n. IsChangeNumber n × (has_number o.numbers n ≡ false))
unfolding change_numbers
a-number-is-free o room = go (find (is_unused o.numbers) (upward 10 1990)) (free-among o.numbers 10 1990 (let few = leb-true (length o.numbers + 1) 1990 room in omega (arith, few)))
  where
    go : (x : Option ℕ) → IsSomeAnd x (IsFree o.numbers 10 1990) → IsSomeAnd x (λ n. IsChangeNumber n × (has_number o.numbers n ≡ false))
    go (Some k) f = ((f.low, omega (arith, f.high)), f.free)
    go None f = f
