-- The bytes of files, summed one after another.
use Rattle.std.specs.Prelude.{◌<◌, take, min, get_or}
use Rattle.std.proofs.Common.{◌≡◌, ◌+◌, ℕ, zero, suc, List, [], ◌∷◌, length, sym, ap, subst, arith}
use Rattle.ae_types.specs.Trees.{TreeRow}
use Rattle.ae_session.specs.Summary.{bytes_of, most_told}

pub bytes_step : (rows : List TreeRow) (k : ℕ) (row : TreeRow) → k < length rows → row ≡ get_or rows k row → bytes_of (take (k + 1) rows) ≡ bytes_of (take k rows) + row.version.length
bytes_step [] k row below is = absurd (omega (arith, below))
bytes_step (r ∷ rows) zero row below is = let same : row.version.length ≡ r.version.length = ap (λ (x : TreeRow). x.version.length) is in omega (arith, same)
bytes_step (r ∷ rows) (suc k) row below is =
    let on : suc k + 1 ≡ suc (k + 1) = omega arith in
    let rest = bytes_step rows k row (omega (arith, below)) is in
    subst (λ (n : ℕ). bytes_of (take n (r ∷ rows)) ≡ r.version.length + bytes_of (take k rows) + row.version.length) (sym on) (omega (arith, rest))

-- a sum that is told as the most where it is more
pub told_more : (sum more told now : ℕ) → told ≡ min sum most_told → now ≡ min (told + more) most_told → now ≡ min (sum + more) most_told
told_more sum more told now was is = omega (arith, was, is)
