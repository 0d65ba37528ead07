-- The run of a script at a place.
use Rattle.std.specs.Prelude.{◌≡◌, ℕ, ◌<◌, ◌≤◌, length, List, [], ◌∷◌, refl}
use Rattle.std.proofs.Common.{arith, zero, suc}
use Rattle.std.proofs.Math.ListN.{get_or}
use Rattle.ae_outside.specs.Trees.{Tree}
use Rattle.ae_memory.specs.Scripts.{exit_of, after_of, run_over}
use Rattle.ae_outside.specs.declared.dir.Exit.TheVariants.{Code}
use Rattle.ae_memory.specs.declared.site_run.MemRun.{MemRun}

pub exit_at : (runs : List MemRun) (n : ℕ) (run : MemRun) → n < length runs → exit_of runs n ≡ (get_or runs n run).exit
exit_at [] n run lt = absurd (omega (arith, lt))
exit_at (r ∷ runs) zero run lt = refl
exit_at (r ∷ runs) (suc n) run lt = exit_at runs n run (omega (arith, lt))

pub exit_past : (runs : List MemRun) (n : ℕ) → length runs ≤ n → exit_of runs n ≡ Code 0
exit_past [] n le = refl
exit_past (r ∷ runs) zero le = absurd (omega (arith, le))
exit_past (r ∷ runs) (suc n) le = exit_past runs n (omega (arith, le))

pub after_at : (runs : List MemRun) (n : ℕ) (run : MemRun) (t : Tree) → n < length runs → after_of runs n t ≡ run_over (get_or runs n run) t
after_at [] n run t lt = absurd (omega (arith, lt))
after_at (r ∷ runs) zero run t lt = refl
after_at (r ∷ runs) (suc n) run t lt = after_at runs n run t (omega (arith, lt))

pub after_past : (runs : List MemRun) (n : ℕ) (t : Tree) → length runs ≤ n → after_of runs n t ≡ t
after_past [] n t le = refl
after_past (r ∷ runs) zero t le = absurd (omega (arith, le))
after_past (r ∷ runs) (suc n) t le = after_past runs n t (omega (arith, le))
