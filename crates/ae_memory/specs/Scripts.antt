-- What the runs of a script answer, and what they make of their directories.
use Rattle.std.specs.Prelude.{ℕ, zero, suc, List, [], ◌∷◌, None}
use Rattle.ae_base.specs.Rows.{Rows}
use Rattle.ae_outside.specs.Trees.{Tree, with_file, with_rows, steps_over}
use Rattle.ae_outside.specs.declared.dir.Exit.{Exit}
use Rattle.ae_outside.specs.declared.dir.Exit.TheVariants.{Code}
use Rattle.ae_memory.specs.declared.site_run.MemRun.{MemRun}

-- the tree with snapshots put over it, one after another
abbrev pub with_snapshots : List Rows → Tree → Tree
with_snapshots snapshots tree = steps_over with_rows snapshots tree

-- the tree with nothing at these paths
abbrev pub without_paths : List (List ℕ) → Tree → Tree
without_paths paths tree = steps_over (λ path. with_file path None) paths tree

-- what a run of a script makes of its directory
abbrev pub run_over : MemRun → Tree → Tree
run_over run tree = without_paths run.removes (with_snapshots run.writes tree)

-- the answer of the run at this place, and 0 after the last
abbrev pub exit_of : List MemRun → ℕ → Exit
exit_of [] n = Code 0
exit_of (run ∷ runs) zero = run.exit
exit_of (run ∷ runs) (suc n) = exit_of runs n

-- what the run at this place makes of its directory; after the last one nothing is changed
abbrev pub after_of : List MemRun → ℕ → Tree → Tree
after_of [] n tree = tree
after_of (run ∷ runs) zero tree = run_over run tree
after_of (run ∷ runs) (suc n) tree = after_of runs n tree
