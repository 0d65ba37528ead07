-- The files that a run is to leave as they are ascend by their paths, where those of the file table and of the change do.
use Rattle.std.specs.Prelude.{ℕ, not, T, List, [], ◌∷◌, filter, filter_map}
use Rattle.std.specs.FinMap.Entries.{below_all, is_sorted}
use Rattle.std.specs.Ordering.{is_lt}
use Rattle.std.specs.declared.cmp.Ordering.{Ordering}
use Rattle.std.proofs.Common.{sym, subst}
use Rattle.ae_files.proofs.Laid.{puts-ascend}
use Rattle.ae_machine.proofs.SnapshotRows.{both}
use Rattle.ae_machine.proofs.ByRule.{bytes-up, overlaid-up}
use Rattle.ae_machine.proofs.PathsUp.{keys-up, baseline-up}
use Rattle.ae_base.specs.Rows as base
use Rattle.ae_base.specs.Rows.{Rows, paths_of, text_cmp}
use Rattle.ae_types.specs.declared.change.Change.{Change}
use Rattle.ae_types.specs.Found.{has_file, row_path}
use Rattle.ae_types.specs.Observation.{Observation}
use Rattle.ae_types.specs.Ordered.{itself}
use Rattle.ae_types.specs.Trees.{TreeRow, baseline_of, candidate_of, frozen_row, tree_path}
use Rattle.ae_types.proofs.Keys.{by_text}
use Rattle.ae_types.proofs.Ordered.{Above, Ascends, filter-ascends}
use Rattle.ae_machine.specs.Rules.{path_of_row}
use Rattle.ae_machine.specs.Sight.{overlaid, with_bytes}

-- ---- keys

-- ---- trees

pub candidate-up : (o : Observation) (change : Change) → Ascends by_text row_path o.files → Ascends by_text tree_path (candidate_of o change)
candidate-up o change table =
    puts-ascend (filter_map frozen_row change.files) (filter (λ (row : TreeRow). not (has_file change row.path)) (baseline_of o))
    (filter-ascends by_text tree_path (λ (row : TreeRow). not (has_file change row.path)) (baseline_of o) (baseline-up o table))

-- ---- a row put among rows

-- so do the paths of the baseline with some rows over it
pub base-up : (o : Observation) (bytes : ℕ → List ℕ) (rows : Rows) → Ascends by_text row_path o.files → Ascends by_text itself (paths_of (overlaid (with_bytes bytes (baseline_of o)) rows))
base-up o bytes rows table =
    keys-up path_of_row (overlaid (with_bytes bytes (baseline_of o)) rows) (overlaid-up (with_bytes bytes (baseline_of o)) rows (bytes-up bytes (baseline_of o) (baseline-up o table)))

-- ---- rows of a snapshot

under : (k : List ℕ) (rows : Rows) → Above by_text itself k (paths_of rows) → T (below_all text_cmp k rows)
under k [] a = tt
under k (row ∷ rows) a = both (is_lt (text_cmp k row.0)) (below_all text_cmp k rows) (subst (λ (order : Ordering). T (is_lt order)) (sym a.0) tt) (under k rows a.1)

-- rows whose paths ascend are those of a snapshot
pub paths-ascend : (rows : Rows) → Ascends by_text itself (paths_of rows) → base.Ascends rows
paths-ascend [] a = tt
paths-ascend (row ∷ rows) a = both (below_all text_cmp row.0 rows) (is_sorted text_cmp rows) (under row.0 rows a.0) (paths-ascend rows a.1)
