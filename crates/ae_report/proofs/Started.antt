-- A `for` begins before all rows of its table.
use Rattle.std.proofs.Common.{◌≡◌, ℕ, ◌∙◌, List, [], ◌∷◌, map, length, refl, sym, ap, inl, inr}
use Rattle.std.specs.Prelude.{Option, Some, None}
use Rattle.std.specs.List.{filter_map, cons_option}
use Rattle.std.specs.Option.{option_map}
use Rattle.ae_rlang.specs.declared.table.Table.{Table}
use Rattle.ae_rlang.specs.declared.table.Table.TheVariants as table_is
use Rattle.ae_types.specs.declared.file_table.FileRow.{FileRow}
use Rattle.ae_types.specs.Found.{row_in, row_path}
use Rattle.ae_types.specs.Observation.{Observation}
use Rattle.ae_types.specs.Sound.{Sound}
use Rattle.ae_types.specs.Trees.{TreeRow, tree_at, tree_row, last_up_to, last_delta, edit_of, past_in}
use Rattle.ae_types.proofs.Keys.{by_text}
use Rattle.ae_types.proofs.Members.{In}
use Rattle.ae_types.proofs.Searched.{in-found}
use Rattle.ae_list.proofs.Baseline.{path-of}
use Rattle.ae_report.specs.declared.frame.Frame.{Frame}
use Rattle.ae_report.specs.Rows.{of_file, file_row, rows, history_rows, evidence_rows}
use Rattle.ae_report.specs.Frames.{listed, rows_from, rows_left}
use Rattle.ae_report.proofs.Places.{all-parts}

row-same : (o : Observation) (delta : ℕ) (row : FileRow) → row_in o.files row.path ≡ Some row → (file : TreeRow) → tree_row delta row ≡ Some file → of_file (length row.past) file ≡ file_row o file
row-same o delta row found file is =
    ap (λ (n : ℕ). of_file n file) (sym (ap (λ (p : List ℕ). edit_of o p) (path-of row.path (last_up_to delta row.past) file is) ∙ ap (λ (r : Option FileRow). length (past_in r)) found))

rows-same : (o : Observation) (delta : ℕ) (rows : List FileRow) → ((row : FileRow) → In rows row → row_in o.files row.path ≡ Some row) → filter_map (listed delta) rows ≡ map (file_row o) (tree_at delta rows)
rows-same o delta [] found = refl
rows-same o delta (row ∷ rows) found = go (tree_row delta row) refl (rows-same o delta rows (λ r m. found r (inr m)))
  where
    go : (file : Option TreeRow) → tree_row delta row ≡ file → filter_map (listed delta) rows ≡ map (file_row o) (tree_at delta rows)
        → cons_option (option_map (of_file (length row.past)) file) (filter_map (listed delta) rows) ≡ map (file_row o) (cons_option file (tree_at delta rows))
    go (Some file) is rest = λ i. row-same o delta row (found row (inl refl)) file is i ∷ rest i
    go None is rest = rest

pub starts : (o : Observation) → Sound o → (table : Table) → rows_from o table (record { at = 0; within = 0 }) ≡ rows o table
starts o sound table_is.Changes = refl
starts o sound table_is.Files = rows-same o (last_delta o) o.files (λ row m. in-found by_text row_path o.files sound.rows.ascend row m)
starts o sound table_is.Deltas = refl
starts o sound table_is.History = all-parts history_rows o.changes
starts o sound table_is.Evidence = all-parts evidence_rows o.changes

pub frame-starts : (o : Observation) → Sound o → (frame : Frame) (table : Table) → frame.table ≡ table → frame.next ≡ record { at = 0; within = 0 } → rows_left o frame ≡ rows o table
frame-starts o sound frame table is next = (λ i. rows_from o (is i) (next i)) ∙ starts o sound table
