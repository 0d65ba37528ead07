-- What a delta made of a file is entered at the place that a binary search of the file table answers.
use Rattle.std.proofs.Common.{◌≡◌, ℕ, ◌<◌, ◌≤◌, sym, ◌∙◌, ap, List, [], ◌∷◌, ◌++◌, get_or, slice_set}
use Rattle.std.specs.Prelude.{length}
use Rattle.std.specs.List.{insert, HoldsAt}
use Rattle.std.specs.List.Sorted.{IsPartitionPoint, IsNonDecreasingBy}
use Rattle.std.specs.Ordering.{ordering_index}
use Rattle.std.specs.declared.cmp.Ordering.TheVariants.{Less, Equal, Greater}
use Rattle.ae_base.specs.Rows.{text_cmp}
use Rattle.ae_types.specs.declared.change.ChangeFile.{ChangeFile}
use Rattle.ae_types.specs.declared.file_table.FileRow.{FileRow}
use Rattle.ae_types.specs.Found.{row_path}
use Rattle.ae_types.specs.Ordered.{put_by}
use Rattle.ae_types.specs.Trees.{past_in}
use Rattle.ae_types.proofs.Keys.{by_text}
use Rattle.ae_types.proofs.Ordered.{Ascends}
use Rattle.ae_types.proofs.BinarySearch.{search-at, search-err}
use Rattle.ae_log.specs.After.{entered, row_of, new_entry}
use Rattle.ae_log.proofs.Placing.{set-put, insert-put, searchable}

-- at the end of its past, where its path has a row
pub entered-there : (delta : ℕ) (file : ChangeFile) (rows : List FileRow) (at : ℕ) (row : FileRow) → Ascends by_text row_path rows → at < length rows → HoldsAt (λ (y : FileRow). text_cmp (row_path y) file.path ≡ Equal) rows at → row ≡ get_or rows at row
    → slice_set rows at (row_of row.path (row.past ++ new_entry delta file ∷ [])) ≡ entered delta file rows
entered-there delta file rows at row ascend bound equal is =
    ap (λ p. slice_set rows at (row_of p (row.past ++ new_entry delta file ∷ []))) (by_text.anti row.path file.path (ap (λ (r : FileRow). text_cmp r.path file.path) is ∙ equal row))
    ∙ set-put by_text row_path (row_of file.path (row.past ++ new_entry delta file ∷ [])) rows at row ascend bound (equal row)
    ∙ ap (λ past. put_by text_cmp row_path (row_of file.path (past ++ new_entry delta file ∷ [])) rows)
    (sym (ap past_in (search-at by_text row_path file.path rows at row ascend bound equal) ∙ ap (λ (r : FileRow). r.past) (sym is)))

-- in a row of its own, where it has none
pub entered-new : (delta : ℕ) (file : ChangeFile) (rows : List FileRow) (at : ℕ) → Ascends by_text row_path rows → at ≤ length rows
    → (IsNonDecreasingBy (λ (y : FileRow). ordering_index (text_cmp (row_path y) file.path)) rows → IsPartitionPoint (λ (y : FileRow). text_cmp (row_path y) file.path ≡ Less) (λ (y : FileRow). text_cmp (row_path y) file.path ≡ Greater) rows at)
    → insert rows at (row_of file.path ([] ++ new_entry delta file ∷ [])) ≡ entered delta file rows
entered-new delta file rows at ascend bound point =
    insert-put by_text row_path (row_of file.path (new_entry delta file ∷ [])) rows at bound (point (searchable by_text row_path file.path rows ascend))
    ∙ ap (λ past. put_by text_cmp row_path (row_of file.path (past ++ new_entry delta file ∷ [])) rows) (sym (ap past_in (search-err by_text row_path file.path rows at ascend point)))
