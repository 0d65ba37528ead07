-- The rows of a report's tables, and what their fields are.
use Rattle.std.specs.Prelude.{ℕ, pos, List, map, length}
use Rattle.std.specs.List.{flat_map}
use Rattle.ae_base.specs.Words.{phase_word, usage_word, cause_word, ground_word, kind_word, what_word}
use Rattle.ae_list.specs.Columns.{or_dash}
use Rattle.ae_rlang.specs.declared.table.Table.{Table}
use Rattle.ae_rlang.specs.declared.table.Table.TheVariants as table_is
use Rattle.ae_rlang.specs.declared.table.RowField.{RowField}
use Rattle.ae_rlang.specs.declared.table.RowField.TheVariants as field_is
use Rattle.ae_types.specs.declared.change.Change.{Change}
use Rattle.ae_types.specs.declared.change.Evidence.{Evidence}
use Rattle.ae_types.specs.declared.change.HistoryRow.{HistoryRow}
use Rattle.ae_types.specs.declared.project.DeltaRow.{DeltaRow}
use Rattle.ae_types.specs.Observation.{Observation}
use Rattle.ae_types.specs.Trees.{TreeRow, baseline_of, edit_of}
use Rattle.ae_report.specs.declared.value.Value.{Value}
use Rattle.ae_report.specs.declared.value.Value.TheVariants.{Number, Text, Flag}

-- ---- rows

-- a row of a table
pub data Row : Type 0 where
  of_change : Change → Row
  -- a file of the baseline, and how many deltas have changed it
  of_file : ℕ → TreeRow → Row
  of_delta : DeltaRow → Row
  -- what happened to the change of this number
  of_history : ℕ → HistoryRow → Row
  -- what was run for the change of this number
  of_evidence : ℕ → Evidence → Row
  -- where there is no row
  no_row : Row

abbrev pub file_row : Observation → TreeRow → Row
file_row o file = of_file (edit_of o file.path) file

abbrev pub history_rows : Change → List Row
history_rows change = map (of_history change.number) change.history

abbrev pub evidence_rows : Change → List Row
evidence_rows change = map (of_evidence change.number) change.evidence

-- the rows of a table, in their order
abbrev pub rows : Observation → Table → List Row
rows o table_is.Changes = map of_change o.changes
rows o table_is.Files = map (file_row o) (baseline_of o)
rows o table_is.Deltas = map of_delta o.project.deltas
rows o table_is.History = flat_map history_rows o.changes
rows o table_is.Evidence = flat_map evidence_rows o.changes

-- ---- fields

abbrev pub count : ℕ → Value
count n = Number (pos n)

-- What a row is said to have of a field that it lacks; a report that was read asks for none.
abbrev pub lacking : Value
lacking = count 0

abbrev pub change_field : Change → RowField → Value
change_field change field_is.Number = count change.number
change_field change field_is.Phase = Text (phase_word change.phase)
change_field change field_is.Brief = Text change.attributes.brief
change_field change field_is.Cause = Text (cause_word change.attributes.cause)
change_field change field_is.Developer = Text (or_dash change.developer)
change_field change field_is.Reviewer = Text (or_dash change.reviewer)
change_field change field_is.Integrator = Text (or_dash change.integrator)
change_field change field_is.Files = count (length change.files)
change_field change _ = lacking

abbrev pub file_field : ℕ → TreeRow → RowField → Value
file_field edits file field_is.Path = Text file.path
file_field edits file field_is.Usage = Text (usage_word file.usage)
file_field edits file field_is.Edit = count edits
file_field edits file field_is.Bytes = count file.version.length
file_field edits file _ = lacking

abbrev pub delta_field : DeltaRow → RowField → Value
delta_field delta field_is.Delta = count delta.delta
delta_field delta field_is.Change = count delta.change
delta_field delta field_is.When = count delta.when
delta_field delta field_is.Who = Text delta.who
delta_field delta _ = lacking

abbrev pub history_field : ℕ → HistoryRow → RowField → Value
history_field change row field_is.Change = count change
history_field change row field_is.What = Text (what_word row.what)
history_field change row field_is.Who = Text row.who
history_field change row field_is.When = count row.when
history_field change row field_is.Why = Text row.why
history_field change row _ = lacking

abbrev pub evidence_field : ℕ → Evidence → RowField → Value
evidence_field change run field_is.Change = count change
evidence_field change run field_is.Ground = Text (ground_word run.during)
evidence_field change run field_is.Kind = Text (kind_word run.kind)
evidence_field change run field_is.Path = Text (or_dash run.path)
evidence_field change run field_is.Status = count run.status
evidence_field change run field_is.Clean = Flag run.clean
evidence_field change run _ = lacking

-- what a row has of a field
abbrev pub row_field : Row → RowField → Value
row_field (of_change change) field = change_field change field
row_field (of_file edits file) field = file_field edits file field
row_field (of_delta delta) field = delta_field delta field
row_field (of_history change row) field = history_field change row field
row_field (of_evidence change run) field = evidence_field change run field
row_field no_row field = lacking
