-- The places of rows in the lists of a state, and what a `for` goes over.
use Rattle.std.specs.Prelude.{◌≡◌, ℕ, ◌+◌, ◌<◌, ◌^◌, Bool, List, [], ◌∷◌, ◌++◌, map, drop, length, slice_get, MatchOption, Option, Some, None, Result, Ok}
use Rattle.std.specs.List.{filter_map, flat_map}
use Rattle.std.specs.Option.{option_map, option_and_then, unwrap_or}
use Rattle.ae_rlang.specs.declared.table.Table.{Table}
use Rattle.ae_rlang.specs.declared.table.Table.TheVariants as table_is
use Rattle.ae_types.specs.declared.change.Change.{Change}
use Rattle.ae_types.specs.declared.file_table.FileRow.{FileRow}
use Rattle.ae_types.specs.Observation.{Observation}
use Rattle.ae_types.specs.Trees.{tree_row, last_delta}
use Rattle.ae_report.specs.declared.bound.Bound.{Bound}
use Rattle.ae_report.specs.declared.bound.RowPlace.{RowPlace}
use Rattle.ae_report.specs.declared.frame.Frame.{Frame}
use Rattle.ae_report.specs.declared.frame.Turn.{Turn}
use Rattle.ae_report.specs.declared.total.Tally.{Tally}
use Rattle.ae_report.specs.Results.{and_map}
use Rattle.ae_report.specs.Rows.{Row, of_change, of_file, of_delta, no_row, history_rows, evidence_rows}
use Rattle.ae_report.specs.Values.{Binding, Known}

-- ---- the row at a place

-- the row of a file, where it stands in the baseline
abbrev pub listed : ℕ → FileRow → Option Row
listed delta row = option_map (of_file (length row.past)) (tree_row delta row)

-- the row at a place
abbrev pub row_there : Observation → Table → RowPlace → Option Row
row_there o table_is.Changes place = option_map of_change (slice_get o.changes place.at)
row_there o table_is.Files place = option_and_then (listed (last_delta o)) (slice_get o.files place.at)
row_there o table_is.Deltas place = option_map of_delta (slice_get o.project.deltas place.at)
row_there o table_is.History place = option_and_then (λ change. slice_get (history_rows change) place.within) (slice_get o.changes place.at)
row_there o table_is.Evidence place = option_and_then (λ change. slice_get (evidence_rows change) place.within) (slice_get o.changes place.at)

abbrev pub row_at : Observation → Table → RowPlace → Row
row_at o table place = unwrap_or (row_there o table place) no_row

-- the names that are bound, with their rows
abbrev pub binding_of : Observation → Bound → Binding
binding_of o b = record { name = b.name; row = row_at o b.table b.row }

abbrev pub bindings : Observation → List Bound → List Binding
bindings o bound = map (binding_of o) bound

abbrev pub known_of : Observation → List Bound → List Tally → Known
known_of o bound totals = record { bound = bindings o bound; totals = totals }

-- ---- the rows from a place on

-- those of the changes, but for the first so many of the first change
abbrev pub parts_from : (Change → List Row) → ℕ → List Change → List Row
parts_from rows_of within [] = []
parts_from rows_of within (change ∷ more) = drop within (rows_of change) ++ flat_map rows_of more

abbrev pub rows_from : Observation → Table → RowPlace → List Row
rows_from o table_is.Changes place = map of_change (drop place.at o.changes)
rows_from o table_is.Files place = filter_map (listed (last_delta o)) (drop place.at o.files)
rows_from o table_is.Deltas place = map of_delta (drop place.at o.project.deltas)
rows_from o table_is.History place = parts_from history_rows place.within (drop place.at o.changes)
rows_from o table_is.Evidence place = parts_from evidence_rows place.within (drop place.at o.changes)

-- the rows that a frame has before it
abbrev pub rows_left : Observation → Frame → List Row
rows_left o frame = rows_from o frame.table frame.next

-- ---- the next row

-- the next row, with the value of the test there
abbrev pub next_of : List Row → (Row → Result Bool ℕ) → Result (Option (Row × Bool)) ℕ
next_of [] test = Ok None
next_of (row ∷ more) test = and_map (λ b. Some (row, b)) (test row)

-- what an answer says of it
abbrev pub told_turn : Observation → Table → Turn → Row × Bool
told_turn o table turn = (row_at o table turn.row, turn.passes)

-- the place behind a row's
abbrev pub after_place : Table → RowPlace → RowPlace
after_place table_is.Changes place = record { at = place.at + 1; within = 0 }
after_place table_is.Files place = record { at = place.at + 1; within = 0 }
after_place table_is.Deltas place = record { at = place.at + 1; within = 0 }
after_place table_is.History place = record { at = place.at; within = place.within + 1 }
after_place table_is.Evidence place = record { at = place.at; within = place.within + 1 }

-- this is the place of the first row from a place on, if there is one
abbrev pub GoesTo : Observation → Table → RowPlace → Option RowPlace → Type 0
GoesTo o table from found = MatchOption found (rows_from o table from ≡ []) (λ place. rows_from o table from ≡ row_at o table place ∷ rows_from o table (after_place table place))

abbrev pub known_within : List Binding → List Tally → Known
known_within bound totals = record { bound = bound; totals = totals }

-- the place behind it can be told
abbrev pub IsInside : RowPlace → Type 0
IsInside place = (place.at + 1 < 2 ^ 64) × (place.within + 1 < 2 ^ 64)
