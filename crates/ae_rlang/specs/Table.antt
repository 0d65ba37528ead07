-- The tables that a report goes over, and the fields of their rows.
use Rattle.std.specs.Prelude.{ℕ, List, [], ◌∷◌, Option, codes, find}
use Rattle.std.specs.Str.{bytes_eq}
use Rattle.ae_rlang.specs.declared.table.Table.{Table}
use Rattle.ae_rlang.specs.declared.table.Table.TheVariants as table_is
use Rattle.ae_rlang.specs.declared.table.RowField.{RowField}
use Rattle.ae_rlang.specs.declared.table.RowField.TheVariants as field_is
use Rattle.ae_rlang.specs.declared.operator.Kind.{Kind}
use Rattle.ae_rlang.specs.declared.operator.Kind.TheVariants as kind_is

abbrev pub table_word : Table → List ℕ
table_word table_is.Changes = codes "changes"
table_word table_is.Files = codes "files"
table_word table_is.Deltas = codes "deltas"
table_word table_is.History = codes "history"
table_word table_is.Evidence = codes "evidence"

abbrev pub tables : List Table
tables = table_is.Changes ∷ table_is.Files ∷ table_is.Deltas ∷ table_is.History ∷ table_is.Evidence ∷ []

-- the table of this name
abbrev pub table_named : List ℕ → Option Table
table_named name = find (λ table. bytes_eq (table_word table) name) tables

abbrev pub field_word : RowField → List ℕ
field_word field_is.Number = codes "number"
field_word field_is.Phase = codes "phase"
field_word field_is.Brief = codes "brief"
field_word field_is.Cause = codes "cause"
field_word field_is.Developer = codes "developer"
field_word field_is.Reviewer = codes "reviewer"
field_word field_is.Integrator = codes "integrator"
field_word field_is.Files = codes "files"
field_word field_is.Path = codes "path"
field_word field_is.Usage = codes "usage"
field_word field_is.Edit = codes "edit"
field_word field_is.Bytes = codes "bytes"
field_word field_is.Delta = codes "delta"
field_word field_is.Change = codes "change"
field_word field_is.When = codes "when"
field_word field_is.Who = codes "who"
field_word field_is.What = codes "what"
field_word field_is.Why = codes "why"
field_word field_is.Ground = codes "ground"
field_word field_is.Kind = codes "kind"
field_word field_is.Status = codes "status"
field_word field_is.Clean = codes "clean"

-- the fields of a table's rows, in their order
abbrev pub fields_of : Table → List RowField
fields_of table_is.Changes =
    field_is.Number ∷ field_is.Phase ∷ field_is.Brief ∷ field_is.Cause ∷ field_is.Developer ∷ field_is.Reviewer ∷ field_is.Integrator ∷ field_is.Files ∷ []
fields_of table_is.Files = field_is.Path ∷ field_is.Usage ∷ field_is.Edit ∷ field_is.Bytes ∷ []
fields_of table_is.Deltas = field_is.Delta ∷ field_is.Change ∷ field_is.When ∷ field_is.Who ∷ []
fields_of table_is.History = field_is.Change ∷ field_is.What ∷ field_is.Who ∷ field_is.When ∷ field_is.Why ∷ []
fields_of table_is.Evidence = field_is.Change ∷ field_is.Ground ∷ field_is.Kind ∷ field_is.Path ∷ field_is.Status ∷ field_is.Clean ∷ []

-- the field of this name in a table
abbrev pub field_in : Table → List ℕ → Option RowField
field_in table name = find (λ field. bytes_eq (field_word field) name) (fields_of table)

-- what a field's value is
abbrev pub field_kind : RowField → Kind
field_kind field_is.Number = kind_is.Number
field_kind field_is.Phase = kind_is.Text
field_kind field_is.Brief = kind_is.Text
field_kind field_is.Cause = kind_is.Text
field_kind field_is.Developer = kind_is.Text
field_kind field_is.Reviewer = kind_is.Text
field_kind field_is.Integrator = kind_is.Text
field_kind field_is.Files = kind_is.Number
field_kind field_is.Path = kind_is.Text
field_kind field_is.Usage = kind_is.Text
field_kind field_is.Edit = kind_is.Number
field_kind field_is.Bytes = kind_is.Number
field_kind field_is.Delta = kind_is.Number
field_kind field_is.Change = kind_is.Number
field_kind field_is.When = kind_is.Number
field_kind field_is.Who = kind_is.Text
field_kind field_is.What = kind_is.Text
field_kind field_is.Why = kind_is.Text
field_kind field_is.Ground = kind_is.Text
field_kind field_is.Kind = kind_is.Text
field_kind field_is.Status = kind_is.Number
field_kind field_is.Clean = kind_is.Flag
