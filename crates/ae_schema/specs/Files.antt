-- The fields of the three state files. Those of `project` and of a change are by a format.
use Rattle.std.specs.Prelude.{ℕ, List, [], ◌∷◌, ◌++◌, codes}
use Rattle.ae_text.specs.Tree.{word, number, str}
use Rattle.ae_base.specs.Words.{cause_word, phase_word}
use Rattle.ae_types.specs.declared.project.Attributes.{Attributes}
use Rattle.ae_types.specs.declared.project.Project.{Project}
use Rattle.ae_types.specs.declared.file_table.FileRow.{FileRow}
use Rattle.ae_types.specs.declared.file_table.Lock.{Lock}
use Rattle.ae_types.specs.declared.change.ChangeAttributes.{ChangeAttributes}
use Rattle.ae_types.specs.declared.change.Change.{Change}
use Rattle.ae_schema.specs.declared.format.Format.{Format}
use Rattle.ae_schema.specs.Records.{Named}
use Rattle.ae_schema.specs.Formats.{format_field}
use Rattle.ae_schema.specs.Spelled.{flag, optional, list_of, delta_row, file_row, lock, change_file, evidence_row, history_row}
use Rattle.ae_types.specs.Settings.{end_action_word}

-- ---- project

-- which format it is, and which project
abbrev pub identity_fields : Format → Project → List Named
identity_fields format p =
    format_field format
    ∷ (codes "store", word (codes "packed"))
    ∷ (codes "name", str p.name)
    ∷ (codes "description", str p.attributes.description)
    ∷ []

-- who may do what
abbrev pub permission_fields : Attributes → List Named
permission_fields a =
    (codes "developer_may_review", flag a.developer_may_review)
    ∷ (codes "developer_may_integrate", flag a.developer_may_integrate)
    ∷ (codes "reviewer_may_integrate", flag a.reviewer_may_integrate)
    ∷ (codes "developers_may_create_changes", flag a.developers_may_create_changes)
    ∷ []

-- how development ends, and what a new change begins with
abbrev pub default_fields : Attributes → List Named
default_fields a =
    (codes "develop_end_action", word (end_action_word a.develop_end_action))
    ∷ (codes "default_test_exemption", flag a.default_test_exemption)
    ∷ []

-- the users of each role, in the order of adding
abbrev pub role_fields : Project → List Named
role_fields p =
    (codes "administrators", list_of str p.administrators)
    ∷ (codes "developers", list_of str p.developers)
    ∷ (codes "reviewers", list_of str p.reviewers)
    ∷ (codes "integrators", list_of str p.integrators)
    ∷ []

-- the number of the next version, and the changes and deltas
abbrev pub counted_fields : Project → List ℕ → List Named
counted_fields p numbers =
    (codes "next_version", number p.next_version)
    ∷ (codes "changes", list_of number numbers)
    ∷ (codes "deltas", list_of delta_row p.deltas)
    ∷ []

-- the fields of `project`, of a project and the numbers of its changes
abbrev pub project_fields : Format → Project × List ℕ → List Named
project_fields format p =
    identity_fields format p.0 ++ (permission_fields p.0.attributes ++ (default_fields p.0.attributes ++ (role_fields p.0 ++ counted_fields p.0 p.1)))

-- ---- files

-- the fields of `files`, of the files of a project and its locks
abbrev pub files_fields : List FileRow × List Lock → List Named
files_fields t = (codes "files", list_of file_row t.0) ∷ (codes "locks", list_of lock t.1) ∷ []

-- ---- the file of a change

-- what the change is about
abbrev pub subject_fields : Change → List Named
subject_fields c =
    (codes "number", number c.number)
    ∷ (codes "brief_description", str c.attributes.brief)
    ∷ (codes "description", str c.attributes.description)
    ∷ (codes "cause", word (cause_word c.attributes.cause))
    ∷ []

-- which tests it needn't pass
abbrev pub exemption_fields : ChangeAttributes → List Named
exemption_fields a =
    (codes "test_exempt", flag a.test_exempt)
    ∷ (codes "test_baseline_exempt", flag a.test_baseline_exempt)
    ∷ (codes "regression_test_exempt", flag a.regression_test_exempt)
    ∷ []

-- where it stands, and who works at it
abbrev pub people_fields : Change → List Named
people_fields c =
    (codes "phase", word (phase_word c.phase))
    ∷ (codes "developer", optional c.developer)
    ∷ (codes "reviewing", optional c.reviewing)
    ∷ (codes "reviewer", optional c.reviewer)
    ∷ (codes "integrator", optional c.integrator)
    ∷ []

-- its files, its runs and its history
abbrev pub row_fields : Format → Change → List Named
row_fields format c =
    (codes "files", list_of change_file c.files)
    ∷ (codes "evidence", list_of evidence_row c.evidence)
    ∷ (codes "history", list_of (history_row format) c.history)
    ∷ []

-- the fields of a change's file
abbrev pub change_fields : Format → Change → List Named
change_fields format c = subject_fields c ++ (exemption_fields c.attributes ++ (people_fields c ++ row_fields format c))
