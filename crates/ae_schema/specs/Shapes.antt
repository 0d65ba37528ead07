-- The state files' values as their fields, one after another.
use Rattle.std.specs.Prelude.{ℕ, List, Bool, Option}
use Rattle.ae_base.specs.declared.words.Action.{Action}
use Rattle.ae_base.specs.declared.words.Cause.{Cause}
use Rattle.ae_base.specs.declared.words.Phase.{Phase}
use Rattle.ae_base.specs.declared.words.Ground.{Ground}
use Rattle.ae_base.specs.declared.words.Kind.{Kind}
use Rattle.ae_base.specs.declared.words.Usage.{Usage}
use Rattle.ae_base.specs.declared.words.What.{What}
use Rattle.ae_types.specs.declared.project.EndAction.{EndAction}
use Rattle.ae_types.specs.declared.project.DeltaRow.{DeltaRow}
use Rattle.ae_types.specs.declared.project.Attributes.{Attributes}
use Rattle.ae_types.specs.declared.project.Project.{Project}
use Rattle.ae_types.specs.declared.version.VersionRef.{VersionRef}
use Rattle.ae_types.specs.declared.file_table.FileVersion.{FileVersion}
use Rattle.ae_types.specs.declared.file_table.FileRow.{FileRow}
use Rattle.ae_types.specs.declared.file_table.Lock.{Lock}
use Rattle.ae_types.specs.declared.change.ChangeFile.{ChangeFile}
use Rattle.ae_types.specs.declared.change.Evidence.{Evidence}
use Rattle.ae_types.specs.declared.change.HistoryRow.{HistoryRow}
use Rattle.ae_types.specs.declared.change.ChangeAttributes.{ChangeAttributes}
use Rattle.ae_types.specs.declared.change.Change.{Change}
use Rattle.ae_schema.specs.declared.fields.Then.{Then}
use Rattle.ae_schema.specs.declared.fields.End.{End}
use Rattle.ae_schema.specs.declared.project.Packed.{Packed}

-- a field, and then others
abbrev pub then : {A B : Type 0} → A → B → Then A B
then first rest = record { first = first; rest = rest }

-- ---- project

abbrev pub CountedShape : Type 0
CountedShape = Then ℕ (Then (List ℕ) (Then (List DeltaRow) End))

abbrev pub RoleShape : Type 0
RoleShape = Then (List (List ℕ)) (Then (List (List ℕ)) (Then (List (List ℕ)) (Then (List (List ℕ)) CountedShape)))

abbrev pub PermissionShape : Type 0
PermissionShape = Then Bool (Then Bool (Then Bool (Then Bool (Then EndAction (Then Bool RoleShape)))))

abbrev pub ProjectShape : Type 0
ProjectShape = Then (Unit {0}) (Then Packed (Then (List ℕ) (Then (List ℕ) PermissionShape)))

-- the settings of these fields
abbrev pub attributes_from : List ℕ → PermissionShape → Attributes
attributes_from text settings = record {
  description = text;
  developer_may_review = settings.first;
  developer_may_integrate = settings.rest.first;
  reviewer_may_integrate = settings.rest.rest.first;
  developers_may_create_changes = settings.rest.rest.rest.first;
  develop_end_action = settings.rest.rest.rest.rest.first;
  default_test_exemption = settings.rest.rest.rest.rest.rest.first;
}

-- the project and its numbers of these fields
abbrev pub project_from : ProjectShape → Project × List ℕ
project_from f =
    let text = f.rest.rest in
    let settings = text.rest.rest in
    let roles = settings.rest.rest.rest.rest.rest.rest in
    let counted = roles.rest.rest.rest.rest in (
      record {
        name = text.first;
        attributes = attributes_from text.rest.first settings;
        administrators = roles.first;
        developers = roles.rest.first;
        reviewers = roles.rest.rest.first;
        integrators = roles.rest.rest.rest.first;
        next_version = counted.first;
        deltas = counted.rest.rest.first;
      },
      counted.rest.first,
    )

-- the fields of a project and its numbers
abbrev pub project_shape : Project × List ℕ → ProjectShape
project_shape p = let project = p.0 in let attributes = project.attributes in
    then tt (then (record {}) (then project.name (then attributes.description (
    then attributes.developer_may_review (then attributes.developer_may_integrate (
    then attributes.reviewer_may_integrate (then attributes.developers_may_create_changes (
    then attributes.develop_end_action (then attributes.default_test_exemption (
    then project.administrators (then project.developers (then project.reviewers (then project.integrators (
    then project.next_version (then p.1 (then project.deltas (record {})))))))))))))))))

-- ---- rows

abbrev pub version_from : Then ℕ (Then ℕ (Then ℕ (Then (List ℕ) End))) → VersionRef
version_from f = record { number = f.first; at = f.rest.first; length = f.rest.rest.first; digest = f.rest.rest.rest.first }

abbrev pub delta_from : Then ℕ (Then ℕ (Then ℕ (Then (List ℕ) End))) → DeltaRow
delta_from f = record { delta = f.first; change = f.rest.first; when = f.rest.rest.first; who = f.rest.rest.rest.first }

abbrev pub file_version_from : Then ℕ (Then Usage (Then (Option VersionRef) End)) → FileVersion
file_version_from f = record { delta = f.first; usage = f.rest.first; version = f.rest.rest.first }

abbrev pub lock_from : Then (List ℕ) (Then ℕ End) → Lock
lock_from f = record { path = f.first; change = f.rest.first }

abbrev pub change_file_from : Then (List ℕ) (Then Action (Then Usage (Then ℕ (Then (Option VersionRef) End)))) → ChangeFile
change_file_from f = record { path = f.first; action = f.rest.first; usage = f.rest.rest.first; origin = f.rest.rest.rest.first; frozen = f.rest.rest.rest.rest.first }

abbrev pub history_from : Then What (Then (List ℕ) (Then ℕ (Then (List ℕ) End))) → HistoryRow
history_from f = record { what = f.first; who = f.rest.first; when = f.rest.rest.first; why = f.rest.rest.rest.first }

abbrev pub row_from : Then (List ℕ) (Then ℕ (Then (List FileVersion) End)) → FileRow
row_from f = record { path = f.first; past = f.rest.rest.first }

abbrev pub evidence_from : Then Ground (Then Kind (Then (Option (List ℕ)) (Then ℕ (Then Bool (Then (List ℕ) (Then ℕ (Then (List ℕ) End))))))) → Evidence
evidence_from f =
    let rest = f.rest.rest.rest.rest in
    record {
      during = f.first;
      kind = f.rest.first;
      path = f.rest.rest.first;
      status = f.rest.rest.rest.first;
      clean = rest.first;
      subject = rest.rest.first;
      when = rest.rest.rest.first;
      who = rest.rest.rest.rest.first;
    }

-- ---- files

abbrev pub FilesShape : Type 0
FilesShape = Then (List FileRow) (Then (List Lock) End)

abbrev pub files_from : FilesShape → List FileRow × List Lock
files_from f = (f.first, f.rest.first)

abbrev pub files_shape : List FileRow × List Lock → FilesShape
files_shape t = then t.0 (then t.1 (record {}))

-- ---- a change

abbrev pub RowShape : Type 0
RowShape = Then (List ChangeFile) (Then (List Evidence) (Then (List HistoryRow) End))

abbrev pub PersonShape : Type 0
PersonShape = Then (Option (List ℕ)) (Then (Option (List ℕ)) (Then (Option (List ℕ)) (Then (Option (List ℕ)) RowShape)))

abbrev pub SettingsShape : Type 0
SettingsShape = Then (List ℕ) (Then (List ℕ) (Then Cause (Then Bool (Then Bool (Then Bool (Then Phase PersonShape))))))

abbrev pub ChangeShape : Type 0
ChangeShape = Then ℕ SettingsShape

-- the settings of these fields
abbrev pub settings_from : SettingsShape → ChangeAttributes
settings_from settings = record {
  brief = settings.first;
  description = settings.rest.first;
  cause = settings.rest.rest.first;
  test_exempt = settings.rest.rest.rest.first;
  test_baseline_exempt = settings.rest.rest.rest.rest.first;
  regression_test_exempt = settings.rest.rest.rest.rest.rest.first;
}

-- the change of these fields
abbrev pub change_from : ChangeShape → Change
change_from f =
    let standing = f.rest.rest.rest.rest.rest.rest.rest in
    let people = standing.rest in
    let rows = people.rest.rest.rest.rest in
    record {
      number = f.first;
      attributes = settings_from f.rest;
      phase = standing.first;
      developer = people.first;
      reviewing = people.rest.first;
      reviewer = people.rest.rest.first;
      integrator = people.rest.rest.rest.first;
      files = rows.first;
      evidence = rows.rest.first;
      history = rows.rest.rest.first;
    }

-- the fields of a change
abbrev pub change_shape : Change → ChangeShape
change_shape c = let attributes = c.attributes in
    then c.number (then attributes.brief (then attributes.description (then attributes.cause (
    then attributes.test_exempt (then attributes.test_baseline_exempt (then attributes.regression_test_exempt (
    then c.phase (then c.developer (then c.reviewing (then c.reviewer (then c.integrator (
    then c.files (then c.evidence (then c.history (record {})))))))))))))))
