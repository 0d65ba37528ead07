-- What the fields of the state files can hold is what their records can hold.
use Rattle.std.proofs.Common.{◌≡◌, ℕ, List, All, true, refl}
use Rattle.std.specs.Prelude.{◌<◌, ◌^◌, IfSome}
use Rattle.std.specs.Ordering.{nat_cmp}
use Rattle.ae_base.specs.Names.{IsUser, IsProjectName}
use Rattle.ae_types.specs.Ordered.{ascends, itself}
use Rattle.ae_types.specs.Found.{file_path, row_path, lock_path}
use Rattle.ae_base.specs.Rows.{text_cmp}
use Rattle.ae_types.specs.Runs.{run_cmp, run_of}
use Rattle.ae_types.proofs.Keys.{by_number, by_text, by_run}
use Rattle.ae_types.proofs.Searched.{test-ascends, ascends-test}
use Rattle.ae_types.specs.declared.project.Project.{Project}
use Rattle.ae_types.specs.declared.file_table.FileRow.{FileRow}
use Rattle.ae_types.specs.declared.file_table.Lock.{Lock}
use Rattle.ae_types.specs.declared.change.Change.{Change}
use Rattle.ae_schema.specs.declared.format.Format.{Format}
use Rattle.ae_schema.specs.Fits.{AreUsers, IsChangeNo, FitsDelta, FitsFile, FitsLock, FitsChangeFile, FitsEvidence, FitsHistory, FitsProject, FitsFiles, FitsChange}
use Rattle.ae_schema.specs.Records.{IsBadLine}
use Rattle.ae_schema.specs.Files.{project_fields, change_fields}
use Rattle.ae_schema.proofs.Texts.{same_line}
use Rattle.ae_schema.specs.Shapes.{ProjectShape, project_from, project_shape, FilesShape, files_from, files_shape, ChangeShape, change_from, change_shape}

-- project: each field is of its type, and in its order
abbrev pub ProjectFieldsFit : ProjectShape → Type 0
ProjectFieldsFit f = (Unit {0}) × ((Unit {0}) × ((IsProjectName f.rest.rest.first) × ((Unit {0}) × ((Unit {0}) × ((Unit {0}) × ((Unit {0}) × ((Unit {0}) × ((Unit {0}) × ((Unit {0}) × ((AreUsers f.rest.rest.rest.rest.rest.rest.rest.rest.rest.rest.first) × ((AreUsers f.rest.rest.rest.rest.rest.rest.rest.rest.rest.rest.rest.first) × ((AreUsers f.rest.rest.rest.rest.rest.rest.rest.rest.rest.rest.rest.rest.first) × ((AreUsers f.rest.rest.rest.rest.rest.rest.rest.rest.rest.rest.rest.rest.rest.first) × ((f.rest.rest.rest.rest.rest.rest.rest.rest.rest.rest.rest.rest.rest.rest.first < 2 ^ 64) × ((All IsChangeNo (f.rest.rest.rest.rest.rest.rest.rest.rest.rest.rest.rest.rest.rest.rest.rest.first) × (ascends nat_cmp itself (f.rest.rest.rest.rest.rest.rest.rest.rest.rest.rest.rest.rest.rest.rest.rest.first) ≡ true)) × ((All FitsDelta (f.rest.rest.rest.rest.rest.rest.rest.rest.rest.rest.rest.rest.rest.rest.rest.rest.first)) × (Unit {0})))))))))))))))))

pub to_project : (f : ProjectShape) → ProjectFieldsFit f → FitsProject (project_from f)
to_project f h = ((h.1.1.0, (h.1.1.1.1.1.1.1.1.1.1.0, h.1.1.1.1.1.1.1.1.1.1.1.0, h.1.1.1.1.1.1.1.1.1.1.1.1.0, h.1.1.1.1.1.1.1.1.1.1.1.1.1.0), (h.1.1.1.1.1.1.1.1.1.1.1.1.1.1.0, h.1.1.1.1.1.1.1.1.1.1.1.1.1.1.1.0.0, h.1.1.1.1.1.1.1.1.1.1.1.1.1.1.1.1.0)), test-ascends by_number itself (f.rest.rest.rest.rest.rest.rest.rest.rest.rest.rest.rest.rest.rest.rest.rest.first) h.1.1.1.1.1.1.1.1.1.1.1.1.1.1.1.0.1)

pub from_project : (x : Project × List ℕ) → FitsProject x → ProjectFieldsFit (project_shape x)
from_project x h = (tt, (tt, (h.0.0, (tt, (tt, (tt, (tt, (tt, (tt, (tt, (h.0.1.0, (h.0.1.1, (h.0.1.2, (h.0.1.3, (h.0.2.0, ((h.0.2.1, ascends-test by_number itself x.1 h.1), (h.0.2.2, tt)))))))))))))))))

-- a bad line of the fields is one of the record
pub project_line : (format : Format) (bytes : List ℕ) (line : ℕ) → IsBadLine ProjectFieldsFit (λ f. project_fields format (project_from f)) bytes line → IsBadLine FitsProject (project_fields format) bytes line
project_line format =
    same_line ProjectFieldsFit FitsProject (λ f. project_fields format (project_from f)) (project_fields format) project_from project_shape to_project from_project (λ f. refl) (λ x. refl)

-- files: each field is of its type, and in its order
abbrev pub FilesFieldsFit : FilesShape → Type 0
FilesFieldsFit f = (All FitsFile f.first × (ascends text_cmp row_path f.first ≡ true)) × ((All FitsLock f.rest.first × (ascends text_cmp lock_path f.rest.first ≡ true)) × (Unit {0}))

pub to_files : (f : FilesShape) → FilesFieldsFit f → FitsFiles (files_from f)
to_files f h = ((h.0.0, h.1.0.0), (test-ascends by_text row_path f.first h.0.1, test-ascends by_text lock_path f.rest.first h.1.0.1))

pub from_files : (x : List FileRow × List Lock) → FitsFiles x → FilesFieldsFit (files_shape x)
from_files x h = ((h.0.0, ascends-test by_text row_path x.0 h.1.0), ((h.0.1, ascends-test by_text lock_path x.1 h.1.1), tt))

-- change: each field is of its type, and in its order
abbrev pub ChangeFieldsFit : Format → ChangeShape → Type 0
ChangeFieldsFit format f = (IsChangeNo f.first) × ((Unit {0}) × ((Unit {0}) × ((Unit {0}) × ((Unit {0}) × ((Unit {0}) × ((Unit {0}) × ((Unit {0}) × ((IfSome (f.rest.rest.rest.rest.rest.rest.rest.rest.first) IsUser) × ((IfSome (f.rest.rest.rest.rest.rest.rest.rest.rest.rest.first) IsUser) × ((IfSome (f.rest.rest.rest.rest.rest.rest.rest.rest.rest.rest.first) IsUser) × ((IfSome (f.rest.rest.rest.rest.rest.rest.rest.rest.rest.rest.rest.first) IsUser) × ((All FitsChangeFile (f.rest.rest.rest.rest.rest.rest.rest.rest.rest.rest.rest.rest.first) × (ascends text_cmp file_path (f.rest.rest.rest.rest.rest.rest.rest.rest.rest.rest.rest.rest.first) ≡ true)) × ((All FitsEvidence (f.rest.rest.rest.rest.rest.rest.rest.rest.rest.rest.rest.rest.rest.first) × (ascends run_cmp run_of (f.rest.rest.rest.rest.rest.rest.rest.rest.rest.rest.rest.rest.rest.first) ≡ true)) × ((All (FitsHistory format) (f.rest.rest.rest.rest.rest.rest.rest.rest.rest.rest.rest.rest.rest.rest.first)) × (Unit {0})))))))))))))))

pub to_change : (format : Format) (f : ChangeShape) → ChangeFieldsFit format f → FitsChange format (change_from f)
to_change format f h = ((h.0, (h.1.1.1.1.1.1.1.1.0, h.1.1.1.1.1.1.1.1.1.0, h.1.1.1.1.1.1.1.1.1.1.0, h.1.1.1.1.1.1.1.1.1.1.1.0), (h.1.1.1.1.1.1.1.1.1.1.1.1.0.0, h.1.1.1.1.1.1.1.1.1.1.1.1.1.0.0, h.1.1.1.1.1.1.1.1.1.1.1.1.1.1.0)), (test-ascends by_text file_path (f.rest.rest.rest.rest.rest.rest.rest.rest.rest.rest.rest.rest.first) h.1.1.1.1.1.1.1.1.1.1.1.1.0.1, test-ascends by_run run_of (f.rest.rest.rest.rest.rest.rest.rest.rest.rest.rest.rest.rest.rest.first) h.1.1.1.1.1.1.1.1.1.1.1.1.1.0.1))

pub from_change : (format : Format) (x : Change) → FitsChange format x → ChangeFieldsFit format (change_shape x)
from_change format x h = (h.0.0, (tt, (tt, (tt, (tt, (tt, (tt, (tt, (h.0.1.0, (h.0.1.1, (h.0.1.2, (h.0.1.3, ((h.0.2.0, ascends-test by_text file_path x.files h.1.0), ((h.0.2.1, ascends-test by_run run_of x.evidence h.1.1), (h.0.2.2, tt)))))))))))))))

pub change_line : (format : Format) (bytes : List ℕ) (line : ℕ) → IsBadLine (ChangeFieldsFit format) (λ f. change_fields format (change_from f)) bytes line → IsBadLine (FitsChange format) (change_fields format) bytes line
change_line format =
    same_line (ChangeFieldsFit format) (FitsChange format) (λ f. change_fields format (change_from f)) (change_fields format) change_from change_shape (to_change format) (from_change format) (λ f. refl) (λ x. refl)
