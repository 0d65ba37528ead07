-- What the steps of an audit answer.
use Rattle.std.specs.Prelude.{◌≡◌, ◌≢◌, ◌⊎◌, ℕ, ◌≤◌, true, false, List, [], ◌∷◌, ◌++◌, length, Option, Some, None, Result, Ok, Err}
use Rattle.std.specs.List.{list_all}
use Rattle.ae_base.specs.Limits.{most_units}
use Rattle.ae_base.specs.declared.words.Ground.TheVariants.{Integrate}
use Rattle.ae_outside.specs.declared.failed.ReadError.{ReadError}
use Rattle.ae_outside.specs.declared.failed.ReadError.TheVariants as reading
use Rattle.ae_base.specs.declared.want.Want.TheVariants.{All}
use Rattle.ae_outside.specs.Image.{Image}
use Rattle.ae_schema.specs.declared.error.SchemaError.{SchemaError}
use Rattle.ae_schema.specs.declared.error.SchemaError.TheVariants as schema
use Rattle.ae_schema.specs.declared.format.Format.{Format}
use Rattle.ae_schema.specs.Formats.{IsOfFormat}
use Rattle.ae_types.specs.declared.blame.Blame.{Blame}
use Rattle.ae_types.specs.declared.blame.Blame.TheVariants as blame
use Rattle.ae_types.specs.declared.change.Change.{Change}
use Rattle.ae_types.specs.declared.project.DeltaRow.{DeltaRow}
use Rattle.ae_types.specs.declared.version.VersionRef.{VersionRef}
use Rattle.ae_types.specs.Observation.{Observation}
use Rattle.ae_types.specs.Rules.{blamed}
use Rattle.ae_types.specs.Runs.{has_counting, tests_of}
use Rattle.ae_types.specs.Trees.{TreeRow}
use Rattle.ae_types.specs.Versions.{has_units, end_of}
use Rattle.ae_store.specs.Names.{project_file, blamed_file}
use Rattle.ae_store.specs.Records.{StandsFor, StandsIn}
use Rattle.ae_store.specs.Damage.{ReadsChange, ReadsChanges, IsBlamedIn, IsDamaged}
use Rattle.ae_audit.specs.declared.certificate.CertificateRow.{CertificateRow}
use Rattle.ae_audit.specs.declared.certificate.Mark.{Mark}
use Rattle.ae_audit.specs.declared.error.AuditError.{AuditError}
use Rattle.ae_audit.specs.declared.error.AuditError.TheVariants as audit
use Rattle.ae_audit.specs.declared.stop.Stop.{Stop}
use Rattle.ae_audit.specs.declared.stop.Stop.TheVariants.{NoProject, Body, Blamed, Lost, NotShown, DiskFault, Memory}
use Rattle.ae_audit.specs.Audits.{Audits, AuditsState, MayAnswer}
use Rattle.ae_audit.specs.Files.{body_file, pack_file}
use Rattle.ae_audit.specs.Intact.{AreIntact}
use Rattle.ae_audit.specs.Required.{required_over}
use Rattle.ae_audit.specs.Review.{Fits}
use Rattle.ae_audit.specs.Shown.{Shown, IsCertificate, AreCertificates, FirstNotShown}

-- a reading's error as one of a step
abbrev pub stop_reading : ReadError → Stop
stop_reading reading.Failed = DiskFault
stop_reading reading.Memory = Memory

-- a bad record blames its file
abbrev pub stop_of_record : Blame → SchemaError → Stop
stop_of_record b (schema.Field line) = Blamed b
stop_of_record b schema.Memory = Memory

-- the error that a stop comes to
abbrev pub error_of : Stop → AuditError
error_of NoProject = audit.NoProject
error_of Body = audit.Damaged body_file
error_of (Blamed b) = audit.Damaged (blamed_file b)
error_of Lost = audit.Damaged pack_file
error_of (NotShown n) = audit.NotShown n
error_of DiskFault = audit.DiskFault
error_of Memory = audit.Memory

-- an audit of the image may stop so
abbrev pub StopsAt : Image → Stop → Type 0
StopsAt image stop = MayAnswer image (Err (error_of stop))

-- ---- loading

-- a value that is read so, or this blame, where none is
abbrev pub IsRecordRead : {A : Type 0} → (A → Type 0) → Blame → Result A Stop → Type 0
IsRecordRead Reads b (Ok value) = Reads value
IsRecordRead {A = A} Reads b (Err (Blamed c)) = (c ≡ b) × ((value : A) → Reads value → ⊥)
IsRecordRead Reads b (Err DiskFault) = Unit {0}
IsRecordRead Reads b (Err Memory) = Unit {0}
IsRecordRead Reads b (Err _) = ⊥

-- the format that the bytes of `project` tell, or blame for it, where they tell none
abbrev pub IsFormatRead : List ℕ → Result Format Stop → Type 0
IsFormatRead bytes (Ok format) = IsOfFormat format bytes
IsFormatRead bytes (Err (Blamed b)) = (b ≡ blame.Project) × ((format : Format) → IsOfFormat format bytes → ⊥)
IsFormatRead bytes (Err DiskFault) = Unit {0}
IsFormatRead bytes (Err Memory) = Unit {0}
IsFormatRead bytes (Err _) = ⊥

-- the first of these numbers whose change isn't read is that of the blame
pub record IsFirstBad (format : Format) (files : Image) (numbers : List ℕ) (b : Blame) : Type 0 where
  pub before : List ℕ
  pub number : ℕ
  pub after : List ℕ
  pub splits : numbers ≡ before ++ number ∷ after
  pub changes : List Change
  pub read : ReadsChanges format files before changes
  pub bad : (change : Change) → ReadsChange format files number change → ⊥
  pub is : b ≡ blame.Change number

-- the changes of the numbers, or the blame of the first that isn't read
abbrev pub AreRead : Format → Image → List ℕ → Result (List Change) Stop → Type 0
AreRead format files numbers (Ok changes) = ReadsChanges format files numbers changes
AreRead format files numbers (Err (Blamed b)) = IsFirstBad format files numbers b
AreRead format files numbers (Err DiskFault) = Unit {0}
AreRead format files numbers (Err Memory) = Unit {0}
AreRead format files numbers (Err _) = ⊥

-- the state of these records, or what the rules blame
abbrev pub IsChecked : Observation → Result Observation Stop → Type 0
IsChecked o (Ok state) = (state ≡ o) × (blamed o ≡ None)
IsChecked o (Err (Blamed b)) = blamed o ≡ Some b
IsChecked o (Err Memory) = Unit {0}
IsChecked o (Err _) = ⊥

-- what the files stand for in this format, or the file that is blamed
abbrev pub IsLoadedIn : Format → Image → Result Observation Stop → Type 0
IsLoadedIn format files (Ok o) = StandsIn format files (Some o)
IsLoadedIn format files (Err (Blamed b)) = IsDamaged format All files b
IsLoadedIn format files (Err DiskFault) = Unit {0}
IsLoadedIn format files (Err Memory) = Unit {0}
IsLoadedIn format files (Err _) = ⊥

-- what the files stand for, or the file that is blamed, or that there is no project
abbrev pub IsLoaded : Image → Result Observation Stop → Type 0
IsLoaded files (Ok o) = StandsFor files (Some o)
IsLoaded files (Err NoProject) = files project_file ≡ []
IsLoaded files (Err (Blamed b)) = IsBlamedIn All files b
IsLoaded files (Err DiskFault) = Unit {0}
IsLoaded files (Err Memory) = Unit {0}
IsLoaded files (Err _) = ⊥

-- ---- looking at versions

-- where it has units it ends in the region
abbrev pub IsInside : VersionRef → Type 0
IsInside version = has_units version ≡ true → end_of version ≤ most_units

abbrev pub AreInside : List VersionRef → Type 0
AreInside [] = Unit {0}
AreInside (version ∷ versions) = IsInside version × AreInside versions

-- the versions that were looked at are intact, or one of them is lost
abbrev pub IsLooked : List ℕ → List VersionRef → Result Unit Stop → Type 0
IsLooked packed versions (Ok done) = AreIntact packed versions
IsLooked packed versions (Err Lost) = AreIntact packed versions → ⊥
IsLooked packed versions (Err DiskFault) = Unit {0}
IsLooked packed versions (Err Memory) = Unit {0}
IsLooked packed versions (Err _) = ⊥

-- ---- certifying

-- the mark that fits the change, or that none does
abbrev pub IsMark : Change → Option Mark → Type 0
IsMark change (Some mark) = Fits change mark
IsMark change None = (mark : Mark) → Fits change mark → ⊥

-- each run that the change needs over the tree before counts for the tree of this digest, and it has a test or is exempt
abbrev pub RunsAre : Change → List TreeRow → List ℕ → Type 0
RunsAre change before tree = (list_all (has_counting change Integrate tree) (required_over before change) ≡ true) × (change.attributes.test_exempt ≡ false → tests_of change ≢ [])

-- how many they are, or that it isn't so
abbrev pub RunsFound : Change → List TreeRow → List ℕ → Option ℕ → Type 0
RunsFound change before tree (Some runs) = (runs ≡ length (required_over before change)) × RunsAre change before tree
RunsFound change before tree None = RunsAre change before tree → ⊥

-- the row of a delta of this change, whose tree has this digest, over that tree
pub record IsRowBy (made : DeltaRow) (change : Change) (before : List TreeRow) (tree : List ℕ) (row : CertificateRow) : Type 0 where
  pub delta : row.delta ≡ made.delta
  pub number : row.change ≡ made.change
  pub digest : row.tree ≡ tree
  pub count : row.runs ≡ length (required_over before change)
  pub runs : RunsAre change before tree
  pub mark : Fits change row.mark

abbrev pub IsFoundBy : DeltaRow → Change → List TreeRow → List ℕ → Option CertificateRow → Type 0
IsFoundBy made change before tree (Some row) = IsRowBy made change before tree row
IsFoundBy made change before tree None = RunsAre change before tree → (mark : Mark) → Fits change mark → ⊥

-- the row of the delta, or that it isn't shown
abbrev pub IsFound : Observation → DeltaRow → Option CertificateRow → Type 0
IsFound o made (Some row) = IsCertificate o made row
IsFound o made None = (mark : Mark) → Shown o made mark → ⊥

-- the rows of the deltas, or the first that isn't shown
abbrev pub IsCertified : Observation → List DeltaRow → Result (List CertificateRow) Stop → Type 0
IsCertified o deltas (Ok rows) = AreCertificates o deltas rows
IsCertified o deltas (Err (NotShown n)) = FirstNotShown o deltas n
IsCertified o deltas (Err Memory) = Unit {0}
IsCertified o deltas (Err _) = ⊥

-- ---- the whole

-- the name is told, unless there is no memory for it
abbrev pub IsDamagedOr : {E : Type 0} → Result (List ℕ) E → AuditError → Type 0
IsDamagedOr (Ok name) told = told ≡ audit.Damaged name
IsDamagedOr (Err e) told = told ≡ audit.Memory

-- the error of the stop, unless there is no memory for its text
abbrev pub IsToldOf : Stop → AuditError → Type 0
IsToldOf stop told = (told ≡ error_of stop) ⊎ (told ≡ audit.Memory)

-- the rows, or where it stops, of an image
abbrev pub MayStop : Image → Result (List CertificateRow) Stop → Type 0
MayStop image (Ok rows) = Audits image (Ok rows)
MayStop image (Err stop) = StopsAt image stop

-- and of files that stand for this
abbrev pub MayStopOn : List ℕ → Observation → Result (List CertificateRow) Stop → Type 0
MayStopOn packed o (Ok rows) = AuditsState packed o (Ok rows)
MayStopOn packed o (Err Lost) = AuditsState packed o (Err (audit.Damaged pack_file))
MayStopOn packed o (Err (NotShown n)) = AuditsState packed o (Err (audit.NotShown n))
MayStopOn packed o (Err DiskFault) = Unit {0}
MayStopOn packed o (Err Memory) = Unit {0}
MayStopOn packed o (Err _) = ⊥
