-- Which values stand in a record: those that their types can hold, whose lists are in their order.
use Rattle.std.specs.Prelude.{◌≡◌, ◌≤◌, ◌<◌, ◌^◌, ℕ, List, [], IfSome, All, length}
use Rattle.std.specs.Ordering.{nat_cmp}
use Rattle.ae_base.specs.Limits.{most_deltas}
use Rattle.hex.specs.Hex.{IsBytes}
use Rattle.ae_base.specs.Names.{IsPath, IsUser, IsProjectName}
use Rattle.ae_types.specs.Users.{AllDiffer}
use Rattle.ae_types.specs.declared.project.DeltaRow.{DeltaRow}
use Rattle.ae_types.specs.declared.project.Project.{Project}
use Rattle.ae_types.specs.declared.version.VersionRef.{VersionRef}
use Rattle.ae_types.specs.declared.file_table.FileVersion.{FileVersion}
use Rattle.ae_types.specs.declared.file_table.FileRow.{FileRow}
use Rattle.ae_types.specs.declared.file_table.Lock.{Lock}
use Rattle.ae_types.specs.declared.change.ChangeFile.{ChangeFile}
use Rattle.ae_types.specs.declared.change.Evidence.{Evidence}
use Rattle.ae_types.specs.declared.change.HistoryRow.{HistoryRow}
use Rattle.ae_types.specs.declared.change.Change.{Change}
use Rattle.ae_schema.specs.declared.format.Format.{Format}
use Rattle.ae_schema.specs.declared.format.Format.TheVariants.{One, Two}
use Rattle.ae_types.specs.Ordered.{Ascends, itself}
use Rattle.ae_types.specs.Found.{file_path, row_path, lock_path}
use Rattle.ae_base.specs.Rows.{text_cmp}
use Rattle.ae_types.specs.Runs.{run_cmp, run_of}

-- a change's number
abbrev pub IsChangeNo : ℕ → Type 0
IsChangeNo n = (10 ≤ n) × (n ≤ 1999)

-- a delta's number
abbrev pub IsDelta : ℕ → Type 0
IsDelta n = n ≤ most_deltas

-- 32 bytes
abbrev pub IsDigest : List ℕ → Type 0
IsDigest digest = (length digest ≡ 32) × IsBytes digest

-- users, none twice
abbrev pub AreUsers : List (List ℕ) → Type 0
AreUsers users = All IsUser users × AllDiffer users

abbrev pub FitsVersion : VersionRef → Type 0
FitsVersion v = (v.number < 2 ^ 64) × (v.at < 2 ^ 64) × (v.length < 2 ^ 32) × IsDigest v.digest

abbrev pub FitsDelta : DeltaRow → Type 0
FitsDelta row = IsDelta row.delta × IsChangeNo row.change × (row.when < 2 ^ 64) × IsUser row.who

abbrev pub FitsFileVersion : FileVersion → Type 0
FitsFileVersion entry = IsDelta entry.delta × IfSome entry.version FitsVersion

abbrev pub FitsFile : FileRow → Type 0
FitsFile row = IsPath row.path × (length row.past < 2 ^ 64) × All FitsFileVersion row.past

abbrev pub FitsLock : Lock → Type 0
FitsLock l = IsPath l.path × IsChangeNo l.change

abbrev pub FitsChangeFile : ChangeFile → Type 0
FitsChangeFile file = IsPath file.path × (file.origin < 2 ^ 32) × IfSome file.frozen FitsVersion

-- which run it was, and how it ended
abbrev pub FitsRun : Evidence → Type 0
FitsRun run = IfSome run.path IsPath × (run.status < 2 ^ 16)

-- what was tried, by whom and when
abbrev pub FitsOutcome : Evidence → Type 0
FitsOutcome run = IsDigest run.subject × (run.when < 2 ^ 64) × IsUser run.who

abbrev pub FitsEvidence : Evidence → Type 0
FitsEvidence run = FitsRun run × FitsOutcome run

-- in the first format no reason is told
abbrev pub FitsReason : Format → HistoryRow → Type 0
FitsReason One row = row.why ≡ []
FitsReason Two row = Unit {0}

abbrev pub FitsHistory : Format → HistoryRow → Type 0
FitsHistory format row = IsUser row.who × (row.when < 2 ^ 64) × FitsReason format row

-- ---- what the types can hold

-- the users of the roles
abbrev pub HoldsRoles : Project → Type 0
HoldsRoles p = AreUsers p.administrators × AreUsers p.developers × AreUsers p.reviewers × AreUsers p.integrators

-- what is counted, and the deltas
abbrev pub HoldsCounted : Project → List ℕ → Type 0
HoldsCounted p numbers = (p.next_version < 2 ^ 64) × All IsChangeNo numbers × All FitsDelta p.deltas

-- a project and the numbers of its changes
abbrev pub HoldsProject : Project × List ℕ → Type 0
HoldsProject p = IsProjectName p.0.name × HoldsRoles p.0 × HoldsCounted p.0 p.1

-- the files of a project and its locks
abbrev pub HoldsFiles : List FileRow × List Lock → Type 0
HoldsFiles t = All FitsFile t.0 × All FitsLock t.1

-- who works at a change
abbrev pub HoldsPeople : Change → Type 0
HoldsPeople c = IfSome c.developer IsUser × IfSome c.reviewing IsUser × IfSome c.reviewer IsUser × IfSome c.integrator IsUser

-- its files, its runs and its history
abbrev pub HoldsRows : Format → Change → Type 0
HoldsRows format c = All FitsChangeFile c.files × All FitsEvidence c.evidence × All (FitsHistory format) c.history

abbrev pub HoldsChange : Format → Change → Type 0
HoldsChange format c = IsChangeNo c.number × HoldsPeople c × HoldsRows format c

-- ---- in their order

-- the numbers of a project's changes ascend
abbrev pub ProjectAscends : Project × List ℕ → Type 0
ProjectAscends p = Ascends nat_cmp itself p.1

-- the files of a project ascend by path, and so do its locks
abbrev pub FilesAscend : List FileRow × List Lock → Type 0
FilesAscend t = Ascends text_cmp row_path t.0 × Ascends text_cmp lock_path t.1

-- the files of a change ascend by path, and its runs by when in its life they were made, by kind and by path
abbrev pub ChangeAscends : Change → Type 0
ChangeAscends c = Ascends text_cmp file_path c.files × Ascends run_cmp run_of c.evidence

-- ---- what stands in a record

abbrev pub FitsProject : Project × List ℕ → Type 0
FitsProject p = HoldsProject p × ProjectAscends p

abbrev pub FitsFiles : List FileRow × List Lock → Type 0
FitsFiles t = HoldsFiles t × FilesAscend t

abbrev pub FitsChange : Format → Change → Type 0
FitsChange format c = HoldsChange format c × ChangeAscends c
