-- Some value that each type can hold.
use Rattle.std.proofs.Common.{ℕ, zero, suc, List, [], ◌∷◌, None, true, refl, arith}
use Rattle.std.specs.Prelude.{codes}
use Rattle.std.proofs.lemmas.List.Elements.{All-nil}
use Rattle.hex.specs.Hex.{IsBytes}
use Rattle.ae_base.specs.declared.words.Action.TheVariants.{Create}
use Rattle.ae_base.specs.declared.words.Usage.TheVariants.{Source}
use Rattle.ae_base.specs.declared.words.Ground.TheVariants.{Develop}
use Rattle.ae_base.specs.declared.words.Kind.TheVariants.{Build}
use Rattle.ae_base.specs.declared.words.What.TheVariants.{NewChange}
use Rattle.ae_types.specs.declared.project.DeltaRow.{DeltaRow}
use Rattle.ae_types.specs.declared.version.VersionRef.{VersionRef}
use Rattle.ae_types.specs.declared.file_table.FileVersion.{FileVersion}
use Rattle.ae_types.specs.declared.file_table.FileRow.{FileRow}
use Rattle.ae_types.specs.declared.file_table.Lock.{Lock}
use Rattle.ae_types.specs.declared.change.ChangeFile.{ChangeFile}
use Rattle.ae_types.specs.declared.change.Evidence.{Evidence}
use Rattle.ae_types.specs.declared.change.HistoryRow.{HistoryRow}
use Rattle.std.specs.List.{IsDistinct}
use Rattle.ae_base.specs.Names.{IsUser}
use Rattle.ae_types.specs.Users.{AllDiffer}
use Rattle.ae_schema.specs.declared.format.Format.TheVariants.{Two}
use Rattle.ae_schema.specs.Fits.{AreUsers, IsDigest, FitsVersion, FitsDelta, FitsFileVersion, FitsFile, FitsLock, FitsChangeFile, FitsEvidence, FitsHistory}

-- so many zeros
abbrev zeros : ℕ → List ℕ
zeros zero = []
zeros (suc n) = 0 ∷ zeros n

zeros_are_bytes : (n : ℕ) → IsBytes (zeros n)
zeros_are_bytes zero i = omega arith
zeros_are_bytes (suc n) zero = omega arith
zeros_are_bytes (suc n) (suc i) = zeros_are_bytes n i

pub zero_digest : List ℕ
zero_digest = zeros 32

pub zero_digest_fits : IsDigest zero_digest
unfolding zero_digest
zero_digest_fits = (refl, zeros_are_bytes 32)

pub some_digest : (digest : List ℕ) × IsDigest digest
some_digest = (zero_digest, zero_digest_fits)

zero_version : VersionRef
zero_version = record { number = 0; at = 0; length = 0; digest = zero_digest }

zero_version_fits : FitsVersion zero_version
unfolding zero_version
zero_version_fits = (omega arith, omega arith, omega arith, zero_digest_fits)

pub some_version : (v : VersionRef) × FitsVersion v
some_version = (zero_version, zero_version_fits)

pub some_delta : (row : DeltaRow) × FitsDelta row
some_delta = (record { delta = 0; change = 10; when = 0; who = codes "a" }, (omega arith, (omega arith, omega arith), omega arith, refl))

pub some_file_version : (entry : FileVersion) × FitsFileVersion entry
some_file_version = (record { delta = 0; usage = Source; version = None }, (omega arith, tt))

pub some_file : (row : FileRow) × FitsFile row
some_file = (record { path = codes "a"; past = [] }, (refl, omega arith, All-nil FitsFileVersion))

pub some_lock : (l : Lock) × FitsLock l
some_lock = (record { path = codes "a"; change = 10 }, (refl, (omega arith, omega arith)))

pub some_change_file : (file : ChangeFile) × FitsChangeFile file
some_change_file = (record { path = codes "a"; action = Create; usage = Source; origin = 0; frozen = None }, (refl, omega arith, tt))

pub some_evidence : (run : Evidence) × FitsEvidence run
some_evidence = (
  record { during = Develop; kind = Build; path = None; status = 0; clean = true; subject = zero_digest; when = 0; who = codes "a" },
  ((tt, omega arith), (zero_digest_fits, omega arith, refl)),
)

pub some_history : (row : HistoryRow) × FitsHistory Two row
some_history = (record { what = NewChange; who = codes "a"; when = 0; why = [] }, (refl, omega arith, tt))

none_twice : AllDiffer []
unfolding IsDistinct
none_twice = tt

pub some_users : (users : List (List ℕ)) × AreUsers users
some_users = ([], (All-nil IsUser, none_twice))
