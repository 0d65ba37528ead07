-- No update is lost: what an integration replaces is what its change was made from.
use Rattle.std.specs.Prelude.{◌≡◌, ℕ, true, List, Option, None, IsSomeAnd}
use Rattle.std.specs.List.{find}
use Rattle.std.specs.Str.{bytes_eq}
use Rattle.ae_types.specs.Phases.{is_create}
use Rattle.ae_log.specs.Baseline.{TreeFile, baseline, edit, past}
use Rattle.ae_log.specs.Files.{FileFact, file_mark}
use Rattle.ae_log.specs.Log.{Log, Happened, course, standing}

-- the file of a path
abbrev pub file_of : List TreeFile → List ℕ → Option TreeFile
file_of files path = find (λ (file : TreeFile). bytes_eq path file.path) files

-- No delta has changed the path since its file was added to the change, so the baseline has of it what it had then: the same version,
-- with the same bytes, or none.
pub record IsUntouched (log : Log) (path : List ℕ) (added : Happened) : Type 0 where
  pub past : past added.before path ≡ past log path
  pub baseline : file_of (baseline added.before) path ≡ file_of (baseline log) path

-- A file of the change began from the edit that its path has, and the path is untouched since; where the file is new the baseline has
-- no such file.
pub record ReplacesItsOrigin (log : Log) (number : ℕ) (path : List ℕ) (fact : FileFact) : Type 0 where
  pub origin : fact.origin ≡ edit log path
  pub untouched : IsSomeAnd (standing (file_mark path) (course log number)) (IsUntouched log path)
  pub new : is_create fact.action ≡ true → file_of (baseline log) path ≡ None
