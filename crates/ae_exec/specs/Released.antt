-- A released file on a disk: its bytes in the packed file, and the integration from which it comes.
use Rattle.std.specs.Prelude.{◌≡◌, ℕ, true, List, Some}
use Rattle.ae_outside.specs.Image.{Image}
use Rattle.ae_types.specs.declared.change.Change.{Change}
use Rattle.ae_types.specs.Found.{change_at}
use Rattle.ae_types.specs.Observation.{Observation}
use Rattle.ae_types.specs.Phases.{is_integrating}
use Rattle.ae_types.specs.Trees.{candidate_of}
use Rattle.ae_types.specs.Frozen.{ref_of}
use Rattle.ae_vault.specs.Vault.{effective}
use Rattle.ae_log.specs.Baseline.{TreeFile, baseline, candidate}
use Rattle.ae_log.specs.Log.{Log}
use Rattle.ae_log.specs.Observed.{observation}
use Rattle.ae_machine.specs.Legal.{Legal}
use Rattle.ae_machine.specs.Provenance.{files_of}
use Rattle.ae_machine.specs.Released.{file_of, IsReleased}
use Rattle.ae_exec.specs.Bytes.{bytes_at, rows_at}
use Rattle.ae_exec.specs.Stands.{StandsForLog}

-- The packed file has the file's bytes at the place of its version. The row of its path names the delta, the integration that made
-- the delta had it in its candidate, and that was built, tested and reviewed as is asked.
pub record IsReleasedOn (image : Image) (log : Log) (o : Observation) (file : TreeFile) : Type 0 where
  pub released : IsReleased log o file
  pub packed : bytes_at (effective image) (ref_of file.version) ≡ file.version.bytes

-- each file of the baseline, on an image that stands for a legal log
abbrev pub ReleasedIsEvident : Type 0
ReleasedIsEvident = (image : Image) (log : Log) (o : Observation) (path : List ℕ) (file : TreeFile) → Legal log → StandsForLog image log → observation log ≡ Some o
    → file_of (baseline log) path ≡ Some file → IsReleasedOn image log o file

-- while a change is integrated, the packed file has at the places of its candidate's versions the bytes that are built and tested
abbrev pub CandidateIsPacked : Type 0
CandidateIsPacked = (image : Image) (log : Log) (o : Observation) (number : ℕ) (change : Change) → Legal log → StandsForLog image log → observation log ≡ Some o
    → change_at o number ≡ Some change → is_integrating change.phase ≡ true → rows_at (effective image) (candidate_of o change) ≡ files_of (candidate log number)
