-- From the rows of the state to the runs of the log: what each integration that passed rests on.
use Rattle.std.specs.Prelude.{◌≡◌, ℕ, true, List, [], ◌∷◌, map, Option, Some, None, All, IsSomeAnd}
use Rattle.std.specs.Option.{option_and_then}
use Rattle.ae_base.specs.declared.words.Ground.TheVariants.{Integrate}
use Rattle.ae_types.specs.declared.change.Change.{Change}
use Rattle.ae_types.specs.declared.change.Evidence.{Evidence}
use Rattle.ae_types.specs.Observation.{Observation}
use Rattle.ae_types.specs.Runs.{Needed, required, wanted, latest_of, missing}
use Rattle.ae_types.specs.Trees.{candidate_of}
use Rattle.ae_log.specs.declared.event.EventKind.{EventKind}
use Rattle.ae_log.specs.declared.event.EventKind.TheVariants as on
use Rattle.ae_log.specs.Baseline.{candidate}
use Rattle.ae_log.specs.Files.{version_bytes}
use Rattle.ae_log.specs.Log.{Log, course}
use Rattle.ae_log.specs.Observed.{observation, change, tree_row_of}
use Rattle.ae_log.specs.Runs.{latest, row_of_run}
use Rattle.ae_evidence.specs.Digest.{digest_rows}
use Rattle.ae_machine.specs.Legal.{Legal}
use Rattle.ae_machine.specs.Provenance.{files_of, HasRun, latest_run}
use Rattle.ae_machine.specs.Sight.{with_bytes}

-- the row that the state would have of the log's latest run of an integration that is of this
abbrev pub row_in_log : Log → ℕ → Needed → Option Evidence
row_in_log log number needed =
    option_and_then row_of_run (latest (course log number) (record { during = Integrate; kind = needed.kind; path = needed.path }))

-- A row of the state. Its run ended as wanted, left the files as they were, and was of what has this digest; it is that of the log's
-- latest run; and this run ran the command that is given for it, on the files that it is for.
pub record IsEvident (log : Log) (number : ℕ) (change : Change) (digest : List ℕ) (needed : Needed) (row : Evidence) : Type 0 where
  pub status : row.status ≡ wanted needed.kind
  pub clean : row.clean ≡ true
  pub subject : row.subject ≡ digest
  pub latest : row_in_log log number needed ≡ Some row
  pub run : IsSomeAnd (latest_run log number needed) (HasRun log number change needed)

abbrev pub RowIsEvident : Log → ℕ → Observation → Change → Needed → Type 0
RowIsEvident log number o change needed = IsSomeAnd (latest_of change Integrate needed.kind needed.path) (IsEvident log number change (digest_rows (candidate_of o change)) needed)

-- No run is missing of a change that is integrated: each that is required has its row. The candidate of the state is the log's, and
-- its versions have the bytes that were built and tested.
pub record HasEvidence (log : Log) (number : ℕ) (o : Observation) (change : Change) : Type 0 where
  pub suffices : missing o change Integrate (digest_rows (candidate_of o change)) ≡ None
  pub rows : All (RowIsEvident log number o change) (required o change)
  pub candidate_is : candidate_of o change ≡ map tree_row_of (candidate log number)
  pub bytes_are : with_bytes (version_bytes log) (candidate_of o change) ≡ files_of (candidate log number)

abbrev pub EvidentAt : Log → Option ℕ → EventKind → Type 0
EvidentAt log (Some number) on.IPass = IsSomeAnd (observation log) (λ o. IsSomeAnd (change number (course log number)) (HasEvidence log number o))
EvidentAt log None on.IPass = ⊥
EvidentAt log change _ = Unit {0}

-- so it stood before each IPass
abbrev pub Evident : Log → Type 0
Evident [] = Unit {0}
Evident (event ∷ log) = EvidentAt log event.change event.what × Evident log

-- in a legal log
abbrev pub LegalIsEvident : Type 0
LegalIsEvident = (log : Log) → Legal log → Evident log
