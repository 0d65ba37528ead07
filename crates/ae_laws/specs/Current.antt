-- That no update is lost at an integration that passes.
use Rattle.std.specs.Prelude.{◌≡◌, ℕ, List, [], ◌∷◌, Option, Some, None}
use Rattle.ae_log.specs.declared.event.EventKind.{EventKind}
use Rattle.ae_log.specs.declared.event.EventKind.TheVariants as on
use Rattle.ae_log.specs.Files.{FileFact, file}
use Rattle.ae_log.specs.Log.{Log, course}
use Rattle.ae_machine.specs.Legal.{Legal}
use Rattle.ae_machine.specs.Updates.{ReplacesItsOrigin}

-- so it is of each file of a change whose integration passes
abbrev pub LosesNoneAt : Log → Option ℕ → EventKind → Type 0
LosesNoneAt log (Some number) on.IPass = (path : List ℕ) (fact : FileFact) → file (course log number) path ≡ Some fact → ReplacesItsOrigin log number path fact
LosesNoneAt log None on.IPass = ⊥
LosesNoneAt log change _ = Unit {0}

-- at each IPass
abbrev pub LosesNone : Log → Type 0
LosesNone [] = Unit {0}
LosesNone (event ∷ log) = LosesNoneAt log event.change event.what × LosesNone log

-- of a legal log
abbrev pub LegalLosesNone : Type 0
LegalLosesNone = (log : Log) → Legal log → LosesNone log
