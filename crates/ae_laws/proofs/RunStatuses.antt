-- The status of each run of a legal log is below 512, since what a command sees is of its types.
use Rattle.std.proofs.Common.{◌≡◌, ◌<◌, [], ◌∷◌, Some, arith}
use Rattle.ae_outside.specs.declared.dir.Exit.{Exit}
use Rattle.ae_outside.specs.declared.dir.Exit.TheVariants.{Code, Signal}
use Rattle.ae_types.specs.Observation.{Observation}
use Rattle.ae_log.specs.declared.event.EventKind.{EventKind}
use Rattle.ae_log.specs.declared.event.EventKind.TheVariants as on
use Rattle.ae_log.specs.Log.{Log}
use Rattle.ae_log.specs.Runs.{run_status}
use Rattle.ae_evidence.specs.Made.{IsExit}
use Rattle.ae_words.specs.declared.table.Function.{Function}
use Rattle.ae_words.specs.declared.table.Function.TheVariants as function
use Rattle.ae_machine.specs.Legal.{MayCome, Occasion}
use Rattle.ae_laws.specs.Statuses.{HasStatus, HaveStatuses, LegalHasStatuses}
use Rattle.ae_machine.specs.Typed.{IsRun}
use Rattle.ae_machine.proofs.KindsMade.{Each, HasEachKind, function_making, project-maker}
use Rattle.ae_machine.proofs.LegalKinds.{given_after, legal-each}
use Rattle.ae_machine.proofs.Lists.{all-members}

status : (exit : Exit) → IsExit exit → run_status exit < 512
status (Code code) is = omega (arith, is)
status (Signal signal) is = omega (arith, is)

-- what comes alone is no run
of-alone : (kind : EventKind) (f : Function) → function_making kind ≡ Some f → HasStatus kind
of-alone (on.Run run) f maker = cc
of-alone _ f maker = tt

have-each : (log : Log) (o : Observation) (occasion : Occasion) → MayCome log occasion → HasEachKind HasStatus occasion.command.function (given_after log o occasion)
have-each log o occasion may = record {
  added = λ role user. tt;
  dropped = λ role user. tt;
  filed = λ path there file. tt;
  unfiled = λ path. tt;
  ran = λ makes change there run is. status run.exit (all-members IsRun occasion.view.runs may.seen.runs run is).exit;
  ended = λ is change there. tt;
  alone = λ kind maker only. of-alone kind occasion.command.function maker;
}

to-statuses : (log : Log) → Each HasStatus log → HaveStatuses log
to-statuses [] each = tt
to-statuses (event ∷ log) each = (each.0, to-statuses log each.1)

pub legal-statuses : LegalHasStatuses
legal-statuses log legal = to-statuses log (legal-each HasStatus (λ kind is. of-alone kind function.NewProject (project-maker kind is)) have-each log legal)
