use Rattle.std.proofs.Common.{◌≡◌, map, take}
use Rattle.ae_log.specs.declared.event.EventKind.TheVariants as on
use Rattle.ae_machine.specs.Commands.{run_told}
use Rattle.ae_machine.specs.Verdict.{maker_by}
use Rattle.ae_machine.proofs.jobs.accept_runs.Given as goal
use Rattle.ae_log.specs.Maker.{event_by}

abbrev pub invariant-loop-run : goal.invariant-loop-run
invariant-loop-run l =
    let event_told = run_told l.told.project.now l.told.change.now l.told.delta l.told.read.now l.subject in
    l.events ≡ map (event_by (maker_by l.call.command l.call.who l.when) l.call.command.change) (map on.Run (map event_told (take l.run-index l.runs)))
