use Rattle.std.proofs.Common.{◌≡◌, take, drop, All}
use Rattle.ae_evidence.specs.declared.runs.Job.{Job}
use Rattle.ae_machine.specs.Commands.{command_told, first_refusal}
use Rattle.ae_machine.specs.Jobs.{AreJobs}
use Rattle.ae_conf.specs.Values.{IsCommand}
use Rattle.ae_machine.proofs.jobs.make_jobs.Given as goal

abbrev pub invariant-loop-run : goal.invariant-loop-run
invariant-loop-run l =
    AreJobs (command_told l.told.project.now l.told.change.now l.told.delta l.told.read.now) (take l.run-index l.runs) l.jobs
    × (first_refusal (command_told l.told.project.now l.told.change.now l.told.delta l.told.read.now) l.runs ≡ first_refusal (command_told l.told.project.now l.told.change.now l.told.delta l.told.read.now) (drop l.run-index l.runs))
    × All (λ (job : Job). IsCommand job.command) l.jobs
