use Rattle.std.proofs.Common.{rules, ◌≡◌, Some}
use Rattle.std.specs.Prelude.{option_copied}
use Rattle.ae_exec.proofs.runs_plan.plan_runs.Goals as goal

pub returns-clause-planned : goal.returns-clause-planned
returns-clause-planned g c = let same : option_copied c.args.old ≡ Some c.in-Some.state.now = search rules in rw same c.plan_runs_on.ensures.planned

pub returns-clause-stopped : goal.returns-clause-stopped
returns-clause-stopped g c = let same : option_copied c.args.old ≡ Some c.in-Some.state.now = search rules in rw same c.plan_runs_on.ensures.stopped

-- ---- what follows from the calls alone

pub returns-clause-directories : goal.returns-clause-directories
returns-clause-directories g c = c.plan_runs_on.ensures.directories

pub returns-clause-early : goal.returns-clause-early
returns-clause-early g c = c.plan_runs_on.ensures.early

pub returns-clause-same : goal.returns-clause-same
returns-clause-same g c = c.plan_runs_on.ensures.same

pub returns-clause-disk_later : goal.returns-clause-disk_later
returns-clause-disk_later g c = c.plan_runs_on.ensures.disk_later

pub returns-clause-site_later : goal.returns-clause-site_later
returns-clause-site_later g c = c.plan_runs_on.ensures.site_later

pub returns-clause-asked : goal.returns-clause-asked
returns-clause-asked g c = let same : option_copied c.args.old ≡ Some c.in-Some.state.now = search rules in rw same c.plan_runs_on.ensures.asked
