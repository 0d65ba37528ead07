use Rattle.std.proofs.Common.{◌≡◌, Ok, Some, rules}
use Rattle.ae_exec.specs.Endings.{memory, refused}
use Rattle.ae_dist.specs.Plan.{no_room, refuses_numbers}
use Rattle.ae_dist.specs.Steps.{ArePaths}
use Rattle.ae_dist.proofs.PlanFormed.{answer_formed}
use Rattle.ae_dist.proofs.planning.plan_on.Goals as goal

pub returns-in_default-clause-planned : goal.returns-in_default-clause-planned
returns-in_default-clause-planned c = let why : refuses_numbers c.args.state.now ≡ Some no_room = search rules in refused no_room why

pub returns-in-Err-clause-planned : goal.returns-in-Err-clause-planned
returns-in-Err-clause-planned c = memory

pub returns-in-Ok-clause-planned : goal.returns-in-Ok-clause-planned
returns-in-Ok-clause-planned c = search rules

pub returns-in-Ok-clause-formed : goal.returns-in-Ok-clause-formed
returns-in-Ok-clause-formed c =
    let paths : ArePaths c.args.bundle.files = search rules in
    answer_formed c.args.state.now c.args.bundle (Ok c.in-Ok.acts) (returns-in-Ok-clause-planned c) paths
