use Rattle.ae_dist.proofs.Once.{planning_once, sending_once, writing_once}
use Rattle.ae_dist.proofs.laws.change_sets_have_one_answer.Goals as goal

pub returns-clause-sending : goal.returns-clause-sending
returns-clause-sending c = sending_once

pub returns-clause-writing : goal.returns-clause-writing
returns-clause-writing c = writing_once

pub returns-clause-planning : goal.returns-clause-planning
returns-clause-planning c = planning_once
