use Rattle.std.proofs.Common.{◌∙◌}
use Rattle.ae_exec.specs.Endings.{damaged, memory}
use Rattle.ae_exec.proofs.open.damaged_body.Goals as goal

pub returns-in-Ok : goal.returns-in-Ok
returns-in-Ok c = damaged _ (c.of.ensures ∙ c.in-Ok.ensures.items)

pub returns-in-Err : goal.returns-in-Err
returns-in-Err c = memory
