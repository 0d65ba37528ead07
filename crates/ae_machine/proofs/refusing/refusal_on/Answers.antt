use Rattle.std.proofs.Common.{ap}
use Rattle.ae_machine.specs.Verdict.{refusal_before}
use Rattle.ae_machine.proofs.Conditions.{answers-as}
use Rattle.ae_machine.proofs.refusing.refusal_on.Goals as goal

pub returns : goal.returns
returns c = c.reason_in.ensures _ (answers-as _ _ c.asked_of_call.result (ap refusal_before c.of.ensures) c.asked_of_call.ensures)
