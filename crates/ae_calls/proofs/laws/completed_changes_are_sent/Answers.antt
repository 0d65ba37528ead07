use Rattle.ae_calls.proofs.SentCalls.{completed-are-sent}
use Rattle.ae_calls.proofs.laws.completed_changes_are_sent.Goals as goal

pub returns : goal.returns
returns g c = completed-are-sent _ _ _ _ _
