use Rattle.ae_calls.proofs.Received.{calls-receive}
use Rattle.ae_calls.proofs.laws.calls_receive_as_sent.Goals as goal

pub returns : goal.returns
returns g c = calls-receive _ _ _ _ _
