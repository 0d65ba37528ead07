use Rattle.ae_received.proofs.Received.{received-as-sent}
use Rattle.ae_received.proofs.laws.received_changes_are_as_sent.Goals as goal

pub returns : goal.returns
returns g c = record { sent = received-as-sent _ _ _ }
