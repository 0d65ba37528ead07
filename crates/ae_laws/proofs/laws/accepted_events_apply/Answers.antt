use Rattle.ae_machine.proofs.Accepted.{accepted-apply, called-apply}
use Rattle.ae_machine.proofs.AcceptedLogs.{accepted-starts}
use Rattle.ae_laws.proofs.laws.accepted_events_apply.Goals as goal

pub returns-clause-apply : goal.returns-clause-apply
returns-clause-apply c = accepted-apply

pub returns-clause-called : goal.returns-clause-called
returns-clause-called c = called-apply

pub returns-clause-start : goal.returns-clause-start
returns-clause-start c = accepted-starts
