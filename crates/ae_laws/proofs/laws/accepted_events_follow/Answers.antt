use Rattle.ae_machine.proofs.AcceptedLogs.{accepted-follow, called-follow, first-follow}
use Rattle.ae_laws.proofs.laws.accepted_events_follow.Goals as goal

pub returns-clause-follow : goal.returns-clause-follow
returns-clause-follow c = accepted-follow

pub returns-clause-called : goal.returns-clause-called
returns-clause-called c = called-follow

pub returns-clause-first : goal.returns-clause-first
returns-clause-first c = first-follow
