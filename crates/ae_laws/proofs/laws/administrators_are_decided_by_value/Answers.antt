use Rattle.ae_laws.proofs.ExampleAdministrators.{first-set, given-up, role-taken, settings-taken, removed-later, made-twice}
use Rattle.ae_laws.proofs.laws.administrators_are_decided_by_value.Goals as goal

pub returns-clause-first : goal.returns-clause-first
returns-clause-first c = first-set

pub returns-clause-given_up : goal.returns-clause-given_up
returns-clause-given_up c = given-up

pub returns-clause-role : goal.returns-clause-role
returns-clause-role c = role-taken

pub returns-clause-settings : goal.returns-clause-settings
returns-clause-settings c = settings-taken

pub returns-clause-later : goal.returns-clause-later
returns-clause-later c = removed-later

pub returns-clause-twice : goal.returns-clause-twice
returns-clause-twice c = made-twice
