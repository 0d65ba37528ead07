use Rattle.ae_schema.proofs.project.read_project_in.Goals as goal

pub returns-in-One-clause-found : goal.returns-in-One-clause-found
returns-in-One-clause-found c = rw c.in-One.is c.read_as.ensures.found

pub returns-in-One-clause-only : goal.returns-in-One-clause-only
returns-in-One-clause-only c = rw c.in-One.is c.read_as.ensures.only

pub returns-in-One-clause-only_field : goal.returns-in-One-clause-only_field
returns-in-One-clause-only_field c = rw c.in-One.is c.read_as.ensures.only_field

pub returns-in-Two-clause-found : goal.returns-in-Two-clause-found
returns-in-Two-clause-found c = rw c.in-Two.is c.read_second.ensures.found

pub returns-in-Two-clause-only : goal.returns-in-Two-clause-only
returns-in-Two-clause-only c = rw c.in-Two.is c.read_second.ensures.only

pub returns-in-Two-clause-only_field : goal.returns-in-Two-clause-only_field
returns-in-Two-clause-only_field c = rw c.in-Two.is c.read_second.ensures.only_field
