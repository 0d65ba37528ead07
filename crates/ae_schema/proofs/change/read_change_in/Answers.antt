use Rattle.ae_schema.proofs.change.read_change_in.Goals as goal

pub returns-in-One-clause-found : goal.returns-in-One-clause-found
returns-in-One-clause-found c = rw c.in-One.is c.read_as.ensures.found

pub returns-in-One-clause-fits : goal.returns-in-One-clause-fits
returns-in-One-clause-fits c = rw c.in-One.is c.read_as.ensures.fits

pub returns-in-One-clause-only : goal.returns-in-One-clause-only
returns-in-One-clause-only c = rw c.in-One.is c.read_as.ensures.only

pub returns-in-One-clause-field : goal.returns-in-One-clause-field
returns-in-One-clause-field c = rw c.in-One.is c.read_as.ensures.field

pub returns-in-One-clause-only_field : goal.returns-in-One-clause-only_field
returns-in-One-clause-only_field c = rw c.in-One.is c.read_as.ensures.only_field

pub returns-in-Two-clause-found : goal.returns-in-Two-clause-found
returns-in-Two-clause-found c = rw c.in-Two.is c.read_second.ensures.found

pub returns-in-Two-clause-fits : goal.returns-in-Two-clause-fits
returns-in-Two-clause-fits c = rw c.in-Two.is c.read_second.ensures.fits

pub returns-in-Two-clause-only : goal.returns-in-Two-clause-only
returns-in-Two-clause-only c = rw c.in-Two.is c.read_second.ensures.only

pub returns-in-Two-clause-field : goal.returns-in-Two-clause-field
returns-in-Two-clause-field c = rw c.in-Two.is c.read_second.ensures.field

pub returns-in-Two-clause-only_field : goal.returns-in-Two-clause-only_field
returns-in-Two-clause-only_field c = rw c.in-Two.is c.read_second.ensures.only_field
