use Rattle.ae_base.specs.declared.want.Want.TheVariants.{All}
use Rattle.ae_store.proofs.Formats.{second_needs_none, needs_none_migrated}
use Rattle.ae_store.proofs.OneState.{one_format, one_shown}
use Rattle.ae_store.proofs.laws.note_formats.Goals as goal

pub returns-clause-one_stands : goal.returns-clause-one_stands
returns-clause-one_stands c = one_shown All

pub returns-clause-one_format : goal.returns-clause-one_format
returns-clause-one_format c = one_format All All

pub returns-clause-second : goal.returns-clause-second
returns-clause-second c = second_needs_none

pub returns-clause-migrated : goal.returns-clause-migrated
returns-clause-migrated c = needs_none_migrated
