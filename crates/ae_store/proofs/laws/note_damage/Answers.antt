use Rattle.ae_store.proofs.EveryImage.{every_image}
use Rattle.ae_store.proofs.OneState.{one_show, state_not_damaged, one_blamed}
use Rattle.ae_store.proofs.laws.note_damage.Goals as goal

pub returns-clause-every : goal.returns-clause-every
returns-clause-every c = every_image

pub returns-clause-one_state : goal.returns-clause-one_state
returns-clause-one_state c = one_show

pub returns-clause-never_both : goal.returns-clause-never_both
returns-clause-never_both c = state_not_damaged

pub returns-clause-one_blamed : goal.returns-clause-one_blamed
returns-clause-one_blamed c = one_blamed
