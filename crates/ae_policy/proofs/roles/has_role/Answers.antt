use Rattle.ae_policy.proofs.HasUser.{has_user_is}
use Rattle.ae_policy.proofs.roles.has_role.Goals as goal

pub returns : goal.returns
returns c = rw (← c.users_in.ensures) (has_user_is c.users_in.result.now c.args.user.now c.contains.result c.contains.ensures)
