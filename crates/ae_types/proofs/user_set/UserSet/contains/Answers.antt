use Rattle.ae_types.proofs.UserLists.{contains_user}
use Rattle.ae_types.proofs.user_set.UserSet.contains.Goals as goal

pub returns : goal.returns
returns c = rw (c.contains.ensures, ← c.self.view_is) (contains_user c.self.inside.users c.args.user.now)
