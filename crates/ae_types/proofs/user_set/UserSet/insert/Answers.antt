use Rattle.std.proofs.Common.{◌∙◌}
use Rattle.ae_types.proofs.UserLists.{insert_key-absent}
use Rattle.ae_types.proofs.user_set.UserSet.insert.Goals as goal

pub returns-clause-ok : goal.returns-clause-ok
returns-clause-ok c =
    let absent = rw (← c.self.view_is) at c.requires in
    rw (← c.self.view_is) (c.in_ok-insert.ensures.keys ∙ insert_key-absent c.self.inside.users.keys c.args.user absent)
