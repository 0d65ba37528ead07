use Rattle.std.proofs.Common.{◌≡◌, drop}
use Rattle.ae_types.specs.Roles.{users_of}
use Rattle.ae_machine.specs.Permission.{all_added}
use Rattle.ae_machine.proofs.permission.add_users.Given as goal

abbrev pub invariant-loop-user : goal.invariant-loop-user
invariant-loop-user l = all_added (drop l.user-index l.users) (users_of l.role l.project) ≡ all_added l.users (users_of l.role l.initial.project)
