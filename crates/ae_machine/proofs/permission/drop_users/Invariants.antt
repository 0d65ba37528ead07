use Rattle.std.proofs.Common.{◌≡◌, drop}
use Rattle.ae_types.specs.Roles.{users_of}
use Rattle.ae_machine.specs.Permission.{all_dropped}
use Rattle.ae_machine.proofs.permission.drop_users.Given as goal

abbrev pub invariant-loop-user : goal.invariant-loop-user
invariant-loop-user l = all_dropped l.role (drop l.user-index l.users) (users_of l.role l.project) ≡ all_dropped l.role l.users (users_of l.role l.initial.project)
