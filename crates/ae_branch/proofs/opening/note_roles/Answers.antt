use Rattle.std.proofs.Common.{ℕ, List}
use Rattle.std.specs.List.{AllByRecursion}
use Rattle.ae_base.specs.Names.{IsUser}
use Rattle.ae_branch.proofs.OpeningFormed.{each_role}
use Rattle.ae_branch.proofs.opening.note_roles.Goals as goal

pub returns : goal.returns
returns c = each_role (λ (users : List (List ℕ)). AllByRecursion IsUser users) c.args.project.now c.note_users.ensures c.note_users-2.ensures c.note_users-3.ensures c.note_users-4.ensures
