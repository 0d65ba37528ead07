use Rattle.std.proofs.Common.{◌≡◌, Some, rules}
use Rattle.std.specs.Prelude.{option_copied}
use Rattle.ae_base.specs.declared.refusal.Refusal.TheVariants.{NoProject, WrongProject}
use Rattle.ae_exec.specs.Endings.{refused}
use Rattle.ae_dist.specs.Sending.{refuses_project}
use Rattle.ae_dist.proofs.opening.taken.Goals as goal

pub returns-in_default : goal.returns-in_default
returns-in_default c = let why : refuses_project (option_copied c.args.name) c.args.loaded ≡ Some NoProject = search rules in refused NoProject why

pub returns-then-is_other : goal.returns-then-is_other
returns-then-is_other c = let why : refuses_project (option_copied c.args.name) c.args.loaded ≡ Some WrongProject = search rules in refused WrongProject why
