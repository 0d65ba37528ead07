use Rattle.std.specs.Prelude.{◌≡◌, Some}
use Rattle.std.proofs.Common.{rules}
use Rattle.ae_base.specs.declared.refusal.Refusal.TheVariants.{ProjectExists}
use Rattle.ae_exec.specs.Endings.{refused}
use Rattle.ae_branch.specs.Begin.{refuses_branch}
use Rattle.ae_branch.proofs.beginning.left.Goals as goal

pub returns-in-Some : goal.returns-in-Some
returns-in-Some c = let why : refuses_branch c.args.loaded ≡ Some ProjectExists = search rules in refused ProjectExists why
