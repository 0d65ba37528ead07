use Rattle.std.specs.Prelude.{◌≡◌, Some}
use Rattle.std.proofs.Common.{rules}
use Rattle.ae_base.specs.declared.refusal.Refusal.TheVariants.{NoProject}
use Rattle.ae_exec.specs.Endings.{refused}
use Rattle.ae_branch.specs.Begin.{refuses_trunk}
use Rattle.ae_branch.proofs.source.taken.Goals as goal

pub returns-in_default : goal.returns-in_default
returns-in_default c = let why : refuses_trunk c.args.who.now c.args.delta c.args.loaded ≡ Some NoProject = search rules in refused NoProject why

pub returns-in-Some-refuses_beginner : goal.returns-in-Some-refuses_beginner
returns-in-Some-refuses_beginner c = let why : refuses_trunk c.args.who.now c.args.delta c.args.loaded ≡ Some c.in-Some-refuses_beginner.refusal = search rules in refused c.in-Some-refuses_beginner.refusal why
