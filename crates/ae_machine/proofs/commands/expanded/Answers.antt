use Rattle.std.proofs.Common.{rules, ◌≡◌, subst, Some, IfOk}
use Rattle.std.specs.Option.{option_copied, IfSome}
use Rattle.ae_conf.specs.Config.{template_of}
use Rattle.ae_conf.specs.Values.{IsCommand}
use Rattle.ae_machine.proofs.CommandBytes.{expanded-stands}
use Rattle.ae_machine.proofs.commands.expanded.Goals as goal

pub returns-in-Ok-clause-may_run : goal.returns-in-Ok-clause-may_run
returns-in-Ok-clause-may_run c =
    let there : option_copied c.args.template ≡ Some c.in-Some.template.now = search rules in
    let good : IsCommand c.in-Some.template.now = subst (λ t. IfSome t IsCommand) there c.requires.template in
    subst (λ r. IfOk r IsCommand) c.in-Ok.ensures (expanded-stands (template_of c.in-Some.template.now c.args.line) c.args.values.now c.requires.values good)
