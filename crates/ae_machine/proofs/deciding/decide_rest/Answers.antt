use Rattle.std.specs.Option.{option_copied}
use Rattle.ae_machine.specs.Accepted.{occasion_at}
use Rattle.ae_machine.proofs.Making.{answers-provided}
use Rattle.ae_machine.proofs.deciding.decide_rest.Goals as goal

pub returns-clause-provided : goal.returns-clause-provided
returns-clause-provided c = answers-provided (option_copied c.args.state) (occasion_at c.args.command.now c.args.who.now c.args.now c.args.view.now) _ c.answer_after.ensures
