-- The file of attributes is the one condition that is left, and gives the one event.
use Rattle.std.proofs.Common.{◌≡◌, Option, Some, None, refl, rules}
use Rattle.std.specs.Option.{option_or}
use Rattle.ae_base.specs.declared.refusal.Refusal.{Refusal}
use Rattle.ae_words.specs.declared.table.Function.TheVariants as function
use Rattle.ae_machine.proofs.EndAnswer.{right-before}
use Rattle.ae_machine.proofs.deciding.decide_after.Goals as goal

alone : (refusal : Option Refusal) → option_or refusal None ≡ refusal
alone None = refl
alone (Some refusal) = refl

pub returns-in-ProjectAttributes : goal.returns-in-ProjectAttributes
returns-in-ProjectAttributes c = λ bytes shown.
    let this : c.args.call.now.command.function ≡ function.ProjectAttributes = search rules in
    rw (this, alone) (rw this at c.set_project_attributes.ensures)

pub returns-in-NewChange : goal.returns-in-NewChange
returns-in-NewChange c = λ bytes shown.
    let this : c.args.call.now.command.function ≡ function.NewChange = search rules in
    rw (this, alone) (rw this at c.make_change.ensures)

pub returns-in-ChangeAttributes : goal.returns-in-ChangeAttributes
returns-in-ChangeAttributes c = λ bytes shown.
    let this : c.args.call.now.command.function ≡ function.ChangeAttributes = search rules in
    rw (this, alone) (rw this at c.set_change_attributes.ensures)

pub decide_end-requires-clause-phase : goal.decide_end-requires-clause-phase
decide_end-requires-clause-phase c =
    let this : c.args.call.now.command.function ≡ function.DevelopEnd = search rules in
    right-before c.args.call.now.stands c.args.call.now.command c.args.call.now.who this c.requires.passed
