use Rattle.std.proofs.Common.{rules, ◌≡◌, ◌∙◌, sym, ap, List, Option, Some, None, not, nat_eq, length}
use Rattle.ae_base.specs.declared.refusal.Refusal.{Refusal}
use Rattle.ae_base.specs.declared.refusal.Refusal.TheVariants.{NoTest}
use Rattle.ae_types.specs.Runs.{Needed}
use Rattle.ae_machine.specs.Call.{call_of, change_of, unless}
use Rattle.ae_machine.specs.Freezing.{group_is_there}
use Rattle.ae_machine.specs.Runs.{group}
use Rattle.ae_machine.proofs.Conditions.{of-change}
use Rattle.ae_machine.proofs.PathSplits.{named-files}
use Rattle.ae_machine.proofs.working.there_are_tests.Goals as goal

-- why there is nothing to run, by the runs
abbrev why : List Needed → Option Refusal
why runs = unless (not (nat_eq (length runs) 0)) NoTest

pub group-requires : goal.group-requires
group-requires c =
    let found : change_of c.args.call.now ≡ Some c.in-Some.change.now = search rules in
    named-files c.args.call.now.stands c.args.call.now.command.change c.in-Some.change.now c.note_sound.ensures found

pub returns-then-len-eq0 : goal.returns-then-len-eq0
returns-then-len-eq0 c =
    let call = c.args.call.now in
    let change = c.in-Some.change.now in
    let found : change_of call ≡ Some change = search rules in
    let these : c.in_ok-runs.runs ≡ group call change = c.in_ok-runs.ensures call.who ∙ (λ i. group (call_of (c.state.ensures i) (c.command.ensures i) call.who) change) in
    let none : why c.in_ok-runs.runs ≡ Some NoTest = search rules in
    of-change group_is_there call change found ∙ ap why (sym these) ∙ none

pub returns : goal.returns
returns c =
    let call = c.args.call.now in
    let change = c.in-Some.change.now in
    let found : change_of call ≡ Some change = search rules in
    let these : c.in_ok-runs.runs ≡ group call change = c.in_ok-runs.ensures call.who ∙ (λ i. group (call_of (c.state.ensures i) (c.command.ensures i) call.who) change) in
    let some : why c.in_ok-runs.runs ≡ None = search rules in
    of-change group_is_there call change found ∙ ap why (sym these) ∙ some
