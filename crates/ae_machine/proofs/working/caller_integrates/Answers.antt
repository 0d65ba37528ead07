use Rattle.std.proofs.Common.{rules, ◌≡◌, ◌∙◌, sym, ap, Bool, true, Some}
use Rattle.ae_base.specs.declared.words.Phase.{Phase}
use Rattle.ae_types.specs.Phases.{is_integrating}
use Rattle.ae_machine.specs.Call.{change_of}
use Rattle.ae_machine.proofs.WhoWorks.{comes, integrator-there, named-good}
use Rattle.ae_machine.proofs.working.caller_integrates.Goals as goal

pub integrator_is_caller-requires : goal.integrator_is_caller-requires
integrator_is_caller-requires c =
    let change = c.in-Some.change.now in
    let call = c.args.call.now in
    let found : change_of call ≡ Some change = search rules in
    let integrates : is_integrating change.phase ≡ true = sym (ap (λ (may : Phase → Bool). may change.phase) c.requires.integrating) ∙ comes call change found c.requires.phase in
    record { integrated = integrator-there change (named-good call.stands call.command.change change c.note_sound.ensures found) integrates }
