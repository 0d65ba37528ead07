use Rattle.std.proofs.Common.{ap, sym, ◌∙◌, List, ℕ, Some}
use Rattle.std.specs.Option.{option_map}
use Rattle.ae_base.specs.declared.refusal.Refusal.TheVariants.{PathClash}
use Rattle.ae_machine.specs.PathClash.{path_clash}
use Rattle.ae_machine.proofs.PathClash.{path-clear-is}
use Rattle.ae_machine.proofs.path_clash.path_is_clear.Goals as goal

pub returns-in_ok-least-in-Some : goal.returns-in_ok-least-in-Some
returns-in_ok-least-in-Some c =
    path-clear-is c.args.state.now c.args.files.now c.args.path.now c.note_sound.ensures.sound c.requires.ascend c.requires.clear
    ∙ sym (ap (λ (path : List ℕ). Some (PathClash path)) c.in_ok-least-in-Some.ensures ∙ ap (option_map PathClash) (c.in-Some.ensures ∙ ap (path_clash c.args.state.now c.args.files.now) c.bytes.ensures.value))

pub returns-in-None : goal.returns-in-None
returns-in-None c =
    path-clear-is c.args.state.now c.args.files.now c.args.path.now c.note_sound.ensures.sound c.requires.ascend c.requires.clear
    ∙ sym (ap (option_map PathClash) (c.in-None.ensures ∙ ap (path_clash c.args.state.now c.args.files.now) c.bytes.ensures.value))
