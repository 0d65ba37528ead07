use Rattle.std.proofs.Common.{ap, sym, ◌∙◌, List, ℕ, Some}
use Rattle.std.specs.Option.{option_map}
use Rattle.ae_base.specs.declared.refusal.Refusal.TheVariants.{PathClash}
use Rattle.ae_machine.proofs.ClashingPaths.{clear-is}
use Rattle.ae_machine.proofs.clashes.are_clear.Goals as goal

pub returns-in_ok-path-in-Some : goal.returns-in_ok-path-in-Some
returns-in_ok-path-in-Some c =
    clear-is c.args.state.now c.args.files.now c.note_sound.ensures.sound c.requires
    ∙ sym (ap (λ (path : List ℕ). Some (PathClash path)) c.in_ok-path-in-Some.ensures ∙ ap (option_map PathClash) c.in-Some.ensures)

pub returns-in-None : goal.returns-in-None
returns-in-None c = clear-is c.args.state.now c.args.files.now c.note_sound.ensures.sound c.requires ∙ sym (ap (option_map PathClash) c.in-None.ensures)
