use Rattle.std.proofs.Common.{sym, ◌∙◌, true, false, rules}
use Rattle.ae_types.specs.Sound.{Sound}
use Rattle.ae_machine.proofs.ClashingPaths.{in-file, in-row}
use Rattle.ae_machine.proofs.clashes.path_there.Goals as goal

pub returns-then-is_removed : goal.returns-then-is_removed
returns-then-is_removed c =
    let sound : Sound c.args.state.now = search rules in
    in-file c.args.state.now c.args.files.now c.args.path.now sound c.requires c.in-Some.file.now true c.in-Some.ensures (sym c.if-is_removed.true ∙ c.is_removed.ensures)

pub returns-else-is_removed : goal.returns-else-is_removed
returns-else-is_removed c =
    let sound : Sound c.args.state.now = search rules in
    in-file c.args.state.now c.args.files.now c.args.path.now sound c.requires c.in-Some.file.now false c.in-Some.ensures (sym c.if-is_removed.false ∙ c.is_removed.ensures)

pub returns-in-None : goal.returns-in-None
returns-in-None c =
    let sound : Sound c.args.state.now = search rules in
    c.standing_path.ensures ∙ in-row c.args.state.now c.args.files.now c.args.path.now sound c.requires c.in-None.ensures
