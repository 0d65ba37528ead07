use Rattle.std.proofs.Common.{◌≡◌, ◌+◌, ◌∙◌, ap, length, arith}
use Rattle.std.specs.Prelude.{count_by}
use Rattle.std.specs.Option.{is_none}
use Rattle.ae_types.specs.declared.change.ChangeFile.{ChangeFile}
use Rattle.ae_types.specs.Found.{row_in}
use Rattle.ae_machine.specs.Freezing.{paths_ever}
use Rattle.ae_machine.proofs.PathsEver.{length-ever}
use Rattle.ae_machine.proofs.integrating.paths_ever.Goals as goal

pub returns : goal.returns
returns c =
    let old = ap length c.files.ensures in
    let new = c.new_paths.ensures ∙ ap (count_by (λ (file : ChangeFile). is_none (row_in c.args.state.now.files file.path))) c.as_slice.ensures in
    let all : length (paths_ever c.args.state.now c.args.change.now) ≡ length c.args.state.now.files + count_by (λ (file : ChangeFile). is_none (row_in c.args.state.now.files file.path)) c.args.change.now.files =
    length-ever c.args.change.now.files c.args.state.now.files c.requires c.note_sound.ensures.sound.rows.ascend in
    omega (arith, old, new, all)
