use Rattle.std.proofs.Common.{ap, sym, ◌∙◌, true, false, List}
use Rattle.ae_types.specs.declared.file_table.FileRow.{FileRow}
use Rattle.ae_types.specs.Found.{row_in}
use Rattle.ae_machine.proofs.ClashingPaths.{standing-found}
use Rattle.ae_machine.proofs.clashes.standing_path.Goals as goal

pub returns-then-is_in_baseline : goal.returns-then-is_in_baseline
returns-then-is_in_baseline c = standing-found c.args.state.now c.args.path.now c.in_ok-row.row.now true (c.in_ok-row.ensures ∙ ap (λ (rows : List FileRow). row_in rows c.args.path.now) c.files.ensures) (sym c.if-is_in_baseline.true ∙ c.is_in_baseline.ensures)

pub returns-else-is_in_baseline : goal.returns-else-is_in_baseline
returns-else-is_in_baseline c = standing-found c.args.state.now c.args.path.now c.in_ok-row.row.now false (c.in_ok-row.ensures ∙ ap (λ (rows : List FileRow). row_in rows c.args.path.now) c.files.ensures) (sym c.if-is_in_baseline.false ∙ c.is_in_baseline.ensures)
