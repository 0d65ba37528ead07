use Rattle.std.proofs.Common.{List, take, ap, sym, ◌∙◌}
use Rattle.std.proofs.lemmas.List.{take_more}
use Rattle.ae_memory.specs.FileRows.{tree_of, with_row}
use Rattle.ae_memory.proofs.FileRowLaws.{tree_push}
use Rattle.ae_memory.specs.declared.site_files.FileRow.{FileRow}
use Rattle.ae_memory.proofs.site_files.snapshot_of.Goals as goal

pub loop-file-preserved : goal.loop-file-preserved
loop-file-preserved c =
    let file : FileRow = c.file-item.result in
    c.in_ok-note_file.ensures
    ∙ (λ i. with_row c.args.dir.now (c.file-item.is i) (c.loop-file.invariant i))
    ∙ sym (tree_push (take c.loop-file.file-index c.args.files.now) _ c.args.dir.now)
    ∙ ap (λ (l : List FileRow). tree_of l c.args.dir.now) (sym (take_more c.args.files.now c.loop-file.file-index file c.loop-file-test.true))
