use Rattle.std.proofs.Common.{◌≡◌, Bool, true, Some, if◌then◌else◌, ap, sym, ◌∙◌}
use Rattle.ae_base.specs.Rows.{Rows}
use Rattle.ae_outside.specs.Trees.{Tree, no_files, with_file, with_rows}
use Rattle.ae_outside.specs.TreeLaws.{with_rows_put}
use Rattle.ae_outside.specs.Dirs.{dir_eq}
use Rattle.ae_memory.proofs.site_files.note_file.Goals as goal

pub returns-in_ok-put : goal.returns-in_ok-put
returns-in_ok-put c =
    let here : dir_eq c.args.file.now.dir c.args.dir.now ≡ true = sym c.is_dir.ensures ∙ c.if-is_dir.true in
    let old : Tree = with_rows c.args.snapshot.now no_files in
    ap (λ (r : Rows). with_rows r no_files) c.in_ok-put.ensures.ok
    ∙ with_rows_put c.in_ok-copy.field-0 (Some c.in_ok-copy-2.field-0) c.args.snapshot.now no_files c.in_ok-put.ensures.ascended
    ∙ (λ i. with_file (c.in_ok-copy.ensures i) (Some (c.in_ok-copy-2.ensures i)) old)
    ∙ ap (λ (b : Bool). if b then with_file c.args.file.now.path (Some c.args.file.now.bytes) old else old) (sym here)
