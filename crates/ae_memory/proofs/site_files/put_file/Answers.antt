use Rattle.std.proofs.Common.{rules, ◌≡◌, List, Some, None, ap, ◌∙◌}
use Rattle.ae_outside.specs.Trees.{with_file}
use Rattle.ae_outside.specs.TreeLaws.{with_file_over}
use Rattle.ae_memory.specs.FileRows.{tree_of}
use Rattle.ae_memory.proofs.FileRowLaws.{file_put, put_elsewhere}
use Rattle.ae_memory.specs.declared.site_files.FileRow.{FileRow}
use Rattle.ae_memory.proofs.site_files.put_file.Goals as goal

row : (c : goal.In_ok-push) → FileRow
row c = record { dir = c.args.dir.now; path = c.in_ok-copy.field-0; bytes = c.of.result }

pub returns-in_err-push-clause-others : goal.returns-in_err-push-clause-others
returns-in_err-push-clause-others c = record { others = λ d differ. ap (λ (l : List FileRow). tree_of l d) c.in_err-push.ensures.items ∙ c.drop_file.ensures.others.others d differ }

pub returns-clause-here : goal.returns-clause-here
unfolding row
returns-clause-here c =
    let path_is : c.in_ok-copy.field-0 ≡ c.args.path.now = c.in_ok-copy.ensures in
    let bytes_is : c.of.result ≡ c.args.bytes.now = search rules in
    ap (λ (l : List FileRow). tree_of l c.args.dir.now) c.in_ok-push.ensures.items
    ∙ file_put c.drop_file.new.files.items (row c)
    ∙ (λ i. with_file (path_is i) (Some (bytes_is i)) (c.drop_file.ensures.here i))
    ∙ with_file_over c.args.path.now (Some c.args.bytes.now) None (tree_of c.args.files.now.items c.args.dir.now)

pub returns-clause-others : goal.returns-clause-others
unfolding row
returns-clause-others c = record { others = λ d differ. ap (λ (l : List FileRow). tree_of l d) c.in_ok-push.ensures.items ∙ put_elsewhere c.drop_file.new.files.items (row c) d differ ∙ c.drop_file.ensures.others.others d differ }
