use Rattle.std.proofs.Common.{sym, ap, ◌∙◌, List}
use Rattle.ae_types.specs.declared.change.ChangeFile.{ChangeFile}
use Rattle.ae_types.specs.Found.{file_in}
use Rattle.std.specs.Option.{option_copied}
use Rattle.ae_rules.proofs.ClearPaths.{there-file, there-row, there-tree}
use Rattle.ae_rules.proofs.clashes.is_there.Goals as goal

pub returns-in-Some-file_in : goal.returns-in-Some-file_in
returns-in-Some-file_in c = c.is_some.ensures ∙ there-file c.args.deltas c.args.rows.now c.args.path.now (option_copied c.args.change) c.in-Some.change.now c.in-Some-file_in.file.now (ap option_copied c.in-Some.is) c.requires (sym (c.in-Some-file_in.ensures ∙ ap (λ (files : List ChangeFile). file_in files c.args.path.now) c.as_slice.ensures))

pub returns-in-None-file_in : goal.returns-in-None-file_in
returns-in-None-file_in c = c.is_in_tree.ensures ∙ there-row c.args.deltas c.args.rows.now c.args.path.now (option_copied c.args.change) c.in-Some.change.now (ap option_copied c.in-Some.is) c.requires (sym (c.in-None-file_in.ensures ∙ ap (λ (files : List ChangeFile). file_in files c.args.path.now) c.as_slice.ensures))

pub returns-in-None : goal.returns-in-None
returns-in-None c = c.is_in_tree-in-None.ensures ∙ there-tree c.args.deltas c.args.rows.now c.args.path.now (option_copied c.args.change) (ap option_copied c.in-None.is) c.requires
