use Rattle.std.proofs.Common.{rules, ◌≡◌, List, not, filter, ap, ◌∙◌}
use Rattle.std.proofs.lemmas.Fn.{filter_same}
use Rattle.ae_outside.specs.Dirs.{dir_eq}
use Rattle.ae_memory.specs.FileRows.{tree_of}
use Rattle.ae_memory.proofs.FileRowLaws.{dir_gone, dir_elsewhere}
use Rattle.ae_memory.specs.declared.site_files.FileRow.{FileRow}
use Rattle.ae_memory.proofs.site_files.drop_dir.Goals as goal

filtered : (c : goal.After-retain) → c.retain.new.self.items ≡ filter (λ f. not (dir_eq f.dir c.args.dir.now)) c.args.files.now.items
filtered c = filter_same _ _ _ (λ x b f' k. search rules) _ _ c.retain.ensures.filtered

pub returns-clause-here : goal.returns-clause-here
returns-clause-here c = ap (λ (l : List FileRow). tree_of l c.args.dir.now) (filtered c) ∙ dir_gone c.args.dir.now c.args.files.now.items

pub returns-clause-others : goal.returns-clause-others
returns-clause-others c = record { others = λ d differ. ap (λ (l : List FileRow). tree_of l d) (filtered c) ∙ dir_elsewhere c.args.dir.now d c.args.files.now.items differ }
