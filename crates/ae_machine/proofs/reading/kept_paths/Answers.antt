use Rattle.std.proofs.Common.{◌≡◌, ◌∙◌, sym, ap, subst, not}
use Rattle.std.specs.Prelude.{filter}
use Rattle.std.proofs.lemmas.List.{take_all}
use Rattle.ae_types.specs.declared.change.ChangeFile.{ChangeFile}
use Rattle.ae_types.specs.Found.{file_path}
use Rattle.ae_types.specs.Ordered.{Ascends, itself}
use Rattle.ae_types.specs.Phases.{is_remove}
use Rattle.ae_base.specs.Rows.{text_cmp}
use Rattle.ae_types.proofs.Keys.{by_text}
use Rattle.ae_types.proofs.Ordered.{filter-ascends}
use Rattle.ae_machine.specs.Sight.{kept}
use Rattle.ae_machine.proofs.Picked.{picked-more, keys-ascend}
use Rattle.ae_machine.proofs.reading.kept_paths.Goals as goal

pub loop-file-preserved : goal.loop-file-preserved
loop-file-preserved c = picked-more (λ (file : ChangeFile). not (is_remove file.action)) file_path c.args.files.now c.loop-file.file-index c.file-item.result c.loop-file.paths c.push_kept.new.paths c.loop-file-test.true c.file-item.is c.loop-file.invariant c.in_ok-push_kept.ensures

all-kept : (c : goal.After-loop-file) → c.loop-file.paths ≡ kept c.args.files.now
all-kept c = c.loop-file.invariant ∙ ap kept (take_all c.loop-file.file-index c.args.files.now c.loop-file-test.false)

pub returns-clause-paths : goal.returns-clause-paths
returns-clause-paths c = all-kept c

pub returns-clause-ascend : goal.returns-clause-ascend
returns-clause-ascend c =
    subst (Ascends text_cmp itself) (sym (all-kept c))
    (keys-ascend file_path (filter (λ (file : ChangeFile). not (is_remove file.action)) c.args.files.now)
    (filter-ascends by_text file_path (λ (file : ChangeFile). not (is_remove file.action)) c.args.files.now c.requires))
