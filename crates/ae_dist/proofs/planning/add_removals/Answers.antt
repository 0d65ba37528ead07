use Rattle.std.specs.Prelude.{option_copied}
use Rattle.std.proofs.Common.{◌∙◌, ap, ◌++◌, []}
use Rattle.std.specs.List.{cons_option}
use Rattle.ae_dist.specs.Plan.{removal, tree_in}
use Rattle.ae_types.proofs.Places.{more-made}
use Rattle.ae_dist.proofs.planning.add_removals.Goals as goal

pub loop-file-preserved : goal.loop-file-preserved
loop-file-preserved c =
    more-made (removal (tree_in (option_copied c.args.state)) c.args.number) c.args.files.now c.loop-file.file-index c.file-item.result c.args.acts.now c.loop-file.acts c.add_act.new.acts c.loop-file-test.true c.file-item.is c.loop-file.invariant
    (c.in_ok-add_act.ensures ∙ ap (λ act. c.loop-file.acts ++ cons_option act []) c.in_ok-act.ensures)
