use Rattle.std.proofs.Common.{◌++◌, ◌∷◌, [], ap, ◌∙◌}
use Rattle.ae_dist.specs.Sending.{sent_row}
use Rattle.ae_dist.proofs.Sizes.{map_next}
use Rattle.ae_dist.proofs.rows.sent_rows.Goals as goal

pub loop-file-preserved : goal.loop-file-preserved
loop-file-preserved c =
    map_next (sent_row c.args.state.now c.delta_made-delta.result) c.as_slice-file-items.result.now c.loop-file.file-index c.file-item.result c.loop-file.rows.items c.push.new.self.items c.loop-file-test.true c.file-item.is c.loop-file.invariant
    (c.in_ok-push.ensures.items ∙ ap (λ row. c.loop-file.rows.items ++ row ∷ []) c.in_ok-row.ensures)
