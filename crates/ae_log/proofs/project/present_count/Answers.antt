use Rattle.std.proofs.Common.{◌+◌, ◌∙◌, ap, sym, arith, length, take}
use mir.Val.{bool_byte}
use Rattle.std.specs.Prelude.{is_some}
use Rattle.ae_base.specs.Rows.{Row}
use Rattle.ae_types.specs.Frozen.{present}
use Rattle.ae_log.proofs.FrozenFiles.{made-more, made-few, byte-few}
use Rattle.ae_log.proofs.project.present_count.Goals as goal

pub overflow_add-count : goal.overflow_add-count
overflow_add-count c =
    omega (arith, c.loop-row.invariant, made-few c.args.tree.now c.loop-row.row-index, c.from-count.ensures, byte-few c.is_some.result, c.loop-row-test.true)

pub loop-row-preserved : goal.loop-row-preserved
loop-row-preserved c =
    ap (λ n. n + c.from-count.result) c.loop-row.invariant
    ∙ ap (λ n. length (present (take c.loop-row.row-index c.args.tree.now)) + n) (c.from-count.ensures ∙ ap bool_byte (c.is_some.ensures ∙ ap (λ (x : Row). is_some x.1) c.row-item.is))
    ∙ sym (made-more c.args.tree.now c.loop-row.row-index c.row-item.result c.loop-row-test.true)
