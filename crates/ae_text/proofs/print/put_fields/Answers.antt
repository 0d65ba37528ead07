use Rattle.ae_text.proofs.Printed.{put_line, member_fits}
use Rattle.ae_text.proofs.print.put_fields.Goals as goal

pub loop-field-preserved : goal.loop-field-preserved
loop-field-preserved c =
    let loop = c.loop-field in
    let field = c.field-item in (
      put_line c.args.fields.now loop.field-index field.result field.is c.loop-field-test.true loop.out.items _ _ _ c.in_ok-put_field.ensures.text c.in_ok-push.ensures.items loop.invariant.0,
      λ rest. loop.invariant.1 (member_fits c.args.fields.now loop.field-index field.result field.is c.loop-field-test.true c.in_ok-put_field.ensures.types rest),
    )
