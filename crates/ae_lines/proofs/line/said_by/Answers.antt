use Rattle.ae_lines.proofs.LineLemmas.{test_is, none_do}
use Rattle.ae_lines.proofs.line.said_by.Goals as goal

pub returns-then-eq-3-clause-none : goal.returns-then-eq-3-clause-none
returns-then-eq-3-clause-none c =
    none_do c.args.name.now c.args.rest.now c.command_line.result
    (test_is c.args.name.now _ _ _ _ c.eq.ensures c.as_slice.ensures c.if-eq.false)
    (test_is c.args.name.now _ _ _ _ c.eq-else-eq.ensures c.as_slice-else-eq.ensures c.if-eq-2.false)
    (test_is c.args.name.now _ _ _ _ c.eq-else-eq-2.ensures c.as_slice-else-eq-2.ensures c.if-eq-3.true)
    c.command_line.ensures.none
