use Rattle.ae_schema.proofs.Put.{one_line}
use Rattle.ae_schema.proofs.value.put_line.Goals as goal

pub returns-clause-put : goal.returns-clause-put
returns-clause-put g c =
    one_line c.args.out.now.items _ _ c.args.name.now (g.T.Decode.spelled c.args.value.now)
    c.in_ok-put_named.ensures.text c.in_ok-push.ensures.items c.in_ok-put_named.ensures.types
