use Rattle.std.proofs.Common.{rules}
use Rattle.std.specs.Ordering.{is_lt}
use Rattle.std.proofs.lemmas.Fn.{always_returns_same}
use Rattle.ae_types.proofs.Adjacent.{adjacent-ascends}
use Rattle.ae_schema.proofs.ascending.ascend.Goals as goal

pub returns : goal.returns
returns g c = adjacent-ascends g.T.Keyed.order g.T.Keyed.key c.args.rows.now c.is_sorted_by.result
    (c.is_sorted_by.ensures.cases (λ x y. is_lt (g.T.Keyed.order (g.T.Keyed.key x) (g.T.Keyed.key y))) (always_returns_same _ _ _ (λ a r f' called. search rules)))
