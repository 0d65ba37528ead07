use Rattle.std.proofs.Common.{rules}
use Rattle.std.specs.Ordering.{is_lt}
use Rattle.std.proofs.lemmas.Fn.{always_returns_same}
use Rattle.ae_types.specs.declared.change.Evidence.{Evidence}
use Rattle.ae_types.specs.Runs.{run_cmp, run_of}
use Rattle.ae_types.proofs.Adjacent.{adjacent-ascends}
use Rattle.ae_rules.proofs.order.evidence_ascends.Goals as goal

pub returns : goal.returns
returns c = adjacent-ascends run_cmp run_of c.args.evidence.now c.is_sorted_by.result
    (c.is_sorted_by.ensures.cases (λ (x y : Evidence). is_lt (run_cmp (run_of x) (run_of y))) (always_returns_same _ _ _ (λ a r f' called. search rules)))
