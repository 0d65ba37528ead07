use Rattle.ae_exec.proofs.Following.{one_more, may_apply}
use Rattle.ae_exec.proofs.next.applied.Goals as goal

pub apply-requires : goal.apply-requires
apply-requires c = record { may = may_apply _ _ _ _ c.in-Some.ensures.steps.0 c.loop-event.invariant.1 c.loop-event.invariant.2 }

pub loop-event-preserved : goal.loop-event-preserved
loop-event-preserved c = one_more _ _ _ _ _ _ c.in-Some.ensures.steps.0 c.in_ok-state.ensures c.loop-event.invariant
