use Rattle.std.proofs.Common.{◌≡◌}
use Rattle.ae_log.specs.After.{after_all}
use Rattle.ae_machine.specs.Accepted.{AppliesAll}
use Rattle.ae_types.specs.Sound.{Sound}
use Rattle.ae_exec.proofs.next.applied.Given as goal

abbrev pub invariant-loop-event : goal.invariant-loop-event
invariant-loop-event l =
    (after_all l.state l.event-iterator.rest.items ≡ after_all l.fn.state l.fn.events) × AppliesAll l.state l.event-iterator.rest.items × Sound l.state
