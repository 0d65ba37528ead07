use Rattle.std.proofs.Common.{◌≡◌, map, take}
use Rattle.ae_log.specs.declared.event.EventKind.TheVariants.{RoleAdd}
use Rattle.ae_machine.proofs.events.accept_added.Given as goal
use Rattle.ae_log.specs.Maker.{event_by}

abbrev pub invariant-loop-user : goal.invariant-loop-user
invariant-loop-user l = l.events ≡ map (event_by l.maker l.change) (map (RoleAdd l.role) (take l.user-index l.user-items))
