use Rattle.std.proofs.Common.{◌≡◌, map, take}
use Rattle.std.specs.Prelude.{option_copied}
use Rattle.std.specs.List.{concat}
use Rattle.ae_machine.specs.Replies.{event_line}
use Rattle.ae_exec.proofs.reply.lines.Given as goal

abbrev pub invariant-loop-event : goal.invariant-loop-event
invariant-loop-event l = l.text.items ≡ concat (map (event_line (option_copied l.old)) (take l.event-index l.events))
