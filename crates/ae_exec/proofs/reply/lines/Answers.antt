use Rattle.std.proofs.Common.{◌∙◌, ap, map, List}
use Rattle.std.proofs.lemmas.List.{take_all}
use Rattle.std.specs.Prelude.{option_copied}
use Rattle.std.specs.List.{concat}
use Rattle.ae_log.specs.declared.event.Event.{Event}
use Rattle.ae_machine.specs.Replies.{event_line}
use Rattle.ae_exec.proofs.Lines.{one_line}
use Rattle.ae_exec.proofs.reply.lines.Goals as goal

pub loop-event-preserved : goal.loop-event-preserved
loop-event-preserved c = one_line (event_line (option_copied c.args.old)) c.args.events.now _ _ _ _ c.loop-event-test.true c.event-item.is c.loop-event.invariant c.in_ok-put_line.ensures

pub returns : goal.returns
returns c = c.loop-event.invariant ∙ ap (λ (events : List Event). concat (map (event_line (option_copied c.args.old)) events)) (take_all c.loop-event.event-index c.args.events.now c.loop-event-test.false)
