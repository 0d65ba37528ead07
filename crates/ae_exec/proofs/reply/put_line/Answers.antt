use Rattle.std.proofs.Common.{ℕ, ap, refl}
use Rattle.ae_machine.specs.Replies.{event_text}
use Rattle.ae_exec.proofs.Lines.{line_is, same_line}
use Rattle.ae_exec.proofs.reply.put_line.Goals as goal

pub returns : goal.returns
returns c =
    same_line _ _ _ _ _ _ _ _ c.project_name.ensures refl (ap (λ (delta : ℕ). event_text delta c.args.event.now.what) c.next_delta.ensures)
    (line_is _ _ _ _ _ _ _ _ _ _ c.in_ok-extend_from_slice.ensures.items c.in_ok-extend_from_slice-2.ensures.items c.in_ok-extend_from_slice-3.ensures.items c.in_ok-put_change.ensures c.in_ok-put_event.ensures c.in_ok-push.ensures.items)
