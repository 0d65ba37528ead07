use Rattle.std.proofs.Common.{rules}
use Rattle.ae_machine.specs.Replies.{change_text}
use Rattle.ae_exec.proofs.Lines.{put_after}
use Rattle.ae_exec.proofs.reply.put_change.Goals as goal

pub returns-in_ok-format-in-Some : goal.returns-in_ok-format-in-Some
returns-in_ok-format-in-Some c = put_after c.extend_from_slice.result _ c.args.text.now.items c.as_bytes.result.now (change_text c.args.change) c.extend_from_slice.ensures.items (search rules)
