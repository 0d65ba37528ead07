use Rattle.ae_base.proofs.Ascii.{utf8_user}
use Rattle.ae_base.proofs.user.User.as_str.Goals as goal

pub unreachable-requires : goal.unreachable-requires
unreachable-requires c = c.in-Err.ensures.cases.0 (rw c.bytes.ensures.value (utf8_user c.args.self.now c.bytes.ensures.user))
