use Rattle.ae_base.proofs.Ascii.{utf8_path}
use Rattle.ae_base.proofs.path.Path.as_str.Goals as goal

pub unreachable-requires : goal.unreachable-requires
unreachable-requires c = c.in-Err.ensures.cases.0 (rw c.bytes.ensures.value (utf8_path c.args.self.now c.bytes.ensures.path))
