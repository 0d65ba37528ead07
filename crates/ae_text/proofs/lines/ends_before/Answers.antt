use Rattle.std.proofs.Common.{arith}
use Rattle.ae_text.proofs.LineEnds.{ends_between}
use Rattle.ae_text.proofs.lines.ends_before.Goals as goal

pub returns-then-to-bytes : goal.returns-then-to-bytes
returns-then-to-bytes c =
    let between = ends_between c.args.bytes.now c.args.from c.args.to (omega arith) in
    omega (arith, c.requires, c.count_ends.ensures.count, between)
