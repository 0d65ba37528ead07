use Rattle.std.proofs.Common.{rules, arith, ◌≡◌, ap, length, take}
use Rattle.ae_reader.specs.Cut.{content_of}
use Rattle.ae_reader.proofs.reader.LineReader.hand_out.Goals as goal

pub returns-clause-within : goal.returns-clause-within
returns-clause-within c =
    let same : c.content-text.result.now ≡ content_of (take c.args.len c.args.self.now.unread) = search rules in
    let fits : length (take c.args.len c.args.self.now.unread) ≡ c.args.len = search rules in
    let at : c.args.self.now.at ≡ c.self.inside.at = search rules in
    record {
      in_script = omega (arith, fits, at, c.if-self-len.false);
      in_line = omega (arith, ap length same, c.if-text-gt-MOST_IN_LINE.false);
    }
