use Rattle.std.proofs.Common.{◌<◌, arith}
use Rattle.std.proofs.lemmas.Grind.{common_steps}
use Rattle.ae_text.specs.WellFormed.{max_depth}
use Rattle.ae_text.proofs.pushdown.opened.Goals as goal

pub returns : goal.returns
returns c =
    let room : c.len.result < max_depth = c.if-len-ge-MAX_DEPTH.false in
    grind (arith, common_steps)
