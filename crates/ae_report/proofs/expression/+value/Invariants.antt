use Rattle.std.proofs.Common.{◌≡◌, drop}
use Rattle.ae_rlang.specs.View.{meaning, links_seen}
use Rattle.ae_report.specs.Frames.{known_of}
use Rattle.ae_report.specs.Values.{value, with_links}
use Rattle.ae_report.proofs.expression.+value.Given as goal

abbrev pub invariant-value-loop-link : goal.invariant-value-loop-link
invariant-value-loop-link l =
    let known = known_of l.around.state.now l.around.bound.now l.around.totals.now in
    value (meaning l.expr) known ≡ with_links (links_seen (drop l.link-index l.link-items)) known l.value
