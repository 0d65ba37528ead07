use Rattle.std.proofs.Common.{◌≡◌, ◌∙◌, List, ap, sym, rules}
use Rattle.ae_rlang.specs.declared.report.Link.{Link}
use Rattle.ae_rlang.specs.declared.report.Link.TheFolds.{the_lemmas}
use Rattle.ae_rlang.specs.Report.{Meant}
use Rattle.ae_rlang.specs.View.{meaning, atom_seen, links_seen, all_linked}
use Rattle.ae_report.specs.Frames.{known_of}
use Rattle.ae_report.specs.Values.{value, with_links}
use Rattle.ae_report.proofs.Chains.{links-value}
use Rattle.ae_report.proofs.expression.+value.Goals as goal

pub value-loop-link-init : goal.value-loop-link-init
value-loop-link-init t c =
    let e = c.args.expr.now in
    let known = known_of c.args.around.state.now c.args.around.bound.now c.args.around.totals.now in
    let said : meaning e ≡ all_linked (atom_seen e.line e.first) (links_seen e.links.items) = search (rules, the_lemmas) in
    ap (λ (m : Meant). value m known) said
    ∙ links-value (atom_seen e.line e.first) (links_seen e.links.items) known c.in_ok-value.value (c.in_ok-value.ensures e.line)
    ∙ ap (λ (ls : List Link). with_links (links_seen ls) known c.in_ok-value.value) (sym c.deref-link-items.ensures.value)
