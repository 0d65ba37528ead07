use Rattle.std.proofs.Common.{◌≡◌, ◌∙◌, [], ◌∷◌, ap, rules}
use Rattle.std.proofs.lemmas.List.{map-append}
use Rattle.ae_rlang.specs.declared.report.Expr.{Expr}
use Rattle.ae_rlang.specs.declared.report.Link.TheViews.{roll-Expr}
use Rattle.ae_rlang.specs.declared.report.Link.TheFolds.{the_lemmas}
use Rattle.ae_rlang.specs.View.{meaning, atom_seen, link_seen, links_seen, all_linked}
use Rattle.ae_rlang.proofs.Chains.{chain-more}
use Rattle.ae_rlang.proofs.operand.with_link.Goals as goal

pub returns : goal.returns
returns c =
    let e = c.args.expr in
    let made : Expr = roll-Expr record { line = e.line; first = e.first; links = c.push.new.self } in
    let before : meaning e ≡ all_linked (atom_seen e.line e.first) (links_seen e.links.items) = search (rules, the_lemmas) in
    let after : meaning made ≡ all_linked (atom_seen e.line e.first) (links_seen c.push.new.self.items) = search (rules, the_lemmas) in
    chain-more (atom_seen e.line e.first) (meaning e) (meaning made) (links_seen e.links.items) (links_seen c.push.new.self.items) (link_seen c.args.link) before after
    (ap links_seen c.in_ok-push.ensures.items ∙ map-append link_seen e.links.items (c.args.link ∷ []))
