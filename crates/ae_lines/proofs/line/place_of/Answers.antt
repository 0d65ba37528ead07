use Rattle.std.proofs.Common.{sym, ◌∙◌}
use Rattle.ae_lines.proofs.LineLemmas.{named_place, place_is}
use Rattle.ae_lines.proofs.line.place_of.Goals as goal

pub returns-in-Some-dir_named-clause-is : goal.returns-in-Some-dir_named-clause-is
returns-in-Some-dir_named-clause-is c =
    place_is c.args.dir.now c.args.path.now c.in-Some.path c.in-Some-dir_named.dir (sym c.in-Some.is ∙ c.in_ok-path.ensures) (sym c.dir_named.ensures ∙ c.in-Some-dir_named.is)

pub returns-in-Some-dir_named-clause-ready : goal.returns-in-Some-dir_named-clause-ready
returns-in-Some-dir_named-clause-ready c =
    named_place c.args.dir.now c.args.path.now _
    (place_is c.args.dir.now c.args.path.now c.in-Some.path c.in-Some-dir_named.dir (sym c.in-Some.is ∙ c.in_ok-path.ensures) (sym c.dir_named.ensures ∙ c.in-Some-dir_named.is))
