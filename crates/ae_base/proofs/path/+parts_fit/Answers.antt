use Rattle.std.proofs.Common.{ℕ, ◌+◌, ◌&&◌, Bool, List, drop, ap, sym, ◌∙◌}
use Rattle.std.proofs.lemmas.List.{take_rest}
use Rattle.std.specs.List.{list_all}
use Rattle.ae_base.specs.Names.{is_part, parts}
use Rattle.ae_base.proofs.PathParts.{parts_good-cut, parts_good-whole}
use Rattle.ae_base.proofs.path.+parts_fit.Goals as goal

pub returns-in-None : goal.returns-in-None
returns-in-None t c = c.part_fits.ensures ∙ sym (parts_good-whole c.args.text.now (sym c.first_slash.ensures ∙ c.in-None.is))

pub returns-then-part_fits : goal.returns-then-part_fits
returns-then-part_fits t c =
    let text = c.args.text.now in
    let behind = list_all is_part (parts (drop (c.in-Some.at + 1) text)) in
    c.parts_fit.ensures
    ∙ ap (λ (l : List ℕ). list_all is_part (parts l)) (take_rest text (c.in-Some.at + 1))
    ∙ ap (λ (b : Bool). b && behind) (sym c.if-part_fits.true ∙ c.part_fits-in-Some.ensures)
    ∙ sym (parts_good-cut text c.in-Some.at (sym c.first_slash.ensures ∙ c.in-Some.is))

pub returns-else-part_fits : goal.returns-else-part_fits
returns-else-part_fits t c =
    let text = c.args.text.now in
    let behind = list_all is_part (parts (drop (c.in-Some.at + 1) text)) in
    c.if-part_fits.false
    ∙ ap (λ (b : Bool). b && behind) (sym c.if-part_fits.false ∙ c.part_fits-in-Some.ensures)
    ∙ sym (parts_good-cut text c.in-Some.at (sym c.first_slash.ensures ∙ c.in-Some.is))
