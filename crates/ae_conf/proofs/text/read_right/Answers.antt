use Rattle.std.proofs.Common.{◌≡◌, ℕ, Option, Some, None, Ok, Err, sym, ap, ◌∙◌}
use Rattle.std.specs.Option.{option_map_or}
use Rattle.ae_text.specs.View.{node}
use Rattle.ae_conf.specs.declared.error.ConfError.TheVariants.{Line}
use Rattle.ae_conf.specs.Fields.{fields_in, kinds_seen, first_wrong}
use Rattle.ae_conf.proofs.Texts.{text_fields, error_line}
use Rattle.ae_conf.proofs.text.read_right.Goals as goal

pub returns-in-Some-clause-line : goal.returns-in-Some-clause-line
returns-in-Some-clause-line c line e =
    let kinds = kinds_seen c.args.kinds.now in
    let tree = node c.in-Ok.parsed.tree in
    let wrong : first_wrong kinds (fields_in tree) c.in-Ok.parsed.lines ≡ Some c.in-Some.line =
    sym (rw (c.fields_of.ensures, c.lines.ensures) at c.first_wrong.ensures) ∙ c.in-Some.is in
    let same : c.in-Some.line ≡ line = cc (e) in
    text_fields kinds c.args.bytes.now tree c.in-Ok.parsed.lines c.in-Ok.ensures.found
    ∙ ap (λ (o : Option ℕ). option_map_or Err o (Ok (fields_in tree))) wrong ∙ ap Err same

pub returns-in-None-clause-text : goal.returns-in-None-clause-text
returns-in-None-clause-text c =
    let kinds = kinds_seen c.args.kinds.now in
    let tree = node c.in-Ok.parsed.tree in
    let right : first_wrong kinds (fields_in tree) c.in-Ok.parsed.lines ≡ None =
    sym (rw (c.fields_of.ensures, c.lines.ensures) at c.first_wrong.ensures) ∙ c.in-None.is in
    text_fields kinds c.args.bytes.now tree c.in-Ok.parsed.lines c.in-Ok.ensures.found
    ∙ ap (λ (o : Option ℕ). option_map_or Err o (Ok (fields_in tree))) right

pub returns-in-Err-clause-line : goal.returns-in-Err-clause-line
returns-in-Err-clause-line c line e =
    let same : c.in-Err.error ≡ Line line = cc (e) in
    error_line (kinds_seen c.args.kinds.now) c.args.bytes.now line (c.read_text.ensures.bad line (c.in-Err.is ∙ ap Err same))
