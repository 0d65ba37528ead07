use Rattle.std.proofs.Common.{◌≡◌, sym, ◌∙◌, refl, Some, None}
use Rattle.std.specs.Prelude.{position, slice_get}
use Rattle.ae_text.specs.View.{named_node, fields_seen}
use Rattle.ae_conf.specs.Fields.{kinds_seen, is_wrong}
use Rattle.ae_conf.proofs.Places.{position-map, found_number}
use Rattle.ae_conf.proofs.fields.first_wrong.Goals as goal

pub returns-in-Some : goal.returns-in-Some
returns-in-Some c =
    let place : position (is_wrong (kinds_seen c.args.kinds.now)) (fields_seen c.args.fields.now) ≡ Some c.in-Some.at =
    position-map named_node (is_wrong (kinds_seen c.args.kinds.now)) c.args.fields.now ∙ sym c.wrong_place.ensures ∙ c.in-Some.is in
    let found : c.copied.result ≡ slice_get c.args.lines.now c.in-Some.at =
    c.copied.ensures ∙ found_number c.get.result c.args.lines.now c.in-Some.at c.get.ensures.lookup.1 c.get.ensures.lookup.3 in
    rw place found

pub returns-in-None : goal.returns-in-None
returns-in-None c =
    let place : position (is_wrong (kinds_seen c.args.kinds.now)) (fields_seen c.args.fields.now) ≡ None =
    position-map named_node (is_wrong (kinds_seen c.args.kinds.now)) c.args.fields.now ∙ sym c.wrong_place.ensures ∙ c.in-None.is in
    rw place refl
