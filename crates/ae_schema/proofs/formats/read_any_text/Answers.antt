use Rattle.std.proofs.Common.{ℕ, List, Err, inl, unwrap_or, ap, ◌∙◌}
use Rattle.std.specs.Prelude.{slice_get}
use Rattle.ae_text.specs.View.{node, fields_seen}
use Rattle.ae_schema.specs.Records.{last_line}
use Rattle.ae_schema.specs.Formats.{format_number}
use Rattle.ae_schema.proofs.Texts.{text_is_structure}
use Rattle.ae_schema.proofs.ToldFormats.{one_format, told_format, told_none, never_none, one_line, no_answer, no_refusal}
use Rattle.ae_schema.proofs.formats.read_any_text.Goals as goal

pub fields_of-requires : goal.fields_of-requires
fields_of-requires c = text_is_structure c.args.bytes.now (node c.in-Ok.parsed.tree) c.in-Ok.parsed.lines c.in-Ok.ensures.found

pub returns-in-Err-clause-only : goal.returns-in-Err-clause-only
returns-in-Err-clause-only c format text =
    no_answer c.args.bytes.now c.in-Err.error (λ line e. inl (c.read_text.ensures.bad line (c.in-Err.is ∙ ap Err e))) format text

pub returns-in-Err-clause-only_field : goal.returns-in-Err-clause-only_field
returns-in-Err-clause-only_field c line told =
    no_refusal c.args.bytes.now c.in-Err.error (λ other e. inl (c.read_text.ensures.bad other (c.in-Err.is ∙ ap Err e))) line told

pub returns-in-Some-clause-only : goal.returns-in-Some-clause-only
returns-in-Some-clause-only c format text =
    let tells = told_format c.args.bytes.now c.in-Ok.parsed.lines (node c.in-Ok.parsed.tree) (fields_seen c.fields_of.result.now) c.in-Ok.ensures.found c.fields_of.ensures c.in-Some.format c.in-Some.ensures.some in
    c.number.ensures ∙ ap format_number (one_format c.args.bytes.now c.in-Some.format format tells text)

pub returns-in-Some-clause-only_field : goal.returns-in-Some-clause-only_field
returns-in-Some-clause-only_field c line told =
    let tells = told_format c.args.bytes.now c.in-Ok.parsed.lines (node c.in-Ok.parsed.tree) (fields_seen c.fields_of.result.now) c.in-Ok.ensures.found c.fields_of.ensures c.in-Some.format c.in-Some.ensures.some in
    never_none c.args.bytes.now c.in-Some.format tells line told

pub returns-clause-only : goal.returns-clause-only
returns-clause-only c format text =
    let none = told_none c.args.bytes.now c.in-Ok.parsed.lines (node c.in-Ok.parsed.tree) (fields_seen c.fields_of.result.now) c.in-Ok.ensures.found c.fields_of.ensures c.in-None.ensures.none in
    never_none c.args.bytes.now format text _ none

pub returns-clause-only_field : goal.returns-clause-only_field
returns-clause-only_field c line told =
    let none = told_none c.args.bytes.now c.in-Ok.parsed.lines (node c.in-Ok.parsed.tree) (fields_seen c.fields_of.result.now) c.in-Ok.ensures.found c.fields_of.ensures c.in-None.ensures.none in
    c.line_at.ensures
    ∙ ap (λ (lines : List ℕ). unwrap_or (slice_get lines 0) (last_line c.args.bytes.now)) c.lines.ensures
    ∙ one_line c.args.bytes.now _ line none told
