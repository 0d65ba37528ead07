use Rattle.std.proofs.Common.{ap, ◌∙◌}
use Rattle.ae_schema.specs.declared.format.Format.TheVariants.{Two}
use Rattle.ae_schema.specs.Formats.{format_number}
use Rattle.ae_schema.proofs.ToldFormats.{project_tells, one_format, never_none}
use Rattle.ae_schema.proofs.formats.read_format.Goals as goal

pub returns-in-Ok-Some-clause-found : goal.returns-in-Ok-Some-clause-found
returns-in-Ok-Some-clause-found c =
    (Two, c.number.ensures, project_tells Two _ c.args.bytes.now (rw c.in-Ok-Some.field-0-is at c.in-Ok-Some.ensures.found))

pub returns-in-Ok-Some-clause-only : goal.returns-in-Ok-Some-clause-only
returns-in-Ok-Some-clause-only c format text =
    let tells = project_tells Two _ c.args.bytes.now (rw c.in-Ok-Some.field-0-is at c.in-Ok-Some.ensures.found) in
    c.number.ensures ∙ ap format_number (one_format c.args.bytes.now Two format tells text)

pub returns-in-Ok-Some-clause-only_field : goal.returns-in-Ok-Some-clause-only_field
returns-in-Ok-Some-clause-only_field c line told =
    let tells = project_tells Two _ c.args.bytes.now (rw c.in-Ok-Some.field-0-is at c.in-Ok-Some.ensures.found) in
    never_none c.args.bytes.now Two tells line told
