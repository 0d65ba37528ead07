use Rattle.std.proofs.Common.{Err, ap, ◌∙◌}
use Rattle.ae_schema.specs.Fits.{FitsChange}
use Rattle.ae_schema.specs.Files.{change_fields}
use Rattle.ae_schema.specs.Shapes.{change_from, change_shape}
use Rattle.ae_schema.proofs.FieldsFit.{to_change, from_change, change_line}
use Rattle.ae_schema.proofs.Texts.{never_both, same_error, bad_answer, bad_refusal}
use Rattle.ae_schema.proofs.change.read_as.Goals as goal

pub returns-in-Ok-clause-found : goal.returns-in-Ok-clause-found
returns-in-Ok-clause-found g c = rw c.change_of.ensures.value c.in-Ok.ensures.found

pub returns-in-Ok-clause-fits : goal.returns-in-Ok-clause-fits
returns-in-Ok-clause-fits g c = rw c.change_of.ensures.value (to_change g.F.FormatType.format c.in-Ok.fields c.in-Ok.ensures.fits)

pub returns-in-Ok-clause-only : goal.returns-in-Ok-clause-only
returns-in-Ok-clause-only g c x fits text =
    c.change_of.ensures.value
    ∙ ap change_from (rw c.in-Ok.is at (c.read_record.ensures.only (change_shape x) (from_change g.F.FormatType.format x fits) text))

pub returns-in-Ok-clause-only_field : goal.returns-in-Ok-clause-only_field
returns-in-Ok-clause-only_field g c line w =
    never_both (FitsChange g.F.FormatType.format) (change_fields g.F.FormatType.format) c.args.bytes.now
    (change_from c.in-Ok.fields) (to_change g.F.FormatType.format c.in-Ok.fields c.in-Ok.ensures.fits) c.in-Ok.ensures.found line w

pub returns-in-Err-clause-only : goal.returns-in-Err-clause-only
returns-in-Err-clause-only g c x fits text =
    bad_answer (FitsChange g.F.FormatType.format) (change_fields g.F.FormatType.format) c.args.bytes.now c.in-Err.error
    (λ line e. change_line g.F.FormatType.format c.args.bytes.now line (c.read_record.ensures.bad line (c.in-Err.is ∙ ap Err e))) x fits text

pub returns-in-Err-clause-field : goal.returns-in-Err-clause-field
returns-in-Err-clause-field g c line e =
    change_line g.F.FormatType.format c.args.bytes.now line (c.read_record.ensures.bad line (c.in-Err.is ∙ ap Err (same_error _ _ e)))

pub returns-in-Err-clause-only_field : goal.returns-in-Err-clause-only_field
returns-in-Err-clause-only_field g c line w =
    bad_refusal (FitsChange g.F.FormatType.format) (change_fields g.F.FormatType.format) c.args.bytes.now c.in-Err.error
    (λ other e. change_line g.F.FormatType.format c.args.bytes.now other (c.read_record.ensures.bad other (c.in-Err.is ∙ ap Err e))) line w
