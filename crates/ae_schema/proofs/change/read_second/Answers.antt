use Rattle.ae_schema.specs.declared.format.Format.TheVariants.{Two}
use Rattle.ae_schema.specs.Fits.{FitsChange}
use Rattle.ae_schema.specs.Files.{change_fields}
use Rattle.ae_schema.proofs.Texts.{never_both}
use Rattle.ae_schema.proofs.Every.{one_change}
use Rattle.ae_schema.proofs.change.read_second.Goals as goal

pub returns-in-Ok-Some-clause-only : goal.returns-in-Ok-Some-clause-only
returns-in-Ok-Some-clause-only c x fits text =
    one_change Two c.args.bytes.now c.in-Ok-Some.change x (rw c.in-Ok-Some.field-0-is at c.in-Ok-Some.ensures.fits) fits (rw c.in-Ok-Some.field-0-is at c.in-Ok-Some.ensures.found) text

pub returns-in-Ok-Some-clause-only_field : goal.returns-in-Ok-Some-clause-only_field
returns-in-Ok-Some-clause-only_field c line w =
    never_both (FitsChange Two) (change_fields Two) c.args.bytes.now c.in-Ok-Some.change (rw c.in-Ok-Some.field-0-is at c.in-Ok-Some.ensures.fits) (rw c.in-Ok-Some.field-0-is at c.in-Ok-Some.ensures.found) line w
