use Rattle.ae_schema.specs.declared.format.Format.TheVariants.{Two}
use Rattle.ae_schema.specs.Fits.{FitsProject}
use Rattle.ae_schema.specs.Files.{project_fields}
use Rattle.ae_schema.proofs.Texts.{never_both}
use Rattle.ae_schema.proofs.Every.{one_project}
use Rattle.ae_schema.proofs.project.read_second.Goals as goal

pub returns-in-Ok-Some-clause-only : goal.returns-in-Ok-Some-clause-only
returns-in-Ok-Some-clause-only c x fits text =
    one_project Two c.args.bytes.now c.in-Ok-Some.project x (rw c.in-Ok-Some.field-0-is at c.in-Ok-Some.ensures.fits) fits (rw c.in-Ok-Some.field-0-is at c.in-Ok-Some.ensures.found) text

pub returns-in-Ok-Some-clause-only_field : goal.returns-in-Ok-Some-clause-only_field
returns-in-Ok-Some-clause-only_field c line w =
    never_both FitsProject (project_fields Two) c.args.bytes.now c.in-Ok-Some.project (rw c.in-Ok-Some.field-0-is at c.in-Ok-Some.ensures.fits) (rw c.in-Ok-Some.field-0-is at c.in-Ok-Some.ensures.found) line w
