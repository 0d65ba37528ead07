use Rattle.ae_schema.specs.Fits.{FitsFiles}
use Rattle.ae_schema.specs.Files.{files_fields}
use Rattle.ae_schema.proofs.Texts.{never_both}
use Rattle.ae_schema.proofs.Every.{one_table}
use Rattle.ae_schema.proofs.file_table.read_files.Goals as goal

pub returns-in-Ok-Some-clause-only : goal.returns-in-Ok-Some-clause-only
returns-in-Ok-Some-clause-only c x fits text =
    one_table c.args.bytes.now c.in-Ok-Some.files x (rw c.in-Ok-Some.field-0-is at c.in-Ok-Some.ensures.fits) fits (rw c.in-Ok-Some.field-0-is at c.in-Ok-Some.ensures.found) text

pub returns-in-Ok-Some-clause-only_field : goal.returns-in-Ok-Some-clause-only_field
returns-in-Ok-Some-clause-only_field c line w =
    never_both FitsFiles files_fields c.args.bytes.now c.in-Ok-Some.files
    (rw c.in-Ok-Some.field-0-is at c.in-Ok-Some.ensures.fits) (rw c.in-Ok-Some.field-0-is at c.in-Ok-Some.ensures.found) line w
