use Rattle.std.proofs.Common.{◌≡◌, ℕ, Err, refl, ap, ◌∙◌}
use Rattle.ae_schema.specs.Fits.{FitsFiles}
use Rattle.ae_schema.specs.Records.{IsBadLine}
use Rattle.ae_schema.specs.Files.{files_fields}
use Rattle.ae_schema.specs.Shapes.{files_from, files_shape}
use Rattle.ae_schema.proofs.FieldsFit.{FilesFieldsFit, to_files, from_files}
use Rattle.ae_schema.proofs.Texts.{never_both, same_line, same_error, bad_answer, bad_refusal}
use Rattle.ae_schema.specs.declared.error.SchemaError.TheVariants.{Field}
use Rattle.ae_schema.proofs.file_table.read_any_text.Goals as goal

-- a bad line of the fields is one of the record
abbrev Bad : goal.In-Err → Type 0
Bad c = (line : ℕ) → c.in-Err.error ≡ Field line → IsBadLine FitsFiles files_fields c.args.bytes.now line

bad : (c : goal.In-Err) → Bad c
bad c line e =
    same_line FilesFieldsFit FitsFiles (λ f. files_fields (files_from f)) files_fields files_from files_shape to_files from_files (λ f. refl) (λ x. refl)
    c.args.bytes.now line (c.read_record.ensures.bad line (c.in-Err.is ∙ ap Err e))

pub returns-in-Ok-clause-fits : goal.returns-in-Ok-clause-fits
returns-in-Ok-clause-fits c = rw c.files_of.ensures.value (to_files c.in-Ok.fields c.in-Ok.ensures.fits)

pub returns-in-Ok-clause-only : goal.returns-in-Ok-clause-only
returns-in-Ok-clause-only c x fits text =
    c.files_of.ensures.value ∙ ap files_from (rw c.in-Ok.is at (c.read_record.ensures.only (files_shape x) (from_files x fits) text))

pub returns-in-Ok-clause-only_field : goal.returns-in-Ok-clause-only_field
returns-in-Ok-clause-only_field c line w =
    never_both FitsFiles files_fields c.args.bytes.now (files_from c.in-Ok.fields) (to_files c.in-Ok.fields c.in-Ok.ensures.fits) c.in-Ok.ensures.found line w

pub returns-in-Err-clause-only : goal.returns-in-Err-clause-only
returns-in-Err-clause-only c x fits text = bad_answer FitsFiles files_fields c.args.bytes.now c.in-Err.error (bad c) x fits text

pub returns-in-Err-clause-field : goal.returns-in-Err-clause-field
returns-in-Err-clause-field c line e = bad c line (same_error _ _ e)

pub returns-in-Err-clause-only_field : goal.returns-in-Err-clause-only_field
returns-in-Err-clause-only_field c line w = bad_refusal FitsFiles files_fields c.args.bytes.now c.in-Err.error (bad c) line w
