use Rattle.std.proofs.Common.{Err, ap, ◌∙◌}
use Rattle.ae_schema.specs.Fits.{FitsProject}
use Rattle.ae_schema.specs.Files.{project_fields}
use Rattle.ae_schema.specs.Shapes.{project_from, project_shape}
use Rattle.ae_schema.proofs.FieldsFit.{to_project, from_project, project_line}
use Rattle.ae_schema.proofs.Texts.{never_both, same_error, bad_answer, bad_refusal}
use Rattle.ae_schema.proofs.project.read_as.Goals as goal

pub returns-in-Ok-clause-found : goal.returns-in-Ok-clause-found
returns-in-Ok-clause-found g c = rw c.project_of.ensures.value c.in-Ok.ensures.found

pub returns-in-Ok-clause-fits : goal.returns-in-Ok-clause-fits
returns-in-Ok-clause-fits g c = rw c.project_of.ensures.value (to_project c.in-Ok.fields c.in-Ok.ensures.fits)

pub returns-in-Ok-clause-only : goal.returns-in-Ok-clause-only
returns-in-Ok-clause-only g c x fits text =
    c.project_of.ensures.value ∙ ap project_from (rw c.in-Ok.is at (c.read_record.ensures.only (project_shape x) (from_project x fits) text))

pub returns-in-Ok-clause-only_field : goal.returns-in-Ok-clause-only_field
returns-in-Ok-clause-only_field g c line w =
    never_both FitsProject (project_fields g.F.FormatType.format) c.args.bytes.now (project_from c.in-Ok.fields) (to_project c.in-Ok.fields c.in-Ok.ensures.fits) c.in-Ok.ensures.found line w

pub returns-in-Err-clause-only : goal.returns-in-Err-clause-only
returns-in-Err-clause-only g c x fits text =
    bad_answer FitsProject (project_fields g.F.FormatType.format) c.args.bytes.now c.in-Err.error
    (λ line e. project_line g.F.FormatType.format c.args.bytes.now line (c.read_record.ensures.bad line (c.in-Err.is ∙ ap Err e))) x fits text

pub returns-in-Err-clause-field : goal.returns-in-Err-clause-field
returns-in-Err-clause-field g c line e =
    project_line g.F.FormatType.format c.args.bytes.now line (c.read_record.ensures.bad line (c.in-Err.is ∙ ap Err (same_error _ _ e)))

pub returns-in-Err-clause-only_field : goal.returns-in-Err-clause-only_field
returns-in-Err-clause-only_field g c line w =
    bad_refusal FitsProject (project_fields g.F.FormatType.format) c.args.bytes.now c.in-Err.error
    (λ other e. project_line g.F.FormatType.format c.args.bytes.now other (c.read_record.ensures.bad other (c.in-Err.is ∙ ap Err e))) line w
