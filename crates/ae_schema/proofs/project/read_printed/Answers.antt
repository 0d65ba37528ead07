use Rattle.std.proofs.Common.{List, ℕ, subst}
use Rattle.ae_schema.specs.declared.format.Format.TheVariants.{Two}
use Rattle.ae_schema.specs.Records.{IsTextOf}
use Rattle.ae_schema.specs.Files.{project_fields}
use Rattle.ae_schema.proofs.project.read_printed.Goals as goal

pub returns-in-Ok-true-clause-found : goal.returns-in-Ok-true-clause-found
returns-in-Ok-true-clause-found c =
    subst (λ (numbers : List ℕ). IsTextOf c.args.bytes.now (project_fields Two (c.project_of-project.result.0, numbers))) c.as_slice.ensures
    (c.in-Ok-true.ensures.text c.in-Ok-true.field-0-test)
