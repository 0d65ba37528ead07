use Rattle.std.proofs.Common.{List, ℕ, sym, ◌∙◌, subst}
use Rattle.std.proofs.lemmas.Slice.Eq.{bytes_eq-Decides}
use Rattle.ae_schema.specs.declared.format.Format.TheVariants.{Two}
use Rattle.ae_schema.specs.Records.{IsTextOf}
use Rattle.ae_schema.specs.Files.{project_fields}
use Rattle.ae_schema.proofs.project.are_printed.Goals as goal

pub returns-clause-text : goal.returns-clause-text
returns-clause-text c is_same =
    let same = (bytes_eq-Decides c.as_slice.result.now c.args.bytes.now).0 (sym c.eq.ensures ∙ is_same) in
    subst (λ (bytes : List ℕ). IsTextOf bytes (project_fields Two (c.args.project.now, c.args.numbers.now))) (sym c.as_slice.ensures.value ∙ same) c.in_ok-text.ensures.again
