use Rattle.std.proofs.Common.{◌≡◌, ℕ, false, List, Err, refl, sym, ◌∙◌, subst, arith}
use Rattle.ae_schema.specs.Files.{project_fields}
use Rattle.ae_schema.specs.Records.{IsTextOf}
use Rattle.ae_types.specs.declared.blame.Blame.TheVariants as blame
use Rattle.ae_types.specs.declared.project.Project.{Project}
use Rattle.ae_types.specs.Rules.{project_is_good}
use Rattle.ae_store.specs.Damage.{ReadsProject}
use Rattle.ae_audit.specs.Steps.{IsRecordRead}
use Rattle.ae_store.proofs.Reading.{none_read}
use Rattle.ae_audit.proofs.Reading.{record_stops, bad_record}
use Rattle.ae_audit.proofs.records.good_project.Goals as goal

pub returns-then-project_is_good-clause-value : goal.returns-then-project_is_good-clause-value
returns-then-project_is_good-clause-value c = λ files at.
    let tested = rw c.as_slice.ensures at c.project_is_good.ensures in
    record {
      is = (c.in-Ok.ensures.fits, subst (λ (bytes : List ℕ). IsTextOf bytes (project_fields c.args.format (c.in-Ok.project, c.in-Ok.numbers))) (sym at) c.in-Ok.ensures.found);
      good = sym tested ∙ c.if-project_is_good.true;
    }

pub returns-else-project_is_good-clause-value : goal.returns-else-project_is_good-clause-value
returns-else-project_is_good-clause-value c = λ files at. (
  refl,
  let bad : project_is_good c.in-Ok.project c.in-Ok.numbers ≡ false = grind arith in
      none_read (λ (p : Project × List ℕ). ReadsProject c.args.format files p.0 p.1) (c.in-Ok.project, c.in-Ok.numbers) c.read_project_in.result c.in-Ok.is
      (λ p reads. c.read_project_in.ensures.only p reads.is.0 (subst (λ (bytes : List ℕ). IsTextOf bytes (project_fields c.args.format p)) at reads.is.1))
      (λ reads. let good = reads.good in cc),
)

pub returns-in-Err-clause-value : goal.returns-in-Err-clause-value
returns-in-Err-clause-value c = λ files at.
    subst (λ s. IsRecordRead (λ (p : Project × List ℕ). ReadsProject c.args.format files p.0 p.1) blame.Project (Err s)) (sym c.stop_of.ensures)
    (bad_record (λ (p : Project × List ℕ). ReadsProject c.args.format files p.0 p.1) blame.Project c.in-Err.error c.read_project_in.result c.in-Err.is
    (λ p reads. c.read_project_in.ensures.only p reads.is.0 (subst (λ (bytes : List ℕ). IsTextOf bytes (project_fields c.args.format p)) at reads.is.1)))

pub returns-in-Err-clause-no_fault : goal.returns-in-Err-clause-no_fault
returns-in-Err-clause-no_fault c = λ fault. record_stops c.in-Err.error _ c.stop_of.result c.stop_of.ensures fault
