use Rattle.std.proofs.Common.{◌≡◌, ℕ, false, length, List, Err, refl, sym, ◌∙◌, subst, arith}
use Rattle.ae_schema.specs.Files.{files_fields}
use Rattle.ae_schema.specs.Records.{IsTextOf}
use Rattle.ae_types.specs.declared.blame.Blame.TheVariants as blame
use Rattle.ae_types.specs.declared.file_table.FileRow.{FileRow}
use Rattle.ae_types.specs.declared.file_table.Lock.{Lock}
use Rattle.ae_types.specs.Rules.{files_are_good}
use Rattle.ae_store.specs.Damage.{ReadsTable}
use Rattle.ae_audit.specs.Steps.{IsRecordRead}
use Rattle.ae_store.proofs.Reading.{none_read}
use Rattle.ae_audit.proofs.Reading.{record_stops, bad_record}
use Rattle.ae_audit.proofs.records.good_table.Goals as goal

pub returns-then-files_are_good-clause-value : goal.returns-then-files_are_good-clause-value
returns-then-files_are_good-clause-value c = λ files at.
    let tested = rw (c.len.ensures, c.as_slice.ensures, c.as_slice-in-Ok.ensures) at c.files_are_good.ensures in
    record {
      is = (c.in-Ok.ensures.fits, subst (λ (bytes : List ℕ). IsTextOf bytes (files_fields (c.in-Ok.rows, c.in-Ok.locks))) (sym at) c.in-Ok.ensures.found);
      good = sym tested ∙ c.if-files_are_good.true;
    }

pub returns-else-files_are_good-clause-value : goal.returns-else-files_are_good-clause-value
returns-else-files_are_good-clause-value c = λ files at.
    let bad : files_are_good (length c.args.project.now.deltas) c.in-Ok.rows c.in-Ok.locks ≡ false = grind arith in (
      refl,
      none_read (λ (t : List FileRow × List Lock). ReadsTable files c.args.project.now t.0 t.1) (c.in-Ok.rows, c.in-Ok.locks) c.read_files.result c.in-Ok.is
          (λ t reads. c.read_files.ensures.only t reads.is.0 (subst (λ (bytes : List ℕ). IsTextOf bytes (files_fields t)) at reads.is.1))
          (λ reads. let good = reads.good in cc),
    )

pub returns-in-Err-clause-value : goal.returns-in-Err-clause-value
returns-in-Err-clause-value c = λ files at.
    subst (λ s. IsRecordRead (λ (t : List FileRow × List Lock). ReadsTable files c.args.project.now t.0 t.1) blame.Files (Err s)) (sym c.stop_of.ensures)
    (bad_record (λ (t : List FileRow × List Lock). ReadsTable files c.args.project.now t.0 t.1) blame.Files c.in-Err.error c.read_files.result c.in-Err.is
    (λ t reads. c.read_files.ensures.only t reads.is.0 (subst (λ (bytes : List ℕ). IsTextOf bytes (files_fields t)) at reads.is.1)))

pub returns-in-Err-clause-no_fault : goal.returns-in-Err-clause-no_fault
returns-in-Err-clause-no_fault c = λ fault. record_stops c.in-Err.error _ c.stop_of.result c.stop_of.ensures fault
