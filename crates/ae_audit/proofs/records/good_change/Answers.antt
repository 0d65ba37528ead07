use Rattle.std.proofs.Common.{ℕ, List, Err, refl, sym, ◌∙◌, subst, arith}
use Rattle.std.proofs.lemmas.Bool.Decides.{nat_tests}
use Rattle.ae_schema.specs.Files.{change_fields}
use Rattle.ae_schema.specs.Records.{IsTextOf}
use Rattle.ae_types.specs.declared.blame.Blame.TheVariants as blame
use Rattle.ae_store.specs.Damage.{ReadsChange}
use Rattle.ae_audit.specs.Steps.{IsRecordRead}
use Rattle.ae_store.proofs.Reading.{none_read}
use Rattle.ae_audit.proofs.Reading.{record_stops, bad_record}
use Rattle.ae_audit.proofs.records.good_change.Goals as goal
use Rattle.ae_audit.proofs.records.good_change.Goals.{else-eq-via-else-eq, else-eq-via-then-eq+else-change_is_good}

pub returns-then-change_is_good-clause-value : goal.returns-then-change_is_good-clause-value
returns-then-change_is_good-clause-value c = λ files at. record {
  is = (c.in-Ok.ensures.fits, subst (λ (bytes : List ℕ). IsTextOf bytes (change_fields c.args.format c.in-Ok.change)) (sym at) c.in-Ok.ensures.found);
  numbered = let same = c.if-eq.true in let tested = c.eq.ensures in grind (arith, nat_tests);
  good = sym c.change_is_good.ensures ∙ c.if-change_is_good.true;
}

pub returns-in-Err-clause-value : goal.returns-in-Err-clause-value
returns-in-Err-clause-value c = λ files at.
    subst (λ s. IsRecordRead (ReadsChange c.args.format files c.args.number) (blame.Change c.args.number) (Err s)) (sym c.stop_of.ensures)
    (bad_record (ReadsChange c.args.format files c.args.number) (blame.Change c.args.number) c.in-Err.error c.read_change_in.result c.in-Err.is
    (λ change reads. c.read_change_in.ensures.only change reads.is.0 (subst (λ (bytes : List ℕ). IsTextOf bytes (change_fields c.args.format change)) at reads.is.1)))

pub returns-in-Err-clause-no_fault : goal.returns-in-Err-clause-no_fault
returns-in-Err-clause-no_fault c = λ fault. record_stops c.in-Err.error _ c.stop_of.result c.stop_of.ensures fault

pub returns-else-eq-clause-value : goal.returns-else-eq-clause-value
returns-else-eq-clause-value c = λ files at. (
  refl,
  none_read (ReadsChange c.args.format files c.args.number) c.in-Ok.change c.read_change_in.result c.in-Ok.is
      (λ change reads. c.read_change_in.ensures.only change reads.is.0 (subst (λ (bytes : List ℕ). IsTextOf bytes (change_fields c.args.format change)) at reads.is.1))
      (λ reads. elim c.else-eq.branch [
        | else-eq-via-else-eq w ↦ let same = reads.numbered in let tested = c.eq.ensures in let other = w.if-eq.false in grind (arith, nat_tests)
        | else-eq-via-then-eq+else-change_is_good w ↦ let good = reads.good in let tested = w.change_is_good.ensures in let bad = w.if-change_is_good.false in cc
      ]),
)
