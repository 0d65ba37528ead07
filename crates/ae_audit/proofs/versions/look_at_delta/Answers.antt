use Rattle.std.proofs.Common.{Err, List, [], ℕ, ap, subst}
use Rattle.std.specs.List.{cons_option}
use Rattle.std.proofs.Math.Nat.{le_trans}
use Rattle.std.proofs.lemmas.Result.{err_from_is_err_and}
use Rattle.std.proofs.lemmas.List.{take_all}
use Rattle.ae_outside.specs.Image.{Image}
use Rattle.ae_outside.specs.State.{reads}
use Rattle.ae_outside.specs.Time.{same_on, same_reads}
use Rattle.ae_types.specs.declared.file_table.FileRow.{FileRow}
use Rattle.ae_audit.specs.Files.{files_by, pack_file}
use Rattle.ae_audit.specs.Intact.{AreIntact, version_by, made_by}
use Rattle.ae_audit.specs.Steps.{IsLooked}
use Rattle.ae_audit.proofs.Looked.{row-inside, row-intact, more-intact, look_stops}
use Rattle.ae_audit.proofs.versions.look_at_delta.Goals as goal

pub look_in_row-requires : goal.look_in_row-requires
look_in_row-requires g c = row-inside c.args.delta c.args.rows.now c.loop-row.row-index c.row-item.result c.loop-row-test.true c.row-item.is c.requires

pub loop-row-preserved : goal.loop-row-preserved
loop-row-preserved g c = record {
  change = λ t. same_on _ _ _ (c.loop-row.invariant.change t) (c.look_in_row.ensures.change t);
  later = le_trans c.loop-row.invariant.later c.look_in_row.ensures.cause.later;
  looked = λ t.
      let same = ap (λ (image : Image). files_by c.args.redo.now image pack_file) (same_reads _ _ (c.loop-row.invariant.change t)) in
      more-intact c.args.delta c.args.rows.now c.loop-row.row-index c.row-item.result c.loop-row-test.true c.row-item.is _ (c.loop-row.invariant.looked t)
      (subst (λ (packed : List ℕ). AreIntact packed (cons_option (version_by c.args.delta c.row-item.result) [])) same (c.in_ok-look_in_row.ensures.looked t));
}

pub returns-in_err-look_in_row-clause-looked : goal.returns-in_err-look_in_row-clause-looked
returns-in_err-look_in_row-clause-looked g c = λ t.
    let p = err_from_is_err_and c.from_residual.result c.from_residual.ensures.1 in
    let same = ap (λ (image : Image). files_by c.args.redo.now image pack_file) (same_reads _ _ (c.loop-row.invariant.change t)) in
    let lost = subst (λ (packed : List ℕ). IsLooked packed (cons_option (version_by c.args.delta c.row-item.result) []) (Err c.in_err-look_in_row.field-0.0)) same (c.in_err-look_in_row.ensures.looked t) in
    rw (p.1, p.2) (look_stops _ _ _ c.in_err-look_in_row.field-0.0 (row-intact c.args.delta c.args.rows.now c.loop-row.row-index c.row-item.result c.loop-row-test.true c.row-item.is _) lost)

pub returns-in_err-look_in_row-clause-change : goal.returns-in_err-look_in_row-clause-change
returns-in_err-look_in_row-clause-change g c = λ t. same_on _ _ _ (c.loop-row.invariant.change t) (c.look_in_row.ensures.change t)

pub returns-clause-looked : goal.returns-clause-looked
returns-clause-looked g c = λ t.
    subst (λ (rows : List FileRow). AreIntact (files_by c.args.redo.now (reads (g.D.Disk.state c.args.disk.now)) pack_file) (made_by c.args.delta rows)) (take_all c.loop-row.row-index c.args.rows.now c.loop-row-test.false) (c.loop-row.invariant.looked t)
