use Rattle.std.proofs.Common.{◌∙◌, sym, ap, subst}
use Rattle.ae_base.specs.Rows.{text_cmp}
use Rattle.ae_types.specs.Found.{lock_path}
use Rattle.ae_types.specs.Ordered.{put_by}
use Rattle.ae_types.proofs.Keys.{by_text}
use Rattle.ae_types.proofs.Ordered.{Ascends, put-ascends}
use Rattle.ae_log.specs.Observed.{lock_of}
use Rattle.ae_log.proofs.TakenLocks.{lock-more}
use Rattle.ae_base.proofs.Results.{on_ok_of_err}
use Rattle.ae_log.proofs.locks.lock_files.Goals as goal

pub loop-at-preserved : goal.loop-at-preserved
loop-at-preserved c =
    let put = c.in_ok-put_lock.ensures ∙ ap (λ p. put_by text_cmp lock_path (lock_of p c.args.number) c.loop-at.locks.items) c.in_ok-path.ensures in
    record {
      taken = put ∙ lock-more c.args.number c.args.files.now c.loop-at.at c.index-files-at.result c.args.locks.now.items c.loop-at.locks.items c.loop-at-test.true c.loop-at.auto.at c.loop-at.invariant.taken;
      ascend = subst (λ ls. Ascends by_text lock_path ls) (sym put) (put-ascends by_text lock_path _ c.loop-at.locks.items c.loop-at.invariant.ascend);
    }

-- ---- where memory runs out

pub returns-in_err-path : goal.returns-in_err-path
returns-in_err-path c = on_ok_of_err c.from_residual.result _ _ c.from_residual.ensures.1

pub returns-in_err-put_lock : goal.returns-in_err-put_lock
returns-in_err-put_lock c = on_ok_of_err c.from_residual-in_err-put_lock.result _ _ c.from_residual-in_err-put_lock.ensures.1
