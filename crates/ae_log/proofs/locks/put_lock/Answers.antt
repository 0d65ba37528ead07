use Rattle.std.proofs.Common.{rules}
use Rattle.std.proofs.lemmas.Fn.{always_returns_same}
use Rattle.ae_types.specs.declared.file_table.Lock.{Lock}
use Rattle.ae_types.specs.Found.{lock_path}
use Rattle.ae_base.specs.Rows.{text_cmp}
use Rattle.ae_types.proofs.Keys.{by_text}
use Rattle.ae_log.proofs.Placing.{set-put, insert-put, searchable}
use Rattle.ae_base.proofs.Results.{on_ok_of_err}
use Rattle.ae_log.proofs.locks.put_lock.Goals as goal

pub returns-in-Ok : goal.returns-in-Ok
returns-in-Ok c =
    let bound = rw (c.deref.ensures.value) at c.in-Ok.ensures.bound in
    let position = rw (c.deref.ensures.value) at c.in-Ok.ensures.position in
    let equal = position (λ (y : Lock). text_cmp (lock_path y) c.args.lock.path) (always_returns_same _ _ _ (λ a r f' called. search rules)) in
    set-put by_text lock_path c.args.lock c.args.locks.now.items c.in-Ok.at c.args.lock c.requires bound (equal c.args.lock)

pub returns-in_ok-insert-in-Err : goal.returns-in_ok-insert-in-Err
returns-in_ok-insert-in-Err c =
    let bound = rw (c.deref.ensures.value) at c.in-Err.ensures.bound in
    let position = rw (c.deref.ensures.value) at c.in-Err.ensures.position in
    let point = position (λ (y : Lock). text_cmp (lock_path y) c.args.lock.path) (always_returns_same _ _ _ (λ a r f' called. search rules)) in
    rw (c.in_ok-insert-in-Err.ensures.items) (insert-put by_text lock_path c.args.lock c.args.locks.now.items c.in-Err.at bound (point (searchable by_text lock_path c.args.lock.path c.args.locks.now.items c.requires)))

-- ---- where memory runs out

pub returns-in_err-insert-in-Err : goal.returns-in_err-insert-in-Err
returns-in_err-insert-in-Err c = on_ok_of_err c.from_residual.result _ _ c.from_residual.ensures.1
