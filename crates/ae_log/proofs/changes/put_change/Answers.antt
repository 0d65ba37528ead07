use Rattle.std.proofs.Common.{rules}
use Rattle.std.proofs.lemmas.Fn.{always_returns_same}
use Rattle.ae_types.specs.declared.change.Change.{Change}
use Rattle.ae_types.specs.Found.{number_of_change}
use Rattle.std.specs.Ordering.{nat_cmp}
use Rattle.ae_types.proofs.Keys.{by_number}
use Rattle.ae_log.proofs.Placing.{set-put, insert-put, searchable}
use Rattle.ae_base.proofs.Results.{on_ok_of_err}
use Rattle.ae_log.proofs.changes.put_change.Goals as goal

pub returns-in-Ok : goal.returns-in-Ok
returns-in-Ok c =
    let bound = rw (c.deref.ensures.value) at c.in-Ok.ensures.bound in
    let position = rw (c.deref.ensures.value) at c.in-Ok.ensures.position in
    let equal = position (λ (y : Change). nat_cmp (number_of_change y) c.args.change.number) (always_returns_same _ _ _ (λ a r f' called. search rules)) in
    rw c.replace.ensures.after (set-put by_number number_of_change c.args.change c.args.changes.now.items c.in-Ok.at c.args.change c.requires bound (equal c.args.change))

pub returns-in_ok-insert-in-Err : goal.returns-in_ok-insert-in-Err
returns-in_ok-insert-in-Err c =
    let bound = rw (c.deref.ensures.value) at c.in-Err.ensures.bound in
    let position = rw (c.deref.ensures.value) at c.in-Err.ensures.position in
    let point = position (λ (y : Change). nat_cmp (number_of_change y) c.args.change.number) (always_returns_same _ _ _ (λ a r f' called. search rules)) in
    rw (c.in_ok-insert-in-Err.ensures.items) (insert-put by_number number_of_change c.args.change c.args.changes.now.items c.in-Err.at bound (point (searchable by_number number_of_change c.args.change.number c.args.changes.now.items c.requires)))

-- ---- where memory runs out

pub returns-in_err-insert-in-Err : goal.returns-in_err-insert-in-Err
returns-in_err-insert-in-Err c = on_ok_of_err c.from_residual.result _ _ c.from_residual.ensures.1
