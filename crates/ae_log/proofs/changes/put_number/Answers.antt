use Rattle.std.proofs.Common.{rules, ℕ}
use Rattle.std.proofs.lemmas.Fn.{always_returns_same}
use Rattle.ae_types.specs.Ordered.{itself}
use Rattle.std.specs.Ordering.{nat_cmp}
use Rattle.ae_types.proofs.Keys.{by_number}
use Rattle.ae_log.proofs.Placing.{set-put, insert-put, searchable}
use Rattle.ae_base.proofs.Results.{on_ok_of_err}
use Rattle.ae_log.proofs.changes.put_number.Goals as goal

pub returns-in-Ok : goal.returns-in-Ok
returns-in-Ok c =
    let bound = rw (c.deref.ensures.value) at c.in-Ok.ensures.bound in
    let position = rw (c.deref.ensures.value) at c.in-Ok.ensures.position in
    let equal = position (λ (y : ℕ). nat_cmp (itself y) c.args.number) (always_returns_same _ _ _ (λ a r f' called. search rules)) in
    set-put by_number itself c.args.number c.args.numbers.now.items c.in-Ok.at c.args.number c.requires bound (equal c.args.number)

pub returns-in_ok-insert-in-Err : goal.returns-in_ok-insert-in-Err
returns-in_ok-insert-in-Err c =
    let bound = rw (c.deref.ensures.value) at c.in-Err.ensures.bound in
    let position = rw (c.deref.ensures.value) at c.in-Err.ensures.position in
    let point = position (λ (y : ℕ). nat_cmp (itself y) c.args.number) (always_returns_same _ _ _ (λ a r f' called. search rules)) in
    rw (c.in_ok-insert-in-Err.ensures.items) (insert-put by_number itself c.args.number c.args.numbers.now.items c.in-Err.at bound (point (searchable by_number itself c.args.number c.args.numbers.now.items c.requires)))

-- ---- where memory runs out

pub returns-in_err-insert-in-Err : goal.returns-in_err-insert-in-Err
returns-in_err-insert-in-Err c = on_ok_of_err c.from_residual.result _ _ c.from_residual.ensures.1
