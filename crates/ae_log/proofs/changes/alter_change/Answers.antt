use Rattle.std.proofs.Common.{◌∙◌, sym, ap, rules, slice_set, subst}
use Rattle.std.specs.Ordering.{nat_cmp}
use Rattle.std.proofs.lemmas.Fn.{always_returns_same}
use Rattle.std.proofs.lemmas.Result.{on_ok_weaker}
use Rattle.ae_types.specs.declared.change.Change.{Change}
use Rattle.ae_types.specs.Found.{number_of_change}
use Rattle.ae_types.proofs.Keys.{by_number}
use Rattle.ae_types.proofs.BinarySearch.{search-at, search-err}
use Rattle.ae_log.specs.After.{change_after}
use Rattle.ae_log.specs.Applies.{MayAlter}
use Rattle.ae_log.proofs.InPlace.{set-where, same-none}
use Rattle.ae_log.proofs.changes.alter_change.Goals as goal

pub alter-requires : goal.alter-requires
alter-requires c =
    let bound = rw (c.deref.ensures.value) at c.in-Ok.ensures.bound in
    let position = rw (c.deref.ensures.value) at c.in-Ok.ensures.position in
    let equal = position (λ (y : Change). nat_cmp (number_of_change y) c.args.number) (always_returns_same _ _ _ (λ a r f' called. search rules)) in
    subst (λ (change : Change). MayAlter c.args.next c.args.event.now change) (sym c.index_mut.ensures.value)
    (c.requires.may _ (search-at by_number number_of_change c.args.number c.args.changes.now.items c.in-Ok.at c.index_mut.result.now c.requires.ascend bound equal))

pub returns-in-Ok : goal.returns-in-Ok
returns-in-Ok c =
    let bound = rw (c.deref.ensures.value) at c.in-Ok.ensures.bound in
    let position = rw (c.deref.ensures.value) at c.in-Ok.ensures.position in
    let equal = position (λ (y : Change). nat_cmp (number_of_change y) c.args.number) (always_returns_same _ _ _ (λ a r f' called. search rules)) in
    let make = change_after c.args.next c.args.event.now in
    on_ok_weaker c.alter.result (λ made.
    ap (λ (y : Change). slice_set c.args.changes.now.items c.in-Ok.at y) (made ∙ ap make c.index_mut.ensures.value)
    ∙ set-where number_of_change c.args.number make c.args.changes.now.items c.in-Ok.at c.index_mut.result.now c.requires.ascend bound (by_number.anti _ c.args.number (equal c.index_mut.result.now))) c.alter.ensures

pub returns-in-Err : goal.returns-in-Err
returns-in-Err c =
    let position = rw (c.deref.ensures.value) at c.in-Err.ensures.position in
    sym (same-none number_of_change c.args.number (change_after c.args.next c.args.event.now) c.args.changes.now.items
    (search-err by_number number_of_change c.args.number c.args.changes.now.items c.in-Err.field-0 c.requires.ascend
    (position (λ (y : Change). nat_cmp (number_of_change y) c.args.number) (always_returns_same _ _ _ (λ a r f' called. search rules)))))
