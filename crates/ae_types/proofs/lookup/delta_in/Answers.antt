use Rattle.std.proofs.Common.{sym, rules}
use Rattle.std.proofs.lemmas.Fn.{always_returns_same}
use Rattle.ae_types.specs.declared.project.DeltaRow.{DeltaRow}
use Rattle.ae_types.specs.Found.{number_of_delta}
use Rattle.std.specs.Ordering.{nat_cmp}
use Rattle.ae_types.proofs.Keys.{by_number}
use Rattle.ae_types.proofs.BinarySearch.{search-ok, search-err}
use Rattle.ae_types.proofs.lookup.delta_in.Goals as goal

pub returns-in-Ok : goal.returns-in-Ok
returns-in-Ok c = sym (search-ok by_number number_of_delta c.args.number c.args.deltas.now c.in-Ok.at c.index-deltas-at.result c.requires c.in-Ok.ensures.bound
    (c.in-Ok.ensures.position (λ (y : DeltaRow). nat_cmp (number_of_delta y) c.args.number) (always_returns_same _ _ _ (λ a r f' called. search rules)))
    c.index-deltas-at.is)

pub returns-in-Err : goal.returns-in-Err
returns-in-Err c = sym (search-err by_number number_of_delta c.args.number c.args.deltas.now c.in-Err.field-0 c.requires
    (c.in-Err.ensures.position (λ (y : DeltaRow). nat_cmp (number_of_delta y) c.args.number) (always_returns_same _ _ _ (λ a r f' called. search rules))))
