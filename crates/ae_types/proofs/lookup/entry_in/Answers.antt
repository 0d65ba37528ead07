use Rattle.std.proofs.Common.{sym, rules}
use Rattle.std.proofs.lemmas.Fn.{always_returns_same}
use Rattle.ae_types.specs.declared.file_table.FileVersion.{FileVersion}
use Rattle.ae_types.specs.Found.{entry_delta}
use Rattle.std.specs.Ordering.{nat_cmp}
use Rattle.ae_types.proofs.Keys.{by_number}
use Rattle.ae_types.proofs.BinarySearch.{search-ok, search-err}
use Rattle.ae_types.proofs.lookup.entry_in.Goals as goal

pub returns-in-Ok : goal.returns-in-Ok
returns-in-Ok c = sym (search-ok by_number entry_delta c.args.delta c.args.past.now c.in-Ok.at c.index-past-at.result c.requires c.in-Ok.ensures.bound
    (c.in-Ok.ensures.position (λ (y : FileVersion). nat_cmp (entry_delta y) c.args.delta) (always_returns_same _ _ _ (λ a r f' called. search rules)))
    c.index-past-at.is)

pub returns-in-Err : goal.returns-in-Err
returns-in-Err c = sym (search-err by_number entry_delta c.args.delta c.args.past.now c.in-Err.field-0 c.requires
    (c.in-Err.ensures.position (λ (y : FileVersion). nat_cmp (entry_delta y) c.args.delta) (always_returns_same _ _ _ (λ a r f' called. search rules))))
