use Rattle.std.proofs.Common.{◌-◌, ap, arith, length, refl}
use Rattle.std.specs.Prelude.{nat_le, not}
use Rattle.ae_types.specs.declared.file_table.FileVersion.{FileVersion}
use Rattle.ae_types.specs.Found.{entry_delta}
use Rattle.std.proofs.lemmas.List.Filters.{length-filter_both}
use Rattle.ae_types.proofs.Pasts.{few-entries}
use Rattle.ae_branch.proofs.current.edit_by.Goals as goal

pub overflow_cast-result : goal.overflow_cast-result
overflow_cast-result c =
    let past = c.args.past.now in
    let last = c.in-Some.last.now in
    let found = c.in-Some.ensures.item.3 in
    let few = few-entries past last c.requires (length past - 1) (omega (arith, found.0)) in
    let is = ap entry_delta (found.1 last) in
    let both = length-filter_both (λ (entry : FileVersion). nat_le entry.delta c.args.delta) (λ entry. not (nat_le entry.delta c.args.delta)) (λ entry. refl) past in
    omega (arith, few, both, is, c.number-most.ensures.high, c.entries_by.ensures)
