use Rattle.std.proofs.Common.{◌-◌, ap, length, arith}
use Rattle.ae_types.specs.declared.project.DeltaRow.{DeltaRow}
use Rattle.ae_machine.proofs.WhoWorks.{numbered-at}
use Rattle.ae_machine.proofs.runs.last_of.Goals as goal

pub returns-in-Some : goal.returns-in-Some
returns-in-Some c =
    let deltas = c.args.deltas.now in
    let last = c.in-Some.last.now in
    let found = c.in-Some.ensures.item.3 in
    let numbered = numbered-at 1 deltas (length deltas - 1) last c.requires (omega (arith, found.0)) in
    let is = ap (λ (delta : DeltaRow). delta.delta) (found.1 last) in
    omega (arith, found.0, is, numbered)
