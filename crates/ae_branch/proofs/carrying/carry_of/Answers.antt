use Rattle.std.proofs.Common.{ℕ}
use Rattle.ae_outside.specs.State.{reads}
use Rattle.ae_branch.specs.Finish.{CarriesFrom}
use Rattle.ae_branch.specs.Origin.{NamesOrigin, origin_bytes}
use Rattle.ae_branch.proofs.Steps.{found_first, goes_next, stops_first}
use Rattle.ae_branch.proofs.Stepping.{answers_as}
use Rattle.ae_branch.proofs.carrying.carry_of.Goals as goal

pub returns-in-Ok-clause-answer : goal.returns-in-Ok-clause-answer
returns-in-Ok-clause-answer g c =
    goes_next g.B.Disk.tells (NamesOrigin (origin_bytes (reads (g.B.Disk.state c.args.disk.now)))) (λ (delta : ℕ). CarriesFrom c.args.state.now delta) _ _ (λ failed. failed) c.in-Ok.delta
    (found_first g.B.Disk.tells (NamesOrigin (origin_bytes (reads (g.B.Disk.state c.args.disk.now)))) _ c.in-Ok.delta c.in-Ok.ensures.answer) c.carry_from.result
    (answers_as (Unit {0}) g.B.Disk.tells (CarriesFrom c.args.state.now c.in-Ok.delta) (CarriesFrom c.args.state.now c.in-Ok.delta) ⊥ _ (λ tells. tt) (λ tells said is. is) (λ none. absurd none) c.carry_from.result c.carry_from.ensures.answer)

pub returns-in-Err-clause-answer : goal.returns-in-Err-clause-answer
returns-in-Err-clause-answer g c =
    stops_first g.B.Disk.tells g.B.Disk.tells (NamesOrigin (origin_bytes (reads (g.B.Disk.state c.args.disk.now)))) (λ (delta : ℕ). CarriesFrom c.args.state.now delta) _ _ (λ tells. tells) (λ failed. failed) c.in-Err.why c.in-Err.ensures.answer
