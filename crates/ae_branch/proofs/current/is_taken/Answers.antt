use Rattle.std.proofs.Common.{◌≡◌, ◌∙◌, Err, None, Ok, Some, sym}
use Rattle.ae_base.specs.declared.outcome.Outcome.TheVariants as outcome
use Rattle.ae_branch.specs.Finish.{HasDelta, TakesOn, refuses_carried}
use Rattle.ae_branch.specs.Origin.{origin_file}
use Rattle.ae_branch.specs.Steps.{done, memory, refused, stopped, went_on}
use Rattle.ae_branch.proofs.OriginRead.{damaged_as}
use Rattle.ae_branch.proofs.Taking.{delta_missing, delta_there}
use Rattle.ae_branch.proofs.Told.{frees_as, refuses_as}
use Rattle.ae_branch.proofs.current.is_taken.Goals as goal

pub returns-then-not-has_delta : goal.returns-then-not-has_delta
returns-then-not-has_delta c =
    damaged_as (Unit {0}) (TakesOn c.args.state.now c.args.carried.now) ⊥ c.damaged_origin.result c.damaged_origin.ensures
    (λ told. stopped (outcome.Damaged origin_file) (delta_missing c.args.state.now c.args.carried.now.delta (sym c.has_delta.ensures ∙ c.if-not-has_delta.true)))

pub returns-in-Ok-None : goal.returns-in-Ok-None
returns-in-Ok-None c =
    let there : HasDelta c.args.state.now c.args.carried.now.delta (Ok tt) = delta_there c.args.state.now c.args.carried.now.delta (sym c.has_delta.ensures ∙ c.if-not-has_delta.false) in
    let free : refuses_carried c.args.state.now c.args.carried.now ≡ None = sym c.in-Ok-None.ensures ∙ c.in-Ok-None.field-0-is in
    done tt (λ told. went_on tt (Ok tt) there (frees_as (refuses_carried c.args.state.now c.args.carried.now) free))

pub returns-in-Ok-Some : goal.returns-in-Ok-Some
returns-in-Ok-Some c =
    let there : HasDelta c.args.state.now c.args.carried.now.delta (Ok tt) = delta_there c.args.state.now c.args.carried.now.delta (sym c.has_delta.ensures ∙ c.if-not-has_delta.false) in
    let why : refuses_carried c.args.state.now c.args.carried.now ≡ Some c.in-Ok-Some.refusal = sym c.in-Ok-Some.ensures ∙ c.in-Ok-Some.field-0-is in
    refused c.in-Ok-Some.refusal (λ told. went_on tt (Err (outcome.Refused c.in-Ok-Some.refusal)) there (refuses_as (refuses_carried c.args.state.now c.args.carried.now) c.in-Ok-Some.refusal why))

pub returns-in-Err : goal.returns-in-Err
returns-in-Err c = memory
