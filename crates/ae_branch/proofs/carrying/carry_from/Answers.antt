use Rattle.std.proofs.Common.{◌≡◌, ◌∙◌, None, Ok, sym}
use Rattle.ae_branch.specs.declared.carrying.Carried.{Carried}
use Rattle.ae_branch.specs.Carried.{carried_rows}
use Rattle.ae_branch.specs.Finish.{refuses_carrying}
use Rattle.ae_branch.specs.Steps.{Is, done, memory, went_on}
use Rattle.ae_branch.proofs.CarriedRows.{readable}
use Rattle.ae_branch.proofs.Stepping.{refused_as}
use Rattle.ae_branch.proofs.Told.{frees_as}
use Rattle.ae_branch.proofs.carrying.carry_from.Goals as goal

pub returns-in-Some-clause-answer : goal.returns-in-Some-clause-answer
returns-in-Some-clause-answer c =
    refused_as (Unit {0}) (refuses_carrying c.args.state.now) (λ (free : Unit {0}). Is (record { delta = c.args.delta; rows = carried_rows c.args.state.now })) ⊥ c.in-Some.refusal (sym c.refuses.ensures ∙ c.in-Some.is)

pub returns-in-Ok-clause-answer : goal.returns-in-Ok-clause-answer
returns-in-Ok-clause-answer c =
    let free : refuses_carrying c.args.state.now ≡ None = sym c.refuses.ensures ∙ c.in_default.is in
    let made : Carried = record { delta = c.args.delta; rows = c.in-Ok.rows } in
    done made (λ told. went_on tt (Ok made) (frees_as (refuses_carrying c.args.state.now) free) (λ i. Ok (record { delta = c.args.delta; rows = c.in-Ok.ensures i })))

pub returns-in-Ok-clause-readable : goal.returns-in-Ok-clause-readable
returns-in-Ok-clause-readable c = readable c.args.state.now c.in-Ok.rows c.note_sound.ensures.sound (sym c.refuses.ensures ∙ c.in_default.is) c.in-Ok.ensures

pub returns-in-Err-clause-answer : goal.returns-in-Err-clause-answer
returns-in-Err-clause-answer c = memory
