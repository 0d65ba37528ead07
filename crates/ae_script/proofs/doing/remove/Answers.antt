use Rattle.std.proofs.Common.{refl}
use Rattle.ae_script.proofs.Edits.{edit_done, edit_failed}
use Rattle.ae_script.proofs.doing.remove.Goals as goal

pub returns-in-Ok-clause-ends : goal.returns-in-Ok-clause-ends
returns-in-Ok-clause-ends g c =
    edit_done c.args.dir c.args.path.now _ _ c.bare.result.status _ _ c.bare.ensures.outcome c.bare.ensures.text (λ tells. record { there = c.in-Ok.ensures.removed tells; only = c.in-Ok.ensures.only tells })

pub returns-in-Err-clause-ends : goal.returns-in-Err-clause-ends
returns-in-Err-clause-ends g c =
    edit_failed c.args.dir c.args.path.now _ _ c.bare-in-Err.result.status _ _ c.bare-in-Err.ensures.status c.bare-in-Err.ensures.outcome (c.in-Err.ensures.cause.rose refl) (λ tells. c.in-Err.ensures.only tells)
