use Rattle.ae_base.proofs.Results.{ok_is_no_err}
use Rattle.ae_bundle.proofs.Turns.{err_beside}
use Rattle.ae_dist.specs.Receiving.{memory}
use Rattle.ae_dist.proofs.Arriving.{received_all, received_fits, unread_all}
use Rattle.ae_dist.proofs.receiving.receive_bundle.Goals as goal

pub returns-in_default-clause-unread : goal.returns-in_default-clause-unread
returns-in_default-clause-unread g c = memory

pub returns-in_default-new-clause-unread : goal.returns-in_default-new-clause-unread
returns-in_default-new-clause-unread g c = memory

pub returns-in-Ok-filled-clause-received : goal.returns-in-Ok-filled-clause-received
returns-in-Ok-filled-clause-received g c = received_all _ _ _ _ c.in-Ok-filled.ensures.filled c.in-Ok-filled.ensures.ended c.finished.result (c.finished.ensures.is c.in-Ok-filled.ensures.filled.stream c.in-Ok-filled.ensures.filled.held)

pub returns-in-Ok-filled-clause-fits : goal.returns-in-Ok-filled-clause-fits
returns-in-Ok-filled-clause-fits g c = received_fits _ _ _ _ c.in-Ok-filled.ensures.filled c.in-Ok-filled.ensures.ended c.finished.result (c.finished.ensures.is c.in-Ok-filled.ensures.filled.stream c.in-Ok-filled.ensures.filled.held)

pub returns-in-Ok-filled-clause-unread : goal.returns-in-Ok-filled-clause-unread
returns-in-Ok-filled-clause-unread g c = unread_all _ _ _ _ c.in-Ok-filled.ensures.filled c.in-Ok-filled.ensures.ended _ c.finished.result (c.finished.ensures.bad c.in-Ok-filled.ensures.filled.stream c.in-Ok-filled.ensures.filled.held)

pub returns-in-Ok-filled-clause-quiet : goal.returns-in-Ok-filled-clause-quiet
returns-in-Ok-filled-clause-quiet g c = λ other. c.in-Ok-filled.ensures.quiet (ok_is_no_err _ _)

pub returns-in-Err-clause-quiet : goal.returns-in-Err-clause-quiet
returns-in-Err-clause-quiet g c = λ other. c.in-Err.ensures.quiet (λ is. other (err_beside _ _ is))
