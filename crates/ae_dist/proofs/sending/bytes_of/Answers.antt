use Rattle.ae_outside.specs.State.{reads}
use Rattle.ae_exec.proofs.Endings.{ends_for}
use Rattle.ae_dist.proofs.VersionsRead.{lost_alone}
use Rattle.ae_dist.proofs.sending.bytes_of.Goals as goal

pub returns-in-Err-clause-stopped : goal.returns-in-Err-clause-stopped
returns-in-Err-clause-stopped g c =
    rw c.outcome_of_stop.ensures
    (ends_for _ c.in-Err.ensures.stopped (λ none. none) (λ refusal none. none) (λ name lost tells. lost_alone (reads (g.D.Disk.state c.args.disk.now)) c.args.version.now name (lost tells)) (λ rose. rose) (λ none. none))
