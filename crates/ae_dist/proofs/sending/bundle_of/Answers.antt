use Rattle.std.proofs.Common.{◌≡◌, rules, subst, ℕ, List}
use Rattle.std.specs.Prelude.{option_copied, IfOk, IfErr}
use Rattle.ae_outside.specs.Causes.{HasRisen}
use Rattle.ae_outside.specs.State.{reads}
use Rattle.ae_outside.proofs.Rising.{risen_later}
use Rattle.ae_vault.specs.Vault.{effective}
use Rattle.ae_bundle.specs.declared.bundle.Bundle.{Bundle}
use Rattle.ae_exec.specs.Reading.{IsLostAmong}
use Rattle.ae_exec.proofs.Ended.{still-disk}
use Rattle.ae_exec.proofs.Endings.{ends_for}
use Rattle.ae_exec.proofs.Opened.{opened_still}
use Rattle.ae_exec.proofs.Upward.{unchanged_alike}
use Rattle.ae_dist.specs.declared.rows.Row.{Row}
use Rattle.ae_dist.specs.Answers.{DamagedSending, RefusesSending, Sends, Stops, store}
use Rattle.ae_dist.specs.Sending.{versions_of}
use Rattle.ae_dist.specs.Steps.{AreReadFrom}
use Rattle.ae_dist.proofs.Answering.{only_said}
use Rattle.ae_dist.proofs.Once.{sending_once}
use Rattle.ae_dist.proofs.Outcomes.{sent_as}
use Rattle.ae_dist.proofs.sending.bundle_of.Goals as goal

pub returns-in-Ok-clause-answer : goal.returns-in-Ok-clause-answer
returns-in-Ok-clause-answer g c =
    let rows_are : c.as_slice.result.now ≡ c.in-Ok.rows.items = search rules in
    sent_as g.D.Disk.tells (reads (g.D.Disk.state c.args.disk.now)) (reads (g.D.Disk.state c.find.new.disk)) (option_copied c.args.project) c.args.change (c.in-Ok.head, c.in-Ok.rows)
    (HasRisen (g.D.Disk.faults c.find.new.disk) (g.D.Disk.faults c.filled.new.disk)) (HasRisen (g.D.Disk.faults c.args.disk.now) (g.D.Disk.faults c.filled.new.disk)) c.filled.result
    (λ tells. (unchanged_alike (reads (g.D.Disk.state c.args.disk.now)) (reads (g.D.Disk.state c.find.new.disk)) ((c.find.ensures.disk tells).unchanged tt)).bytes) c.in-Ok.ensures.answer c.filled.ensures.head
    (subst (λ (rows : List Row). IfOk c.filled.result (λ (bundle : Bundle). g.D.Disk.tells → AreReadFrom (effective (reads (g.D.Disk.state c.find.new.disk))) rows bundle.files)) rows_are c.filled.ensures.files)
    (subst (λ (rows : List Row). IfErr c.filled.result (Stops (λ (name : List ℕ). g.D.Disk.tells → IsLostAmong (reads (g.D.Disk.state c.find.new.disk)) (versions_of rows) name) (HasRisen (g.D.Disk.faults c.find.new.disk) (g.D.Disk.faults c.filled.new.disk)))) rows_are c.filled.ensures.stopped)
    (λ rose. risen_later _ _ _ c.find.ensures.later rose)

pub returns-in-Ok-clause-only : goal.returns-in-Ok-clause-only
returns-in-Ok-clause-only g c = λ tells.
    only_said (Sends (reads (g.D.Disk.state c.args.disk.now)) (option_copied c.args.project) c.args.change) (RefusesSending (reads (g.D.Disk.state c.args.disk.now)) (option_copied c.args.project) c.args.change)
    (DamagedSending (reads (g.D.Disk.state c.args.disk.now)) (option_copied c.args.project) c.args.change) (sending_once (reads (g.D.Disk.state c.args.disk.now)) (option_copied c.args.project) c.args.change) g.D.Disk.tells
    (HasRisen (g.D.Disk.faults c.args.disk.now) (g.D.Disk.faults c.filled.new.disk)) tells c.filled.result (returns-in-Ok-clause-answer g c)

pub returns-in-Ok-clause-disk : goal.returns-in-Ok-clause-disk
returns-in-Ok-clause-disk g c = λ tells. still-disk (g.D.Disk.state c.args.disk.now) (g.D.Disk.state c.find.new.disk) (g.D.Disk.state c.filled.new.disk) _ (c.find.ensures.disk tells) (c.filled.ensures.same tells)

pub returns-in-Err-clause-answer : goal.returns-in-Err-clause-answer
returns-in-Err-clause-answer g c = ends_for c.in-Err.why c.in-Err.ensures.answer (λ none. none) (λ refusal refuses. refuses) (λ name damaged tells. store (damaged tells)) (λ rose. rose) (λ none. none)

pub returns-in-Err-clause-only : goal.returns-in-Err-clause-only
returns-in-Err-clause-only g c = λ tells.
    only_said (Sends (reads (g.D.Disk.state c.args.disk.now)) (option_copied c.args.project) c.args.change) (RefusesSending (reads (g.D.Disk.state c.args.disk.now)) (option_copied c.args.project) c.args.change)
    (DamagedSending (reads (g.D.Disk.state c.args.disk.now)) (option_copied c.args.project) c.args.change) (sending_once (reads (g.D.Disk.state c.args.disk.now)) (option_copied c.args.project) c.args.change) g.D.Disk.tells
    (HasRisen (g.D.Disk.faults c.args.disk.now) (g.D.Disk.faults c.find.new.disk)) tells _ (returns-in-Err-clause-answer g c)

pub returns-in-Ok-clause-opened : goal.returns-in-Ok-clause-opened
returns-in-Ok-clause-opened g c = λ tells unless.
    opened_still ⊥ (g.D.Disk.state c.args.disk.now) (g.D.Disk.state c.find.new.disk) (g.D.Disk.state c.filled.new.disk) (c.in-Ok.ensures.opened tells) (c.filled.ensures.same tells) (λ none. none)
