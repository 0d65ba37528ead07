use Rattle.std.proofs.Common.{◌≡◌, refl}
use Rattle.std.specs.Prelude.{option_copied}
use Rattle.ae_base.proofs.Results.{ok_is_no_err}
use Rattle.ae_bundle.proofs.Turns.{err_beside}
use Rattle.ae_outside.specs.Causes.{HasRisen}
use Rattle.ae_outside.specs.State.{reads}
use Rattle.ae_exec.specs.Opened.{HasOpened}
use Rattle.ae_outside.specs.Image.{IsSame}
use Rattle.ae_outside.specs.Time.{goes_on_refl}
use Rattle.ae_exec.proofs.Ended.{only-read}
use Rattle.ae_exec.proofs.Opened.{opened_on_ok}
use Rattle.ae_session.specs.Received.{unread}
use Rattle.ae_session.proofs.Received.{has_none, has_plan}
use Rattle.ae_session.proofs.receiving.read_plan.Goals as goal

pub returns-in-Ok-clause-plan : goal.returns-in-Ok-clause-plan
returns-in-Ok-clause-plan g c =
    has_plan g.D.Disk.tells g.I.Source.tells (reads (g.D.Disk.state c.args.disk.now)) (option_copied c.args.project) (g.I.Source.left c.args.input.now) (g.I.Source.left c.receive_bundle.new.input) c.in-Ok.bundle
    (HasRisen (g.D.Disk.faults c.args.disk.now) (g.D.Disk.faults c.plan.new.disk)) c.in-Ok.ensures.received c.plan.result c.plan.ensures.answer (c.plan.ensures.formed c.in-Ok.ensures.fits)

pub returns-in-Ok-clause-none : goal.returns-in-Ok-clause-none
returns-in-Ok-clause-none g c =
    has_none g.D.Disk.tells g.I.Source.tells (reads (g.D.Disk.state c.args.disk.now)) (option_copied c.args.project) (g.I.Source.left c.args.input.now) (g.I.Source.left c.receive_bundle.new.input) c.in-Ok.bundle
    (HasRisen (g.D.Disk.faults c.args.disk.now) (g.D.Disk.faults c.plan.new.disk)) (c.plan.new.disk ≡ c.args.disk.now) (g.D.Disk.tells → HasOpened (g.D.Disk.state c.args.disk.now) (g.D.Disk.state c.plan.new.disk)) (HasRisen (g.I.Source.faults c.args.input.now) (g.I.Source.faults c.receive_bundle.new.input)) c.in-Ok.ensures.received
    c.plan.result c.plan.ensures.answer c.plan.ensures.only (λ unless tells. c.plan.ensures.opened tells unless)

pub returns-in-Err-clause-none : goal.returns-in-Err-clause-none
returns-in-Err-clause-none g c = unread c.in-Err.ensures.unread refl

pub returns-in-Ok-clause-opened : goal.returns-in-Ok-clause-opened
returns-in-Ok-clause-opened g c = opened_on_ok c.plan.result g.D.Disk.tells (HasOpened (g.D.Disk.state c.args.disk.now) (g.D.Disk.state c.plan.new.disk)) c.plan.ensures.opened

pub returns-in-Err-clause-disk : goal.returns-in-Err-clause-disk
returns-in-Err-clause-disk g c = λ tells. only-read (g.D.Disk.state c.args.disk.now) (g.D.Disk.state c.args.disk.now) (goes_on_refl IsSame (g.D.Disk.state c.args.disk.now) (λ image. refl))

pub returns-in-Ok-clause-quiet : goal.returns-in-Ok-clause-quiet
returns-in-Ok-clause-quiet g c = λ other. c.in-Ok.ensures.quiet (ok_is_no_err _ _)

pub returns-in-Err-clause-quiet : goal.returns-in-Err-clause-quiet
returns-in-Err-clause-quiet g c = λ other. c.in-Err.ensures.quiet (λ is. other (err_beside _ _ is))
