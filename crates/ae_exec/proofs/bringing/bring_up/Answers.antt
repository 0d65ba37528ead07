use Rattle.std.proofs.Math.Nat.{le_trans}
use Rattle.std.proofs.Common.{◌≡◌, Err, inl}
use Rattle.std.proofs.lemmas.Result.{IfErr-weaker, on_ok_weaker}
use Rattle.ae_base.proofs.Results.{err_is, on_ok}
use Rattle.ae_outside.proofs.Rising.{risen_later}
use Rattle.ae_exec.specs.Stands.{StandsForLog}
use Rattle.ae_exec.proofs.BroughtUp.{Opened, opened_disk, up_disk, up_opened, up_up}
use Rattle.ae_exec.proofs.Endings.{ends_for}
use Rattle.ae_exec.proofs.Leaving.{open_still}
use Rattle.ae_exec.proofs.Refining.{stopped_refined}
use Rattle.ae_exec.proofs.Standing.{alike, by_files}
use Rattle.ae_exec.proofs.Stores.{damaged_by_files}
use Rattle.ae_exec.proofs.bringing.bring_up.Goals as goal

-- ---- the store couldn't be opened

pub returns-in_err-open_store-clause-disk : goal.returns-in_err-open_store-clause-disk
returns-in_err-open_store-clause-disk g c = λ tells. opened_disk (g.D.Disk.state c.args.disk.now) (g.D.Disk.state c.open_store.new.disk) (record {
  time = c.open_store.ensures.time tells;
  left = c.open_store.ensures.left tells;
  any_moment = c.open_store.ensures.any_moment tells;
  files = c.open_store.ensures.files tells;
  settled = c.open_store.ensures.settled tells;
  in_format = c.open_store.ensures.in_format tells;
})

pub returns-in_err-open_store-clause-refined : goal.returns-in_err-open_store-clause-refined
returns-in_err-open_store-clause-refined g c =
    let is : c.from_residual.result ≡ Err c.in_err-open_store.field-0.0 = err_is _ _ c.from_residual.ensures.1 in
    rw is c.in_err-open_store.ensures.refined

pub returns-in_err-open_store-clause-whole : goal.returns-in_err-open_store-clause-whole
returns-in_err-open_store-clause-whole g c =
    let is : c.from_residual.result ≡ Err c.in_err-open_store.field-0.0 = err_is _ _ c.from_residual.ensures.1 in
    rw is (λ nothing tells settled. inl (c.open_store.ensures.any_moment tells settled))

pub returns-in_err-open_store-clause-stopped : goal.returns-in_err-open_store-clause-stopped
returns-in_err-open_store-clause-stopped g c =
    let is : c.from_residual.result ≡ Err c.in_err-open_store.field-0.0 = err_is _ _ c.from_residual.ensures.1 in
    rw is c.in_err-open_store.ensures.stopped

pub returns-in_err-open_store-clause-later : goal.returns-in_err-open_store-clause-later
returns-in_err-open_store-clause-later g c = c.open_store.ensures.later

-- ---- it was

pub returns-clause-clean : goal.returns-clause-clean
returns-clause-clean g c = c.migrate_store.ensures.clean

pub returns-clause-disk : goal.returns-clause-disk
returns-clause-disk g c = λ tells.
    let opened : Opened (g.D.Disk.state c.args.disk.now) (g.D.Disk.state c.open_store.new.disk) = record {
      time = c.open_store.ensures.time tells;
      left = c.open_store.ensures.left tells;
      any_moment = c.open_store.ensures.any_moment tells;
      files = c.open_store.ensures.files tells;
      settled = c.open_store.ensures.settled tells;
      in_format = c.open_store.ensures.in_format tells;
    } in
    up_disk (g.D.Disk.state c.args.disk.now) (g.D.Disk.state c.open_store.new.disk) (g.D.Disk.state c.migrate_store.new.disk) opened (c.migrate_store.ensures.disk tells)

pub returns-clause-up : goal.returns-clause-up
returns-clause-up g c = on_ok_weaker c.migrate_store.result (λ up tells.
    let opened : Opened (g.D.Disk.state c.args.disk.now) (g.D.Disk.state c.open_store.new.disk) = record {
      time = c.open_store.ensures.time tells;
      left = c.open_store.ensures.left tells;
      any_moment = c.open_store.ensures.any_moment tells;
      files = c.open_store.ensures.files tells;
      settled = c.open_store.ensures.settled tells;
      in_format = c.open_store.ensures.in_format tells;
    } in
    up_up (g.D.Disk.state c.args.disk.now) (g.D.Disk.state c.open_store.new.disk) (g.D.Disk.state c.migrate_store.new.disk) opened (c.migrate_store.ensures.disk tells).time (up tells)) c.migrate_store.ensures.up

pub returns-clause-opened : goal.returns-clause-opened
returns-clause-opened g c = on_ok c.migrate_store.result _ (λ tells held log holds read.
    up_opened (g.D.Disk.state c.args.disk.now) (g.D.Disk.state c.open_store.new.disk) (g.D.Disk.state c.migrate_store.new.disk) held log (c.migrate_store.ensures.disk tells).time (c.migrate_store.ensures.keeps tells) (c.in_ok-open_store.ensures.opened tells held log holds read))

pub returns-clause-second : goal.returns-clause-second
returns-clause-second g c = on_ok_weaker c.migrate_store.result
    (λ second tells held log is. second tells log (c.in_ok-open_store.ensures.opened tells held log is.holds is.stands).holds (c.open_store.ensures.in_format tells is.holds.settled is.in_format)) c.migrate_store.ensures.second

pub returns-clause-refined : goal.returns-clause-refined
returns-clause-refined g c = IfErr-weaker c.migrate_store.result _ _ (λ stop ends tells held log next holds read.
    stopped_refined StandsForLog by_files alike (g.D.Disk.state c.args.disk.now) (g.D.Disk.state c.migrate_store.new.disk) held log next stop
    (up_opened (g.D.Disk.state c.args.disk.now) (g.D.Disk.state c.open_store.new.disk) (g.D.Disk.state c.migrate_store.new.disk) held log (c.migrate_store.ensures.disk tells).time (c.migrate_store.ensures.keeps tells) (c.in_ok-open_store.ensures.opened tells held log holds read))) c.migrate_store.ensures.stopped

pub returns-clause-whole : goal.returns-clause-whole
returns-clause-whole g c = IfErr-weaker c.migrate_store.result _ _
    (λ stop same nothing tells settled. inl (open_still (g.D.Disk.state c.args.disk.now) (g.D.Disk.state c.open_store.new.disk) (g.D.Disk.state c.migrate_store.new.disk) (c.open_store.ensures.time tells).later (c.open_store.ensures.any_moment tells settled) (same nothing tells))) c.migrate_store.ensures.same

pub returns-clause-stopped : goal.returns-clause-stopped
returns-clause-stopped g c = IfErr-weaker c.migrate_store.result _ _
    (λ stop ends. ends_for _ ends (λ none. none) (λ refusal none. none) (λ name is tells want. damaged_by_files want _ _ name (c.open_store.ensures.files tells) (is tells want)) (λ rose. risen_later _ _ _ c.open_store.ensures.later rose) (λ none. none)) c.migrate_store.ensures.stopped

pub returns-clause-later : goal.returns-clause-later
returns-clause-later g c = le_trans c.open_store.ensures.later c.migrate_store.ensures.later
