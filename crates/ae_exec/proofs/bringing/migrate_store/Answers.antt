use Rattle.std.proofs.Common.{◌≡◌, ap, refl, Err}
use Rattle.ae_base.proofs.Results.{err_is}
use Rattle.ae_exec.specs.Endings.{disk_fault}
use Rattle.ae_exec.specs.Stopping.{stop_of_store}
use Rattle.ae_exec.specs.declared.stop.Stop.TheVariants as stop
use Rattle.ae_outside.proofs.Rising.{risen_later}
use Rattle.ae_exec.proofs.Stores.{named_at}
use Rattle.ae_exec.proofs.Taking.{IsPut, needless_second, needless_up, needs_batch, needs_none, put_keeps, put_leaves_disk, put_second, put_up, still_keeps, still_leaves}
use Rattle.ae_exec.proofs.Unloaded.{store_ends}
use Rattle.ae_exec.proofs.bringing.migrate_store.Goals as goal

-- ---- it couldn't be read what there is to migrate

pub returns-in_err-migrate-clause-disk : goal.returns-in_err-migrate-clause-disk
returns-in_err-migrate-clause-disk g c = λ tells. still_leaves _ _ (c.requires tells) (c.migrate.ensures.change tells)

pub returns-in_err-migrate-clause-keeps : goal.returns-in_err-migrate-clause-keeps
returns-in_err-migrate-clause-keeps g c = λ tells log holds. still_keeps _ _ (c.requires tells) (c.migrate.ensures.change tells) log holds

pub returns-in_err-migrate-clause-stopped : goal.returns-in_err-migrate-clause-stopped
returns-in_err-migrate-clause-stopped g c =
    let is : c.from_residual.result ≡ Err (stop_of_store c.in_err-migrate.field-0.0) = err_is _ _ c.from_residual.ensures.1 in
    rw is (store_ends c.in_err-migrate.field-0.0 (λ name same tells want. named_at want _ _ name refl (c.in_err-migrate.ensures.damaged tells want name (ap Err same))) (λ failed. c.in_err-migrate.ensures.cause.rose (ap Err failed)))

-- ---- there is nothing to migrate

pub returns-in-None-clause-disk : goal.returns-in-None-clause-disk
returns-in-None-clause-disk g c = λ tells. still_leaves _ _ (c.requires tells) (c.migrate.ensures.change tells)

pub returns-in-None-clause-keeps : goal.returns-in-None-clause-keeps
returns-in-None-clause-keeps g c = λ tells log holds. still_keeps _ _ (c.requires tells) (c.migrate.ensures.change tells) log holds

pub returns-in-None-clause-up : goal.returns-in-None-clause-up
returns-in-None-clause-up g c = λ tells. needless_up _ _ (c.requires tells) (c.migrate.ensures.change tells) (needs_none _ _ c.in-None.is (c.in_ok-migrate.ensures.found tells))

pub returns-in-None-clause-second : goal.returns-in-None-clause-second
returns-in-None-clause-second g c = λ tells log holds agrees. needless_second _ _ (c.requires tells) (c.migrate.ensures.change tells) (needs_none _ _ c.in-None.is (c.in_ok-migrate.ensures.found tells)) log holds agrees

-- ---- the disk failed meanwhile

pub returns-in_err-commit-in-Some-clause-disk : goal.returns-in_err-commit-in-Some-clause-disk
returns-in_err-commit-in-Some-clause-disk g c = λ tells.
    let put : IsPut (g.D.Disk.state c.args.disk.now) (g.D.Disk.state c.migrate.new.disk) (g.D.Disk.state c.commit.new.disk) c.in-Some.batch = record {
      clean = c.requires tells;
      goes = c.migrate.ensures.change tells;
      is = needs_batch _ _ _ c.in-Some.is (c.in_ok-migrate.ensures.found tells);
      time = c.commit.ensures.time tells;
      any_moment = c.commit.ensures.any_moment tells;
      one_of_two = c.commit.ensures.one_of_two tells;
    } in
    put_leaves_disk (g.D.Disk.state c.args.disk.now) (g.D.Disk.state c.migrate.new.disk) (g.D.Disk.state c.commit.new.disk) c.in-Some.batch put

pub returns-in_err-commit-in-Some-clause-keeps : goal.returns-in_err-commit-in-Some-clause-keeps
returns-in_err-commit-in-Some-clause-keeps g c = λ tells log holds.
    let put : IsPut (g.D.Disk.state c.args.disk.now) (g.D.Disk.state c.migrate.new.disk) (g.D.Disk.state c.commit.new.disk) c.in-Some.batch = record {
      clean = c.requires tells;
      goes = c.migrate.ensures.change tells;
      is = needs_batch _ _ _ c.in-Some.is (c.in_ok-migrate.ensures.found tells);
      time = c.commit.ensures.time tells;
      any_moment = c.commit.ensures.any_moment tells;
      one_of_two = c.commit.ensures.one_of_two tells;
    } in
    put_keeps (g.D.Disk.state c.args.disk.now) (g.D.Disk.state c.migrate.new.disk) (g.D.Disk.state c.commit.new.disk) c.in-Some.batch put log holds

pub returns-in_err-commit-in-Some-clause-stopped : goal.returns-in_err-commit-in-Some-clause-stopped
returns-in_err-commit-in-Some-clause-stopped g c =
    let is : c.from_residual-in_err-commit-in-Some.result ≡ Err stop.DiskFault = err_is _ _ c.from_residual-in_err-commit-in-Some.ensures.1 in
    rw is (disk_fault (risen_later _ _ _ c.migrate.ensures.cause.later (c.in_err-commit-in-Some.ensures.cause.rose refl)))

-- ---- it is done

pub returns-in_ok-commit-in-Some-clause-disk : goal.returns-in_ok-commit-in-Some-clause-disk
returns-in_ok-commit-in-Some-clause-disk g c = λ tells.
    let put : IsPut (g.D.Disk.state c.args.disk.now) (g.D.Disk.state c.migrate.new.disk) (g.D.Disk.state c.commit.new.disk) c.in-Some.batch = record {
      clean = c.requires tells;
      goes = c.migrate.ensures.change tells;
      is = needs_batch _ _ _ c.in-Some.is (c.in_ok-migrate.ensures.found tells);
      time = c.commit.ensures.time tells;
      any_moment = c.commit.ensures.any_moment tells;
      one_of_two = c.commit.ensures.one_of_two tells;
    } in
    put_leaves_disk (g.D.Disk.state c.args.disk.now) (g.D.Disk.state c.migrate.new.disk) (g.D.Disk.state c.commit.new.disk) c.in-Some.batch put

pub returns-in_ok-commit-in-Some-clause-keeps : goal.returns-in_ok-commit-in-Some-clause-keeps
returns-in_ok-commit-in-Some-clause-keeps g c = λ tells log holds.
    let put : IsPut (g.D.Disk.state c.args.disk.now) (g.D.Disk.state c.migrate.new.disk) (g.D.Disk.state c.commit.new.disk) c.in-Some.batch = record {
      clean = c.requires tells;
      goes = c.migrate.ensures.change tells;
      is = needs_batch _ _ _ c.in-Some.is (c.in_ok-migrate.ensures.found tells);
      time = c.commit.ensures.time tells;
      any_moment = c.commit.ensures.any_moment tells;
      one_of_two = c.commit.ensures.one_of_two tells;
    } in
    put_keeps (g.D.Disk.state c.args.disk.now) (g.D.Disk.state c.migrate.new.disk) (g.D.Disk.state c.commit.new.disk) c.in-Some.batch put log holds

pub returns-in_ok-commit-in-Some-clause-up : goal.returns-in_ok-commit-in-Some-clause-up
returns-in_ok-commit-in-Some-clause-up g c = λ tells.
    let put : IsPut (g.D.Disk.state c.args.disk.now) (g.D.Disk.state c.migrate.new.disk) (g.D.Disk.state c.commit.new.disk) c.in-Some.batch = record {
      clean = c.requires tells;
      goes = c.migrate.ensures.change tells;
      is = needs_batch _ _ _ c.in-Some.is (c.in_ok-migrate.ensures.found tells);
      time = c.commit.ensures.time tells;
      any_moment = c.commit.ensures.any_moment tells;
      one_of_two = c.commit.ensures.one_of_two tells;
    } in
    put_up (g.D.Disk.state c.args.disk.now) (g.D.Disk.state c.migrate.new.disk) (g.D.Disk.state c.commit.new.disk) c.in-Some.batch put (c.in_ok-commit-in-Some.ensures.clean tells) (c.in_ok-commit-in-Some.ensures.all tells) (c.in_ok-commit-in-Some.ensures.read tells)

pub returns-in_ok-commit-in-Some-clause-second : goal.returns-in_ok-commit-in-Some-clause-second
returns-in_ok-commit-in-Some-clause-second g c = λ tells log holds agrees.
    let put : IsPut (g.D.Disk.state c.args.disk.now) (g.D.Disk.state c.migrate.new.disk) (g.D.Disk.state c.commit.new.disk) c.in-Some.batch = record {
      clean = c.requires tells;
      goes = c.migrate.ensures.change tells;
      is = needs_batch _ _ _ c.in-Some.is (c.in_ok-migrate.ensures.found tells);
      time = c.commit.ensures.time tells;
      any_moment = c.commit.ensures.any_moment tells;
      one_of_two = c.commit.ensures.one_of_two tells;
    } in
    put_second (g.D.Disk.state c.args.disk.now) (g.D.Disk.state c.migrate.new.disk) (g.D.Disk.state c.commit.new.disk) c.in-Some.batch put (c.in_ok-commit-in-Some.ensures.clean tells) (c.in_ok-commit-in-Some.ensures.all tells) (c.in_ok-commit-in-Some.ensures.read tells) log holds
