use Rattle.std.proofs.Common.{◌≡◌, ◌∙◌, ap, subst, [], Option, Err}
use Rattle.ae_base.proofs.Results.{err_is}
use Rattle.ae_outside.proofs.Rising.{risen_later}
use Rattle.ae_outside.specs.Image.{Image}
use Rattle.ae_outside.specs.State.{reads}
use Rattle.ae_outside.specs.Time.{same_on, same_reads}
use Rattle.ae_vault.specs.Vault.{effective}
use Rattle.ae_machine.specs.Call.{call_of, change_named}
use Rattle.ae_machine.specs.Versions.{rows_based, rows_refreshed}
use Rattle.ae_exec.specs.declared.stop.Stop.TheVariants as stop
use Rattle.ae_exec.specs.Bytes.{rows_at}
use Rattle.ae_exec.specs.Endings.{memory}
use Rattle.ae_exec.specs.Reading.{AreKept, FirstIsLost, versions_of}
use Rattle.ae_exec.proofs.Endings.{ends_for}
use Rattle.ae_exec.proofs.ReadInOrder.{lost-left, lost-right}
use Rattle.ae_exec.proofs.RunVersions.{based-have, both-kept, refreshed-have}
use Rattle.ae_exec.proofs.running.ready.Goals as goal

pub returns-in_err-refreshed-clause-stopped : goal.returns-in_err-refreshed-clause-stopped
returns-in_err-refreshed-clause-stopped g c =
    let is : c.from_residual.result ≡ Err c.in_err-refreshed.field-0.0 = err_is _ _ c.from_residual.ensures.1 in
    rw is (ends_for _ c.in_err-refreshed.ensures.stopped (λ none. none) (λ refusal none. none)
    (λ name lost tells. record {
      is_pack = (lost tells).is_pack;
      first = lost-left (effective (reads (g.D.Disk.state c.args.disk.now)))
          (versions_of (rows_refreshed (call_of c.args.state.now c.args.command.now []) (change_named c.args.state.now c.args.command.now.change)))
          (versions_of (rows_based (call_of c.args.state.now c.args.command.now []) (change_named c.args.state.now c.args.command.now.change)))
          (lost tells).first;
    })
    (λ rose. rose) (λ none. none))

pub returns-in_err-based-clause-stopped : goal.returns-in_err-based-clause-stopped
returns-in_err-based-clause-stopped g c =
    let is : c.from_residual-in_err-based.result ≡ Err c.in_err-based.field-0.0 = err_is _ _ c.from_residual-in_err-based.ensures.1 in
    rw is (ends_for _ c.in_err-based.ensures.stopped (λ none. none) (λ refusal none. none)
    (λ name lost tells.
    let same : effective (reads (g.D.Disk.state c.refreshed_files.new.disk)) ≡ effective (reads (g.D.Disk.state c.args.disk.now)) = ap effective (same_reads (g.D.Disk.state c.args.disk.now) (g.D.Disk.state c.refreshed_files.new.disk) (c.refreshed_files.ensures.same tells)) in
    record {
      is_pack = (lost tells).is_pack;
      first = lost-right (effective (reads (g.D.Disk.state c.args.disk.now)))
          (versions_of (rows_refreshed (call_of c.args.state.now c.args.command.now []) (change_named c.args.state.now c.args.command.now.change)))
          (versions_of (rows_based (call_of c.args.state.now c.args.command.now []) (change_named c.args.state.now c.args.command.now.change)))
          (c.in_ok-refreshed.ensures.kept tells)
          (subst (λ (x : Option Image). FirstIsLost x (versions_of (rows_based (call_of c.args.state.now c.args.command.now []) (change_named c.args.state.now c.args.command.now.change)))) same (lost tells).first);
    })
    (λ rose. risen_later _ _ _ c.refreshed_files.ensures.later rose) (λ none. none))

pub returns-in_err-run_plan-clause-stopped : goal.returns-in_err-run_plan-clause-stopped
returns-in_err-run_plan-clause-stopped g c = let is : c.from_residual-in_err-run_plan.result ≡ Err stop.Memory = err_is _ _ c.from_residual-in_err-run_plan.ensures.1 in rw is memory

pub run_plan-requires-clause-accepted : goal.run_plan-requires-clause-accepted
run_plan-requires-clause-accepted g c = c.requires.accepted

pub returns-clause-are : goal.returns-clause-are
returns-clause-are g c = λ tells bytes who when have.
    let files : Option Image = effective (reads (g.D.Disk.state c.args.disk.now)) in
    let same : effective (reads (g.D.Disk.state c.refreshed_files.new.disk)) ≡ files = ap effective (same_reads (g.D.Disk.state c.args.disk.now) (g.D.Disk.state c.refreshed_files.new.disk) (c.refreshed_files.ensures.same tells)) in
    c.in_ok-run_plan.ensures.are bytes who when
    (c.in_ok-refreshed.ensures.rows tells ∙ refreshed-have c.args.state.now files bytes have c.args.command.now)
    (c.in_ok-based.ensures.rows tells
    ∙ ap (λ (x : Option Image). rows_at x (rows_based (call_of c.args.state.now c.args.command.now []) (change_named c.args.state.now c.args.command.now.change))) same
    ∙ based-have c.args.state.now files bytes have c.args.command.now)

pub returns-clause-kept : goal.returns-clause-kept
returns-clause-kept g c = λ tells.
    let same : effective (reads (g.D.Disk.state c.refreshed_files.new.disk)) ≡ effective (reads (g.D.Disk.state c.args.disk.now)) = ap effective (same_reads (g.D.Disk.state c.args.disk.now) (g.D.Disk.state c.refreshed_files.new.disk) (c.refreshed_files.ensures.same tells)) in
    both-kept (effective (reads (g.D.Disk.state c.args.disk.now)))
    (versions_of (rows_refreshed (call_of c.args.state.now c.args.command.now []) (change_named c.args.state.now c.args.command.now.change)))
    (versions_of (rows_based (call_of c.args.state.now c.args.command.now []) (change_named c.args.state.now c.args.command.now.change)))
    (c.in_ok-refreshed.ensures.kept tells)
    (subst (λ (x : Option Image). AreKept x (versions_of (rows_based (call_of c.args.state.now c.args.command.now []) (change_named c.args.state.now c.args.command.now.change)))) same (c.in_ok-based.ensures.kept tells))

pub returns-clause-same : goal.returns-clause-same
returns-clause-same g c = λ tells. same_on (g.D.Disk.state c.args.disk.now) (g.D.Disk.state c.refreshed_files.new.disk) (g.D.Disk.state c.based_files.new.disk) (c.refreshed_files.ensures.same tells) (c.based_files.ensures.same tells)

pub returns-in_err-run_plan-clause-same : goal.returns-in_err-run_plan-clause-same
returns-in_err-run_plan-clause-same g c = λ tells. same_on (g.D.Disk.state c.args.disk.now) (g.D.Disk.state c.refreshed_files.new.disk) (g.D.Disk.state c.based_files.new.disk) (c.refreshed_files.ensures.same tells) (c.based_files.ensures.same tells)

pub returns-in_err-based-clause-same : goal.returns-in_err-based-clause-same
returns-in_err-based-clause-same g c = λ tells. same_on (g.D.Disk.state c.args.disk.now) (g.D.Disk.state c.refreshed_files.new.disk) (g.D.Disk.state c.based_files.new.disk) (c.refreshed_files.ensures.same tells) (c.based_files.ensures.same tells)
