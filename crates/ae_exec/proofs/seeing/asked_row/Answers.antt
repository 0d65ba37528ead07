use Rattle.std.proofs.Common.{◌≡◌, ◌∙◌, ap, sym, subst, inl, inr, [], Option, Some, None, Err}
use Rattle.std.proofs.Math.Nat.{le_trans}
use Rattle.std.specs.List.{cons_option}
use Rattle.std.proofs.lemmas.Result.{IfOk-weaker}
use Rattle.ae_base.proofs.Results.{err_is, on_ok}
use Rattle.ae_outside.proofs.Rising.{risen_later}
use Rattle.ae_outside.specs.Image.{Image}
use Rattle.ae_outside.specs.State.{reads}
use Rattle.ae_outside.specs.Time.{same_on, same_reads}
use Rattle.ae_vault.specs.Vault.{effective}
use Rattle.ae_machine.specs.Call.{call_of, change_named, given_of}
use Rattle.ae_machine.specs.Space.{placing}
use Rattle.ae_machine.specs.Versions.{config_version, files_refused}
use Rattle.ae_exec.specs.declared.stop.Stop.TheVariants as stop
use Rattle.ae_exec.specs.Bytes.{HaveBytes}
use Rattle.ae_exec.specs.Endings.{memory, refused}
use Rattle.ae_exec.specs.Reading.{AreKept, versions_of}
use Rattle.ae_exec.specs.Seen.{no_bytes}
use Rattle.ae_exec.proofs.Compared.{asked-kept-so, lost-config}
use Rattle.ae_exec.proofs.Endings.{ends_for, if_err_for}
use Rattle.ae_exec.proofs.seeing.asked_row.Goals as goal

pub returns-in_err-refusal-clause-stopped : goal.returns-in_err-refusal-clause-stopped
returns-in_err-refusal-clause-stopped g c = λ who when. let is : c.from_residual.result ≡ Err stop.Memory = err_is _ _ c.from_residual.ensures.1 in rw is memory

pub returns-in-Some-clause-stopped : goal.returns-in-Some-clause-stopped
returns-in-Some-clause-stopped g c = λ who when. refused c.in-Some.refusal (λ tells. inl (sym (c.in_ok-refusal.ensures placing no_bytes who when) ∙ c.in-Some.is))

pub returns-in_err-compare-clause-stopped : goal.returns-in_err-compare-clause-stopped
returns-in_err-compare-clause-stopped g c = λ who when.
    let none : files_refused (given_of placing c.args.state.now no_bytes c.args.command.now who when c.args.view.now) ≡ None = sym (c.in_ok-refusal.ensures placing no_bytes who when) ∙ c.in_default.is in
    let is : c.from_residual-in_err-compare.result ≡ Err c.in_err-compare.field-0.0 = err_is _ _ c.from_residual-in_err-compare.ensures.1 in
    rw is (ends_for _ c.in_err-compare.ensures.stopped (λ no. no) (λ refusal differs tells. inr (none, (differs tells).0, (differs tells).1)) (λ name lost tells. (none, lost tells)) (λ rose. rose) (λ no. no))

pub returns-clause-stopped : goal.returns-clause-stopped
returns-clause-stopped g c = λ who when.
    let none : files_refused (given_of placing c.args.state.now no_bytes c.args.command.now who when c.args.view.now) ≡ None = sym (c.in_ok-refusal.ensures placing no_bytes who when) ∙ c.in_default.is in
    if_err_for _ _ c.read_config.result c.read_config.ensures.stopped (λ stop ends. ends_for _ ends (λ no. no) (λ refusal no. absurd no)
    (λ name lost tells. (
      none,
      lost-config c.args.state.now c.args.command.now c.requires.runs (reads (g.D.Disk.state c.args.disk.now)) (reads (g.D.Disk.state c.compare.new.disk)) name
          (ap effective (same_reads (g.D.Disk.state c.args.disk.now) (g.D.Disk.state c.compare.new.disk) (c.compare.ensures.same tells))) (c.in_ok-compare.ensures.kept tells) (lost tells),
    )) (λ rose. risen_later _ _ _ c.compare.ensures.later rose) (λ no. no))

pub returns-clause-row : goal.returns-clause-row
returns-clause-row g c = c.read_config.ensures.row

pub returns-clause-told : goal.returns-clause-told
returns-clause-told g c = IfOk-weaker c.read_config.result _ _ (λ row told tells bytes have.
    let same : effective (reads (g.D.Disk.state c.compare.new.disk)) ≡ effective (reads (g.D.Disk.state c.args.disk.now)) = ap effective (same_reads (g.D.Disk.state c.args.disk.now) (g.D.Disk.state c.compare.new.disk) (c.compare.ensures.same tells)) in
    told tells bytes (subst (λ (x : Option Image). HaveBytes x (Some c.args.state.now) bytes) (sym same) have)) c.read_config.ensures.told

pub returns-clause-some : goal.returns-clause-some
returns-clause-some g c = on_ok c.read_config.result _ c.in_ok-compare.ensures.some

pub returns-clause-none : goal.returns-clause-none
returns-clause-none g c = on_ok c.read_config.result _ c.in_ok-compare.ensures.none

pub returns-clause-kept : goal.returns-clause-kept
returns-clause-kept g c = IfOk-weaker c.read_config.result _ _ (λ row kept tells.
    let same : effective (reads (g.D.Disk.state c.compare.new.disk)) ≡ effective (reads (g.D.Disk.state c.args.disk.now)) = ap effective (same_reads (g.D.Disk.state c.args.disk.now) (g.D.Disk.state c.compare.new.disk) (c.compare.ensures.same tells)) in
    asked-kept-so c.args.state.now c.args.command.now c.requires.runs (effective (reads (g.D.Disk.state c.args.disk.now))) (c.in_ok-compare.ensures.kept tells)
    (subst (λ (x : Option Image). AreKept x (versions_of (cons_option (config_version (call_of c.args.state.now c.args.command.now []) (change_named c.args.state.now c.args.command.now.change)) []))) same (kept tells))) c.read_config.ensures.kept

-- ---- what follows from the calls alone

pub returns-in_err-compare-clause-same : goal.returns-in_err-compare-clause-same
returns-in_err-compare-clause-same g c = c.compare.ensures.same

pub returns-in_err-compare-clause-later : goal.returns-in_err-compare-clause-later
returns-in_err-compare-clause-later g c = c.compare.ensures.later

pub returns-clause-same : goal.returns-clause-same
returns-clause-same g c = λ tells. same_on (g.D.Disk.state c.args.disk.now) (g.D.Disk.state c.compare.new.disk) (g.D.Disk.state c.read_config.new.disk) (c.compare.ensures.same tells) (c.read_config.ensures.same tells)

pub returns-clause-later : goal.returns-clause-later
returns-clause-later g c = le_trans c.compare.ensures.later c.read_config.ensures.later
