use Rattle.std.proofs.Common.{rules, ◌≡◌, subst, [], Err}
use Rattle.ae_base.proofs.Results.{err_is}
use Rattle.ae_outside.specs.State.{reads}
use Rattle.ae_types.specs.declared.version.VersionRef.{VersionRef}
use Rattle.ae_vault.specs.Vault.{effective}
use Rattle.ae_history.specs.Packed.{AreOf}
use Rattle.ae_exec.specs.declared.stop.Stop.TheVariants as stop
use Rattle.ae_exec.specs.Endings.{memory}
use Rattle.ae_exec.specs.Reading.{IsKept, here}
use Rattle.ae_exec.proofs.Endings.{ends_for}
use Rattle.ae_exec.proofs.running.push_row.Goals as goal

pub returns-in_err-bytes-clause-stopped : goal.returns-in_err-bytes-clause-stopped
returns-in_err-bytes-clause-stopped g c =
    let is : c.from_residual.result ≡ Err c.in_err-bytes.field-0.0 = err_is _ _ c.from_residual.ensures.1 in
    let same : c.row.inside.version ≡ c.args.row.now.version = search rules in
    rw is (ends_for _ c.in_err-bytes.ensures.stopped (λ none. none) (λ refusal none. none)
    (λ name damaged tells. record { is_pack = (damaged tells).0; first = here c.args.row.now.version [] (subst (λ (v : VersionRef). IsKept (effective (reads (g.D.Disk.state c.args.disk.now))) v → ⊥) same (damaged tells).1) }) (λ rose. rose) (λ none. none))

pub returns-clause-kept : goal.returns-clause-kept
returns-clause-kept g c = λ tells.
    let same : c.row.inside.version ≡ c.args.row.now.version = search rules in
    (subst (λ (v : VersionRef). IsKept (effective (reads (g.D.Disk.state c.args.disk.now))) v) same (subst (AreOf c.row.inside.version) (c.in_ok-bytes.ensures.files tells) c.in_ok-bytes.ensures.kept), tt)

pub returns-in_err-put_bytes-clause-stopped : goal.returns-in_err-put_bytes-clause-stopped
returns-in_err-put_bytes-clause-stopped g c = let is : c.from_residual-in_err-put_bytes.result ≡ Err stop.Memory = err_is _ _ c.from_residual-in_err-put_bytes.ensures.1 in rw is memory

-- ---- what follows from the calls alone

pub returns-in_err-bytes-clause-same : goal.returns-in_err-bytes-clause-same
returns-in_err-bytes-clause-same g c = c.read_version.ensures.same

pub returns-in_err-bytes-clause-later : goal.returns-in_err-bytes-clause-later
returns-in_err-bytes-clause-later g c = c.read_version.ensures.later

pub returns-in_err-put_bytes-clause-same : goal.returns-in_err-put_bytes-clause-same
returns-in_err-put_bytes-clause-same g c = c.read_version.ensures.same

pub returns-in_err-put_bytes-clause-later : goal.returns-in_err-put_bytes-clause-later
returns-in_err-put_bytes-clause-later g c = c.read_version.ensures.later

pub returns-clause-same : goal.returns-clause-same
returns-clause-same g c = c.read_version.ensures.same

pub returns-clause-later : goal.returns-clause-later
returns-clause-later g c = c.read_version.ensures.later
