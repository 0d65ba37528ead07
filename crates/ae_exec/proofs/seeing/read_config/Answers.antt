use Rattle.std.proofs.Common.{rules, ◌≡◌, ◌∙◌, ap, sym, subst, ℕ, List, [], ◌∷◌, Option, Some, Err}
use Rattle.std.specs.List.{cons_option}
use Rattle.ae_base.proofs.Results.{err_is}
use Rattle.ae_outside.specs.declared.dir.Content.TheVariants.{Bytes}
use Rattle.ae_outside.specs.State.{reads}
use Rattle.ae_types.specs.Trees.{TreeRow}
use Rattle.ae_types.specs.Versions.{live}
use Rattle.ae_vault.specs.Vault.{effective}
use Rattle.ae_machine.specs.Call.{call_of, change_named}
use Rattle.ae_machine.specs.Fits.{config_row}
use Rattle.ae_machine.specs.Versions.{config_version}
use Rattle.ae_exec.specs.declared.stop.Stop.TheVariants as stop
use Rattle.ae_exec.specs.Endings.{memory}
use Rattle.ae_exec.specs.Reading.{FirstIsLost, here, versions_of}
use Rattle.ae_exec.proofs.Endings.{ends_for}
use Rattle.ae_exec.proofs.RunVersions.{config-inside, config-lives}
use Rattle.ae_exec.proofs.Shown.{list-in}
use Rattle.ae_exec.proofs.seeing.read_config.Goals as goal

pub returns-in_err-row-clause-stopped : goal.returns-in_err-row-clause-stopped
returns-in_err-row-clause-stopped g c = let is : c.from_residual.result ≡ Err stop.Memory = err_is _ _ c.from_residual.ensures.1 in rw is memory

pub read_version-requires-clause-place : goal.read_version-requires-clause-place
read_version-requires-clause-place g c =
    let file : TreeRow = record { path = c.row.inside.path; usage = c.row.inside.usage; version = c.row.inside.version } in
    let found : config_version (call_of c.args.state.now c.args.command.now []) (change_named c.args.state.now c.args.command.now.change) ≡ Some file = search rules in
    config-inside c.args.state.now c.args.command.now file c.note_sound.ensures.sound found

pub returns-in_err-bytes-clause-stopped : goal.returns-in_err-bytes-clause-stopped
returns-in_err-bytes-clause-stopped g c =
    let is : c.from_residual-in_err-bytes.result ≡ Err c.in_err-bytes.field-0.0 = err_is _ _ c.from_residual-in_err-bytes.ensures.1 in
    let file : TreeRow = record { path = c.row.inside.path; usage = c.row.inside.usage; version = c.row.inside.version } in
    let found : config_version (call_of c.args.state.now c.args.command.now []) (change_named c.args.state.now c.args.command.now.change) ≡ Some file = search rules in
    rw is (ends_for _ c.in_err-bytes.ensures.stopped (λ none. none) (λ refusal none. none)
    (λ name damaged tells. record {
      is_pack = (damaged tells).0;
      first = subst (λ (row : Option TreeRow). FirstIsLost (effective (reads (g.D.Disk.state c.args.disk.now))) (versions_of (cons_option row []))) (sym found) (here c.row.inside.version [] (damaged tells).1);
    }) (λ rose. rose) (λ none. none))

pub returns-clause-told : goal.returns-clause-told
returns-clause-told g c = λ tells bytes have.
    let file : TreeRow = record { path = c.row.inside.path; usage = c.row.inside.usage; version = c.row.inside.version } in
    let found : config_version (call_of c.args.state.now c.args.command.now []) (change_named c.args.state.now c.args.command.now.change) ≡ Some file = search rules in
    let text : c.of.result ≡ c.in_ok-bytes.bytes.items = search rules in
    let same : c.of.result ≡ bytes c.row.inside.version.number = text ∙ c.in_ok-bytes.ensures.files tells ∙ sym (have c.row.inside.version (list-in (live c.args.state.now.files c.args.state.now.changes) c.row.inside.version (config-lives c.args.state.now c.args.command.now file found))) in
    ap (λ (b : List ℕ). (c.row.inside.path, Bytes b) ∷ []) same ∙ ap (config_row bytes) (sym found)

-- ---- what follows from the calls alone

pub returns-in_err-bytes-clause-same : goal.returns-in_err-bytes-clause-same
returns-in_err-bytes-clause-same g c = c.read_version.ensures.same

pub returns-in_err-bytes-clause-later : goal.returns-in_err-bytes-clause-later
returns-in_err-bytes-clause-later g c = c.read_version.ensures.later

pub returns-clause-same : goal.returns-clause-same
returns-clause-same g c = c.read_version.ensures.same

pub returns-clause-later : goal.returns-clause-later
returns-clause-later g c = c.read_version.ensures.later
