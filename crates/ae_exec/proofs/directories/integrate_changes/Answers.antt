use Rattle.std.proofs.Common.{rules, ◌≡◌, ◌∙◌, ap, sym, [], ◌∷◌, Some, Err}
use Rattle.std.specs.Option.{option_and_then}
use Rattle.ae_base.proofs.Results.{err_is}
use Rattle.ae_outside.specs.declared.dir.Dir.TheVariants.{Integrate}
use Rattle.ae_types.specs.declared.change.Change.{Change}
use Rattle.ae_types.specs.Found.{change_at}
use Rattle.ae_evidence.specs.declared.directories.DirChange.TheVariants.{Fill}
use Rattle.ae_exec.specs.declared.stop.Stop.TheVariants as stop
use Rattle.ae_exec.specs.Endings.{memory}
use Rattle.ae_exec.proofs.OwnDirs.{named-at, one-of-delta, one-own, integrate-own, integrated-changes}
use Rattle.ae_exec.proofs.RunVersions.{candidate-have}
use Rattle.ae_exec.proofs.directories.integrate_changes.Goals as goal

pub returns-in_err-one_change-clause-stopped : goal.returns-in_err-one_change-clause-stopped
returns-in_err-one_change-clause-stopped g c = let is : c.from_residual-in_err-one_change.result ≡ Err stop.Memory = err_is _ _ c.from_residual-in_err-one_change.ensures.1 in rw is memory

pub returns-clause-delta : goal.returns-clause-delta
returns-clause-delta g c = one-of-delta c.args.command.now c.args.state.now (Fill (Integrate c.next_delta.result) c.in_ok-files.files) _ c.in_ok-one_change.ensures (ap Integrate c.next_delta.ensures)

pub returns-clause-own : goal.returns-clause-own
returns-clause-own g c =
    one-own c.args.command.now (Fill (Integrate c.next_delta.result) c.in_ok-files.files) _ c.in_ok-one_change.ensures (integrate-own c.args.command.now c.next_delta.result c.requires.begin)

pub returns-clause-changes : goal.returns-clause-changes
returns-clause-changes g c = λ tells bytes who when view have.
    let change : Change = c.in-Some.change.now in
    let found : option_and_then (change_at c.args.state.now) c.args.command.now.change ≡ Some change = search rules in
    c.in_ok-one_change.ensures
    ∙ (λ i. Fill (Integrate (c.next_delta.ensures i)) ((c.in_ok-files.ensures.rows tells ∙ candidate-have c.args.state.now _ bytes have change.number change (named-at c.args.state.now c.args.command.now.change change found)) i) ∷ [])
    ∙ sym (integrated-changes c.args.state.now bytes c.args.command.now who when view change found c.requires.begin)

pub candidate_files-requires-clause-named : goal.candidate_files-requires-clause-named
candidate_files-requires-clause-named g c =
    let found : option_and_then (change_at c.args.state.now) c.args.command.now.change ≡ Some c.in-Some.change.now = search rules in
    named-at c.args.state.now c.args.command.now.change c.in-Some.change.now found

-- ---- what follows from the calls alone

pub returns-in_err-files-clause-same : goal.returns-in_err-files-clause-same
returns-in_err-files-clause-same g c = c.candidate_files.ensures.same

pub returns-in_err-files-clause-later : goal.returns-in_err-files-clause-later
returns-in_err-files-clause-later g c = c.candidate_files.ensures.later

pub returns-in_err-one_change-clause-same : goal.returns-in_err-one_change-clause-same
returns-in_err-one_change-clause-same g c = c.candidate_files.ensures.same

pub returns-in_err-one_change-clause-later : goal.returns-in_err-one_change-clause-later
returns-in_err-one_change-clause-later g c = c.candidate_files.ensures.later

pub returns-clause-same : goal.returns-clause-same
returns-clause-same g c = c.candidate_files.ensures.same

pub returns-clause-later : goal.returns-clause-later
returns-clause-later g c = c.candidate_files.ensures.later
