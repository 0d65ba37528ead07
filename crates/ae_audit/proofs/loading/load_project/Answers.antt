use Rattle.std.proofs.Common.{ℕ, List, Err, refl, ap, subst}
use Rattle.std.proofs.Math.Nat.{le_refl}
use Rattle.std.proofs.lemmas.Result.{err_from_is_err_and}
use Rattle.ae_base.proofs.Results.{err_was}
use Rattle.ae_outside.proofs.Rising.{counted_on}
use Rattle.ae_base.specs.declared.want.Want.TheVariants.{All as Everything}
use Rattle.ae_outside.specs.Image.{Image, IsSame}
use Rattle.ae_outside.specs.State.{reads}
use Rattle.ae_outside.specs.Time.{goes_on_refl, same_on, same_reads}
use Rattle.ae_types.specs.Observation.{Observation}
use Rattle.ae_store.specs.Damage.{ReadsProject, ReadsTable, ReadsChanges}
use Rattle.ae_store.proofs.LoadSteps.{err_of}
use Rattle.ae_store.proofs.OneState.{Reads}
use Rattle.ae_audit.specs.declared.stop.Stop.TheVariants.{DiskFault}
use Rattle.ae_audit.specs.Files.{files_by}
use Rattle.ae_audit.specs.Steps.{AreRead}
use Rattle.ae_audit.proofs.LoadSteps.{project_stops, table_stops, changes_stop, checked_so, checked_fault}
use Rattle.ae_audit.proofs.loading.load_project.Goals as goal

pub returns-in_err-project-clause-loaded : goal.returns-in_err-project-clause-loaded
returns-in_err-project-clause-loaded g c = λ t.
    let here : Image = files_by c.args.redo.now (reads (g.D.Disk.state c.args.disk.now)) in
    let p = err_from_is_err_and c.from_residual.result c.from_residual.ensures.1 in
    rw (p.1, p.2) (project_stops c.args.format here c.in_err-project.field-0.0 (c.in_err-project.ensures.value here (c.requires t)))

pub returns-in-Err-clause-loaded : goal.returns-in-Err-clause-loaded
returns-in-Err-clause-loaded g c = λ t.
    let here : Image = files_by c.args.redo.now (reads (g.D.Disk.state c.args.disk.now)) in
    let rp : ReadsProject c.args.format here c.in_ok-project.project c.in_ok-project.numbers = c.in_ok-project.ensures.value here (c.requires t) in
    table_stops c.args.format here c.in-Err.stop c.in_ok-project.project c.in_ok-project.numbers rp (c.in-Err.ensures.table t)

pub returns-in-Err-load_changes-clause-loaded : goal.returns-in-Err-load_changes-clause-loaded
returns-in-Err-load_changes-clause-loaded g c = λ t.
    let here : Image = files_by c.args.redo.now (reads (g.D.Disk.state c.args.disk.now)) in
    let rp : ReadsProject c.args.format here c.in_ok-project.project c.in_ok-project.numbers = c.in_ok-project.ensures.value here (c.requires t) in
    let rt : ReadsTable here c.in_ok-project.project c.in-Ok.files c.in-Ok.locks = c.in-Ok.ensures.table t in
    let same = ap (files_by c.args.redo.now) (same_reads _ _ (c.load_table.ensures.change t)) in
    let bad : AreRead c.args.format here c.as_slice.result.now (Err c.in-Err-load_changes.stop) = subst (λ (f : Image). AreRead c.args.format f c.as_slice.result.now (Err c.in-Err-load_changes.stop)) same (c.in-Err-load_changes.ensures.loaded t) in
    let bad_here : AreRead c.args.format here c.in_ok-project.numbers (Err c.in-Err-load_changes.stop) = subst (λ (ns : List ℕ). AreRead c.args.format here ns (Err c.in-Err-load_changes.stop)) c.as_slice.ensures bad in
    changes_stop c.args.format here c.in-Err-load_changes.stop c.in_ok-project.project c.in_ok-project.numbers rp c.in-Ok.files c.in-Ok.locks rt bad_here

pub returns-clause-loaded : goal.returns-clause-loaded
returns-clause-loaded g c = λ t.
    let here : Image = files_by c.args.redo.now (reads (g.D.Disk.state c.args.disk.now)) in
    let rp : ReadsProject c.args.format here c.in_ok-project.project c.in_ok-project.numbers = c.in_ok-project.ensures.value here (c.requires t) in
    let rt : ReadsTable here c.in_ok-project.project c.in-Ok.files c.in-Ok.locks = c.in-Ok.ensures.table t in
    let same = ap (files_by c.args.redo.now) (same_reads _ _ (c.load_table.ensures.change t)) in
    let later : ReadsChanges c.args.format here c.as_slice.result.now c.in-Ok-load_changes.changes = subst (λ (f : Image). ReadsChanges c.args.format f c.as_slice.result.now c.in-Ok-load_changes.changes) same (c.in-Ok-load_changes.ensures.loaded t) in
    let rc : ReadsChanges c.args.format here c.in_ok-project.numbers c.in-Ok-load_changes.changes = subst (λ (ns : List ℕ). ReadsChanges c.args.format here ns c.in-Ok-load_changes.changes) c.as_slice.ensures later in
    let parts : Observation = record { project = c.in_ok-project.project; numbers = c.in_ok-project.numbers; files = c.in-Ok.files; locks = c.in-Ok.locks; changes = c.in-Ok-load_changes.changes } in
    let read : Reads c.args.format Everything here parts = record { project = rp; table = rt; changes = rc } in
    checked_so c.args.format here parts c.checked.result read c.checked.ensures

pub returns-clause-change : goal.returns-clause-change
returns-clause-change g c = λ t.
    same_on _ _ _ (c.load_table.ensures.change t) (c.load_changes.ensures.change t)

pub returns-clause-cause : goal.returns-clause-cause
returns-clause-cause g c =
    let parts : Observation = record { project = c.in_ok-project.project; numbers = c.in_ok-project.numbers; files = c.in-Ok.files; locks = c.in-Ok.locks; changes = c.in-Ok-load_changes.changes } in
    counted_on _ _ _ _ _ c.load_table.ensures.cause.later (λ fault. absurd (checked_fault parts c.checked.result c.checked.ensures fault)) c.load_changes.ensures.cause

-- ---- what follows from the calls alone

pub returns-in_err-project-clause-change : goal.returns-in_err-project-clause-change
returns-in_err-project-clause-change g c = λ t. goes_on_refl IsSame _ (λ f. refl)

pub returns-in_err-project-clause-cause : goal.returns-in_err-project-clause-cause
returns-in_err-project-clause-cause g c = record {
  later = le_refl _;
  rose = λ fault. absurd (c.in_err-project.ensures.no_fault (ap Err (err_was c.from_residual.result _ DiskFault c.from_residual.ensures.1 fault)));
}

pub returns-in-Err-clause-change : goal.returns-in-Err-clause-change
returns-in-Err-clause-change g c = c.load_table.ensures.change

pub returns-in-Err-clause-cause : goal.returns-in-Err-clause-cause
returns-in-Err-clause-cause g c = counted_on _ _ _ _ _ (le_refl _) (err_of c.in-Err.stop DiskFault) c.in-Err.ensures.cause

pub returns-in-Err-load_changes-clause-change : goal.returns-in-Err-load_changes-clause-change
returns-in-Err-load_changes-clause-change g c = λ t. same_on _ _ _ (c.load_table.ensures.change t) (c.load_changes.ensures.change t)

pub returns-in-Err-load_changes-clause-cause : goal.returns-in-Err-load_changes-clause-cause
returns-in-Err-load_changes-clause-cause g c = counted_on _ _ _ _ _ c.load_table.ensures.cause.later (err_of c.in-Err-load_changes.stop DiskFault) c.in-Err-load_changes.ensures.cause
