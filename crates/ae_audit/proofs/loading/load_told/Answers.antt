use Rattle.std.proofs.Common.{◌≢◌, [], Err, refl, sym, ◌∙◌, ap, subst}
use Rattle.std.proofs.Math.Nat.{le_refl}
use Rattle.std.proofs.lemmas.Result.{err_from_is_err_and}
use Rattle.ae_base.proofs.Results.{err_was}
use Rattle.ae_outside.specs.Image.{Image, IsSame}
use Rattle.ae_outside.specs.State.{reads}
use Rattle.ae_outside.specs.Time.{goes_on_refl}
use Rattle.ae_schema.specs.Formats.{IsOfFormat}
use Rattle.ae_store.specs.Names.{project_file}
use Rattle.ae_audit.specs.declared.stop.Stop.TheVariants.{DiskFault}
use Rattle.ae_audit.specs.Files.{files_by}
use Rattle.ae_audit.specs.Steps.{IsFormatRead}
use Rattle.ae_audit.proofs.LoadSteps.{format_stops, loaded_in}
use Rattle.ae_audit.proofs.loading.load_told.Goals as goal

pub returns-in_err-format-clause-loaded : goal.returns-in_err-format-clause-loaded
returns-in_err-format-clause-loaded g c = λ t.
    let here : Image = files_by c.args.redo.now (reads (g.D.Disk.state c.args.disk.now)) in
    let some : here project_file ≢ [] = λ e. c.requires.some (sym (c.requires.bytes t) ∙ e) in
    let p = err_from_is_err_and c.from_residual.result c.from_residual.ensures.1 in
    rw (p.1, p.2) (format_stops here c.in_err-format.field-0.0 some (subst (λ bytes. IsFormatRead bytes (Err c.in_err-format.field-0.0)) (sym (c.requires.bytes t)) c.in_err-format.ensures.told))

pub returns-in_err-format-clause-change : goal.returns-in_err-format-clause-change
returns-in_err-format-clause-change g c = λ t. goes_on_refl IsSame _ (λ f. refl)

pub returns-in_err-format-clause-cause : goal.returns-in_err-format-clause-cause
returns-in_err-format-clause-cause g c = record {
  later = le_refl _;
  rose = λ fault. absurd (c.in_err-format.ensures.no_fault (ap Err (err_was c.from_residual.result _ DiskFault c.from_residual.ensures.1 fault)));
}

pub returns-clause-loaded : goal.returns-clause-loaded
returns-clause-loaded g c = λ t.
    let here : Image = files_by c.args.redo.now (reads (g.D.Disk.state c.args.disk.now)) in
    let some : here project_file ≢ [] = λ e. c.requires.some (sym (c.requires.bytes t) ∙ e) in
    loaded_in c.in_ok-format.format here c.load_project.result some (subst (IsOfFormat c.in_ok-format.format) (sym (c.requires.bytes t)) c.in_ok-format.ensures.told) (c.load_project.ensures.loaded t)
