use Rattle.std.proofs.Common.{◌≡◌, List, ℕ, Err, Some, subst}
use Rattle.std.proofs.Math.Nat.{le_trans}
use Rattle.std.proofs.lemmas.Result.{err_from_is_err_and}
use Rattle.ae_outside.proofs.Rising.{counted_on}
use Rattle.ae_outside.specs.Image.{Image}
use Rattle.ae_outside.specs.State.{reads}
use Rattle.ae_outside.specs.Time.{same_on, same_reads}
use Rattle.ae_store.specs.Records.{StandsFor}
use Rattle.ae_audit.specs.Files.{files_by, pack_file}
use Rattle.ae_audit.specs.Steps.{IsLoaded, MayStopOn}
use Rattle.ae_audit.proofs.Ends.{loaded-stops, state-ends}
use Rattle.ae_audit.proofs.auditing.certificates.Goals as goal

pub returns-in_err-state-clause-answer : goal.returns-in_err-state-clause-answer
returns-in_err-state-clause-answer g c = λ t.
    let image : Image = reads (g.D.Disk.state c.args.disk.now) in
    let p = err_from_is_err_and c.from_residual-in_err-state.result c.from_residual-in_err-state.ensures.1 in
    let reads_same = same_reads _ _ (c.read_redo.ensures.change t) in
    let here : Image = files_by c.in_ok-redo.redo.items image in
    let files_is : files_by c.deref.result.now (reads (g.D.Disk.state c.read_redo.new.disk)) ≡ here = λ i. files_by (c.deref.ensures.value i) (reads_same i) in
    rw (p.1, p.2) (loaded-stops image here c.in_err-state.field-0.0 (c.in_ok-redo.ensures.redo t) (subst (λ (files : Image). IsLoaded files (Err c.in_err-state.field-0.0)) files_is (c.in_err-state.ensures.loaded t)))

pub returns-clause-answer : goal.returns-clause-answer
returns-clause-answer g c = λ t.
    let image : Image = reads (g.D.Disk.state c.args.disk.now) in
    let reads_same = same_reads _ _ (c.read_redo.ensures.change t) in
    let later_same = same_reads _ _ (same_on _ _ _ (c.read_redo.ensures.change t) (c.load.ensures.change t)) in
    let here : Image = files_by c.in_ok-redo.redo.items image in
    let files_is : files_by c.deref.result.now (reads (g.D.Disk.state c.read_redo.new.disk)) ≡ here = λ i. files_by (c.deref.ensures.value i) (reads_same i) in
    let pack_is : files_by c.deref-2.result.now (reads (g.D.Disk.state c.load.new.disk)) pack_file ≡ here pack_file = λ i. files_by (c.deref-2.ensures.value i) (later_same i) pack_file in
    state-ends image here c.in_ok-state.state c.certificates_of-rows.result (c.in_ok-redo.ensures.redo t)
    (subst (λ (files : Image). StandsFor files (Some c.in_ok-state.state)) files_is (c.in_ok-state.ensures.loaded t))
    (subst (λ (packed : List ℕ). MayStopOn packed c.in_ok-state.state c.certificates_of-rows.result) pack_is (c.certificates_of-rows.ensures.answer t))

pub returns-clause-change : goal.returns-clause-change
returns-clause-change g c = λ t. same_on _ _ _ (same_on _ _ _ (c.read_redo.ensures.change t) (c.load.ensures.change t)) (c.certificates_of-rows.ensures.change t)

pub returns-clause-cause : goal.returns-clause-cause
returns-clause-cause g c = counted_on _ _ _ _ _ (le_trans c.read_redo.ensures.cause.later c.load.ensures.cause.later) (λ fault. fault) c.certificates_of-rows.ensures.cause
