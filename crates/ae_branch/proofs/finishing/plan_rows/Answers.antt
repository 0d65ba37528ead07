use Rattle.std.proofs.Common.{List}
use Rattle.ae_base.specs.declared.refusal.Refusal.{Refusal}
use Rattle.ae_outside.specs.Causes.{HasRisen}
use Rattle.ae_outside.specs.State.{reads}
use Rattle.ae_vault.specs.Vault.{effective}
use Rattle.ae_bundle.specs.declared.bundle.BundleFile.{BundleFile}
use Rattle.ae_exec.specs.Reading.{IsLostAmong}
use Rattle.ae_dist.specs.Answers as says
use Rattle.ae_dist.specs.Sending.{versions_of}
use Rattle.ae_dist.specs.Steps.{AreReadFrom}
use Rattle.ae_branch.specs.Finish.{PlansOn, branch_bundle}
use Rattle.ae_branch.specs.Steps.{Reads}
use Rattle.ae_branch.proofs.Steps.{goes_next, stops_first}
use Rattle.ae_branch.proofs.Stepping.{answers_as, says_stops}
use Rattle.ae_branch.proofs.finishing.plan_rows.Goals as goal

pub returns-in-Ok-clause-answer : goal.returns-in-Ok-clause-answer
returns-in-Ok-clause-answer g c =
    let image = reads (g.B.Disk.state c.args.disk.now) in
    goes_next g.B.Disk.tells (Reads image c.args.rows.now) (λ (files : List BundleFile). PlansOn c.args.state.now (branch_bundle c.args.name.now files)) (HasRisen (g.B.Disk.faults c.args.disk.now) (g.B.Disk.faults c.read_files.new.disk)) _
    (λ rose. rose) c.in-Ok.files (λ tells. says.done c.in-Ok.files (c.in-Ok.ensures.files tells)) c.plan_files.result
    (answers_as (Unit {0}) g.B.Disk.tells (PlansOn c.args.state.now (branch_bundle c.args.name.now c.in-Ok.files)) (PlansOn c.args.state.now (branch_bundle c.args.name.now c.in-Ok.files)) ⊥ _ (λ tells. tt) (λ tells said is. is)
    (λ none. absurd none) c.plan_files.result c.plan_files.ensures.answer)

pub returns-in-Err-clause-answer : goal.returns-in-Err-clause-answer
returns-in-Err-clause-answer g c =
    let image = reads (g.B.Disk.state c.args.disk.now) in
    stops_first g.B.Disk.tells g.B.Disk.tells (Reads image c.args.rows.now) (λ (files : List BundleFile). PlansOn c.args.state.now (branch_bundle c.args.name.now files)) _ _ (λ tells. tells) (λ rose. rose) c.in-Err.why
    (says_stops g.B.Disk.tells (AreReadFrom (effective image) c.args.rows.now) (λ (refusal : Refusal). ⊥) (IsLostAmong image (versions_of c.args.rows.now)) (HasRisen (g.B.Disk.faults c.args.disk.now) (g.B.Disk.faults c.read_files.new.disk)) c.in-Err.why c.in-Err.ensures.stopped)
