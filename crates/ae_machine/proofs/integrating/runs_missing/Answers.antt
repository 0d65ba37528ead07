use Rattle.std.proofs.Common.{◌≡◌, ◌∙◌, ap, subst, IfOk, IsSomeAnd}
use Rattle.ae_base.specs.declared.words.Ground.TheVariants.{Integrate}
use Rattle.ae_evidence.specs.Digest.{digest_rows}
use Rattle.ae_log.proofs.AppliedSteps.{if-ok}
use Rattle.ae_types.specs.declared.change.Change.{Change}
use Rattle.ae_types.specs.Runs.{missing}
use Rattle.ae_machine.proofs.integrating.runs_missing.Goals as goal

pub returns : goal.returns
returns c =
    let found = subst (λ change. IfOk c.missing.result (λ refusal. IsSomeAnd change (λ (change : Change). refusal ≡ missing c.args.state.now change Integrate c.digest_rows.result))) c.requires.named c.missing.ensures in
    if-ok c.missing.result _ _ found (ap (missing c.args.state.now c.args.change.now Integrate) (c.digest_rows.ensures ∙ ap digest_rows c.in_ok-tree.ensures))
