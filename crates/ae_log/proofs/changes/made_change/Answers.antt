use Rattle.std.proofs.Common.{◌∷◌, ◌++◌, ◌∙◌, []}
use Rattle.std.specs.Prelude.{None}
use Rattle.ae_base.specs.declared.words.Phase.TheVariants.{AwaitingDevelopment}
use Rattle.ae_base.specs.declared.words.What.TheVariants.{NewChange}
use Rattle.ae_log.proofs.changes.made_change.Goals as goal

pub returns : goal.returns
returns c = λ i. record {
  number = c.args.number;
  attributes = c.in_ok-copy-3.ensures i;
  phase = AwaitingDevelopment;
  developer = None;
  reviewing = None;
  reviewer = None;
  integrator = None;
  files = c.new.ensures i;
  evidence = c.new-2.ensures i;
  history = (c.in_ok-push.ensures.ok ∙ (λ j. c.new-history.ensures j ++ record { what = NewChange; who = c.in_ok-copy.ensures j; when = c.args.event.now.when; why = c.in_ok-copy-2.ensures j } ∷ [])) i;
}
