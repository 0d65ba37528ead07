use Rattle.std.proofs.Common.{◌∙◌, ap}
use Rattle.ae_log.proofs.AppliedSteps.{if-ok}
use Rattle.ae_machine.specs.Freezing.{first_content_refused}
use Rattle.ae_machine.proofs.asking.kept_refused.Goals as goal

pub returns : goal.returns
returns c = λ command who. if-ok c.contents_refused.result _ _ c.contents_refused.ensures (ap (first_content_refused c.args.view.now) (c.as_slice.ensures ∙ c.in_ok-paths.ensures.paths command who))
