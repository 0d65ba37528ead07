use Rattle.std.proofs.Common.{◌∙◌, ap}
use Rattle.std.specs.List.{list_any}
use Rattle.ae_machine.specs.Versions.{is_test_at}
use Rattle.ae_machine.proofs.Picked.{own-test}
use Rattle.ae_machine.proofs.preparing.is_own_test.Goals as goal

pub returns : goal.returns
returns c = c.has_test_at.ensures ∙ ap (list_any (is_test_at c.args.path.now)) c.as_slice.ensures ∙ own-test c.args.path.now c.args.change.now.files
