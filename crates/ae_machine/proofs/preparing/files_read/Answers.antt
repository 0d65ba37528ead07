use Rattle.std.proofs.Common.{◌∙◌, ap, map}
use Rattle.ae_log.proofs.AppliedSteps.{if-ok}
use Rattle.ae_evidence.specs.Directories.{bytes_of}
use Rattle.ae_machine.specs.Sight.{read_at}
use Rattle.ae_machine.proofs.preparing.files_read.Goals as goal

pub returns : goal.returns
returns c = λ command who.
    if-ok c.tree_read.result _ _ c.tree_read.ensures
    (ap (map (λ path. (path, bytes_of (read_at c.args.view.now path)))) (c.as_slice.ensures ∙ c.in_ok-paths.ensures.paths command who))
