use Rattle.std.proofs.Common.{◌∙◌, sym, ap, subst, map}
use Rattle.std.proofs.lemmas.List.{take_all}
use Rattle.ae_base.specs.Rows.{Ascends}
use Rattle.ae_types.specs.Ordered.{itself}
use Rattle.ae_evidence.specs.Directories.{bytes_of}
use Rattle.ae_machine.specs.Sight.{read_at}
use Rattle.ae_machine.proofs.SnapshotRows.{rows-ascend}
use Rattle.ae_machine.proofs.reading.tree_read.Goals as goal

pub of-requires : goal.of-requires
of-requires c =
    subst Ascends
    (sym (c.loop-path.invariant ∙ ap (map (λ path. (path, bytes_of (read_at c.args.view.now path)))) (take_all c.loop-path.path-index c.args.paths.now c.loop-path-test.false)))
    (rows-ascend itself (λ path. bytes_of (read_at c.args.view.now path)) c.args.paths.now c.requires)
