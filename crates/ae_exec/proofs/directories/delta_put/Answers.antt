use Rattle.std.proofs.Common.{sym, ap, ◌∙◌}
use Rattle.ae_types.specs.Trees.{tree_of}
use Rattle.ae_exec.specs.Directories.{tree_by}
use Rattle.ae_exec.proofs.directories.delta_put.Goals as goal

pub returns-in-CopyFile-Some : goal.returns-in-CopyFile-Some
returns-in-CopyFile-Some c = ap (tree_of c.args.state.now) (c.from.ensures ∙ c.number.ensures.value) ∙ sym (λ i. tree_by (c.in-CopyFile-Some.is-0 i) (c.in-CopyFile-Some.is-1 i) c.args.state.now)
