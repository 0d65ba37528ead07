use Rattle.std.proofs.Common.{◌≡◌, drop}
use Rattle.ae_types.specs.Ordered.{Ascends, itself}
use Rattle.ae_base.specs.Rows.{text_cmp}
use Rattle.ae_machine.specs.Directories.{in_order, put_paths}
use Rattle.ae_exec.proofs.directories.paths_in_order.Given as goal

abbrev pub invariant-loop-path : goal.invariant-loop-path
invariant-loop-path l = record {
  made : in_order l.paths ≡ put_paths (drop l.path-index l.path-items) l.ordered.items;
  ascend : Ascends text_cmp itself l.ordered.items;
}
