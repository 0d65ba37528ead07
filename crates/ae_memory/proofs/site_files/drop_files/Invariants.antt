use Rattle.std.proofs.Common.{◌≡◌, drop}
use Rattle.ae_memory.specs.FileRows.{tree_of, ElsewhereSame}
use Rattle.ae_memory.specs.Scripts.{without_paths}
use Rattle.ae_memory.proofs.site_files.drop_files.Given as goal

abbrev pub invariant-loop-path : goal.invariant-loop-path
invariant-loop-path l = record {
  here : without_paths (drop l.path-index l.paths) (tree_of l.files.items l.dir) ≡ without_paths l.paths (tree_of l.initial.files.items l.dir);
  others : ElsewhereSame l.dir (tree_of l.initial.files.items) (tree_of l.files.items);
}
