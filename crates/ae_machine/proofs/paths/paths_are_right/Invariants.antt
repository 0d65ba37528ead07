use Rattle.std.proofs.Common.{◌≡◌, None, true, drop}
use Rattle.ae_types.specs.Found.{file_path}
use Rattle.ae_types.specs.Ordered.{Ascends}
use Rattle.ae_base.specs.Rows.{text_cmp}
use Rattle.ae_machine.specs.Filing.{are_clear}
use Rattle.ae_machine.specs.Paths.{first_path_refused}
use Rattle.ae_machine.proofs.paths.paths_are_right.Given as goal

abbrev pub invariant-loop-path : goal.invariant-loop-path
invariant-loop-path l =
    (first_path_refused l.call (drop l.path-index l.path-items) l.files.items ≡ first_path_refused l.call l.call.command.paths l.change.files)
    × Ascends text_cmp file_path l.files.items
    × (l.known_clear ≡ true → are_clear l.call.stands l.files.items ≡ None)
