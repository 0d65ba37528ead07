use Rattle.std.proofs.Common.{◌≡◌, take, drop, not}
use Rattle.std.specs.List.{list_all}
use Rattle.std.specs.Option.{option_copied}
use Rattle.ae_types.specs.Clashes.{has_path, folders_of}
use Rattle.ae_rules.specs.Overlay.{paths_over}
use Rattle.ae_rules.proofs.ClearPaths.{folders_from}
use Rattle.ae_rules.proofs.clashes.is_clear.Given as goal

abbrev pub invariant-loop-at : goal.invariant-loop-at
invariant-loop-at l = list_all (λ folder. not (has_path (paths_over l.deltas l.rows (option_copied l.change)) folder)) (folders_of l.path)
    ≡ list_all (λ folder. not (has_path (paths_over l.deltas l.rows (option_copied l.change)) folder)) (folders_from (take l.at l.path) (drop l.at l.path))
