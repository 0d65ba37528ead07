use Rattle.std.proofs.Common.{◌≡◌, take}
use Rattle.std.specs.Prelude.{filter}
use Rattle.ae_types.specs.Versions.{has_units}
use Rattle.ae_rules.proofs.versions.with_units.Given as goal

abbrev pub invariant-loop-version : goal.invariant-loop-version
invariant-loop-version l = l.some.items ≡ filter has_units (take l.version-index l.versions)
