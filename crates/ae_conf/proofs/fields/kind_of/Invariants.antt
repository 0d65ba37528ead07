use Rattle.std.proofs.Common.{◌≡◌, drop}
use Rattle.std.specs.Map.{lookup}
use Rattle.std.specs.Str.{bytes_eq}
use Rattle.ae_conf.specs.Fields.{kinds_seen}
use Rattle.ae_conf.proofs.fields.kind_of.Given as goal

abbrev pub invariant-loop-known : goal.invariant-loop-known
invariant-loop-known l = lookup (bytes_eq l.name) (kinds_seen (drop l.known-index l.kinds)) ≡ lookup (bytes_eq l.name) (kinds_seen l.kinds)
