use Rattle.std.proofs.Common.{◌≡◌, drop}
use Rattle.std.specs.Map.{lookup}
use Rattle.std.specs.Str.{bytes_eq}
use Rattle.ae_text.specs.View.{fields_seen}
use Rattle.ae_conf.proofs.fields.value_of.Given as goal

abbrev pub invariant-loop-field : goal.invariant-loop-field
invariant-loop-field l = lookup (bytes_eq l.name) (fields_seen (drop l.field-index l.fields)) ≡ lookup (bytes_eq l.name) (fields_seen l.fields)
