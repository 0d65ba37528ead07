use Rattle.std.proofs.Common.{ℕ, List, map, arith, Bor}
use Rattle.ae_text.specs.View.{named_node}
use Rattle.ae_schema.proofs.Places.{end_wrong}
use Rattle.ae_schema.proofs.fields.EndFields.read.Goals as goal

pub returns-in-len1-up-clause-bad : goal.returns-in-len1-up-clause-bad
returns-in-len1-up-clause-bad c =
    (omega arith, end_wrong (λ x. Unit {0}) (record {}) tt (map (λ (s : Bor (List ℕ)). s.now) c.args._names.now) named_node c.args.fields.now c.in-len1-up.len_at_least)
