use Rattle.std.proofs.Common.{rules, ◌≡◌, ◌∙◌, sym}
use Rattle.std.specs.Prelude.{count_by}
use Rattle.std.proofs.lemmas.List.Sums.{length-filter}
use Rattle.ae_types.specs.Phases.{is_test}
use Rattle.ae_types.specs.Trees.{TreeRow}
use Rattle.ae_machine.proofs.integrating.tests_in.Goals as goal

pub returns : goal.returns
returns c =
    let counted : c.count.result ≡ count_by (λ (row : TreeRow). is_test row.usage) c.args.rows.now = search rules in
    counted ∙ sym (length-filter (λ (row : TreeRow). is_test row.usage) c.args.rows.now)
