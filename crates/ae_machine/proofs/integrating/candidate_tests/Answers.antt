use Rattle.std.proofs.Common.{◌∙◌, ap, List, length}
use Rattle.std.specs.Prelude.{filter}
use Rattle.ae_types.specs.Phases.{is_test}
use Rattle.ae_types.specs.Trees.{TreeRow}
use Rattle.ae_machine.proofs.integrating.candidate_tests.Goals as goal

pub returns : goal.returns
returns c = c.tests_in.ensures ∙ ap (λ (rows : List TreeRow). length (filter (λ (row : TreeRow). is_test row.usage) rows)) (c.as_slice.ensures.rows ∙ c.in_ok-tree.ensures)
