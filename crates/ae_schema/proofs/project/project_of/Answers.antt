use Rattle.ae_types.specs.Ordered.{itself}
use Rattle.ae_types.proofs.Keys.{by_number}
use Rattle.ae_types.proofs.Searched.{test-ascends}
use Rattle.ae_schema.proofs.project.project_of.Goals as goal

pub returns-clause-ascend : goal.returns-clause-ascend
returns-clause-ascend g c = test-ascends by_number itself c.into_rows.result c.into_rows.ensures.ascend
