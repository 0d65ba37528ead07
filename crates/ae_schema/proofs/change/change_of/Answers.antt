use Rattle.ae_types.specs.Found.{file_path}
use Rattle.ae_types.specs.Runs.{run_of}
use Rattle.ae_types.proofs.Keys.{by_text, by_run}
use Rattle.ae_types.proofs.Searched.{test-ascends}
use Rattle.ae_schema.proofs.change.change_of.Goals as goal

pub returns-clause-ascend : goal.returns-clause-ascend
returns-clause-ascend g c =
    (test-ascends by_text file_path c.into_rows.result c.into_rows.ensures.ascend, test-ascends by_run run_of c.into_rows-2.result c.into_rows-2.ensures.ascend)
