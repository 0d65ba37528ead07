use Rattle.ae_types.specs.Found.{row_path, lock_path}
use Rattle.ae_types.proofs.Keys.{by_text}
use Rattle.ae_types.proofs.Searched.{test-ascends}
use Rattle.ae_schema.proofs.file_table.files_of.Goals as goal

pub returns-clause-ascend : goal.returns-clause-ascend
returns-clause-ascend c =
    (test-ascends by_text row_path c.into_rows.result c.into_rows.ensures.ascend, test-ascends by_text lock_path c.into_rows-2.result c.into_rows-2.ensures.ascend)
