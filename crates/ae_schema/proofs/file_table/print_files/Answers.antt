use Rattle.ae_schema.specs.Files.{files_fields}
use Rattle.ae_schema.proofs.Fine.{files_well_formed}
use Rattle.ae_schema.proofs.Put.{lines_again}
use Rattle.ae_schema.proofs.file_table.print_files.Goals as goal

pub returns-clause-value : goal.returns-clause-value
returns-clause-value c = (rw c.new-out.ensures.items at c.in_ok-put_files.ensures.put).text

pub returns-clause-again : goal.returns-clause-again
returns-clause-again c =
    lines_again (files_fields (c.args.files.now, c.args.locks.now)) _
    (files_well_formed (c.args.files.now, c.args.locks.now)) (rw c.new-out.ensures.items at c.in_ok-put_files.ensures.put)
