use Rattle.std.proofs.Common.{rules}
use Rattle.std.specs.Ordering.{is_lt}
use Rattle.std.proofs.lemmas.List.Sorted.{IsPartitionPoint-from_clause}
use Rattle.ae_types.specs.declared.file_table.FileRow.{FileRow}
use Rattle.ae_types.specs.Found.{row_path}
use Rattle.ae_machine.specs.PathClash.{place_to}
use Rattle.ae_machine.proofs.InFolder.{parted-from, partitioned}
use Rattle.ae_machine.proofs.path_clash.first_row.Goals as goal

pub returns-clause-behind : goal.returns-clause-behind
returns-clause-behind c = parted-from row_path c.args.folder.now c.args.rows.now c.partition_point.result c.partition_point.ensures.bound
    (IsPartitionPoint-from_clause (λ (row : FileRow). is_lt (place_to c.args.folder.now (row_path row))) c.args.rows.now c.partition_point.result c.partition_point.ensures.partitioned
    (partitioned row_path c.args.folder.now c.args.rows.now c.requires) (λ a r f' called. search rules))
