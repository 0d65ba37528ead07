use Rattle.std.proofs.Common.{◌≡◌, drop}
use Rattle.ae_base.specs.Rows.{text_cmp}
use Rattle.ae_types.specs.Found.{row_path}
use Rattle.ae_types.specs.Ordered.{Ascends}
use Rattle.ae_log.specs.After.{all_entered}
use Rattle.ae_log.proofs.file_rows.enter_files.Given as goal

abbrev pub invariant-loop-file : goal.invariant-loop-file
invariant-loop-file l = record {
  left : all_entered l.delta (drop l.file-index l.files) l.rows.items ≡ all_entered l.delta l.files l.initial.rows.items;
  ascend : Ascends text_cmp row_path l.rows.items;
}
