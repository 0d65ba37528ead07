use Rattle.std.specs.Prelude.{option_copied}
use Rattle.ae_store.proofs.BatchWhole.{table_stays}
use Rattle.ae_store.proofs.changed.put_table.Goals as goal

pub returns-then-has_same_table-clause-there : goal.returns-then-has_same_table-clause-there
returns-then-has_same_table-clause-there c = table_stays (option_copied c.args.old) c.args.new.now (c.has_same_table.ensures.0 c.if-has_same_table.true)
