use Rattle.std.proofs.Common.{sym}
use Rattle.ae_rules.proofs.entries.entry_has_file.Goals as goal

pub has_file-requires : goal.has_file-requires
has_file-requires c = c.requires.changes.good c.in-Some.delta.now.change c.in-Some-change_in.change.now (sym c.in-Some-change_in.ensures)
