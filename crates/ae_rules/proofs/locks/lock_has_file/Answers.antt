use Rattle.std.proofs.Common.{sym}
use Rattle.ae_rules.proofs.locks.lock_has_file.Goals as goal

pub has_file-requires : goal.has_file-requires
has_file-requires c = c.requires.changes.good c.args.lock.now.change c.in-Some.change.now (sym c.in-Some.ensures)
