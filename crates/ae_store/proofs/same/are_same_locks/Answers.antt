use Rattle.std.proofs.lemmas.Slice.Eq.{slice_eq-Decides}
use Rattle.ae_store.proofs.SameTables.{lock_decides}
use Rattle.ae_store.proofs.same.are_same_locks.Goals as goal

pub returns : goal.returns
returns c = slice_eq-Decides lock_decides c.args.locks.now c.args.others.now c.eq.result c.eq.ensures
