use Rattle.std.proofs.lemmas.Slice.Eq.{slice_eq-Decides}
use Rattle.ae_store.proofs.SameTables.{row_decides}
use Rattle.ae_store.proofs.same.are_same_rows.Goals as goal

pub returns : goal.returns
returns c = slice_eq-Decides row_decides c.args.rows.now c.args.others.now c.eq.result c.eq.ensures
