use Rattle.std.proofs.Common.{◌∙◌}
use Rattle.ae_base.proofs.Results.{on_ok_of_err}
use Rattle.ae_log.proofs.changes.alter_changes.Goals as goal

pub alter_change-requires : goal.alter_change-requires
alter_change-requires c =
    let same = c.into_vec-changes.ensures ∙ c.replace.ensures.value in
    record {
      ascend = rw (same) c.requires.ascend;
      may = λ change found. c.requires.may change (rw (same) at found);
    }

-- ---- where memory runs out

pub returns-in_err-made_change-in-New : goal.returns-in_err-made_change-in-New
returns-in_err-made_change-in-New c = on_ok_of_err c.from_residual.result _ _ c.from_residual.ensures.1

pub returns-in_err-alter_change-in_default : goal.returns-in_err-alter_change-in_default
returns-in_err-alter_change-in_default c = on_ok_of_err c.from_residual-in_err-alter_change-in_default.result _ _ c.from_residual-in_err-alter_change-in_default.ensures.1

pub returns-in_err-put_change-in-New : goal.returns-in_err-put_change-in-New
returns-in_err-put_change-in-New c = on_ok_of_err c.from_residual-in_err-put_change-in-New.result _ _ c.from_residual-in_err-put_change-in-New.ensures.1
