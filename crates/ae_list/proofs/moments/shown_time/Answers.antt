use Rattle.ae_base.proofs.Results.{if_ok_of_err}
use Rattle.ae_list.proofs.moments.shown_time.Goals as goal

-- ---- where memory runs out

pub returns-in_err-put_moment : goal.returns-in_err-put_moment
returns-in_err-put_moment c = if_ok_of_err c.from_residual.result _ _ c.from_residual.ensures.1
