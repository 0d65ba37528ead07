use Rattle.ae_base.proofs.Results.{if_ok_of_err}
use Rattle.ae_list.proofs.listing.list.Goals as goal

-- ---- where memory runs out

pub returns-in_err-put_listing : goal.returns-in_err-put_listing
returns-in_err-put_listing c = if_ok_of_err c.from_residual.result _ _ c.from_residual.ensures.1
