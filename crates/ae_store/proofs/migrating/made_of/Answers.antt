use Rattle.std.proofs.Common.{◌≡◌, Err, refl}
use Rattle.ae_base.proofs.Results.{err_is}
use Rattle.ae_store.specs.declared.stop.Stop.TheVariants as stop
use Rattle.ae_store.proofs.migrating.made_of.Goals as goal

pub returns-in_err-batch-in-Some-clause-stopped : goal.returns-in_err-batch-in-Some-clause-stopped
returns-in_err-batch-in-Some-clause-stopped c = let is : c.from_residual.result ≡ Err stop.Memory = err_is _ _ c.from_residual.ensures.1 in rw is refl
