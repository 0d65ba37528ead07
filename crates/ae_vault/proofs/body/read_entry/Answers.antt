use Rattle.std.proofs.Common.{Err, ap}
use Rattle.ae_base.proofs.Results.{err_was, if_ok_of_err}
use Rattle.ae_vault.specs.declared.error.VaultError.TheVariants.{DiskFault, Damaged}
use Rattle.ae_vault.proofs.Erring.{damaged_is_no_fault}
use Rattle.ae_vault.proofs.body.read_entry.Goals as goal

pub returns-then-rest-n-clause-ok : goal.returns-then-rest-n-clause-ok
returns-then-rest-n-clause-ok c = tt

pub returns-then-rest-n-clause-no_fault : goal.returns-then-rest-n-clause-no_fault
returns-then-rest-n-clause-no_fault c = λ is. damaged_is_no_fault is

pub returns-in_err-name-in-len1-up-clause-ok : goal.returns-in_err-name-in-len1-up-clause-ok
returns-in_err-name-in-len1-up-clause-ok c = if_ok_of_err c.from_residual.result _ _ c.from_residual.ensures.1

pub returns-in_err-name-in-len1-up-clause-damaged : goal.returns-in_err-name-in-len1-up-clause-damaged
returns-in_err-name-in-len1-up-clause-damaged c = λ is. absurd (c.in_err-name-in-len1-up.ensures.memory (ap Err (err_was c.from_residual.result _ Damaged c.from_residual.ensures.1 is)))

pub returns-in_err-name-in-len1-up-clause-no_fault : goal.returns-in_err-name-in-len1-up-clause-no_fault
returns-in_err-name-in-len1-up-clause-no_fault c = λ is. c.in_err-name-in-len1-up.ensures.no_fault (ap Err (err_was c.from_residual.result _ DiskFault c.from_residual.ensures.1 is))

pub returns-in-empty-clause-ok : goal.returns-in-empty-clause-ok
returns-in-empty-clause-ok c = tt

pub returns-in-empty-clause-no_fault : goal.returns-in-empty-clause-no_fault
returns-in-empty-clause-no_fault c = λ is. damaged_is_no_fault is

pub returns-in_ok-name-in-len1-up-clause-no_fault : goal.returns-in_ok-name-in-len1-up-clause-no_fault
returns-in_ok-name-in-len1-up-clause-no_fault c = c.read_kind.ensures.no_fault
