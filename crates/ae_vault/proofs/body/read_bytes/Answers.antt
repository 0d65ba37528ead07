use Rattle.std.proofs.Common.{Err, ap}
use Rattle.ae_base.proofs.Results.{err_was, if_ok_of_err, ok_is_no_err}
use Rattle.ae_vault.specs.declared.error.VaultError.TheVariants.{DiskFault, Damaged}
use Rattle.ae_vault.proofs.Erring.{damaged_is_no_fault}
use Rattle.ae_vault.proofs.body.read_bytes.Goals as goal

pub returns-then-rest-lt8-clause-ok : goal.returns-then-rest-lt8-clause-ok
returns-then-rest-lt8-clause-ok c = tt

pub returns-then-rest-lt8-clause-no_fault : goal.returns-then-rest-lt8-clause-no_fault
returns-then-rest-lt8-clause-no_fault c = λ is. damaged_is_no_fault is

pub returns-then-rest-len-clause-ok : goal.returns-then-rest-len-clause-ok
returns-then-rest-len-clause-ok c = tt

pub returns-then-rest-len-clause-no_fault : goal.returns-then-rest-len-clause-no_fault
returns-then-rest-len-clause-no_fault c = λ is. damaged_is_no_fault is

pub returns-in_err-bytes-clause-ok : goal.returns-in_err-bytes-clause-ok
returns-in_err-bytes-clause-ok c = if_ok_of_err c.from_residual.result _ _ c.from_residual.ensures.1

pub returns-in_err-bytes-clause-damaged : goal.returns-in_err-bytes-clause-damaged
returns-in_err-bytes-clause-damaged c = λ is. absurd (c.in_err-bytes.ensures.memory (ap Err (err_was c.from_residual.result _ Damaged c.from_residual.ensures.1 is)))

pub returns-in_err-bytes-clause-no_fault : goal.returns-in_err-bytes-clause-no_fault
returns-in_err-bytes-clause-no_fault c = λ is. c.in_err-bytes.ensures.no_fault (ap Err (err_was c.from_residual.result _ DiskFault c.from_residual.ensures.1 is))

pub returns-clause-damaged : goal.returns-clause-damaged
returns-clause-damaged c = λ is. absurd (ok_is_no_err _ _ is)

pub returns-clause-no_fault : goal.returns-clause-no_fault
returns-clause-no_fault c = λ is. ok_is_no_err _ _ is
