use Rattle.std.proofs.Common.{Err, sym, subst}
use Rattle.ae_audit.specs.Steps.{IsFormatRead}
use Rattle.ae_audit.proofs.Reading.{no_format, record_stops}
use Rattle.ae_audit.proofs.records.told_format.Goals as goal

pub returns-in-Err-clause-told : goal.returns-in-Err-clause-told
returns-in-Err-clause-told c =
    subst (λ s. IsFormatRead c.args.bytes.now (Err s)) (sym c.stop_of.ensures) (no_format c.args.bytes.now c.in-Err.error c.read_format.result c.in-Err.is c.read_format.ensures.only)

pub returns-in-Err-clause-no_fault : goal.returns-in-Err-clause-no_fault
returns-in-Err-clause-no_fault c = λ fault. record_stops c.in-Err.error _ c.stop_of.result c.stop_of.ensures fault
