use Rattle.std.proofs.Common.{sym, ap, Err}
use Rattle.ae_exec.specs.Endings.{memory, refused, site_fault}
use Rattle.ae_reporting.specs.Reports.{too_long}
use Rattle.ae_reporting.proofs.Stopped.{absent_fails}
use Rattle.ae_reporting.proofs.file.read_file.Goals as goal

pub returns-in-Ok-Absent-clause-fails : goal.returns-in-Ok-Absent-clause-fails
returns-in-Ok-Absent-clause-fails g c = absent_fails _ _ _ _ _ (λ tells. sym ((rw c.in-Ok-Absent.field-0-is at c.in-Ok-Absent.ensures.content) tells)) c.no_file.ensures

pub returns-in-Ok-TooLong-clause-fails : goal.returns-in-Ok-TooLong-clause-fails
returns-in-Ok-TooLong-clause-fails g c = refused _ (λ tells. too_long (sym ((rw c.in-Ok-TooLong.field-0-is at c.in-Ok-TooLong.ensures.content) tells)))

pub returns-in-Err-Failed-clause-fails : goal.returns-in-Err-Failed-clause-fails
returns-in-Err-Failed-clause-fails g c = site_fault (c.in-Err-Failed.ensures.cause.rose (ap Err c.in-Err-Failed.field-0-is))

pub returns-in-Err-Memory-clause-fails : goal.returns-in-Err-Memory-clause-fails
returns-in-Err-Memory-clause-fails g c = memory
