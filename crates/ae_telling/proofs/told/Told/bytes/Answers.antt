use Rattle.std.proofs.Common.{refl}
use Rattle.ae_telling.proofs.told.Told.bytes.Goals as goal

pub returns-in-DiskFault-true : goal.returns-in-DiskFault-true
returns-in-DiskFault-true c = rw (c.in-DiskFault-true.is-0, c.in-DiskFault-true.is-1) refl

pub returns-in-SiteFault-true : goal.returns-in-SiteFault-true
returns-in-SiteFault-true c = rw (c.in-SiteFault-true.is-0, c.in-SiteFault-true.is-1) refl

pub returns-in-Memory-true : goal.returns-in-Memory-true
returns-in-Memory-true c = rw (c.in-Memory-true.is-0, c.in-Memory-true.is-1) refl
