-- The exit status of each outcome.
use Rattle.std.specs.Prelude.{ℕ}
use Rattle.ae_base.specs.declared.outcome.Outcome.{Outcome}
use Rattle.ae_base.specs.declared.outcome.Outcome.TheVariants.{Done, RunFailed, Refused, BadWords, BadScript, DiskFault, SiteFault, SinkFault, SourceFault, Damaged, Memory}

abbrev pub status_of : Outcome → ℕ
status_of Done = 0
status_of RunFailed = 1
status_of (Refused refusal) = 1
status_of (BadWords place) = 2
status_of (BadScript line) = 2
status_of DiskFault = 3
status_of SiteFault = 4
status_of SinkFault = 5
status_of SourceFault = 6
status_of (Damaged name) = 7
status_of Memory = 8
