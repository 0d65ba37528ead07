-- A report that is asked for.
use Rattle.std.specs.Prelude.{option_copied}
use Rattle.ae_reporting.specs.declared.asked.AskedReport.{AskedReport}
use Rattle.ae_reporting.specs.Reports.{Asked}

-- what it asks for
abbrev pub asked_by : AskedReport → Asked
asked_by request = record { project = option_copied request.project; path = request.path.now }
