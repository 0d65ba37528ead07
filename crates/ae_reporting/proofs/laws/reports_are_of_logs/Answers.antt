use Rattle.ae_reporting.proofs.Images.{log_is_reported, report_is_of_log}
use Rattle.ae_reporting.proofs.laws.reports_are_of_logs.Goals as goal

pub returns-clause-reported : goal.returns-clause-reported
returns-clause-reported c = log_is_reported

pub returns-clause-of_log : goal.returns-clause-of_log
returns-clause-of_log c = report_is_of_log
