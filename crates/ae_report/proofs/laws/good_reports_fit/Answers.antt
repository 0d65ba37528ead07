use Rattle.ae_report.proofs.Answered.{good-answered}
use Rattle.ae_report.proofs.laws.good_reports_fit.Goals as goal

pub returns : goal.returns
returns c = good-answered
