use Rattle.ae_reporting.proofs.EveryReport.{every_report, has_answer}
use Rattle.ae_reporting.proofs.Images.{damaged_has_none, image_has_one}
use Rattle.ae_reporting.proofs.Once.{has_one_answer}
use Rattle.ae_reporting.proofs.laws.reports_have_one_answer.Goals as goal

pub returns-clause-bytes : goal.returns-clause-bytes
returns-clause-bytes c = every_report

pub returns-clause-some : goal.returns-clause-some
returns-clause-some c = has_answer

pub returns-clause-one : goal.returns-clause-one
returns-clause-one c = has_one_answer

pub returns-clause-image : goal.returns-clause-image
returns-clause-image c = image_has_one

pub returns-clause-damaged : goal.returns-clause-damaged
returns-clause-damaged c = damaged_has_none
