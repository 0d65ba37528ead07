use Rattle.ae_text.proofs.Errors.{one_line, one_kind}
use Rattle.ae_text.proofs.laws.one_line.Goals as goal

pub returns-clause-line : goal.returns-clause-line
returns-clause-line c bytes line other e f = one_line bytes line other e f

pub returns-clause-kind : goal.returns-clause-kind
returns-clause-kind c bytes line other e f = one_kind bytes line other e f
