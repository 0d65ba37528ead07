use Rattle.ae_text.proofs.Errors.{never_both}
use Rattle.ae_text.proofs.EveryText.{every_text}
use Rattle.ae_text.proofs.laws.every_text.Goals as goal

pub returns-clause-one : goal.returns-clause-one
returns-clause-one c bytes = every_text bytes

pub returns-clause-never_both : goal.returns-clause-never_both
returns-clause-never_both c bytes tree lines line h e = never_both bytes tree lines line h e
