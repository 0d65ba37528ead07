use Rattle.std.proofs.Common.{arith}
use Rattle.ae_rules.proofs.ChangesGiven.{good-at}
use Rattle.ae_rules.proofs.candidate.candidates_fit.Goals as goal

pub candidate_fits-requires-clause-change : goal.candidate_fits-requires-clause-change
candidate_fits-requires-clause-change c = good-at c.args.numbers.now c.args.changes.now c.loop-change.change-index c.change-item.result c.requires.changes (omega arith) c.change-item.is
