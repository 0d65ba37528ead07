use Rattle.std.proofs.Common.{◌≡◌, take, true}
use Rattle.std.specs.List.{list_all}
use Rattle.ae_types.specs.Rules.{candidate_fits}
use Rattle.ae_rules.proofs.candidate.candidates_fit.Given as goal

abbrev pub invariant-loop-change : goal.invariant-loop-change
invariant-loop-change l = list_all (candidate_fits l.deltas l.rows) (take l.change-index l.changes) ≡ true
