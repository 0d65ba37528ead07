use Rattle.std.proofs.Common.{sym}
use Rattle.ae_script.proofs.Telling.{act_ends, act_goes, act_whole}
use Rattle.ae_script.proofs.doing.tell_act.Goals as goal

pub returns-then-is_done-clause-goes : goal.returns-then-is_done-clause-goes
returns-then-is_done-clause-goes g c = λ none. act_goes _ _ _ _ c.tell_alone-outcome.ensures.ends (sym c.if-is_done.ensures)

pub returns-then-is_done-clause-whole : goal.returns-then-is_done-clause-whole
returns-then-is_done-clause-whole g c = λ none tells. act_whole _ _ _ _ c.tell_alone-outcome.ensures.ends (sym c.if-is_done.ensures) tells

pub returns-else-is_done-clause-ends : goal.returns-else-is_done-clause-ends
returns-else-is_done-clause-ends g c = act_ends _ _ _ _ c.tell_alone-outcome.ensures.ends (sym c.if-is_done.ensures)
