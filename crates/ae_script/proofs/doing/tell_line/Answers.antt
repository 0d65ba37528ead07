use Rattle.std.proofs.Common.{ap}
use Rattle.ae_script.proofs.Telling.{leads_made, leads_script, stopped_made, stopped_script, whole_made, whole_script, leads_act, whole_act, stopped_act}
use Rattle.ae_script.proofs.doing.tell_line.Goals as goal

pub returns-in-Script-clause-goes : goal.returns-in-Script-clause-goes
returns-in-Script-clause-goes g c = λ none. leads_script _ _ c.in-Script.is (c.tell.ensures.goes none)

pub returns-in-Script-clause-whole : goal.returns-in-Script-clause-whole
returns-in-Script-clause-whole g c = λ none tells. whole_script _ _ _ _ _ c.in-Script.is (c.tell.ensures.whole none tells)

pub returns-in-Script-clause-ends : goal.returns-in-Script-clause-ends
returns-in-Script-clause-ends g c = stopped_script _ _ _ _ _ c.in-Script.is c.tell.ensures.ends

pub returns-in-Plan-clause-goes : goal.returns-in-Plan-clause-goes
returns-in-Plan-clause-goes g c = λ none. leads_act _ _ c.in-Plan.is (c.tell_act.ensures.goes none)

pub returns-in-Plan-clause-whole : goal.returns-in-Plan-clause-whole
returns-in-Plan-clause-whole g c = λ none tells. whole_act _ _ _ _ _ c.in-Plan.is (c.tell_act.ensures.whole none tells)

pub returns-in-Plan-clause-ends : goal.returns-in-Plan-clause-ends
returns-in-Plan-clause-ends g c = stopped_act _ _ _ _ _ c.in-Plan.is c.tell_act.ensures.ends

pub returns-in-Generator-clause-goes : goal.returns-in-Generator-clause-goes
returns-in-Generator-clause-goes g c = λ none. leads_made _ _ c.in-Generator.is (c.tell_unless_done.ensures.done none)

pub returns-in-Generator-clause-whole : goal.returns-in-Generator-clause-whole
returns-in-Generator-clause-whole g c = λ none tells. whole_made _ _ _ _ _ c.in-Generator.is (c.tell_unless_done.ensures.done none) (ap g.O.Sink.taken (c.tell_unless_done.ensures.same none))

pub returns-in-Generator-clause-ends : goal.returns-in-Generator-clause-ends
returns-in-Generator-clause-ends g c = stopped_made _ _ _ _ _ c.in-Generator.is c.tell_unless_done.ensures.not_done c.tell_unless_done.ensures.ends
