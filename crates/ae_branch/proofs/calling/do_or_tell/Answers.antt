use Rattle.std.proofs.Common.{All, List, Result, IfOk, subst, sym, Err, ap, ◌∙◌}
use Rattle.ae_base.specs.declared.outcome.Outcome.{Outcome}
use Rattle.ae_lines.specs.Acts.{MayBeDone, MayBePlanned}
use Rattle.ae_lines.specs.declared.act.Act.{Act}
use Rattle.ae_lines.proofs.Planned.{all_may_be_done}
use Rattle.ae_script.proofs.Unfailed.{why_unfailed}
use Rattle.ae_branch.proofs.calling.do_or_tell.Goals as goal

pub do_acts-requires : goal.do_acts-requires
do_acts-requires g c = record { may = subst (λ (acts : List Act). All MayBeDone acts) (sym c.as_slice.ensures) (all_may_be_done _ (subst (λ (r : Result (List Act) Outcome). IfOk r (All MayBePlanned)) c.in-Ok.is c.requires.formed)) }

pub returns-in-Ok-clause-unfailed : goal.returns-in-Ok-clause-unfailed
returns-in-Ok-clause-unfailed g c = λ others.
    c.do_acts.ensures.unfailed (subst (λ (acts : List Act). All MayBePlanned acts) (sym c.as_slice.ensures) (subst (λ (r : Result (List Act) Outcome). IfOk r (All MayBePlanned)) c.in-Ok.is c.requires.formed))

pub returns-in-Err-clause-unfailed : goal.returns-in-Err-clause-unfailed
returns-in-Err-clause-unfailed g c = λ others. why_unfailed c.in-Err.why _ _ (λ is. others (c.in-Err.is ∙ ap Err is)) c.tell_why.ensures.told
