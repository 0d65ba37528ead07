-- The acts of a plan that are all done are steps of the log machine, one of each act.
use Rattle.std.proofs.Common.{◌≡◌, sym, ◌∙◌, ap, subst, List, [], ◌∷◌}
use Rattle.ae_base.specs.declared.outcome.Outcome.TheVariants.{Done}
use Rattle.ae_exec.specs.Holding.{MayGive}
use Rattle.ae_lines.specs.declared.act.Act.{Act}
use Rattle.ae_lines.specs.declared.act.Act.TheVariants.{Run, Put}
use Rattle.ae_lines.specs.declared.line.Line.{Line}
use Rattle.ae_log.specs.Log.{Log}
use Rattle.ae_machine.specs.Called.{called}
use Rattle.ae_outside.specs.Site.{SiteState}
use Rattle.ae_script.specs.Acts.{line_of, lines_of_acts}
use Rattle.ae_script.specs.Follows.{AreStepsOf}
use Rattle.ae_script.specs.Lines as line
use Rattle.ae_script.specs.Lines.{AllLead, AreDone, Did, Does, Stand, lines_said}
use Rattle.ae_script.specs.Steps.{DoesLine, LineDone, Point, Runs, called_from, point}
use Rattle.ae_script.specs.Uses.{Disks, Sites}
use Rattle.ae_script.specs.declared.manner.Manner.TheVariants.{Plan}
use Rattle.ae_script.proofs.Telling.{done_is}
use Rattle.ae_received.proofs.Passes.{AllRun}

-- a command is one that may be given
abbrev pub IsGiven : Act → Point → Point → Type 0
IsGiven (Run command) from to = MayGive (called_from from command to)
IsGiven (Put dir path text) from to = Unit {0}

-- the step does the act, from that point
pub record RunsAct (from : Point) (act : Act) (step : LineDone) : Type 0 where
  pub done : step.outcome ≡ Done
  pub does : DoesLine Plan (line_of act) from step
  pub given : IsGiven act from step.to

abbrev pub led_to : LineDone → Point
led_to step = step.to

abbrev pub ActsRun : Point → List Act → List LineDone → Type 0
ActsRun = AllRun led_to RunsAct

module _ (d : Disks) (s : Sites) (shown : s.told) where
  gives : (from : Stand d s) (log : Log) (act : Act) (done : Did d s) (step : LineDone) → line.DoesLine d s Plan (line_of act) from done → step.to.site ≡ s.state done.to.site → IsGiven act (point from.who from.now log (s.state from.site)) step.to
  gives from log (Run command) done step does there = subst (λ (site : SiteState). MayGive (called command from.who from.now (s.state from.site) site)) (sym there) (does.is.given shown)
  gives from log (Put dir path text) done step does there = tt

  pub acts-run : (acts : List Act) (from : Stand d s) (log : Log) (done : List (Did d s)) (steps : List LineDone) → lines_of_acts acts ≡ lines_said d s done → AllLead d s Plan done → AreDone d s Plan from done → AreStepsOf d s done steps
      → Runs Plan (point from.who from.now log (s.state from.site)) steps → ActsRun (point from.who from.now log (s.state from.site)) acts steps
  acts-run [] from log [] [] says lead are steps_are runs = tt
  acts-run [] from log [] (step ∷ steps) says lead are steps_are runs = absurd steps_are
  acts-run [] from log (one ∷ done) steps says lead are steps_are runs = absurd (cc says)
  acts-run (act ∷ acts) from log [] steps says lead are steps_are runs = absurd (cc says)
  acts-run (act ∷ acts) from log (one ∷ done) [] says lead are steps_are runs = absurd steps_are
  acts-run (act ∷ acts) from log (one ∷ done) (step ∷ steps) says lead are steps_are runs =
      let is = steps_are.0 in
      let head : line_of act ≡ one.line = cc says in
      let tail : lines_of_acts acts ≡ lines_said d s done = cc says in
      let rest = acts-run acts one.to step.to.log done steps tail lead.1 are.1 steps_are.1 (subst (λ (p : Point). Runs Plan p steps) is.to runs.1) in (
        record {
          done = is.outcome ∙ done_is one.outcome lead.0;
          does = subst (λ (l : Line). DoesLine Plan l (point from.who from.now log (s.state from.site)) step) (is.line ∙ sym head) runs.0;
          given = gives from log act one step (subst (λ (l : Line). line.DoesLine d s Plan l from one) (sym head) are.0.does) (ap (λ (p : Point). p.site) is.to);
        },
        subst (λ (p : Point). ActsRun p acts steps) (sym is.to) rest,
      )
