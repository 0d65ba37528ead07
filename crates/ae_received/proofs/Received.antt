-- Every change that is received is as it was sent.
use Rattle.std.proofs.Common.{◌≡◌, ◌⊎◌, inl, inr, ℕ, refl, sym, ◌∙◌, ap, subst, List, [], ◌∷◌, Some}
use Rattle.ae_base.specs.declared.outcome.Outcome.{Outcome}
use Rattle.ae_base.specs.declared.outcome.Outcome.TheVariants.{DiskFault, Done}
use Rattle.ae_base.specs.declared.want.Want.TheVariants.{Nothing}
use Rattle.ae_bundle.specs.declared.bundle.Bundle.{Bundle}
use Rattle.ae_dist.specs.Plan.{free_number, plan_of}
use Rattle.ae_lines.specs.declared.act.Act.{Act}
use Rattle.ae_log.specs.Files.{version_bytes}
use Rattle.ae_log.specs.Log.{Log}
use Rattle.ae_log.specs.Observed.{observation}
use Rattle.ae_machine.specs.Legal.{Legal}
use Rattle.ae_outside.specs.Site.{SiteState}
use Rattle.ae_outside.specs.declared.dir.Dir.TheVariants.{Develop}
use Rattle.ae_script.specs.Acts.{ActsDone}
use Rattle.ae_script.specs.Follows.{AreStepsOf, IsLogged, LastFailed}
use Rattle.ae_script.specs.Lines.{Did, Stand, last_stand}
use Rattle.ae_script.specs.Steps.{LineDone, Point, Runs, point, stop}
use Rattle.ae_script.specs.Uses.{Disks, Sites, Streams, written_from}
use Rattle.ae_script.specs.declared.manner.Manner.TheVariants.{Plan}
use Rattle.ae_script.proofs.Acting.{done_means_all}
use Rattle.ae_types.specs.Trees.{baseline_of}
use Rattle.ae_types.specs.Observation.{Observation}
use Rattle.ae_types.specs.Part.{part}
use Rattle.ae_received.specs.Laws.{ArePlan, ReceivedAreAsSent}
use Rattle.ae_received.specs.Received.{HasReceived}
use Rattle.ae_received.proofs.Acts.{ActsRun, acts-run}
use Rattle.ae_received.proofs.Sent.{files-fit}
use Rattle.ae_received.proofs.Whole.{all-received}

-- the plan over what stands without its changes is the same
same-plan : (seen stood : Observation) (number : ℕ) (bundle : Bundle) → (seen ≡ part Nothing stood) ⊎ (seen ≡ stood) → plan_of (baseline_of seen) number bundle ≡ plan_of (baseline_of stood) number bundle
same-plan seen stood number bundle (inl is) = ap (λ (o : Observation). plan_of (baseline_of o) number bundle) is
same-plan seen stood number bundle (inr is) = ap (λ (o : Observation). plan_of (baseline_of o) number bundle) is

same-number : (seen stood : Observation) → (seen ≡ part Nothing stood) ⊎ (seen ≡ stood) → free_number seen ≡ free_number stood
same-number seen stood (inl is) = ap free_number is
same-number seen stood (inr is) = ap free_number is

-- the disk failed none of acts that are all done
none-failed : (from : Point) (acts : List Act) (steps : List LineDone) → ActsRun from acts steps → LastFailed steps → ⊥
none-failed from [] [] runs failed = failed
none-failed from [] (step ∷ steps) runs failed = runs
none-failed from (act ∷ acts) [] runs failed = runs
none-failed from (act ∷ acts) (step ∷ []) runs failed = let both : Done ≡ DiskFault = sym runs.0.done ∙ failed in cc
none-failed from (act ∷ acts) (step ∷ next ∷ steps) runs failed = none-failed step.to acts (next ∷ steps) runs.1 failed

-- so what is read is the log after the last of them
reads-last : {A B C : Type 0} → A ⊎ (B × C) → (B → ⊥) → A
reads-last (inl last) never = last
reads-last (inr failed) never = absurd (never failed.0)

module _ (d : Disks) (s : Sites) where
  -- where the steps stop the directories are those where the lines lead
  site-stops : (from : Stand d s) (log : Log) (done : List (Did d s)) (steps : List LineDone) → AreStepsOf d s done steps → (stop (point from.who from.now log (s.state from.site)) steps).site ≡ s.state (last_stand d s from done).site
  site-stops from log [] [] are = refl
  site-stops from log [] (step ∷ steps) are = absurd are
  site-stops from log (one ∷ done) [] are = absurd are
  site-stops from log (one ∷ done) (step ∷ steps) are = ap (λ (p : Point). (stop p steps).site) are.0.to ∙ site-stops one.to step.to.log done steps are.1

  module _ (o : Streams) (acts : List Act) where
    -- All acts were done, each a step from where the one before it led; the log of the last is read, and the directories are as it left them.
    pub record AllRan (start : Point) (steps : List LineDone) (read : Log) (site : SiteState) : Type 0 where
      pub runs : ActsRun start acts steps
      pub reads : read ≡ (stop start steps).log
      pub leaves : (stop start steps).site ≡ site

    -- So it is with acts that begin at one stand, where nothing but the disk changed since another, and are steps from the log that it held there.
    pub all-ran : (from begun to : Stand d s) → begun ≡ record from { disk = begun.disk } → (old new : o.Stream) (result : Outcome) (done : ActsDone d s Plan acts begun to (written_from o old new) result) → result ≡ Done
        → s.told → (held : List Log) (log : Log) (logged : IsLogged d s Plan from done.done to.disk held log) → AllRan (point from.who from.now log (s.state from.site)) logged.steps logged.holds.read (s.state to.site)
    all-ran from begun to same old new result done is shown held log logged =
        let all = done_means_all d s o acts begun to old new result done is in
        let start = point from.who from.now log (s.state from.site) in
        let start_is : point begun.who begun.now log (s.state begun.site) ≡ start = ap (λ (at : Stand d s). point at.who at.now log (s.state at.site)) same in
        let runs : ActsRun start acts logged.steps =
        subst (λ (p : Point). ActsRun p acts logged.steps) start_is
        (acts-run d s shown acts begun log done.done logged.steps all.0 all.1 done.runs logged.are (subst (λ (p : Point). Runs Plan p logged.steps) (sym start_is) logged.runs)) in
        record {
          runs = runs;
          reads = reads-last logged.reads (none-failed start acts logged.steps runs);
          leaves = ap (λ (p : Point). (stop p logged.steps).site) (sym start_is) ∙ site-stops begun log done.done logged.steps logged.are ∙ ap (λ (p : Stand d s). s.state p.site) done.leads;
        }

  module _ (o : Streams) (stood : Observation) (number : ℕ) (bundle : Bundle) (acts : List Act) (plan : ArePlan stood number bundle acts) where
    -- what they make of the log that was held is the change as it was sent
    pub logged-as-sent : (from begun to : Stand d s) → begun ≡ record from { disk = begun.disk } → (old new : o.Stream) (result : Outcome) (done : ActsDone d s Plan acts begun to (written_from o old new) result) → result ≡ Done
        → s.told → (held : List Log) (log : Log) → Legal log → observation log ≡ Some stood → (logged : IsLogged d s Plan from done.done to.disk held log)
        → HasReceived stood (version_bytes log) bundle number from.who logged.holds.read ((s.state to.site).trees (Develop number))
    logged-as-sent from begun to same old new result done is shown held log legal stands logged =
        let start = point from.who from.now log (s.state from.site) in
        let ran = all-ran o acts from begun to same old new result done is shown held log logged in
        let has = all-received stood number bundle (files-fit bundle plan.fits) (sym (same-number plan.seen stood plan.sees) ∙ plan.free) start logged.steps stands legal
        (subst (λ (items : List Act). ActsRun start items logged.steps) (plan.are ∙ same-plan plan.seen stood number bundle plan.sees) ran.runs) in
        subst (λ (l : Log). HasReceived stood (version_bytes log) bundle number from.who l ((s.state to.site).trees (Develop number))) (sym ran.reads)
        (subst (λ (state : SiteState). HasReceived stood (version_bytes log) bundle number from.who (stop start logged.steps).log (state.trees (Develop number))) ran.leaves has)

  pub received-as-sent : (o : Streams) → ReceivedAreAsSent d s o
  received-as-sent o stood number bundle acts plan from to old new result done is seen shown held log holds stands =
      logged-as-sent o stood number bundle acts plan from from to refl old new result done is shown held log holds.holds.legal stands (done.logs seen shown held log holds)
