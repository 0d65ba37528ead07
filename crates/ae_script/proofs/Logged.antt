-- Lines that were done on a disk that holds legal logs: they are steps of the log machine.
use Rattle.std.specs.Prelude.{◌≡◌, ◌⊎◌, ℕ, true, List, [], ◌∷◌, ◌++◌, Contains}
use Rattle.std.proofs.Common.{inl, inr, refl, sym, ap, subst, ◌∙◌, append-nil, append_assoc}
use Rattle.ae_base.specs.declared.outcome.Outcome.{Outcome}
use Rattle.ae_base.specs.declared.outcome.Outcome.TheVariants.{DiskFault, Memory}
use Rattle.ae_outside.specs.State.{DiskState, Continues}
use Rattle.ae_outside.specs.Time.{continues_refl, continues_then}
use Rattle.ae_lines.specs.declared.line.Line.{Line}
use Rattle.ae_lines.specs.declared.line.Line.TheVariants.{Nothing, As, At, Do, Put, Fill, Remove}
use Rattle.ae_log.specs.Log.{Log}
use Rattle.ae_exec.specs.Holding.{HoldsLegal}
use Rattle.ae_exec.specs.Stands.{StandsForLog}
use Rattle.ae_exec.proofs.Leaving.{leaves_still}
use Rattle.ae_exec.proofs.Standing.{alike, by_files}
use Rattle.ae_telling.specs.Telling.{SinkUse}
use Rattle.ae_script.specs.Along.{held_along, is_fault}
use Rattle.ae_script.specs.Follows.{AreStepsOf, FollowLogs, IsLogged, IsStepOf, LastFailed}
use Rattle.ae_script.specs.Lines.{AllLead, AreDone, Did, Does, DoesLine, LinesEnd, Stand, by_end, by_line, last_stand}
use Rattle.ae_script.specs.Manner.{leads_on}
use Rattle.ae_script.specs.Refined.{HoldsAfter, NoneSynced, RefinedAlong}
use Rattle.ae_script.specs.Steps.{AllLeadOn, LineDone, Point, Runs, point, reached, stop}
use Rattle.ae_script.specs.Steps as machine
use Rattle.ae_script.specs.Uses.{Disks, Sites}
use Rattle.ae_script.specs.declared.manner.Manner.{Manner}
use Rattle.ae_script.proofs.Along.{last_log}
use Rattle.ae_script.proofs.Commands.{command_step}
use Rattle.ae_script.proofs.Edits.{edit_calm, edit_ends, step_of}
use Rattle.ae_script.proofs.Following.{Logs, go_more, kept_more, refined_all, refined_more}
use Rattle.ae_script.proofs.Keeping.{does_keep}
use Rattle.ae_script.proofs.Runs.{last_is_stop, memory_same, runs_more, stop_more}
use Rattle.ae_script.proofs.SoFar.{after_are, holds_so_far, reads_either}
use Rattle.ae_script.proofs.Stepping.{KeptSoFar, StepDone, fresh}

-- the last of some steps
last_failed : (steps : List LineDone) (last : LineDone) → last.outcome ≡ DiskFault → LastFailed (steps ++ last ∷ [])
last_failed [] last is = is
last_failed (one ∷ []) last is = is
last_failed (one ∷ two ∷ more) last is = last_failed (two ∷ more) last is

module _ (d : Disks) (s : Sites) (manner : Manner) (seen : d.told) (shown : s.told) where
  -- ---- one line

  module _ (from : Stand d s) (one : Did d s) (held : Logs) (log : Log) (was : HoldsLegal (d.state from.disk) held log) where
    abbrev here : Point
    here = point from.who from.now log (s.state from.site)

    abbrev base : DiskState
    base = d.state from.disk

    abbrev Stepped : Line → Stand d s → Type 0
    Stepped line to = StepDone manner here line held base (d.state to.disk) (s.state to.site) to.who to.now one.outcome one.text

    step_by : (line : Line) → DoesLine d s manner line from one → Stepped line one.to
    step_by Nothing does = subst (Stepped Nothing) (sym does.to)
        (step_of manner here here Nothing base held one.outcome one.text (ap is_fault does.outcome) (record { outcome = does.outcome; to = refl; text = does.text }) tt refl was)
    step_by (As user) does = subst (Stepped (As user)) (sym does.to)
        (step_of manner here (point user from.now log (s.state from.site)) (As user) base held one.outcome one.text (ap is_fault does.outcome) (record { outcome = does.outcome; to = refl; text = does.text }) tt refl was)
    step_by (At moment) does = subst (Stepped (At moment)) (sym does.to)
        (step_of manner here (point from.who moment log (s.state from.site)) (At moment) base held one.outcome one.text (ap is_fault does.outcome) (record { outcome = does.outcome; to = refl; text = does.text }) tt refl was)
    step_by (Do command) does = subst (Stepped (Do command)) (sym does.to)
        (subst (λ (t : List ℕ). StepDone manner here (Do command) held base (d.state one.to.disk) (s.state one.to.site) from.who from.now one.outcome t) (sym does.text)
        (command_step manner command from.who from.now log (s.state from.site) (s.state one.to.site) base (d.state one.to.disk) held _ _ (does.is.given shown) was one.outcome does.said
        does.is.ends (does.is.performs seen shown) (does.is.directories shown) (does.is.leaves seen) (λ done. does.is.reply done seen shown) does.is.message))
    step_by (Put dir path text) does = subst (Stepped (Put dir path text)) (sym does.to)
        (step_of manner here (point from.who from.now log (s.state one.to.site)) (Put dir path text) base held one.outcome one.text (edit_calm dir path _ _ one.outcome one.text does.is)
        (record { ends = edit_ends dir path _ _ shown one.outcome one.text does.is; to = refl }) tt refl was)
    step_by (Fill dir path count byte) does = subst (Stepped (Fill dir path count byte)) (sym does.to)
        (step_of manner here (point from.who from.now log (s.state one.to.site)) (Fill dir path count byte) base held one.outcome one.text (edit_calm dir path _ _ one.outcome one.text does.is)
        (record { ends = edit_ends dir path _ _ shown one.outcome one.text does.is; to = refl }) tt refl was)
    step_by (Remove dir path) does = subst (Stepped (Remove dir path)) (sym does.to)
        (step_of manner here (point from.who from.now log (s.state one.to.site)) (Remove dir path) base held one.outcome one.text (edit_calm dir path _ _ one.outcome one.text does.is)
        (record { ends = edit_ends dir path _ _ shown one.outcome one.text does.is; to = refl }) tt refl was)

    step_at : Does d s manner from one → Stepped one.line one.to
    step_at does = step_by one.line does.does

  -- ---- the lines so far

  are_more : (done : List (Did d s)) (one : Did d s) (steps : List LineDone) (step : LineDone) → AreStepsOf d s done steps → IsStepOf d s one step → AreStepsOf d s (done ++ one ∷ []) (steps ++ step ∷ [])
  are_more [] one [] step are is = (is, tt)
  are_more [] one (x ∷ steps) step are is = absurd are
  are_more (y ∷ done) one [] step are is = absurd are
  are_more (y ∷ done) one (x ∷ steps) step are is = (are.0, are_more done one steps step are.1 is)

  module _ (from : Stand d s) (held : Logs) (log : Log) (was : HoldsLegal (d.state from.disk) held log) where
    abbrev start : Point
    start = point from.who from.now log (s.state from.site)

    -- they lead to this stand, and a next one is done
    record SoFar (done : List (Did d s)) (last : Stand d s) : Type 0 where
      steps : List LineDone
      later : Logs
      are : AreStepsOf d s done steps
      runs : Runs manner start steps
      go : AllLeadOn manner steps
      to : stop start steps ≡ point last.who last.now (stop start steps).log (s.state last.site)
      time : Continues (d.state from.disk) (d.state last.disk)
      kept : KeptSoFar (d.state from.disk) (d.state last.disk) held log steps later
      holds : HoldsLegal (d.state last.disk) later (stop start steps).log

    none_so_far : SoFar [] from
    none_so_far = record {
      steps = [];
      later = held;
      are = tt;
      runs = tt;
      go = tt;
      to = refl;
      time = continues_refl (d.state from.disk);
      kept = fresh tt (leaves_still StandsForLog by_files alike (d.state from.disk) held was.holds.holds) refl;
      holds = was;
    }

    module _ (done : List (Did d s)) (last : Stand d s) (so : SoFar done last) (one : Did d s) (does : Does d s manner last one) where
      abbrev now_log : Log
      now_log = (stop start so.steps).log

      stepped : StepDone manner (point last.who last.now now_log (s.state last.site)) one.line so.later (d.state last.disk) (d.state one.to.disk) (s.state one.to.site) one.to.who one.to.now one.outcome one.text
      stepped = step_at last one so.later now_log so.holds does

      abbrev step : LineDone
      step = stepped.done

      its : IsStepOf d s one step
      its = record { line = stepped.is_line; outcome = stepped.is_outcome; text = stepped.is_text; to = stepped.to }

      time_on : Continues (d.state last.disk) (d.state one.to.disk)
      time_on = (does_keep d s manner seen last one does).time

      does_there : machine.Does manner (stop start so.steps) step
      does_there = subst (λ (p : Point). machine.Does manner p step) (sym so.to) stepped.does

      runs_on : Runs manner start (so.steps ++ step ∷ [])
      runs_on = runs_more manner start so.steps step so.runs does_there

      log_here : last_log log (reached so.steps) ≡ now_log
      log_here = last_is_stop manner start so.steps so.runs

      stopped : stop start (so.steps ++ step ∷ []) ≡ step.to
      stopped = stop_more start so.steps step

      one_more : leads_on manner one.outcome ≡ true → SoFar (done ++ one ∷ []) one.to
      one_more leads =
          let went = stepped.goes leads in
          let leads_too : leads_on manner step.outcome ≡ true = ap (leads_on manner) stepped.is_outcome ∙ leads in
          record {
            steps = so.steps ++ step ∷ [];
            later = went.0;
            are = are_more done one so.steps step so.are its;
            runs = runs_on;
            go = go_more manner so.steps step so.go leads_too;
            to = stopped ∙ stepped.to ∙ ap (λ (p : Point). point one.to.who one.to.now p.log (s.state one.to.site)) (sym stopped);
            time = continues_then (d.state from.disk) (d.state last.disk) (d.state one.to.disk) so.time time_on;
            kept = kept_more manner (d.state from.disk) (d.state last.disk) (d.state one.to.disk) held log so.steps step time_on so.go so.later went.0 leads_too so.time.later so.kept
                (subst (λ (l : Log). KeptSoFar (d.state last.disk) (d.state one.to.disk) so.later l (step ∷ []) went.0) (sym log_here) went.1);
            holds = subst (λ (p : Point). HoldsLegal (d.state one.to.disk) went.0 p.log) (sym stopped) went.2;
          }

      -- ---- a line after which none may come

      memory_log : step.outcome ≡ Memory → step.to.log ≡ last_log log (reached so.steps)
      memory_log is = memory_same manner (stop start so.steps) step does_there is ∙ sym log_here

      refined_last : RefinedAlong (d.state from.disk) (d.state one.to.disk) held log (so.steps ++ step ∷ [])
      refined_last = refined_more manner (d.state from.disk) (d.state last.disk) (d.state one.to.disk) held log so.steps step time_on so.go so.later memory_log so.time.later so.kept
          (subst (λ (l : Log). RefinedAlong (d.state last.disk) (d.state one.to.disk) so.later l (step ∷ [])) (sym log_here) stepped.refined)

      are_last : (NoneSynced (so.steps ++ step ∷ []) × (stepped.holds.logs ≡ held)) ⊎ ((l : Log) → Contains stepped.holds.logs l → Contains (held_along log (reached (so.steps ++ step ∷ []))) l)
      are_last = after_are manner log so.steps step so.go (d.state from.disk) (d.state last.disk) held so.later stepped.holds.logs memory_log so.kept
          (subst (λ (m : Log). (NoneSynced (step ∷ []) × (stepped.holds.logs ≡ so.later)) ⊎ ((l : Log) → Contains stepped.holds.logs l → Contains (held_along m (reached (step ∷ []))) l)) (sym log_here) stepped.holds.are)

      holds_last : HoldsAfter (d.state one.to.disk) held log (so.steps ++ step ∷ [])
      holds_last = record { logs = stepped.holds.logs; are = are_last; read = stepped.holds.read; holds = stepped.holds.holds; provided = stepped.holds.provided }

      reads_last : (stepped.holds.read ≡ (stop start (so.steps ++ step ∷ [])).log) ⊎ (LastFailed (so.steps ++ step ∷ []) × Contains stepped.holds.logs stepped.holds.read)
      reads_last = elim (reads_either one.outcome stepped.reads stepped.among) [
        | inl is ↦ inl (is ∙ ap (λ (p : Point). p.log) (sym stopped))
        | inr failed ↦ inr (last_failed so.steps step (stepped.is_outcome ∙ failed.0), failed.1)
      ]

      logged_last : last_stand d s from (done ++ one ∷ []) ≡ one.to → IsLogged d s manner from (done ++ one ∷ []) (last_stand d s from (done ++ one ∷ [])).disk held log
      unfolding holds_last stepped
      logged_last at = record {
        steps = so.steps ++ step ∷ [];
        are = are_more done one so.steps step so.are its;
        runs = runs_on;
        time = subst (λ (p : Stand d s). Continues (d.state from.disk) (d.state p.disk)) (sym at) (continues_then (d.state from.disk) (d.state last.disk) (d.state one.to.disk) so.time time_on);
        refined = subst (λ (p : Stand d s). RefinedAlong (d.state from.disk) (d.state p.disk) held log (so.steps ++ step ∷ [])) (sym at) refined_last;
        holds = held_there.0;
        reads = held_there.1;
      }
        where
          held_there : (h : HoldsAfter (d.state (last_stand d s from (done ++ one ∷ [])).disk) held log (so.steps ++ step ∷ []))
              × ((h.read ≡ (stop start (so.steps ++ step ∷ [])).log) ⊎ (LastFailed (so.steps ++ step ∷ []) × Contains h.logs h.read))
          held_there = subst (λ (p : Stand d s). (h : HoldsAfter (d.state p.disk) held log (so.steps ++ step ∷ [])) × ((h.read ≡ (stop start (so.steps ++ step ∷ [])).log) ⊎ (LastFailed (so.steps ++ step ∷ []) × Contains h.logs h.read)))
              (sym at) (holds_last, reads_last)

    -- ---- all of them

    more_so_far : (done : List (Did d s)) (last : Stand d s) → SoFar done last → (more : List (Did d s)) → AreDone d s manner last more → AllLead d s manner more → SoFar (done ++ more) (last_stand d s last more)
    more_so_far done last so [] are lead = subst (λ (ones : List (Did d s)). SoFar ones last) (sym (append-nil done)) so
    more_so_far done last so (one ∷ more) are lead =
        subst (λ (ones : List (Did d s)). SoFar ones (last_stand d s one.to more)) (append_assoc done (one ∷ []) more)
        (more_so_far (done ++ one ∷ []) one.to (one_more done last so one are.0 lead.0) more are.1 lead.1)

    all_so_far : (done : List (Did d s)) → AreDone d s manner from done → AllLead d s manner done → SoFar done (last_stand d s from done)
    all_so_far done are lead = more_so_far [] from none_so_far done are lead

    logged_all : (done : List (Did d s)) → SoFar done (last_stand d s from done) → IsLogged d s manner from done (last_stand d s from done).disk held log
    logged_all done so = record {
      steps = so.steps;
      are = so.are;
      runs = so.runs;
      time = so.time;
      refined = refined_all (d.state from.disk) (d.state (last_stand d s from done).disk) held so.later log so.steps so.kept so.holds.holds.holds;
      holds = holds_so_far (d.state from.disk) (d.state (last_stand d s from done).disk) held so.later log (stop start so.steps).log so.steps so.kept so.holds;
      reads = inl refl;
    }

  -- ---- lines, and the last of them

  last_more : (from : Stand d s) (done : List (Did d s)) (one : Did d s) → last_stand d s from (done ++ one ∷ []) ≡ one.to
  last_more from [] one = refl
  last_more from (x ∷ done) one = last_more x.to done one

  first_done : (from : Stand d s) (done more : List (Did d s)) → AreDone d s manner from (done ++ more) → AreDone d s manner from done
  first_done from [] more are = tt
  first_done from (x ∷ done) more are = (are.0, first_done x.to done more are.1)

  rest_done : (from : Stand d s) (done more : List (Did d s)) → AreDone d s manner from (done ++ more) → AreDone d s manner (last_stand d s from done) more
  rest_done from [] more are = are
  rest_done from (x ∷ done) more are = rest_done x.to done more are.1

  follows_there : (from : Stand d s) (done : List (Did d s)) (sink : SinkUse) (After : Outcome → List ℕ → Type 0) (result : Outcome) → AreDone d s manner from done → LinesEnd d s manner done sink After result
      → FollowLogs d s manner from done (last_stand d s from done).disk
  follows_there from done sink After result are (by_end meant text lead after told) held log was = logged_all from held log was done (all_so_far from held log was done are lead)
  follows_there from done sink After result are (by_line before last is lead ends) held log was =
      subst (λ (ones : List (Did d s)). IsLogged d s manner from ones (last_stand d s from ones).disk held log) (sym is)
      (logged_last from held log was before (last_stand d s from before) so last does (last_more from before last))
    where
      split : AreDone d s manner from (before ++ last ∷ [])
      split = subst (λ (ones : List (Did d s)). AreDone d s manner from ones) is are

      so : SoFar from held log was before (last_stand d s from before)
      so = all_so_far from held log was before (first_done from before (last ∷ []) split) lead

      does : Does d s manner (last_stand d s from before) last
      does = (rest_done from before (last ∷ []) split).0

  pub follows : (from : Stand d s) (done : List (Did d s)) (disk : d.Disk) (sink : SinkUse) (After : Outcome → List ℕ → Type 0) (result : Outcome) → (last_stand d s from done).disk ≡ disk → AreDone d s manner from done
      → LinesEnd d s manner done sink After result → FollowLogs d s manner from done disk
  follows from done disk sink After result is are ends = subst (λ (x : d.Disk). FollowLogs d s manner from done x) is (follows_there from done sink After result are ends)

  pub follows_all : (from : Stand d s) (done : List (Did d s)) (disk : d.Disk) → (last_stand d s from done).disk ≡ disk → AreDone d s manner from done → AllLead d s manner done → FollowLogs d s manner from done disk
  follows_all from done disk is are lead held log was =
      subst (λ (x : d.Disk). IsLogged d s manner from done x held log) is (logged_all from held log was done (all_so_far from held log was done are lead))

  -- one line, whatever it leads to
  pub follows_one : (from : Stand d s) (one : Did d s) (disk : d.Disk) → one.to.disk ≡ disk → Does d s manner from one → FollowLogs d s manner from (one ∷ []) disk
  follows_one from one disk is does held log was =
      subst (λ (x : d.Disk). IsLogged d s manner from (one ∷ []) x held log) is (logged_last from held log was [] from (none_so_far from held log was) one does refl)
