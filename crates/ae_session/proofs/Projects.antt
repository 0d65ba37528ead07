-- A made-up project: all that the generator did.
use Rattle.std.specs.Prelude.{◌≡◌, ◌≤◌, ◌⊎◌, ℕ, true, false, List, [], ◌∷◌, ◌++◌, length, map, Option}
use Rattle.std.proofs.Common.{inl, inr, refl, sym, ap, subst, ◌∙◌, arith, le_refl, append-nil}
use Rattle.ae_base.specs.declared.outcome.Outcome.{Outcome}
use Rattle.ae_base.specs.declared.outcome.Outcome.TheVariants.{Done}
use Rattle.ae_outside.specs.Causes.{HasRisen}
use Rattle.ae_outside.specs.State.{reads}
use Rattle.ae_outside.specs.Time.{continues_then}
use Rattle.ae_outside.proofs.Rising.{risen_later}
use Rattle.ae_log.specs.Log.{Log}
use Rattle.ae_log.specs.Observed.{observation}
use Rattle.ae_exec.specs.Performs.{LeavesDisk}
use Rattle.ae_generator.specs.Lines.{generated_text}
use Rattle.ae_exec.specs.Stands.{StandsForLog}
use Rattle.ae_types.specs.Observation.{Observation}
use Rattle.ae_exec.specs.Holding.{HoldsLegal}
use Rattle.ae_telling.specs.Messages.{message}
use Rattle.ae_telling.specs.Telling.{IsTold, SinkUse, sink_use, unless_told}
use Rattle.ae_telling.specs.Sinks.{TakesNothing}
use Rattle.ae_script.specs.Causes.{IsCaused}
use Rattle.ae_script.specs.Follows.{AreStepsOf, FollowLogs, IsLogged}
use Rattle.ae_script.specs.Lines.{AllLead, AreDone, Did, LinesEnd, Stand, by_end, by_line, last_stand, lines_said, transcript}
use Rattle.ae_script.specs.Manner.{is_done, leads_on}
use Rattle.ae_outside.specs.Site.{SiteState}
use Rattle.ae_lines.specs.declared.line.Line.{Line}
use Rattle.ae_script.specs.Steps.{AllLeadOn, LineDone, Point, point, stop}
use Rattle.ae_script.specs.Uses.{Disks, Sites, Streams, written_from}
use Rattle.ae_script.specs.declared.manner.Manner.TheVariants.{Generator}
use Rattle.ae_script.proofs.Caused.{caused_on, disk_later, site_later}
use Rattle.ae_script.proofs.Lines.{stopped_then, told_then}
use Rattle.ae_script.specs.Step.{IsStoppedBy}
use Rattle.ae_script.specs.declared.manner.Manner.{Manner}
use Rattle.ae_script.proofs.Logged.{follows_all}
use Rattle.ae_script.proofs.Telling.{done_is, meant_done}
use Rattle.ae_script.specs.Ends.{HasReadTo, ScriptDone, ScriptEnds, read, bad_line, source, memory}
use Rattle.ae_session.specs.Called.{ProjectDone, ProjectsCountRuns, lines_made, stops, stored, tells, unmade}
use Rattle.ae_session.specs.Summary.{HasBuilds, MakesRuns, SummaryTold, builds}
use Rattle.ae_session.specs.Summary as summary
use Rattle.ae_session.proofs.Making.{loaded_along, loaded_holds}
use Rattle.ae_session.proofs.RunsMade.{runs_made}

-- a line that ends the lines isn't done
pub never_by_line : (o : Outcome) (rose : Type 0) → ((leads_on Generator o ≡ false) × (Done ≡ o)) ⊎ ((Done ≡ unless_told o) × rose) → ⊥
never_by_line o rose (inl ended) = let both : true ≡ false = ap is_done ended.1 ∙ ended.0 in absurd (cc both)
never_by_line o rose (inr untold) = let here : o ≡ Done = meant_done o Done rose refl (inr untold) in let lost : Done ≡ unless_told Done = untold.0 ∙ ap unless_told here in let both : true ≡ false = ap is_done lost in absurd (cc both)

pub risen_on : (a b c : ℕ) → b ≤ c → HasRisen a b → HasRisen a c
risen_on a b c later rose = omega (arith, later, rose)

module _ (d : Disks) (s : Sites) where
  -- all of them lead on, where the script ends so
  pub all_lead : (done : List (Did d s)) (sink : SinkUse) (After : Outcome → List ℕ → Type 0) → LinesEnd d s Generator done sink After Done → AllLead d s Generator done
  all_lead done sink After (by_end meant text lead after told) = lead
  all_lead done sink After (by_line before last is lead ends) = absurd (never_by_line last.outcome sink.rose ends.how)

  lead_steps : (done : List (Did d s)) (steps : List LineDone) → AreStepsOf d s done steps → AllLead d s Generator done → AllLeadOn Generator steps
  lead_steps [] [] are lead = tt
  lead_steps [] (x ∷ steps) are lead = absurd are
  lead_steps (x ∷ done) [] are lead = absurd are
  lead_steps (x ∷ done) (y ∷ steps) are lead = (ap (leads_on Generator) are.0.outcome ∙ lead.0, lead_steps done steps are.1 lead.1)

  loaded : (from : Stand d s) (done : List (Did d s)) (mid disk : d.Disk) (held : List Log) (log : Log) → AllLead d s Generator done → LeavesDisk (d.state mid) (d.state disk) (Unit {0}) → IsLogged d s Generator from done mid held log
      → IsLogged d s Generator from done disk held log
  loaded from done mid disk held log lead leaves so = record {
    steps = so.steps;
    are = so.are;
    runs = so.runs;
    time = continues_then (d.state from.disk) (d.state mid) (d.state disk) so.time leaves.time;
    refined = loaded_along (d.state from.disk) (d.state mid) (d.state disk) held log so.steps leaves (lead_steps done so.steps so.are lead) so.refined;
    holds = loaded_holds (d.state from.disk) (d.state mid) (d.state disk) held log so.steps leaves so.holds;
    reads = so.reads;
  }

  module _ (start changes files : ℕ) (from : Stand d s) (disk : d.Disk) (site : s.Site) (out err : SinkUse) (result : Outcome) where
    pub made_runs : (made : ProjectDone d s start changes files from disk site out err result) → AreDone d s Generator from (lines_made d s made)
    made_runs (unmade only) = tt
    made_runs (stops left did other silent) = did.runs
    made_runs (tells mid left taken did sums) = did.runs

    pub made_logs : d.told → s.told → (made : ProjectDone d s start changes files from disk site out err result) → FollowLogs d s Generator from (lines_made d s made) disk
    made_logs seen shown (unmade only) = follows_all d s Generator seen shown from [] disk (sym only.disk_is) tt tt
    made_logs seen shown (stops left did other silent) = did.logs seen shown
    made_logs seen shown (tells mid left taken did sums) = λ held log was. loaded from did.done mid disk held log (all_lead did.done _ _ did.ends) (sums.leaves seen) (did.logs seen shown held log was)

    pub made_disk : (made : ProjectDone d s start changes files from disk site out err result) → d.faults from.disk ≤ d.faults disk
    made_disk (unmade only) = subst (λ (x : d.Disk). d.faults from.disk ≤ d.faults x) (sym only.disk_is) (le_refl (d.faults from.disk))
    made_disk (stops left did other silent) = subst (λ (x : d.Disk). d.faults from.disk ≤ d.faults x) did.disk_is (disk_later d s Generator from did.done did.runs)
    made_disk (tells mid left taken did sums) =
        let first : d.faults from.disk ≤ d.faults mid = subst (λ (x : d.Disk). d.faults from.disk ≤ d.faults x) did.disk_is (disk_later d s Generator from did.done did.runs) in
        let then : d.faults mid ≤ d.faults disk = sums.later in
        omega (arith, first, then)

    pub made_site : (made : ProjectDone d s start changes files from disk site out err result) → s.faults from.site ≤ s.faults site
    made_site (unmade only) = subst (λ (x : s.Site). s.faults from.site ≤ s.faults x) (sym only.site_is) (le_refl (s.faults from.site))
    made_site (stops left did other silent) = subst (λ (x : s.Site). s.faults from.site ≤ s.faults x) did.site_is (site_later d s Generator from did.done did.runs)
    made_site (tells mid left taken did sums) = subst (λ (x : s.Site). s.faults from.site ≤ s.faults x) did.site_is (site_later d s Generator from did.done did.runs)

-- ---- counts that rose earlier

summary_on : (runs : ℕ) (stands : Option Observation) (disk_rose : Type 0) (out : SinkUse) (told : Type 0) (old new : List ℕ) (rose later : Type 0) (result : Outcome) → (rose → later)
    → SummaryTold runs stands disk_rose out (sink_use told old new rose) result → SummaryTold runs stands disk_rose out (sink_use told old new later) result
summary_on runs stands disk_rose out told old new rose later result on (summary.told text is how quiet) = summary.told text is how quiet
summary_on runs stands disk_rose out told old new rose later result on (summary.untold why fails how quiet) =
    summary.untold why fails (subst (λ (b : List ℕ). IsTold why (message why) (sink_use told b new later) result) (append-nil old)
    (told_then told old old new [] rose later (λ tells. sym (append-nil old)) on why result (message why) how)) quiet

pub ends_on : (d : Disks) (s : Sites) (manner : Manner) (done : List (Did d s)) (told : Type 0) (old new : List ℕ) (rose later : Type 0) → (rose → later) → (After : Outcome → List ℕ → Type 0) (result : Outcome)
    → LinesEnd d s manner done (sink_use told old new rose) After result → LinesEnd d s manner done (sink_use told old new later) After result
ends_on d s manner done told old new rose later on After result (by_end meant text lead after is) =
    by_end meant text lead after (subst (λ (b : List ℕ). IsTold meant text (sink_use told b new later) result) (append-nil (old ++ transcript d s done))
    (told_then told (old ++ transcript d s done) (old ++ transcript d s done) new [] rose later (λ tells. sym (append-nil (old ++ transcript d s done))) on meant result text is))
ends_on d s manner done told old new rose later on After result (by_line before last is lead ends) =
    by_line before last is lead (subst (λ (b : List ℕ). IsStoppedBy manner last.outcome last.text (sink_use told b new later) result) (append-nil (old ++ transcript d s before))
    (stopped_then told (old ++ transcript d s before) (old ++ transcript d s before) new [] rose later (λ tells. sym (append-nil (old ++ transcript d s before))) on manner last.outcome result last.text ends))

-- ---- the runs that it counts

module _ (d : Disks) (s : Sites) where
  said_same : (done : List (Did d s)) (steps : List LineDone) → AreStepsOf d s done steps → map (λ (x : LineDone). x.line) steps ≡ lines_said d s done
  said_same [] [] are = refl
  said_same [] (y ∷ steps) are = absurd are
  said_same (x ∷ done) [] are = absurd are
  said_same (x ∷ done) (y ∷ steps) are = ap (λ (l : Line). l ∷ map (λ (x : LineDone). x.line) steps) are.0.line ∙ ap (λ (ls : List Line). x.line ∷ ls) (said_same done steps are.1)

  last_site : (from : Stand d s) (start : Point) (done : List (Did d s)) (steps : List LineDone) → start.site ≡ s.state from.site → AreStepsOf d s done steps → (stop start steps).site ≡ s.state (last_stand d s from done).site
  last_site from start [] [] is are = is
  last_site from start [] (y ∷ steps) is are = absurd are
  last_site from start (x ∷ done) [] is are = absurd are
  last_site from start (x ∷ done) (y ∷ steps) is are = last_site x.to y.to done steps (ap (λ (p : Point). p.site) are.0.to) are.1

  counted : (start changes files : ℕ) (from : Stand d s) (disk : d.Disk) (site : s.Site) (out err : SinkUse) (result : Outcome) (made : ProjectDone d s start changes files from disk site out err result) → d.told → s.told
      → (held : List Log) (log : Log) → HoldsLegal (d.state from.disk) held log → AllLead d s Generator (lines_made d s made) → MakesRuns (s.state from.site) (s.state (last_stand d s from (lines_made d s made)).site) (lines_said d s (lines_made d s made))
  counted start changes files from disk site out err result made seen shown held log was lead =
      subst (λ (ls : List Line). MakesRuns (s.state from.site) (s.state (last_stand d s from (lines_made d s made)).site) ls) (said_same (lines_made d s made) so.steps so.are)
      (subst (λ (t : SiteState). MakesRuns (s.state from.site) t (map (λ (x : LineDone). x.line) so.steps)) (last_site from (point from.who from.now log (s.state from.site)) (lines_made d s made) so.steps refl so.are)
      (runs_made (point from.who from.now log (s.state from.site)) so.steps so.runs (lead_steps d s (lines_made d s made) so.steps so.are lead)))
    where
      so : IsLogged d s Generator from (lines_made d s made) (last_stand d s from (lines_made d s made)).disk held log
      so = follows_all d s Generator seen shown from (lines_made d s made) (last_stand d s from (lines_made d s made)).disk refl (made_runs d s start changes files from disk site out err result made) lead held log was

  pub counts : (o e : Streams) → ProjectsCountRuns d s o e
  counts o e start changes files from disk site out out_new err err_new result made = counted start changes files from disk site (written_from o out out_new) (written_from e err err_new) result made

-- ---- what the generator's parts did

module _ (d : Disks) (s : Sites) (start changes files : ℕ) (from : Stand d s) (site : s.Site) where
  pub project_stops : (disk : d.Disk) (script left : List ℕ) (out err : SinkUse) (result : Outcome) → script ≡ generated_text start changes files → ScriptDone d s Generator from disk site (stored script left) err result → is_done result ≡ false → TakesNothing out
      → ProjectDone d s start changes files from disk site out err result
  project_stops disk script left out err result same did other quiet = stops left (subst (λ (t : List ℕ). ScriptDone d s Generator from disk site (stored t left) err result) same did) other quiet

  -- the script was read to its end
  read_all : (mid : d.Disk) (script left : List ℕ) (err : SinkUse) (did : ScriptDone d s Generator from mid site (stored script left) err Done) → HasReadTo script (lines_said d s did.done) did.at []
  read_all mid script left err did = subst (λ (r : List ℕ). HasReadTo script (lines_said d s did.done) did.at r) (go did.ends) (did.read tt)
    where
      after : (meant : Outcome) (text : List ℕ) → meant ≡ Done → ScriptEnds (length did.done) did.at did.rest (stored script left) meant text → did.rest ≡ []
      after _ _ is (read none) = none tt
      after _ _ is (bad_line bad) = absurd (let both : false ≡ true = ap is_done is in cc)
      after _ _ is (source risen part) = absurd (let both : false ≡ true = ap is_done is in cc)
      after _ _ is memory = absurd (let both : false ≡ true = ap is_done is in cc)

      go : LinesEnd d s Generator did.done err (ScriptEnds (length did.done) did.at did.rest (stored script left)) Done → did.rest ≡ []
      go (by_end meant text lead is told) = after meant text (meant_done meant Done err.rose refl told.how) is
      go (by_line before last is lead ends) = absurd (never_by_line last.outcome err.rose ends.how)

  pub project_tells : (mid disk : d.Disk) (script left : List ℕ) (out : SinkUse) (err_told : Type 0) (first second third : List ℕ) (c0 c1 c2 : ℕ) (ended result : Outcome) → script ≡ generated_text start changes files
      → ScriptDone d s Generator from mid site (stored script left) (sink_use err_told first second (HasRisen c0 c1)) ended → is_done ended ≡ true
      → (runs : ℕ) → HasBuilds script runs → c0 ≤ c1 → c1 ≤ c2 → d.faults mid ≤ d.faults disk → (d.told → LeavesDisk (d.state mid) (d.state disk) (Unit {0}))
      → IsCaused (HasRisen (d.faults mid) (d.faults disk)) ⊥ ⊥ (out.rose ⊎ HasRisen c1 c2) result
      → (d.told → (log : Log) → StandsForLog (reads (d.state mid)) log → SummaryTold runs (observation log) (HasRisen (d.faults mid) (d.faults disk)) out (sink_use err_told second third (HasRisen c1 c2)) result)
      → ProjectDone d s start changes files from disk site out (sink_use err_told first third (HasRisen c0 c2)) result
  project_tells mid disk script left out err_told first second third c0 c1 c2 ended result same did all_done runs counted first_on then_on disk_on leaves causes sums =
      tells mid left second whole (record {
        later = disk_on;
        leaves = leaves;
        causes = caused_on _ ⊥ ⊥ _ _ ⊥ ⊥ _ (λ rose. rose) (λ none. none) (λ none. none) (λ rose. elim rose [ inl o ↦ inl o | inr e ↦ inr (risen_later c0 c1 c2 first_on e) ]) result causes;
        told = λ seen log stands. summary_on _ _ _ out err_told second third _ _ result (risen_later c0 c1 c2 first_on)
            (subst (λ (n : ℕ). SummaryTold n (observation log) (HasRisen (d.faults mid) (d.faults disk)) out (sink_use err_told second third (HasRisen c1 c2)) result) count (sums seen log stands));
      })
    where
      so : ScriptDone d s Generator from mid site (stored script left) (sink_use err_told first second (HasRisen c0 c1)) Done
      so = subst (λ (o : Outcome). ScriptDone d s Generator from mid site (stored script left) (sink_use err_told first second (HasRisen c0 c1)) o) (done_is ended all_done) did

      there : ScriptDone d s Generator from mid site (stored (generated_text start changes files) left) (sink_use err_told first second (HasRisen c0 c1)) Done
      there = subst (λ (t : List ℕ). ScriptDone d s Generator from mid site (stored t left) (sink_use err_told first second (HasRisen c0 c1)) Done) same so

      count : runs ≡ builds (lines_said d s there.done)
      count = let all = read_all mid (generated_text start changes files) left (sink_use err_told first second (HasRisen c0 c1)) there in
          (subst (λ (t : List ℕ). HasBuilds t runs) same counted) all.lines (lines_said d s there.done) all.read

      whole : ScriptDone d s Generator from mid site (stored (generated_text start changes files) left) (sink_use err_told first second (HasRisen c0 c2)) Done
      whole = record {
        done = there.done;
        at = there.at;
        rest = there.rest;
        read = there.read;
        runs = there.runs;
        disk_is = there.disk_is;
        site_is = there.site_is;
        ends = ends_on d s Generator there.done err_told first second _ _ (risen_on c0 c1 c2 then_on) _ Done there.ends;
        logs = there.logs;
      }
