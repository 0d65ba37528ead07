-- How a script in the grammar ends where nothing outside fails, and what causes its faults.
use Rattle.std.specs.Prelude.{◌≡◌, ◌⊎◌, ◌+◌, ℕ, true, false, Bool, List, [], ◌∷◌, ◌++◌, Option, length}
use Rattle.std.proofs.Common.{inl, inr, refl, sym, ap, subst, ◌∙◌, arith, add_assoc}
use Rattle.ae_base.specs.declared.outcome.Outcome.{Outcome}
use Rattle.ae_base.specs.declared.outcome.Outcome.TheVariants.{Done, DiskFault, SiteFault, Memory}
use Rattle.ae_outside.specs.Causes.{HasRisen}
use Rattle.ae_outside.specs.Site.{SiteState}
use Rattle.ae_outside.specs.declared.dir.Dir.{Dir}
use Rattle.ae_lines.specs.declared.line.Line.{Line}
use Rattle.ae_lines.specs.declared.line.Line.TheVariants.{Nothing, As, At, Do, Put, Fill, Remove}
use Rattle.ae_log.specs.Log.{Log}
use Rattle.ae_machine.specs.Called.{Called, answer_after}
use Rattle.ae_machine.specs.declared.verdict.Verdict.{Verdict}
use Rattle.ae_machine.specs.declared.verdict.Verdict.TheVariants.{Accept, Refuse}
use Rattle.ae_exec.specs.Said.{a_run_failed}
use Rattle.ae_exec.specs.Step.{outcome_done, outcome_of_answer}
use Rattle.ae_telling.specs.Telling.{SinkUse, goes_on}
use Rattle.ae_script.specs.Causes.{IsCaused}
use Rattle.ae_script.specs.Follows.{AreStepsOf, IsLogged}
use Rattle.ae_script.specs.Laws.{IsOfLine}
use Rattle.ae_script.specs.Lines.{Did, LinesEnd, Stand, by_end, by_line, last_stand, lines_said}
use Rattle.ae_script.specs.Steps.{Point, LineDone, CommandEnds, answered, EditEnds, edited, edit_fault, edit_memory, DoesLine, Runs, point}
use Rattle.ae_script.specs.Steps as step
use Rattle.ae_script.specs.Uses.{Disks, Sites, SourceUse, Streams, read_from, written_from}
use Rattle.ae_script.specs.declared.manner.Manner.{Manner}
use Rattle.ae_script.specs.declared.manner.Manner.TheVariants.{Script}
use Rattle.ae_script.proofs.Caused.{caused_by_last, caused_end}
use Rattle.ae_lines.specs.Script.{IsGood, AreLines, IsScript, size}
use Rattle.ae_script.specs.Ends.{HasReadTo, ScriptDone, ScriptEnds, ScriptsAreCaused, ScriptsEndWhole, read, bad_line, source, memory}

-- a line after others is understood too
are_at : (at : ℕ) (lines : List (List ℕ)) (line : List ℕ) (more : List (List ℕ)) (says : List Line) → AreLines at (lines ++ line ∷ more) says → (s : Line) × IsGood (at + size lines) line s
are_at at [] line more [] are = absurd are
are_at at [] line more (s ∷ says) are = (s, subst (λ (n : ℕ). IsGood n line s) (omega arith) are.0)
are_at at (l ∷ lines) line more [] are = absurd are
are_at at (l ∷ lines) line more (s ∷ says) are =
    let after = are_at (at + length l) lines line more says are.1 in
    (after.0, subst (λ (n : ℕ). IsGood n line after.0) (add_assoc at (length l) (size lines)) after.1)

-- ---- a step after which none may come

-- one of the ends that have no answer
abbrev Fails : Outcome → Type 0
Fails o = (o ≡ DiskFault) ⊎ ((o ≡ SiteFault) ⊎ (o ≡ Memory))

done_goes : (failed : Bool) → goes_on (outcome_done failed) ≡ false → ⊥
done_goes true ends = absurd (let both : true ≡ false = ends in cc)
done_goes false ends = absurd (let both : true ≡ false = ends in cc)

answer_goes : (v : Verdict) → goes_on (outcome_of_answer v) ≡ false → ⊥
answer_goes (Accept events) ends = done_goes (a_run_failed events) ends
answer_goes (Refuse refusal) ends = absurd (let both : true ≡ false = ends in cc)

command_fails : (log next : Log) (called : Called) (outcome : Outcome) (said : List ℕ) → CommandEnds log called outcome next said → goes_on outcome ≡ false → Fails outcome
command_fails log _ called _ _ answered ends = absurd (answer_goes (answer_after log called) ends)
command_fails log _ called _ _ step.disk_fault ends = inl refl
command_fails log _ called _ _ step.site_fault ends = inr (inl refl)
command_fails log _ called _ _ step.memory ends = inr (inr refl)

edit_fails : (dir : Dir) (path : List ℕ) (bytes : Option (List ℕ)) (old new : SiteState) (outcome : Outcome) (text : List ℕ) → EditEnds dir path bytes old new outcome text → goes_on outcome ≡ false → Fails outcome
edit_fails dir path bytes old new _ _ (edited is) ends = absurd (let both : true ≡ false = ends in cc)
edit_fails dir path bytes old new _ _ (edit_fault only) ends = inr (inl refl)
edit_fails dir path bytes old new _ _ (edit_memory same) ends = inr (inr refl)

pass_goes : (outcome : Outcome) → outcome ≡ Done → goes_on outcome ≡ false → ⊥
pass_goes outcome is ends = let both : true ≡ false = sym (ap goes_on is) ∙ ends in absurd (cc both)

line_fails : (line : Line) (from : Point) (d : LineDone) → DoesLine Script line from d → goes_on d.outcome ≡ false → Fails d.outcome
line_fails Nothing from d does ends = absurd (pass_goes d.outcome does.outcome ends)
line_fails (As user) from d does ends = absurd (pass_goes d.outcome does.outcome ends)
line_fails (At moment) from d does ends = absurd (pass_goes d.outcome does.outcome ends)
line_fails (Do command) from d does ends = command_fails from.log d.to.log _ d.outcome does.said does.ends ends
line_fails (Put dir path text) from d does ends = edit_fails dir path _ from.site d.to.site d.outcome d.text does.ends ends
line_fails (Fill dir path count byte) from d does ends = edit_fails dir path _ from.site d.to.site d.outcome d.text does.ends ends
line_fails (Remove dir path) from d does ends = edit_fails dir path _ from.site d.to.site d.outcome d.text does.ends ends

module _ (d : Disks) (s : Sites) where
  last_fails : (before : List (Did d s)) (last : Did d s) (from : Point) (steps : List LineDone) → AreStepsOf d s (before ++ last ∷ []) steps → Runs Script from steps → goes_on last.outcome ≡ false → Fails last.outcome
  last_fails [] last from [] are runs ends = absurd are
  last_fails [] last from (one ∷ steps) are runs ends = subst Fails are.0.outcome (line_fails one.line from one runs.0 (ap goes_on are.0.outcome ∙ ends))
  last_fails (x ∷ before) last from [] are runs ends = absurd are
  last_fails (x ∷ before) last from (one ∷ steps) are runs ends = last_fails before last one.to steps are.1 runs.1 ends

  -- ---- the whole script

  module _ (from : Stand d s) (disk : d.Disk) (site : s.Site) (input : SourceUse) (out : SinkUse) (result : Outcome) (did : ScriptDone d s Script from disk site input out result)
      (seen : d.told) (shown : s.told) (fed : input.told) (is_script : IsScript input.before) (logged : (held : List Log) × (log : Log) × IsLogged d s Script from did.done disk held log)
      (no_disk : HasRisen (d.faults from.disk) (d.faults disk) → ⊥) (no_site : HasRisen (s.faults from.site) (s.faults site) → ⊥) (no_input : input.rose → ⊥) (no_out : out.rose → ⊥) where
    abbrev Well : Outcome → Type 0
    Well o = (o ≡ Done) ⊎ (o ≡ Memory)

    after_well : (meant : Outcome) (text : List ℕ) → ScriptEnds (length did.done) did.at did.rest input meant text → Well meant
    after_well _ _ (read none) = inl refl
    after_well _ _ (bad_line bad) =
        let next = bad fed in
        let all = did.read fed in
        let good = are_at 0 all.lines next.line next.more is_script.0
        (subst (λ (ls : List (List ℕ)). AreLines 0 ls is_script.0) (all.read.cut ∙ ap (λ (ls : List (List ℕ)). all.lines ++ ls) next.next) is_script.1) in
        absurd (next.bad good.0 (subst (λ (n : ℕ). IsGood n next.line good.0) (all_sized all) good.1))
      where
        all_sized : (all : HasReadTo input.before (lines_said d s did.done) did.at did.rest) → 0 + size all.lines ≡ did.at
        all_sized all = let is = all.sized in omega (arith, is)
    after_well _ _ (source risen part) = absurd (no_input risen)
    after_well _ _ memory = inr refl

    fails_well : (o : Outcome) → Fails o → IsCaused (HasRisen (d.faults from.disk) (d.faults (last_stand d s from did.done).disk)) (HasRisen (s.faults from.site) (s.faults (last_stand d s from did.done).site)) ⊥ ⊥ o → Well o
    fails_well o (inl is) caused = absurd (no_disk (subst (λ (x : d.Disk). HasRisen (d.faults from.disk) (d.faults x)) did.disk_is
        (subst (λ (o : Outcome). IsCaused (HasRisen (d.faults from.disk) (d.faults (last_stand d s from did.done).disk)) (HasRisen (s.faults from.site) (s.faults (last_stand d s from did.done).site)) ⊥ ⊥ o) is caused)))
    fails_well o (inr (inl is)) caused = absurd (no_site (subst (λ (x : s.Site). HasRisen (s.faults from.site) (s.faults x)) did.site_is
        (subst (λ (o : Outcome). IsCaused (HasRisen (d.faults from.disk) (d.faults (last_stand d s from did.done).disk)) (HasRisen (s.faults from.site) (s.faults (last_stand d s from did.done).site)) ⊥ ⊥ o) is caused)))
    fails_well o (inr (inr is)) caused = inr is

    well : LinesEnd d s Script did.done out (ScriptEnds (length did.done) did.at did.rest input) result → Well result
    well (by_end meant text lead after told) = elim told.how [
      | inl is ↦ elim (after_well meant text after) [ inl done ↦ inl (is ∙ done) | inr wants ↦ inr (is ∙ wants) ]
      | inr untold ↦ absurd (no_out untold.1)
    ]
    well (by_line before last is lead ends) = elim ends.how [
      | inl ended ↦ elim (fails_well last.outcome (last_fails before last (point from.who from.now logged.1 (s.state from.site)) logged.2.steps (subst (λ (ones : List (Did d s)). AreStepsOf d s ones logged.2.steps) is logged.2.are) logged.2.runs ended.0)
          (caused_by_last d s Script from did.done before last is did.runs)) [
            | inl done ↦ inl (ended.1 ∙ done)
            | inr wants ↦ inr (ended.1 ∙ wants)
          ]
      | inr untold ↦ absurd (no_out untold.1)
    ]

  pub whole : (i o : Streams) → ScriptsEndWhole d s i o
  whole i o from disk site input left out taken result did seen shown fed held log was is_script no_disk no_site no_input no_out =
      well from disk site (read_from i input left) (written_from o out taken) result did seen shown fed is_script (held, log, did.logs seen shown held log was) no_disk no_site no_input no_out did.ends

  -- ---- causes

  after_caused : (disk_rose site_rose : Type 0) (count at : ℕ) (rest : List ℕ) (input : SourceUse) (sink_rose : Type 0) (o : Outcome) (text : List ℕ) → ScriptEnds count at rest input o text → IsCaused disk_rose site_rose input.rose sink_rose o
  after_caused disk_rose site_rose count at rest input sink_rose _ _ (read none) = tt
  after_caused disk_rose site_rose count at rest input sink_rose _ _ (bad_line bad) = tt
  after_caused disk_rose site_rose count at rest input sink_rose _ _ (source risen part) = risen
  after_caused disk_rose site_rose count at rest input sink_rose _ _ memory = tt

  pub caused_script : (manner : Manner) (from : Stand d s) (disk : d.Disk) (site : s.Site) (input : SourceUse) (out : SinkUse) (result : Outcome) → ScriptDone d s manner from disk site input out result
      → IsCaused (HasRisen (d.faults from.disk) (d.faults disk)) (HasRisen (s.faults from.site) (s.faults site)) input.rose out.rose result
  caused_script manner from disk site input out result did =
      subst (λ (x : d.Disk). IsCaused (HasRisen (d.faults from.disk) (d.faults x)) (HasRisen (s.faults from.site) (s.faults site)) input.rose out.rose result) did.disk_is
      (subst (λ (x : s.Site). IsCaused (HasRisen (d.faults from.disk) (d.faults (last_stand d s from did.done).disk)) (HasRisen (s.faults from.site) (s.faults x)) input.rose out.rose result) did.site_is
      (caused_end d s manner from did.done out _ input.rose result did.runs did.ends (λ o text. after_caused _ _ (length did.done) did.at did.rest input out.rose o text)))

  pub caused : (i o : Streams) → ScriptsAreCaused d s i o
  caused i o manner from disk site input left out taken result did = caused_script manner from disk site (read_from i input left) (written_from o out taken) result did

-- ---- none of the ends of a script is a fault of a line

pub never_of_line : (count at : ℕ) (rest : List ℕ) (input : SourceUse) (fault : Outcome) → IsOfLine fault → (text : List ℕ) → ScriptEnds count at rest input fault text → ⊥
never_of_line count at rest input _ of_line _ (read is) = of_line
never_of_line count at rest input _ of_line _ (bad_line is) = of_line
never_of_line count at rest input _ of_line _ (source rose is) = of_line
never_of_line count at rest input _ of_line _ memory = of_line
