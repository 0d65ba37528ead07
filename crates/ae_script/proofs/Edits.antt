-- A line that is no command.
use Rattle.std.specs.Prelude.{◌≡◌, ℕ, true, false, Bool, List, [], ◌∷◌, Option, Some, if◌then◌else◌}
use Rattle.std.proofs.Common.{refl, sym, ap, subst, ◌∙◌, append-nil}
use Rattle.ae_base.specs.declared.outcome.Outcome.{Outcome}
use Rattle.ae_base.specs.declared.outcome.Outcome.TheVariants.{Done, SiteFault, Memory}
use Rattle.ae_outside.specs.Site.{ChangesOnly}
use Rattle.ae_outside.specs.State.{DiskState}
use Rattle.ae_outside.specs.declared.dir.Dir.{Dir}
use Rattle.ae_lines.specs.declared.line.Line.{Line}
use Rattle.ae_log.specs.Log.{Log}
use Rattle.ae_exec.specs.Holding.{HoldsLegal}
use Rattle.ae_exec.specs.Stands.{StandsForLog}
use Rattle.ae_exec.proofs.Leaving.{leaves_still}
use Rattle.ae_exec.proofs.Standing.{alike, by_files}
use Rattle.ae_telling.specs.Messages.{site_fault_text, memory_text}
use Rattle.ae_telling.specs.Telling.{told_text}
use Rattle.ae_script.specs.Along.{is_fault}
use Rattle.ae_script.specs.Lines.{EditDone, edited, edit_fault, edit_memory}
use Rattle.ae_script.specs.Manner.{is_done, line_text}
use Rattle.ae_script.specs.Refined.{IsUnsynced}
use Rattle.ae_script.specs.Steps.{Point, EditEnds, IsEdited, Does}
use Rattle.ae_script.specs.Steps as step
use Rattle.ae_script.specs.Uses.{SiteUse}
use Rattle.ae_script.specs.declared.manner.Manner.{Manner}
use Rattle.ae_script.specs.declared.manner.Manner.TheVariants.{Plan, Script, Generator}
use Rattle.ae_script.proofs.Following.{Logs, refined_all}
use Rattle.ae_script.proofs.SoFar.{holds_so_far}
use Rattle.ae_script.proofs.Stepping.{fresh, StepDone}

-- ---- a disk that isn't called

module _ (manner : Manner) (from to : Point) (line : Line) (base : DiskState) (held : Logs) where
  pub step_of : (outcome : Outcome) (text : List ℕ) → is_fault outcome ≡ false → Does manner from (record { line = line; outcome = outcome; to = to; text = text }) → IsUnsynced line outcome → to.log ≡ from.log → HoldsLegal base held from.log
      → StepDone manner from line held base base to.site to.who to.now outcome text
  step_of outcome text calm does may same was =
      let kept = fresh (may, tt) (leaves_still StandsForLog by_files alike base held was.holds.holds) refl in
      let now = subst (λ (l : Log). HoldsLegal base held l) (sym same) was in
      record {
        done = record { line = line; outcome = outcome; to = to; text = text };
        is_line = refl;
        is_outcome = refl;
        is_text = refl;
        does = does;
        to = refl;
        refined = refined_all base base held held from.log (record { line = line; outcome = outcome; to = to; text = text } ∷ []) kept was.holds.holds;
        holds = holds_so_far base base held held from.log to.log (record { line = line; outcome = outcome; to = to; text = text } ∷ []) kept now;
        reads = λ other. refl;
        among = λ failed. absurd (let both : true ≡ false = sym (ap is_fault failed) ∙ calm in cc);
        goes = λ leads. (held, kept, now);
      }

-- ---- what is written of it

-- of a line that says nothing, in each manner
nothing_written : (manner : Manner) → line_text manner Done [] ≡ []
nothing_written Plan = refl
nothing_written Script = refl
nothing_written Generator = refl

-- and of one that isn't done all of it
all_written : (manner : Manner) (outcome : Outcome) (text : List ℕ) → is_done outcome ≡ false → line_text manner outcome text ≡ text
all_written Plan outcome text is = refl
all_written Script outcome text is = refl
all_written Generator outcome text is = ap (λ (b : Bool). if b then [] else text) is

nothing_told : (manner : Manner) (outcome : Outcome) (text : List ℕ) → outcome ≡ Done → text ≡ [] → line_text manner outcome text ≡ []
nothing_told manner outcome text is none = ap (line_text manner outcome) none ∙ ap (λ (o : Outcome). line_text manner o []) is ∙ nothing_written manner

-- the text of a line of which nothing was said
pub silent : (manner : Manner) (status : Bool) (outcome : Outcome) (text : List ℕ) → outcome ≡ Done → text ≡ [] → line_text manner outcome (told_text status outcome text) ≡ []
silent manner status outcome text is none = nothing_told manner outcome (told_text status outcome text) is (ap (λ (o : Outcome). told_text status o text) is ∙ none)

-- ---- an edit

-- the bytes are named in another way
pub bytes_are : (dir : Dir) (path was now : List ℕ) (site : SiteUse) (outcome : Outcome) (text : List ℕ) → was ≡ now → EditDone dir path (Some was) site outcome text → EditDone dir path (Some now) site outcome text
bytes_are dir path was now site outcome text same done = subst (λ (b : List ℕ). EditDone dir path (Some b) site outcome text) same done

module _ (dir : Dir) (path : List ℕ) (bytes : Option (List ℕ)) (site : SiteUse) where
  pub edit_done : (status : Bool) (outcome : Outcome) (text : List ℕ) → outcome ≡ Done → text ≡ [] → (site.told → IsEdited dir path bytes site.before site.after) → EditDone dir path bytes site outcome (told_text status outcome text)
  edit_done status outcome text is none edit =
      subst (λ (o : Outcome). EditDone dir path bytes site o (told_text status o text)) (sym is)
      (subst (λ (t : List ℕ). EditDone dir path bytes site Done t) (sym none) (edited edit))

  pub edit_failed : (status : Bool) (outcome : Outcome) (text : List ℕ) → status ≡ false → outcome ≡ SiteFault → site.rose → (site.told → ChangesOnly dir site.before site.after) → EditDone dir path bytes site outcome (told_text status outcome text)
  edit_failed status outcome text bare is rose only =
      subst (λ (b : Bool). EditDone dir path bytes site outcome (told_text b outcome text)) (sym bare)
      (subst (λ (o : Outcome). EditDone dir path bytes site o (told_text false o text)) (sym is)
      (subst (λ (t : List ℕ). EditDone dir path bytes site SiteFault t) (sym (append-nil site_fault_text)) (edit_fault rose only)))

  pub edit_wanting : (status : Bool) (outcome : Outcome) (text : List ℕ) → status ≡ false → outcome ≡ Memory → site.after ≡ site.before → EditDone dir path bytes site outcome (told_text status outcome text)
  edit_wanting status outcome text bare is same =
      subst (λ (b : Bool). EditDone dir path bytes site outcome (told_text b outcome text)) (sym bare)
      (subst (λ (o : Outcome). EditDone dir path bytes site o (told_text false o text)) (sym is)
      (subst (λ (t : List ℕ). EditDone dir path bytes site Memory t) (sym (append-nil memory_text)) (edit_memory same)))

  -- the same in each manner: what is said of it is written
  pub edit_written : (manner : Manner) (outcome : Outcome) (text : List ℕ) → EditDone dir path bytes site outcome text → EditDone dir path bytes site outcome (line_text manner outcome text)
  edit_written manner _ _ (edited is) = subst (λ (t : List ℕ). EditDone dir path bytes site Done t) (sym (nothing_written manner)) (edited is)
  edit_written manner _ _ (edit_fault rose only) = subst (λ (t : List ℕ). EditDone dir path bytes site SiteFault t) (sym (all_written manner SiteFault site_fault_text refl)) (edit_fault rose only)
  edit_written manner _ _ (edit_memory same) = subst (λ (t : List ℕ). EditDone dir path bytes site Memory t) (sym (all_written manner Memory memory_text refl)) (edit_memory same)

  -- the disk doesn't fail it
  pub edit_calm : (outcome : Outcome) (text : List ℕ) → EditDone dir path bytes site outcome text → is_fault outcome ≡ false
  edit_calm _ _ (edited is) = refl
  edit_calm _ _ (edit_fault rose only) = refl
  edit_calm _ _ (edit_memory same) = refl

  -- as a step of the log machine
  pub edit_ends : site.told → (outcome : Outcome) (text : List ℕ) → EditDone dir path bytes site outcome text → EditEnds dir path bytes site.before site.after outcome text
  edit_ends shown _ _ (edited is) = step.edited (is shown)
  edit_ends shown _ _ (edit_fault rose only) = step.edit_fault (only shown)
  edit_ends shown _ _ (edit_memory same) = step.edit_memory same
