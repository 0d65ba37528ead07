-- A run fails only where one is made: another outcome comes to no failed run, and acts that build and test nothing make none.
use Rattle.std.specs.Prelude.{◌≡◌, ◌≢◌, ◌⊎◌, ℕ, false, List, Option}
use Rattle.std.proofs.Common.{inl, inr, refl, sym, subst, ◌∙◌}
use Rattle.std.proofs.lemmas.Bool.{true≢false}
use Rattle.ae_base.specs.declared.outcome.Outcome.{Outcome}
use Rattle.ae_base.specs.declared.outcome.Outcome.TheVariants.{Done, RunFailed, Refused, BadWords, BadScript, DiskFault, SiteFault, SinkFault, SourceFault, Damaged, Memory}
use Rattle.ae_outside.specs.declared.dir.Dir.{Dir}
use Rattle.ae_lines.specs.Acts.{MayBePlanned}
use Rattle.ae_lines.specs.declared.act.Act.{Act}
use Rattle.ae_lines.specs.declared.act.Act.TheVariants as act
use Rattle.ae_lines.specs.declared.line.Line.{Line}
use Rattle.ae_words.specs.declared.table.Function.{Function}
use Rattle.ae_words.specs.declared.table.Function.TheVariants as function
use Rattle.ae_machine.specs.Fits.{makes_runs}
use Rattle.ae_exec.proofs.Unfailed.{failed-so}
use Rattle.ae_telling.specs.Answered.{IsMeant, IsWhyTold}
use Rattle.ae_telling.specs.Messages.{message}
use Rattle.ae_telling.specs.Telling.{IsTold, IsToldOrMemory, SinkUse, unless_told}
use Rattle.ae_script.specs.Acts.{line_of}
use Rattle.ae_script.specs.Lines.{Did, Does, DoesLine, EditDone, Stand, edit_fault, edit_memory, edited}
use Rattle.ae_script.specs.Step.{IsStoppedBy}
use Rattle.ae_script.specs.Uses.{Disks, SiteUse, Sites}
use Rattle.ae_script.specs.declared.manner.Manner.{Manner}

-- ---- outcomes that a call tells

-- what is left of an outcome whose text can't be written is no failed run
never_left : (o : Outcome) → unless_told o ≢ RunFailed
never_left Done is = let both : SinkFault ≡ RunFailed = is in cc
never_left RunFailed is = let both : SinkFault ≡ RunFailed = is in cc
never_left (Refused refusal) is = let both : SinkFault ≡ RunFailed = is in cc
never_left (BadWords place) is = let both : SinkFault ≡ RunFailed = is in cc
never_left (BadScript line) is = let both : SinkFault ≡ RunFailed = is in cc
never_left DiskFault is = let both : DiskFault ≡ RunFailed = is in cc
never_left SiteFault is = let both : SiteFault ≡ RunFailed = is in cc
never_left SinkFault is = let both : SinkFault ≡ RunFailed = is in cc
never_left SourceFault is = let both : SourceFault ≡ RunFailed = is in cc
never_left (Damaged name) is = let both : Damaged name ≡ RunFailed = is in cc
never_left Memory is = let both : Memory ≡ RunFailed = is in cc

-- where a call ends with a failed run, that was meant
pub meant_failed : (meant result : Outcome) (rose : Type 0) → (result ≡ meant) ⊎ ((result ≡ unless_told meant) × rose) → result ≡ RunFailed → meant ≡ RunFailed
meant_failed meant result rose (inl same) is = sym same ∙ is
meant_failed meant result rose (inr untold) is = absurd (never_left meant (sym untold.0 ∙ is))

pub stopped_unfailed : (manner : Manner) (meant result : Outcome) (text : List ℕ) (sink : SinkUse) → meant ≢ RunFailed → IsStoppedBy manner meant text sink result → result ≢ RunFailed
stopped_unfailed manner meant result text sink other stopped is =
    other (meant_failed meant result sink.rose (elim stopped.how [ inl ended ↦ inl ended.1 | inr untold ↦ inr untold ]) is)

pub memory_unfailed : (sink : SinkUse) (text : List ℕ) (result : Outcome) → IsTold Memory text sink result → result ≢ RunFailed
memory_unfailed sink text result told is = let both : Memory ≡ RunFailed = meant_failed Memory result sink.rose told.how is in cc

pub either_unfailed : (meant result : Outcome) (sink : SinkUse) → meant ≢ RunFailed → IsToldOrMemory meant sink result → result ≢ RunFailed
either_unfailed meant result sink other (inl told) is = other (meant_failed meant result sink.rose told.how is)
either_unfailed meant result sink other (inr told) is = memory_unfailed sink (message Memory) result told is

-- why there is no answer
why_meant : (why meant : Outcome) → IsMeant why meant → meant ≡ RunFailed → why ≡ RunFailed
why_meant why meant (inl same) is = sym same ∙ is
why_meant why meant (inr lacking) is = absurd (let both : Memory ≡ RunFailed = sym lacking.0 ∙ is in cc)

pub why_unfailed : (why result : Outcome) (err : SinkUse) → why ≢ RunFailed → IsWhyTold why err result → result ≢ RunFailed
why_unfailed why result err other told is = other (why_meant why told.meant told.is_meant (meant_failed told.meant result err.rose told.is_told.how is))

-- ---- acts

none_made : (f : Function) → f ≢ function.Build → f ≢ function.Test → makes_runs f ≡ false
none_made function.Build build test = absurd (build refl)
none_made function.Test build test = absurd (test refl)
none_made _ build test = refl

edit_unfailed : (dir : Dir) (path : List ℕ) (bytes : Option (List ℕ)) (site : SiteUse) (o : Outcome) (text : List ℕ) → EditDone dir path bytes site o text → o ≢ RunFailed
edit_unfailed dir path bytes site _ _ (edited is) same = let both : Done ≡ RunFailed = same in cc
edit_unfailed dir path bytes site _ _ (edit_fault rose only) same = let both : SiteFault ≡ RunFailed = same in cc
edit_unfailed dir path bytes site _ _ (edit_memory kept) same = let both : Memory ≡ RunFailed = same in cc

module _ (d : Disks) (s : Sites) (manner : Manner) (from : Stand d s) (one : Did d s) where
  line_unfailed : (item : Act) → MayBePlanned item → DoesLine d s manner (line_of item) from one → one.outcome ≢ RunFailed
  line_unfailed (act.Run command) may does is = true≢false (sym (failed-so one.outcome does.is.ends is) ∙ none_made command.function may.1 may.2)
  line_unfailed (act.Put dir path text) may does is = edit_unfailed dir path _ _ one.outcome one.text does.is is

  pub act_unfailed : (item : Act) → one.line ≡ line_of item → MayBePlanned item → Does d s manner from one → one.outcome ≢ RunFailed
  act_unfailed item says may does = line_unfailed item may (subst (λ (line : Line). DoesLine d s manner line from one) says does.does)
