-- How a call ended that told a report, and by which causes.
use Rattle.std.proofs.Common.{◌≡◌, ◌⊎◌, ◌∙◌, ◌++◌, inl, inr, sym, subst, ℕ, false, List, IfOk, IfErr, Result, Ok, Err}
use Rattle.ae_base.specs.declared.outcome.Outcome.{Outcome}
use Rattle.ae_base.specs.declared.outcome.Outcome.TheVariants.{Done}
use Rattle.ae_base.specs.declared.refusal.Refusal.{Refusal}
use Rattle.ae_outside.specs.Image.{Image}
use Rattle.ae_outside.specs.Site.{SiteState}
use Rattle.ae_telling.specs.Answered.{IsAnswerTold, IsMeant}
use Rattle.ae_telling.specs.Answered as answer
use Rattle.ae_telling.specs.Telling.{IsSaid, SinkUse, unless_told}
use Rattle.ae_base.specs.declared.want.Want.TheVariants.{All}
use Rattle.ae_exec.specs.Endings.{EndsAs, IsDamagedAt, MayEnd, damaged, disk_fault, done, memory, refused, run_failed, site_fault}
use Rattle.ae_exec.proofs.Endings.{ends_for}
use Rattle.ae_reporting.specs.Answers.{IsReported, ReadsFile}
use Rattle.ae_reporting.specs.Reports.{Asked}
use Rattle.ae_reporting.specs.Telling.{IsDoneSo, IsReportTold}

-- the outcome that was meant, with its causes; it is the result, or a sink didn't take its text, and the result is what is left of it
pub record Ended (disk_rose site_rose : Type 0) (out err : SinkUse) (result : Outcome) : Type 0 where
  pub meant : Outcome
  pub may_end : MayEnd false disk_rose site_rose meant
  pub how : (result ≡ meant) ⊎ ((result ≡ unless_told meant) × (out.rose ⊎ err.rose))

-- nothing of what failed is told as done
never_done : {R : Refusal → Type 0} {M : List ℕ → Type 0} {X U : Type 0} (o : Outcome) → EndsAs ⊥ ⊥ R M X U o → (o ≡ Done) ⊎ (unless_told o ≡ Done) → ⊥
never_done _ (done is) how = is
never_done _ (run_failed is) how = is
never_done _ (refused refusal is) (inl same) = cc
never_done _ (refused refusal is) (inr same) = cc
never_done _ (damaged name is) (inl same) = cc
never_done _ (damaged name is) (inr same) = cc
never_done _ (disk_fault rose) (inl same) = cc
never_done _ (disk_fault rose) (inr same) = cc
never_done _ (site_fault rose) (inl same) = cc
never_done _ (site_fault rose) (inr same) = cc
never_done _ memory (inl same) = cc
never_done _ memory (inr same) = cc

-- where there is no memory for its message it ends so
meant_ends : {R : Refusal → Type 0} {M : List ℕ → Type 0} {X U : Type 0} (why meant : Outcome) → EndsAs ⊥ ⊥ R M X U why → IsMeant why meant → EndsAs ⊥ ⊥ R M X U meant
meant_ends {R} {M} {X} {U} why meant ends (inl same) = subst (λ (o : Outcome). EndsAs ⊥ ⊥ R M X U o) (sym same) ends
meant_ends {R} {M} {X} {U} why meant ends (inr lacking) = subst (λ (o : Outcome). EndsAs ⊥ ⊥ R M X U o) (sym lacking.0) memory

either_done : (meant result : Outcome) (rose : Type 0) → (result ≡ meant) ⊎ ((result ≡ unless_told meant) × rose) → result ≡ Done → (meant ≡ Done) ⊎ (unless_told meant ≡ Done)
either_done meant result rose (inl same) is = inl (sym same ∙ is)
either_done meant result rose (inr left) is = inr (sym left.0 ∙ is)

-- ---- any answer that is told

module _ (out err : SinkUse) (result : Outcome) (R : Refusal → Type 0) (M : List ℕ → Type 0) (X U : Type 0) (answered : Result (List ℕ) Outcome) (fails : IfErr answered (EndsAs ⊥ ⊥ R M X U)) where
  fails_of : (why : Outcome) → answered ≡ Err why → EndsAs ⊥ ⊥ R M X U why
  fails_of why is = subst (λ (r : Result (List ℕ) Outcome). IfErr r (EndsAs ⊥ ⊥ R M X U)) is fails

  -- the causes of the result
  pub answer_ended : (Y V : Type 0) → (X → Y) → (U → V) → IsAnswerTold answered out err result → Ended Y V out err result
  answer_ended Y V disk site (answer.done text is told quiet) = record {
    meant = Done;
    may_end = done tt;
    how = elim told.how [ inl same ↦ inl same | inr left ↦ inr (left.0, inl left.1) ];
  }
  answer_ended Y V disk site (answer.stopped why is told quiet) = record {
    meant = told.meant;
    may_end = ends_for told.meant (meant_ends why told.meant (fails_of why is) told.is_meant) (λ none. tt) (λ refusal so. tt) (λ name so. tt) disk site;
    how = elim told.is_told.how [ inl same ↦ inl same | inr left ↦ inr (left.0, inr left.1) ];
  }

  -- once it is done the answer is a text, and `out` has taken it
  pub done_text : IsAnswerTold answered out err result → result ≡ Done → (text : List ℕ) × (answered ≡ Ok text) × (out.told → out.after ≡ out.before ++ text)
  done_text (answer.done text is told quiet) ended_so = (text, is, λ tells. subst (λ (o : Outcome). IsSaid text o out.before out.after out.rose) ended_so (told.said tells))
  done_text (answer.stopped why is told quiet) ended_so =
      absurd (never_done told.meant (meant_ends why told.meant (fails_of why is) told.is_meant) (either_done told.meant result err.rose told.is_told.how ended_so))

-- ---- a report

module _ (disk_told site_told : Type 0) (image : Image) (site : SiteState) (asked : Asked) (disk_rose site_rose : Type 0) (out err : SinkUse) (result : Outcome) where
  abbrev RefusedSo : Refusal → Type 0
  RefusedSo refusal = disk_told → site_told → IsReported image site asked (Err refusal)

  abbrev BrokenSo : List ℕ → Type 0
  BrokenSo name = disk_told → IsDamagedAt All image name

  abbrev FailedSo : Type 0
  FailedSo = site_rose × (disk_told → ReadsFile image asked)

  pub ended : IsReportTold disk_told site_told image site asked disk_rose site_rose out err result → Ended disk_rose site_rose out err result
  ended t = answer_ended out err result RefusedSo BrokenSo disk_rose FailedSo t.answer t.fails disk_rose site_rose (λ rose. rose) (λ rose. rose.0) t.told

  pub done_so : IsReportTold disk_told site_told image site asked disk_rose site_rose out err result → IsDoneSo disk_told site_told image site asked out result
  done_so t ended_so =
      let made = done_text out err result RefusedSo BrokenSo disk_rose FailedSo t.answer t.fails t.told ended_so in
      record {
        lines = made.0;
        printed = subst (λ (answered : Result (List ℕ) Outcome). IfOk answered (λ (lines : List ℕ). disk_told → site_told → IsReported image site asked (Ok lines))) made.1 t.printed;
        taken = made.2;
      }
