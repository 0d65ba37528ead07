-- What a report is answered on an image.
use Rattle.std.proofs.Common.{◌≡◌, subst, ℕ, List, Option, IfOk, IfErr, Result, Ok, Err}
use Rattle.ae_base.specs.declared.outcome.Outcome.{Outcome}
use Rattle.ae_base.specs.declared.want.Want.TheVariants.{All as Everything}
use Rattle.ae_outside.specs.Image.{Image}
use Rattle.ae_outside.specs.Site.{SiteState}
use Rattle.ae_types.specs.Observation.{Observation}
use Rattle.ae_log.specs.Observed.{observation}
use Rattle.ae_exec.specs.Endings.{IsDamagedAt, damaged, disk_fault, done, memory, refused, run_failed, site_fault}
use Rattle.ae_exec.proofs.Completing.{damaged_once, never_damaged}
use Rattle.ae_exec.proofs.Standing.{shows}
use Rattle.ae_exec.proofs.Stores.{one}
use Rattle.ae_reporting.specs.Answers.{FailsAs, IsAnswered, IsFoundDamaged, IsNamedSo, IsRefusedSo, IsReported, file_at}
use Rattle.ae_reporting.specs.Laws.{DamagedHasNone, ImageHasOneAnswer, LogIsReported, ReportIsOfLog}
use Rattle.ae_reporting.specs.Reports.{Answer, Asked, Reports}
use Rattle.ae_reporting.proofs.Once.{reports_once}

pub image_has_one : ImageHasOneAnswer
image_has_one image site asked answer other (o, shown, is) (p, seen, was) =
    reports_once o asked (file_at asked.path site) answer other is
    (subst (λ (x : Option Observation). Reports x asked (file_at asked.path site) other) (one Everything image p o seen shown) was)

pub damaged_has_none : DamagedHasNone
damaged_has_none image site asked answer name (o, shown, is) broken = never_damaged Everything image o name shown broken

pub log_is_reported : LogIsReported
log_is_reported image site asked log answer stands is = (observation log, shows image log stands, is)

pub report_is_of_log : ReportIsOfLog
report_is_of_log image site asked log answer stands (o, shown, is) =
    subst (λ (x : Option Observation). Reports x asked (file_at asked.path site) answer) (one Everything image o (observation log) shown (shows image log stands)) is

-- ---- what is so is answered

module _ (disk_told site_told : Type 0) (image : Image) (site : SiteState) (asked : Asked) (disk_rose site_rose : Type 0) where
  only_refused : (why : Outcome) → FailsAs disk_told site_told image site asked disk_rose site_rose why → disk_told → site_told → (answer : Answer) → IsReported image site asked answer → IsRefusedSo answer why
  only_refused _ (done is) disk_tells site_tells answer so = absurd is
  only_refused _ (run_failed is) disk_tells site_tells answer so = absurd is
  only_refused _ (refused refusal is) disk_tells site_tells answer so = image_has_one image site asked answer (Err refusal) so (is disk_tells site_tells)
  only_refused _ (damaged name is) disk_tells site_tells answer so = absurd (damaged_has_none image site asked answer name so (is disk_tells))
  only_refused _ (disk_fault rose) disk_tells site_tells answer so = tt
  only_refused _ (site_fault rose) disk_tells site_tells answer so = tt
  only_refused _ memory disk_tells site_tells answer so = tt

  pub only_answered : (result : Result (List ℕ) Outcome) → IfOk result (λ (lines : List ℕ). disk_told → site_told → IsReported image site asked (Ok lines))
      → IfErr result (FailsAs disk_told site_told image site asked disk_rose site_rose) → disk_told → site_told → (answer : Answer) → IsReported image site asked answer → IsAnswered answer result
  only_answered (Ok lines) printed fails disk_tells site_tells answer so = image_has_one image site asked answer (Ok lines) so (printed disk_tells site_tells)
  only_answered (Err why) printed fails disk_tells site_tells answer so = only_refused why fails disk_tells site_tells answer so

  only_named : (why : Outcome) → FailsAs disk_told site_told image site asked disk_rose site_rose why → disk_told → site_told → (name : List ℕ) → IsDamagedAt Everything image name → IsNamedSo name why
  only_named _ (done is) disk_tells site_tells name broken = absurd is
  only_named _ (run_failed is) disk_tells site_tells name broken = absurd is
  only_named _ (refused refusal is) disk_tells site_tells name broken = absurd (damaged_has_none image site asked (Err refusal) name (is disk_tells site_tells) broken)
  only_named _ (damaged other is) disk_tells site_tells name broken = damaged_once Everything image name other broken (is disk_tells)
  only_named _ (disk_fault rose) disk_tells site_tells name broken = tt
  only_named _ (site_fault rose) disk_tells site_tells name broken = let reads = rose.1 disk_tells in absurd (never_damaged Everything image reads.0 name reads.2 broken)
  only_named _ memory disk_tells site_tells name broken = tt

  pub only_found : (result : Result (List ℕ) Outcome) → IfOk result (λ (lines : List ℕ). disk_told → site_told → IsReported image site asked (Ok lines))
      → IfErr result (FailsAs disk_told site_told image site asked disk_rose site_rose) → disk_told → site_told → (name : List ℕ) → IsDamagedAt Everything image name → IsFoundDamaged name result
  only_found (Ok lines) printed fails disk_tells site_tells name broken = damaged_has_none image site asked (Ok lines) name (printed disk_tells site_tells) broken
  only_found (Err why) printed fails disk_tells site_tells name broken = only_named why fails disk_tells site_tells name broken
