-- How a report is told.
use Rattle.std.specs.Prelude.{◌≡◌, ◌++◌, ℕ, List, IfOk, IfErr, Result, Ok}
use Rattle.ae_base.specs.declared.outcome.Outcome.{Outcome}
use Rattle.ae_base.specs.declared.outcome.Outcome.TheVariants.{Done}
use Rattle.ae_base.specs.declared.want.Want.TheVariants.{All}
use Rattle.ae_outside.specs.Image.{Image}
use Rattle.ae_outside.specs.Site.{SiteState}
use Rattle.ae_exec.specs.Endings.{IsDamagedAt}
use Rattle.ae_telling.specs.Answered.{IsAnswerTold}
use Rattle.ae_telling.specs.Telling.{SinkUse}
use Rattle.ae_reporting.specs.Answers.{FailsAs, IsAnswered, IsFoundDamaged, IsReported}
use Rattle.ae_reporting.specs.Reports.{Answer, Asked}

-- What a call that asks for a report does: it answers what the report prints of what the disk's files show, or why nothing, where that
-- is told; and tells it, the lines to `out`, or the message of why there are none to `err`.
pub record IsReportTold (disk_told site_told : Type 0) (image : Image) (site : SiteState) (asked : Asked) (disk_rose site_rose : Type 0) (out err : SinkUse) (result : Outcome) : Type 0 where
  pub answer : Result (List ℕ) Outcome
  pub printed : IfOk answer (λ (lines : List ℕ). disk_told → site_told → IsReported image site asked (Ok lines))
  pub fails : IfErr answer (FailsAs disk_told site_told image site asked disk_rose site_rose)
  pub only : disk_told → site_told → (said : Answer) → IsReported image site asked said → IsAnswered said answer
  pub only_damaged : disk_told → site_told → (name : List ℕ) → IsDamagedAt All image name → IsFoundDamaged name answer
  pub told : IsAnswerTold answer out err result

-- once it is done, these lines were printed, and `out` has taken them
pub record HasPrinted (disk_told site_told : Type 0) (image : Image) (site : SiteState) (asked : Asked) (out : SinkUse) : Type 0 where
  pub lines : List ℕ
  pub printed : disk_told → site_told → IsReported image site asked (Ok lines)
  pub taken : out.told → out.after ≡ out.before ++ lines

abbrev pub IsDoneSo : (disk_told site_told : Type 0) → Image → SiteState → Asked → SinkUse → Outcome → Type 0
IsDoneSo disk_told site_told image site asked out result = result ≡ Done → HasPrinted disk_told site_told image site asked out
