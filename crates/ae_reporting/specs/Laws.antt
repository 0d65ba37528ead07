-- That a report has one answer.
use Rattle.std.specs.Prelude.{◌≡◌, ◌⊎◌, ℕ, List, Option}
use Rattle.ae_base.specs.declared.want.Want.TheVariants.{All}
use Rattle.ae_outside.specs.declared.dir.Content.{Content}
use Rattle.ae_outside.specs.Image.{Image}
use Rattle.ae_outside.specs.Site.{SiteState}
use Rattle.ae_types.specs.Observation.{Observation}
use Rattle.ae_log.specs.Log.{Log}
use Rattle.ae_log.specs.Observed.{observation}
use Rattle.ae_rlang.specs.Report.{Deeds}
use Rattle.ae_rlang.specs.Reads.{IsReport, IsRefused}
use Rattle.ae_exec.specs.Endings.{IsDamagedAt}
use Rattle.ae_exec.specs.Stands.{StandsForLog}
use Rattle.ae_reporting.specs.Answers.{IsReported, file_at}
use Rattle.ae_reporting.specs.Reports.{Answer, Asked, Reports}

-- bytes are a report, or have a line that they are refused with
abbrev pub BytesAreReportOrRefused : Type 0
BytesAreReportOrRefused = (bytes : List ℕ) → ((report : Deeds) × IsReport bytes report) ⊎ ((line : ℕ) × IsRefused bytes line)

-- whatever stands, is asked for and is read, there is an answer
abbrev pub HasAnswer : Type 0
HasAnswer = (stands : Option Observation) (asked : Asked) (content : Content) → (answer : Answer) × Reports stands asked content answer

-- and no other
abbrev pub HasOneAnswer : Type 0
HasOneAnswer =
    (stands : Option Observation) (asked : Asked) (content : Content) (one other : Answer) → Reports stands asked content one → Reports stands asked content other → one ≡ other

-- an image has one answer
abbrev pub ImageHasOneAnswer : Type 0
ImageHasOneAnswer = (image : Image) (site : SiteState) (asked : Asked) (one other : Answer) → IsReported image site asked one → IsReported image site asked other → one ≡ other

-- and none where a file of it is damaged
abbrev pub DamagedHasNone : Type 0
DamagedHasNone = (image : Image) (site : SiteState) (asked : Asked) (answer : Answer) (name : List ℕ) → IsReported image site asked answer → IsDamagedAt All image name → ⊥

-- what is answered of what stands after a log, by an image that stands for it
abbrev pub LogIsReported : Type 0
LogIsReported = (image : Image) (site : SiteState) (asked : Asked) (log : Log) (answer : Answer) → StandsForLog image log
    → Reports (observation log) asked (file_at asked.path site) answer → IsReported image site asked answer

-- is what stands after the log
abbrev pub ReportIsOfLog : Type 0
ReportIsOfLog = (image : Image) (site : SiteState) (asked : Asked) (log : Log) (answer : Answer) → StandsForLog image log
    → IsReported image site asked answer → Reports (observation log) asked (file_at asked.path site) answer
