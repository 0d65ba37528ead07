-- What a call that asks for a report answers.
use Rattle.std.specs.Prelude.{◌≡◌, ℕ, List, Option, Some, Result, Ok, Err}
use Rattle.ae_base.specs.Limits.{most_attribute_bytes}
use Rattle.ae_base.specs.declared.outcome.Outcome.{Outcome}
use Rattle.ae_base.specs.declared.outcome.Outcome.TheVariants.{Done, RunFailed, Refused, BadWords, BadScript, DiskFault, SiteFault, SinkFault, SourceFault, Damaged, Memory}
use Rattle.ae_base.specs.declared.refusal.Refusal.{Refusal}
use Rattle.ae_base.specs.declared.want.Want.TheVariants.{All}
use Rattle.ae_outside.specs.declared.dir.Content.{Content}
use Rattle.ae_outside.specs.declared.dir.Dir.TheVariants.{Here}
use Rattle.ae_outside.specs.Image.{Image}
use Rattle.ae_outside.specs.Site.{SiteState, content_within}
use Rattle.ae_types.specs.Observation.{Observation}
use Rattle.ae_exec.specs.Endings.{EndsAs, IsDamagedAt}
use Rattle.ae_exec.specs.Shown.{Shown}
use Rattle.ae_reporting.specs.Reports.{Answer, Asked, IsFileRefused, IsThere, Prints, Reports}

-- what is read of the file of this path, in the folder where the call is made
abbrev pub file_at : List ℕ → SiteState → Content
file_at path site = content_within most_attribute_bytes (site.trees Here path)

-- this is the answer, by what the files of the image show of all changes
abbrev pub IsReported : Image → SiteState → Asked → Answer → Type 0
IsReported image site asked answer = (o : Option Observation) × Shown All image o × Reports o asked (file_at asked.path site) answer

-- the file of the report is read: the project that is asked for stands
abbrev pub ReadsFile : Image → Asked → Type 0
ReadsFile image asked = (stands : Option Observation) × (o : Observation) × Shown All image stands × IsThere stands asked o

-- Why no lines are answered: it is refused, this file of the store is damaged, the disk failed, the directories failed as the file of
-- the report was read, or memory ran out.
abbrev pub FailsAs : (disk_told site_told : Type 0) → Image → SiteState → Asked → (disk_rose site_rose : Type 0) → Outcome → Type 0
FailsAs disk_told site_told image site asked disk_rose site_rose =
    EndsAs ⊥ ⊥ (λ (refusal : Refusal). disk_told → site_told → IsReported image site asked (Err refusal)) (λ (name : List ℕ). disk_told → IsDamagedAt All image name)
    disk_rose (site_rose × (disk_told → ReadsFile image asked))

-- why the bytes of the file aren't read
abbrev pub FailsToRead : (site_told : Type 0) → (path : List ℕ) → Content → (site_rose : Type 0) → Outcome → Type 0
FailsToRead site_told path content site_rose = EndsAs ⊥ ⊥ (λ (refusal : Refusal). site_told → IsFileRefused path content refusal) (λ (name : List ℕ). ⊥) ⊥ site_rose

-- why bytes that are read print no lines
abbrev pub FailsToPrint : Observation → (bytes : List ℕ) → Outcome → Type 0
FailsToPrint o bytes = EndsAs ⊥ ⊥ (λ (refusal : Refusal). Prints o bytes (Err refusal)) (λ (name : List ℕ). ⊥) ⊥ ⊥

-- why no lines are answered, once this project stands
abbrev pub FailsOn : (site_told : Type 0) → Observation → SiteState → Asked → (site_rose : Type 0) → Outcome → Type 0
FailsOn site_told o site asked site_rose =
    EndsAs ⊥ ⊥ (λ (refusal : Refusal). site_told → Reports (Some o) asked (file_at asked.path site) (Err refusal)) (λ (name : List ℕ). ⊥) ⊥ (site_rose × IsThere (Some o) asked o)

-- this refusal was answered, or nothing by which it is known
abbrev pub IsRefusedSo : Answer → Outcome → Type 0
IsRefusedSo answer (Refused refusal) = answer ≡ Err refusal
IsRefusedSo answer DiskFault = Unit {0}
IsRefusedSo answer SiteFault = Unit {0}
IsRefusedSo answer Memory = Unit {0}
IsRefusedSo answer Done = ⊥
IsRefusedSo answer RunFailed = ⊥
IsRefusedSo answer (BadWords place) = ⊥
IsRefusedSo answer (BadScript line) = ⊥
IsRefusedSo answer SinkFault = ⊥
IsRefusedSo answer SourceFault = ⊥
IsRefusedSo answer (Damaged name) = ⊥

-- this was answered, unless the disk or the directories failed or memory ran out
abbrev pub IsAnswered : Answer → Result (List ℕ) Outcome → Type 0
IsAnswered answer (Ok lines) = answer ≡ Ok lines
IsAnswered answer (Err why) = IsRefusedSo answer why

-- this file was named as damaged, or nothing by which that is known
abbrev pub IsNamedSo : List ℕ → Outcome → Type 0
IsNamedSo name (Damaged other) = name ≡ other
IsNamedSo name DiskFault = Unit {0}
IsNamedSo name Memory = Unit {0}
IsNamedSo name Done = ⊥
IsNamedSo name RunFailed = ⊥
IsNamedSo name (Refused refusal) = ⊥
IsNamedSo name (BadWords place) = ⊥
IsNamedSo name (BadScript line) = ⊥
IsNamedSo name SiteFault = ⊥
IsNamedSo name SinkFault = ⊥
IsNamedSo name SourceFault = ⊥

-- this file was found damaged, unless the disk failed or memory ran out
abbrev pub IsFoundDamaged : List ℕ → Result (List ℕ) Outcome → Type 0
IsFoundDamaged name (Ok lines) = ⊥
IsFoundDamaged name (Err why) = IsNamedSo name why
