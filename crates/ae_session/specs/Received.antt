-- What a call tells of a change set that it sends, or doesn't receive.
use Rattle.std.specs.Prelude.{◌≡◌, ◌⊎◌, ◌++◌, ℕ, All, List, Option}
use Rattle.ae_base.specs.declared.outcome.Outcome.{Outcome}
use Rattle.ae_base.specs.declared.outcome.Outcome.TheVariants.{SourceFault}
use Rattle.ae_outside.specs.Image.{Image}
use Rattle.ae_bundle.specs.declared.bundle.Bundle.{Bundle}
use Rattle.ae_exec.specs.Opened.{MayBeUnopened}
use Rattle.ae_lines.specs.Acts.{MayBePlanned}
use Rattle.ae_lines.specs.declared.act.Act.{Act}
use Rattle.ae_dist.specs.Answers.{HasNoPlan, Plans, Writes}
use Rattle.ae_dist.specs.Receiving.{IsReceived, IsUnread}
use Rattle.ae_telling.specs.Telling.{IsOfCommand, SinkUse}

-- ---- sent

-- this is the text of what is sent of the change, and `out` has taken it
pub record HasSent (disk_told : Type 0) (image : Image) (name : Option (List ℕ)) (number : ℕ) (out : SinkUse) : Type 0 where
  pub text : List ℕ
  pub written : disk_told → Writes image name number text
  pub taken : out.told → out.after ≡ out.before ++ text

-- ---- received

-- the input was received as a change set, and has this plan
pub record HasPlan (disk_told input_told : Type 0) (image : Image) (name : Option (List ℕ)) (before after : List ℕ) (acts : List Act) : Type 0 where
  pub bundle : Bundle
  pub received : IsReceived input_told before after bundle
  pub plans : disk_told → Plans image name bundle acts
  pub may : All MayBePlanned acts

-- why the input came to no plan: it is the text of no change set, and the disk isn't called; or it is one, which has no
-- plan, and the store is opened, unless the disk failed, a file is damaged or memory ran out
pub data IsUnplanned (disk_told input_told : Type 0) (image : Image) (name : Option (List ℕ)) (before after : List ℕ) (disk_same disk_opened disk_rose source_rose : Type 0) (why : Outcome) : Type 0 where
  unread : IsUnread input_told before source_rose why → disk_same
      → IsUnplanned disk_told input_told image name before after disk_same disk_opened disk_rose source_rose why
  unplanned : (bundle : Bundle) → IsReceived input_told before after bundle → HasNoPlan disk_told image name bundle disk_rose why → ((MayBeUnopened why → ⊥) → disk_opened)
      → IsUnplanned disk_told input_told image name before after disk_same disk_opened disk_rose source_rose why

-- an outcome that a call may have that receives
abbrev pub IsOfReceiving : Outcome → Type 0
IsOfReceiving why = IsOfCommand why ⊎ (why ≡ SourceFault)
