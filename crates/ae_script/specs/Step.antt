-- What calls leave of a disk, and how the end of a line is told.
use Rattle.std.specs.Prelude.{◌≡◌, ◌⊎◌, ◌&&◌, ℕ, List, Bool, false, nat_le}
use Rattle.ae_base.specs.Limits.{last_moment}
use Rattle.ae_base.specs.Names.{is_user}
use Rattle.ae_base.specs.declared.outcome.Outcome.{Outcome}
use Rattle.ae_outside.specs.State.{DiskState, reads, Continues}
use Rattle.ae_vault.specs.Vault.{effective}
use Rattle.ae_exec.specs.Endings.{OthersSame, OthersStay}
use Rattle.ae_exec.specs.Stops.{IsSettledNow}
use Rattle.ae_telling.specs.Telling.{SinkUse, IsSaid, unless_told, written}
use Rattle.ae_telling.specs.declared.told.Told.{Told}
use Rattle.ae_script.specs.Manner.{leads_on, line_text}
use Rattle.ae_script.specs.declared.manner.Manner.{Manner}

-- whether the user is one, and the moment no later than the last
abbrev pub may_give : List ℕ → ℕ → Bool
may_give who now = is_user who && nat_le now last_moment

-- What calls leave of a disk, whatever it held: time goes on, it is settled if it was, and no files but the state files and the
-- packed one are changed, neither of what is read, nor of what any stop leaves.
pub record KeepsDisk (base disk : DiskState) : Type 0 where
  pub time : Continues base disk
  pub settled : IsSettledNow base → IsSettledNow disk
  pub others : OthersSame (effective (reads base)) (effective (reads disk))
  pub others_stay : IsSettledNow base → OthersStay base disk

-- what is written of it
abbrev pub told_by : Manner → Told → List ℕ
told_by manner told = line_text manner told.outcome (written told)

-- The lines end at one of this outcome: since no line comes after it, or since the sink didn't take its text.
pub record IsStoppedBy (manner : Manner) (meant : Outcome) (text : List ℕ) (sink : SinkUse) (result : Outcome) : Type 0 where
  pub how : ((leads_on manner meant ≡ false) × (result ≡ meant)) ⊎ ((result ≡ unless_told meant) × sink.rose)
  pub said : sink.told → IsSaid text result sink.before sink.after sink.rose
