-- What calls leave of a disk, one after another.
use Rattle.std.specs.Prelude.{List, [], ◌∷◌}
use Rattle.std.proofs.Common.{refl, sym, subst}
use Rattle.ae_outside.specs.State.{DiskState, reads}
use Rattle.ae_outside.specs.Image.{IsSame}
use Rattle.ae_outside.specs.Time.{continues_refl, continues_then, goes_on_refl}
use Rattle.ae_lines.specs.declared.line.Line.{Line}
use Rattle.ae_lines.specs.declared.line.Line.TheVariants.{Nothing, As, At, Do, Put, Fill, Remove}
use Rattle.ae_vault.specs.Vault.{effective}
use Rattle.ae_exec.specs.Performs.{LeavesDisk}
use Rattle.ae_exec.proofs.Ended.{only-read}
use Rattle.ae_exec.proofs.OthersStaying.{stay_then}
use Rattle.ae_exec.proofs.Stores.{others_same, others_then}
use Rattle.ae_script.specs.Lines.{AreDone, Did, Does, DoesLine, Stand, last_stand}
use Rattle.ae_script.specs.Step.{KeepsDisk}
use Rattle.ae_script.specs.Uses.{Disks, Sites}
use Rattle.ae_script.specs.declared.manner.Manner.{Manner}

-- no call
pub keeps_still : (disk : DiskState) → KeepsDisk disk disk
keeps_still disk = record { time = continues_refl disk; settled = λ settled. settled; others = others_same (effective (reads disk)) (effective (reads disk)) refl; others_stay = λ settled. (only-read disk disk (goes_on_refl IsSame disk (λ image. refl))).others_stay settled }

-- one call after another
pub keeps_then : (base mid disk : DiskState) → KeepsDisk base mid → KeepsDisk mid disk → KeepsDisk base disk
keeps_then base mid disk first second = record {
  time = continues_then base mid disk first.time second.time;
  settled = λ settled. second.settled (first.settled settled);
  others = others_then (effective (reads base)) (effective (reads mid)) (effective (reads disk)) first.others second.others;
  others_stay = λ settled. stay_then base mid disk first.time.later (first.others_stay settled) second.time (second.others_stay (first.settled settled));
}

-- a command
pub keeps_by : (base disk : DiskState) (nothing : Type 0) → LeavesDisk base disk nothing → KeepsDisk base disk
keeps_by base disk nothing left = record { time = left.time; settled = left.settled; others = left.others; others_stay = left.others_stay }

-- ---- lines

module _ (d : Disks) (s : Sites) (manner : Manner) (seen : d.told) where
  abbrev Keeps : Stand d s → Stand d s → Type 0
  Keeps from to = KeepsDisk (d.state from.disk) (d.state to.disk)

  line_keeps : (line : Line) (from : Stand d s) (one : Did d s) → DoesLine d s manner line from one → Keeps from one.to
  line_keeps Nothing from one does = subst (Keeps from) (sym does.to) (keeps_still (d.state from.disk))
  line_keeps (As user) from one does = subst (Keeps from) (sym does.to) (keeps_still (d.state from.disk))
  line_keeps (At moment) from one does = subst (Keeps from) (sym does.to) (keeps_still (d.state from.disk))
  line_keeps (Do command) from one does = keeps_by (d.state from.disk) (d.state one.to.disk) _ (does.is.leaves seen)
  line_keeps (Put dir path text) from one does = subst (Keeps from) (sym does.to) (keeps_still (d.state from.disk))
  line_keeps (Fill dir path count byte) from one does = subst (Keeps from) (sym does.to) (keeps_still (d.state from.disk))
  line_keeps (Remove dir path) from one does = subst (Keeps from) (sym does.to) (keeps_still (d.state from.disk))

  pub does_keep : (from : Stand d s) (one : Did d s) → Does d s manner from one → Keeps from one.to
  does_keep from one does = line_keeps one.line from one does.does

  pub lines_keep : (from : Stand d s) (done : List (Did d s)) → AreDone d s manner from done → Keeps from (last_stand d s from done)
  lines_keep from [] are = keeps_still (d.state from.disk)
  lines_keep from (one ∷ more) are = keeps_then (d.state from.disk) (d.state one.to.disk) (d.state (last_stand d s one.to more).disk) (does_keep from one are.0) (lines_keep one.to more are.1)
