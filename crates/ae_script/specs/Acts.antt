-- Acts that are done one after another.
use Rattle.std.specs.Prelude.{◌≡◌, ◌++◌, ℕ, List, [], map}
use Rattle.ae_base.specs.declared.outcome.Outcome.{Outcome}
use Rattle.ae_base.specs.declared.outcome.Outcome.TheVariants.{Done}
use Rattle.ae_lines.specs.declared.line.Line.{Line}
use Rattle.ae_lines.specs.declared.line.Line.TheVariants.{Do, Put}
use Rattle.ae_telling.specs.Telling.{SinkUse}
use Rattle.ae_script.specs.Follows.{FollowLogs}
use Rattle.ae_script.specs.Lines.{AreDone, Did, LinesEnd, Stand, last_stand, lines_said}
use Rattle.ae_script.specs.Uses.{Disks, Sites}
use Rattle.ae_lines.specs.declared.act.Act.{Act}
use Rattle.ae_lines.specs.declared.act.Act.TheVariants as act
use Rattle.ae_script.specs.declared.manner.Manner.{Manner}

-- the line of a script that is the same
abbrev pub line_of : Act → Line
line_of (act.Run command) = Do command
line_of (act.Put dir path text) = Put dir path text

abbrev pub lines_of_acts : List Act → List Line
lines_of_acts acts = map line_of acts

-- after all acts nothing is said
abbrev pub AllDone : List Line → Outcome → List ℕ → Type 0
AllDone rest outcome text = (rest ≡ []) × (outcome ≡ Done) × (text ≡ [])

module _ (d : Disks) (s : Sites) where
  -- The first of the acts were done, one after another, up to one after which none may come, or to their end.
  pub record ActsDone (manner : Manner) (acts : List Act) (from to : Stand d s) (sink : SinkUse) (result : Outcome) : Type 0 where
    pub done : List (Did d s)
    pub rest : List Line
    pub are : lines_of_acts acts ≡ lines_said d s done ++ rest
    -- each goes on from where the one before it led, and they lead there
    pub runs : AreDone d s manner from done
    pub leads : last_stand d s from done ≡ to
    pub ends : LinesEnd d s manner done sink (AllDone rest) result
    -- where the disk holds legal logs, they are steps of the log machine
    pub logs : d.told → s.told → FollowLogs d s manner from done to.disk
