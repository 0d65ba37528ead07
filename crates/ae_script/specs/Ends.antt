-- How the lines of a script end, and all that is then so.
use Rattle.std.specs.Prelude.{◌≡◌, ◌⊎◌, ◌+◌, ◌++◌, ℕ, List, [], ◌∷◌, length}
use Rattle.ae_base.specs.declared.outcome.Outcome.{Outcome}
use Rattle.ae_base.specs.declared.outcome.Outcome.TheVariants.{Done, BadScript, SourceFault, Memory}
use Rattle.ae_outside.specs.Causes.{HasRisen}
use Rattle.ae_reader.specs.Cut.{lines_of}
use Rattle.ae_reader.specs.Reader.{IsPart}
use Rattle.ae_lines.specs.Script.{AreLines, IsBad, IsScript, size}
use Rattle.ae_lines.specs.declared.line.Line.{Line}
use Rattle.ae_log.specs.Log.{Log}
use Rattle.ae_exec.specs.Holding.{HoldsLegal}
use Rattle.ae_telling.specs.Messages.{bad_line_text, input_fault_text, memory_text}
use Rattle.ae_telling.specs.Telling.{SinkUse}
use Rattle.ae_script.specs.Causes.{IsCaused}
use Rattle.ae_script.specs.Follows.{FollowLogs}
use Rattle.ae_script.specs.Laws.{AreToldFirst, IsFaultOfLast, IsOfLine}
use Rattle.ae_script.specs.Lines.{AreDone, Did, LinesEnd, Stand, last_stand, lines_said}
use Rattle.ae_script.specs.Uses.{Disks, Sites, SourceUse, Streams, read_from, written_from}
use Rattle.ae_script.specs.declared.manner.Manner.{Manner}
use Rattle.ae_script.specs.declared.manner.Manner.TheVariants.{Script}

-- ---- the lines that are read

-- the script begins with these lines, which say those, and after them stands the rest
pub record HasRead (script : List ℕ) (lines : List (List ℕ)) (says : List Line) (rest : List ℕ) : Type 0 where
  pub cut : lines_of script ≡ lines ++ lines_of rest
  pub are : AreLines 0 lines says

-- the script begins with lines that say these; they are so many bytes, and after them stands the rest
pub record HasReadTo (script : List ℕ) (says : List Line) (at : ℕ) (rest : List ℕ) : Type 0 where
  pub lines : List (List ℕ)
  pub read : HasRead script lines says rest
  pub sized : size lines ≡ at

-- the next line isn't understood
pub record HasBadNext (at : ℕ) (rest : List ℕ) : Type 0 where
  pub line : List ℕ
  pub more : List (List ℕ)
  pub next : lines_of rest ≡ line ∷ more
  pub bad : IsBad at line

-- ---- the end

-- What may come once all lines of a script were done that came so far, of this number and so many bytes, where the rest stands
-- behind them: an outcome, and what is written of it.
pub data ScriptEnds (count at : ℕ) (rest : List ℕ) (input : SourceUse) : Outcome → List ℕ → Type 0 where
  -- it was read to its end
  read : (input.told → rest ≡ []) → ScriptEnds count at rest input Done []
  -- the next line isn't understood
  bad_line : (input.told → HasBadNext at rest) → ScriptEnds count at rest input (BadScript (count + 1)) (bad_line_text (count + 1))
  -- the source failed, and no line was whole that isn't done
  source : input.rose → (input.told → IsPart rest input.after) → ScriptEnds count at rest input SourceFault input_fault_text
  -- a line couldn't be read, or the message made
  memory : ScriptEnds count at rest input Memory memory_text

module _ (d : Disks) (s : Sites) where
  -- A script that was done from this stand on, and what it left of the disk and the directories.
  pub record ScriptDone (manner : Manner) (from : Stand d s) (disk : d.Disk) (site : s.Site) (input : SourceUse) (out : SinkUse) (result : Outcome) : Type 0 where
    -- the lines that were done, and those of the input that they are
    pub done : List (Did d s)
    pub at : ℕ
    pub rest : List ℕ
    pub read : input.told → HasReadTo input.before (lines_said d s done) at rest
    -- each went on from where the one before it led
    pub runs : AreDone d s manner from done
    pub disk_is : (last_stand d s from done).disk ≡ disk
    pub site_is : (last_stand d s from done).site ≡ site
    -- the end, and the output
    pub ends : LinesEnd d s manner done out (ScriptEnds (length done) at rest input) result
    -- where the disk holds legal logs, they are steps of the log machine
    pub logs : d.told → s.told → FollowLogs d s manner from done disk

  -- ---- laws

  module _ (i o : Streams) where
    -- a fault comes only where the count rose of what failed
    abbrev pub ScriptsAreCaused : Type 0
    ScriptsAreCaused =
        (manner : Manner) (from : Stand d s) (disk : d.Disk) (site : s.Site) (input left : i.Stream) (out taken : o.Stream) (result : Outcome) → ScriptDone manner from disk site (read_from i input left) (written_from o out taken) result
        → IsCaused (HasRisen (d.faults from.disk) (d.faults disk)) (HasRisen (s.faults from.site) (s.faults site)) (HasRisen (i.faults input) (i.faults left)) (HasRisen (o.faults out) (o.faults taken)) result

    -- where no count rises, a script each of whose lines is understood is read to its end, unless memory runs out
    abbrev pub ScriptsEndWhole : Type 0
    ScriptsEndWhole =
        (from : Stand d s) (disk : d.Disk) (site : s.Site) (input left : i.Stream) (out taken : o.Stream) (result : Outcome) → ScriptDone Script from disk site (read_from i input left) (written_from o out taken) result
        → d.told → s.told → i.told → (held : List Log) (log : Log) → HoldsLegal (d.state from.disk) held log → IsScript (i.bytes input)
        → (HasRisen (d.faults from.disk) (d.faults disk) → ⊥) → (HasRisen (s.faults from.site) (s.faults site) → ⊥) → (HasRisen (i.faults input) (i.faults left) → ⊥) → (HasRisen (o.faults out) (o.faults taken) → ⊥)
        → (result ≡ Done) ⊎ (result ≡ Memory)

    -- after each line but the last another may come, and all that is written of it was taken before that one was begun
    abbrev pub ScriptsAreToldFirst : Type 0
    ScriptsAreToldFirst =
        (manner : Manner) (from : Stand d s) (disk : d.Disk) (site : s.Site) (input left : i.Stream) (out taken : o.Stream) (result : Outcome) (did : ScriptDone manner from disk site (read_from i input left) (written_from o out taken) result)
        → AreToldFirst d s manner did.done (written_from o out taken)

    -- a fault of the disk or of the directories is that of the last line, in which their count rose
    abbrev pub FaultsAreOfTheLastLine : Type 0
    FaultsAreOfTheLastLine =
        (manner : Manner) (from : Stand d s) (disk : d.Disk) (site : s.Site) (input left : i.Stream) (out taken : o.Stream) (fault : Outcome) → IsOfLine fault
        → (did : ScriptDone manner from disk site (read_from i input left) (written_from o out taken) fault) → IsFaultOfLast d s from did.done fault
