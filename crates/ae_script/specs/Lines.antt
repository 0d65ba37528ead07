-- Lines that are done one after another, whatever the disk holds: what each did, from where the one before it led.
use Rattle.std.specs.Prelude.{◌≡◌, ◌≤◌, ◌++◌, ℕ, List, [], ◌∷◌, Bool, true, Option, Some, None, map, replicate}
use Rattle.std.specs.List.{flat_map}
use Rattle.ae_base.specs.declared.outcome.Outcome.{Outcome}
use Rattle.ae_base.specs.declared.outcome.Outcome.TheVariants.{Done, SiteFault, Memory}
use Rattle.ae_outside.specs.Causes.{HasRisen}
use Rattle.ae_outside.specs.Site.{ChangesOnly}
use Rattle.ae_outside.specs.declared.dir.Dir.{Dir}
use Rattle.ae_lines.specs.declared.line.Line.{Line}
use Rattle.ae_lines.specs.declared.line.Line.TheVariants.{Nothing, As, At, Do, Put, Fill, Remove}
use Rattle.ae_words.specs.declared.command.Command.{Command}
use Rattle.ae_machine.specs.Called.{Called, called}
use Rattle.ae_machine.specs.Fits.{makes_runs}
use Rattle.ae_exec.specs.Directories.{IsDone, LeavesDirs}
use Rattle.ae_exec.specs.Endings.{ChangesNothing, MayEnd}
use Rattle.ae_exec.specs.Holding.{MayGive}
use Rattle.ae_exec.specs.Performs.{IsReply, LeavesDisk, Performs}
use Rattle.ae_telling.specs.Messages.{command_text, memory_text, site_fault_text}
use Rattle.ae_telling.specs.Telling.{SinkUse, IsTold, sink_use}
use Rattle.ae_script.specs.Manner.{leads_on, line_text, tells_status}
use Rattle.ae_script.specs.Step.{IsStoppedBy}
use Rattle.ae_script.specs.Steps.{IsEdited}
use Rattle.ae_script.specs.Uses.{DiskUse, SiteUse, Disks, Sites, disk_use, site_use}
use Rattle.ae_script.specs.declared.manner.Manner.{Manner}

-- ---- one command

-- What a command did, from one disk and directories to others, and what is said of it. Of what is told all is so whatever the disk
-- and the directories held.
pub record CommandDone (called : Called) (status : Bool) (disk : DiskUse) (site : SiteUse) (outcome : Outcome) (text : List ℕ) : Type 0 where
  -- how it ends: with a failed run only where its function makes runs, with a fault only where that count rose in it
  pub ends : MayEnd (makes_runs called.command.function) disk.rose site.rose outcome
  -- what it leaves on the disk and in the directories
  pub leaves : disk.told → LeavesDisk disk.before disk.after (ChangesNothing outcome)
  pub directories : site.told → LeavesDirs called.command called.before called.after outcome
  -- what it comes to
  pub performs : disk.told → site.told → Performs disk.before disk.after called outcome
  -- once it is done its reply is said, and else the message of its outcome
  pub reply : IsDone outcome → disk.told → site.told → IsReply disk.before called status text
  pub message : (IsDone outcome → ⊥) → text ≡ command_text status [] outcome
  -- it is one command of a user before 2100, and what the directories hold are bytes
  pub given : site.told → MayGive called

-- ---- one edit

-- What an edit did to the directories, and what is said of it.
pub data EditDone (dir : Dir) (path : List ℕ) (bytes : Option (List ℕ)) (site : SiteUse) : Outcome → List ℕ → Type 0 where
  edited : (site.told → IsEdited dir path bytes site.before site.after) → EditDone dir path bytes site Done []
  edit_fault : site.rose → (site.told → ChangesOnly dir site.before site.after) → EditDone dir path bytes site SiteFault site_fault_text
  edit_memory : site.after ≡ site.before → EditDone dir path bytes site Memory memory_text

-- ---- lines

module _ (d : Disks) (s : Sites) where
  -- where lines stand: whose the next command is, when it comes, and the disk and the directories on which it comes
  pub record Stand : Type 0 where
    pub who : List ℕ
    pub now : ℕ
    pub disk : d.Disk
    pub site : s.Site

  abbrev pub stand : List ℕ → ℕ → d.Disk → s.Site → Stand
  stand who now disk site = record { who = who; now = now; disk = disk; site = site }

  -- a line that was done: how it ended, what is written of it, and where the next one stands
  pub record Did : Type 0 where
    pub line : Line
    pub outcome : Outcome
    pub text : List ℕ
    pub to : Stand

  abbrev pub did : Line → Outcome → List ℕ → Stand → Did
  did line outcome text to = record { line = line; outcome = outcome; text = text; to = to }

  -- the disk and the directories from one stand to another
  abbrev pub disk_from : Stand → Stand → DiskUse
  disk_from from to = disk_use d.told (d.state from.disk) (d.state to.disk) (HasRisen (d.faults from.disk) (d.faults to.disk))

  abbrev pub site_from : Stand → Stand → SiteUse
  site_from from to = site_use s.told (s.state from.site) (s.state to.site) (HasRisen (s.faults from.site) (s.faults to.site))

  -- the command that is given at one stand and leads to another
  abbrev pub given_at : Stand → Command → Stand → Called
  given_at from command to = called command from.who from.now (s.state from.site) (s.state to.site)

  module _ (manner : Manner) where
    -- it says nothing, and leads there
    pub record Passes (next : Stand) (done : Did) : Type 0 where
      pub outcome : done.outcome ≡ Done
      pub to : done.to ≡ next
      pub text : done.text ≡ []

    -- the user and the moment stay
    pub record DoesCommand (from : Stand) (command : Command) (done : Did) : Type 0 where
      pub said : List ℕ
      pub is : CommandDone (given_at from command done.to) (tells_status manner) (disk_from from done.to) (site_from from done.to) done.outcome said
      pub to : done.to ≡ record from { disk = done.to.disk; site = done.to.site }
      pub text : done.text ≡ line_text manner done.outcome said

    -- and so does the disk
    pub record DoesEdit (from : Stand) (dir : Dir) (path : List ℕ) (bytes : Option (List ℕ)) (done : Did) : Type 0 where
      pub is : EditDone dir path bytes (site_from from done.to) done.outcome done.text
      pub to : done.to ≡ record from { site = done.to.site }

    -- what a line does
    abbrev pub DoesLine : Line → Stand → Did → Type 0
    DoesLine Nothing from done = Passes from done
    DoesLine (As user) from done = Passes (record from { who = user }) done
    DoesLine (At moment) from done = Passes (record from { now = moment }) done
    DoesLine (Do command) from done = DoesCommand from command done
    DoesLine (Put dir path text) from done = DoesEdit from dir path (Some text) done
    DoesLine (Fill dir path count byte) from done = DoesEdit from dir path (Some (replicate count byte)) done
    DoesLine (Remove dir path) from done = DoesEdit from dir path None done

    -- no count falls
    pub record Does (from : Stand) (done : Did) : Type 0 where
      pub does : DoesLine done.line from done
      pub disk_later : d.faults from.disk ≤ d.faults done.to.disk
      pub site_later : s.faults from.site ≤ s.faults done.to.site

    -- each from where the one before it led
    abbrev pub AreDone : Stand → List Did → Type 0
    AreDone from [] = Unit {0}
    AreDone from (done ∷ more) = Does from done × AreDone done.to more

    -- the next line is done after each of them
    abbrev pub AllLead : List Did → Type 0
    AllLead [] = Unit {0}
    AllLead (done ∷ more) = (leads_on manner done.outcome ≡ true) × AllLead more

  -- where lines lead
  abbrev pub last_stand : Stand → List Did → Stand
  last_stand from [] = from
  last_stand from (done ∷ more) = last_stand done.to more

  -- what they say, and all that is written of them
  abbrev pub lines_said : List Did → List Line
  lines_said done = map (λ (one : Did). one.line) done

  abbrev pub transcript : List Did → List ℕ
  transcript done = flat_map (λ (one : Did). one.text) done

  -- ---- their end, and the output

  -- the sink, from where it has taken all that is written of these lines
  abbrev pub sink_after : SinkUse → List Did → SinkUse
  sink_after sink done = sink_use sink.told (sink.before ++ transcript done) sink.after sink.rose

  -- How lines end that were done, and what was written. `After` says what may come once all of them lead on: an outcome, and its text.
  pub data LinesEnd (manner : Manner) (done : List Did) (sink : SinkUse) (After : Outcome → List ℕ → Type 0) (result : Outcome) : Type 0 where
    -- at the last line: since none may come after it, or since the sink didn't take what is written of it; all before it was taken
    by_line : (before : List Did) (last : Did) → done ≡ before ++ last ∷ [] → AllLead manner before → IsStoppedBy manner last.outcome last.text (sink_after sink before) result
        → LinesEnd manner done sink After result
    -- after the last one; all that is written of them was taken
    by_end : (meant : Outcome) (text : List ℕ) → AllLead manner done → After meant text → IsTold meant text (sink_after sink done) result → LinesEnd manner done sink After result
