-- Lines as steps of the log machine: what each does from where the one before it led.
use Rattle.std.specs.Prelude.{◌≡◌, ◌++◌, ℕ, List, [], ◌∷◌, Bool, true, Option, Some, None, replicate}
use Rattle.std.specs.List.{concat, flat_map}
use Rattle.ae_base.specs.declared.outcome.Outcome.{Outcome}
use Rattle.ae_base.specs.declared.outcome.Outcome.TheVariants.{Done, DiskFault, SiteFault, Memory}
use Rattle.ae_outside.specs.Site.{SiteState, ChangesOnly}
use Rattle.ae_outside.specs.Trees.{with_file}
use Rattle.ae_outside.specs.declared.dir.Dir.{Dir}
use Rattle.ae_lines.specs.declared.line.Line.{Line}
use Rattle.ae_lines.specs.declared.line.Line.TheVariants.{Nothing, As, At, Do, Put, Fill, Remove}
use Rattle.ae_log.specs.Log.{Log}
use Rattle.ae_log.specs.Observed.{observation}
use Rattle.ae_words.specs.declared.command.Command.{Command}
use Rattle.ae_machine.specs.Called.{Called, called, answer_after}
use Rattle.ae_machine.specs.Legal.{Legal}
use Rattle.ae_machine.specs.Real.{IsLeftAfter}
use Rattle.ae_exec.specs.Directories.{IsDone, LeavesDirs}
use Rattle.ae_exec.specs.Holding.{BaselineIsProvided}
use Rattle.ae_exec.specs.Said.{answer_lines}
use Rattle.ae_exec.specs.Step.{outcome_of_answer, step}
use Rattle.ae_telling.specs.Messages.{disk_fault_text, site_fault_text, memory_text, status_line}
use Rattle.ae_script.specs.Along.{is_fault}
use Rattle.ae_script.specs.Manner.{leads_on, line_text, tells_status}
use Rattle.ae_script.specs.declared.manner.Manner.{Manner}

-- where the lines stand: whose the next command is, and when it comes, the log so far, and the directories
pub record Point : Type 0 where
  pub who : List ℕ
  pub now : ℕ
  pub log : Log
  pub site : SiteState

abbrev pub point : List ℕ → ℕ → Log → SiteState → Point
point who now log site = record { who = who; now = now; log = log; site = site }

-- a line that was done: how it ended, where that led, and what is written of it
pub record LineDone : Type 0 where
  pub line : Line
  pub outcome : Outcome
  pub to : Point
  pub text : List ℕ

-- ---- a command

-- the command, given at one point, with the directories there and where it led
abbrev pub called_from : Point → Command → Point → Called
called_from from command to = called command from.who from.now from.site to.site

-- the lines of its answer: its listing, its reply, or the message of its refusal
abbrev pub answer_text : Log → Called → List ℕ
answer_text log called = concat (answer_lines (observation log) called.command (answer_after log called))

-- How a command may end after this log, the log after it, and what is said.
pub data CommandEnds (log : Log) (called : Called) : Outcome → Log → List ℕ → Type 0 where
  answered : CommandEnds log called (outcome_of_answer (answer_after log called)) (step log called) (answer_text log called)
  -- the log after it is one that may have come
  disk_fault : CommandEnds log called DiskFault (step log called) disk_fault_text
  site_fault : CommandEnds log called SiteFault log site_fault_text
  memory : CommandEnds log called Memory log memory_text

-- ---- an edit

-- the path has these bytes, or none, and all else is as it was
pub record IsEdited (dir : Dir) (path : List ℕ) (bytes : Option (List ℕ)) (old new : SiteState) : Type 0 where
  pub there : new.trees dir ≡ with_file path bytes (old.trees dir)
  pub only : ChangesOnly dir old new

-- How an edit may end, the directories after it, and what is said.
pub data EditEnds (dir : Dir) (path : List ℕ) (bytes : Option (List ℕ)) (old new : SiteState) : Outcome → List ℕ → Type 0 where
  edited : IsEdited dir path bytes old new → EditEnds dir path bytes old new Done []
  edit_fault : ChangesOnly dir old new → EditEnds dir path bytes old new SiteFault site_fault_text
  edit_memory : new ≡ old → EditEnds dir path bytes old new Memory memory_text

-- ---- any line

module _ (manner : Manner) where
  -- it says nothing, and leads there
  pub record Passes (next : Point) (done : LineDone) : Type 0 where
    pub outcome : done.outcome ≡ Done
    pub to : done.to ≡ next
    pub text : done.text ≡ []

  -- the user and the moment stay; the log and the directories are those that the command leaves
  pub record DoesCommand (from : Point) (command : Command) (done : LineDone) : Type 0 where
    pub said : List ℕ
    pub ends : CommandEnds from.log (called_from from command done.to) done.outcome done.to.log said
    pub to : done.to ≡ record from { log = done.to.log; site = done.to.site }
    -- it changes no directories but its own, and none where it is refused
    pub directories : LeavesDirs command from.site done.to.site done.outcome
    -- once it is done they are as it asks, with real runs
    pub left : IsDone done.outcome → IsLeftAfter from.log (called_from from command done.to)
    -- the baseline that an integration makes has the candidate's bytes, which were built, tested and reviewed as required
    pub baseline : BaselineIsProvided from.log (called_from from command done.to)
    -- the log after it is legal
    pub legal : Legal done.to.log
    pub text : done.text ≡ line_text manner done.outcome (said ++ status_line (tells_status manner) done.outcome)

  -- the user, the moment and the log stay
  pub record DoesEdit (from : Point) (dir : Dir) (path : List ℕ) (bytes : Option (List ℕ)) (done : LineDone) : Type 0 where
    pub ends : EditEnds dir path bytes from.site done.to.site done.outcome done.text
    pub to : done.to ≡ record from { site = done.to.site }

  -- what a line does from one point
  abbrev pub DoesLine : Line → Point → LineDone → Type 0
  DoesLine Nothing from done = Passes from done
  DoesLine (As user) from done = Passes (record from { who = user }) done
  DoesLine (At moment) from done = Passes (record from { now = moment }) done
  DoesLine (Do command) from done = DoesCommand from command done
  DoesLine (Put dir path text) from done = DoesEdit from dir path (Some text) done
  DoesLine (Fill dir path count byte) from done = DoesEdit from dir path (Some (replicate count byte)) done
  DoesLine (Remove dir path) from done = DoesEdit from dir path None done

  abbrev pub Does : Point → LineDone → Type 0
  Does from done = DoesLine done.line from done

  -- one line after another
  abbrev pub Runs : Point → List LineDone → Type 0
  Runs from [] = Unit {0}
  Runs from (done ∷ more) = Does from done × Runs done.to more

-- where the lines lead
abbrev pub stop : Point → List LineDone → Point
stop from [] = from
stop from (done ∷ more) = stop done.to more

-- all that is written of the lines
abbrev pub transcript : List LineDone → List ℕ
transcript done = flat_map (λ (d : LineDone). d.text) done

-- where a command leads: whether the disk failed it, and the log after it
abbrev pub reached_by : Line → LineDone → List (Bool × Log)
reached_by (Do command) done = (is_fault done.outcome, done.to.log) ∷ []
reached_by _ done = []

-- the same of all commands among the lines
abbrev pub reached : List LineDone → List (Bool × Log)
reached done = flat_map (λ (d : LineDone). reached_by d.line d) done

-- ---- which line leads on to the next

-- each does
abbrev pub AllLeadOn : Manner → List LineDone → Type 0
AllLeadOn manner [] = Unit {0}
AllLeadOn manner (done ∷ more) = (leads_on manner done.outcome ≡ true) × AllLeadOn manner more
