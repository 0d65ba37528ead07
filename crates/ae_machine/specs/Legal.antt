-- The logs that commands make.
use Rattle.std.specs.Prelude.{◌≡◌, ℕ, ◌≤◌, true, List, [], Option, Some, None}
use Rattle.ae_base.specs.Limits.{last_moment}
use Rattle.ae_base.specs.Names.{IsUser}
use Rattle.ae_types.specs.Observation.{Observation}
use Rattle.ae_log.specs.declared.event.Event.{Event}
use Rattle.ae_log.specs.Files.{version_bytes}
use Rattle.ae_log.specs.Log.{Log, followed}
use Rattle.ae_log.specs.Maker.{Maker}
use Rattle.ae_log.specs.Observed.{observation}
use Rattle.ae_words.specs.declared.command.Command.{Command}
use Rattle.ae_words.specs.Formed.{IsFormed}
use Rattle.ae_words.specs.Table.{is_one_command}
use Rattle.ae_machine.specs.declared.verdict.Verdict.{Verdict}
use Rattle.ae_machine.specs.declared.verdict.Verdict.TheVariants.{Accept}
use Rattle.ae_machine.specs.declared.view.View.{View}
use Rattle.ae_machine.specs.Call.{given_of}
use Rattle.ae_machine.specs.Fits.{Fits, IsWhole, FitsNothing}
use Rattle.ae_machine.specs.Space.{placing}
use Rattle.ae_machine.specs.Typed.{IsView}
use Rattle.ae_machine.specs.Verdict.{verdict, maker_by}

-- one command, with who gives it, when, and what it sees
pub record Occasion : Type 0 where
  pub command : Command
  pub who : List ℕ
  pub when : ℕ
  pub view : View

-- of whom its events are
abbrev pub maker_at : Occasion → Maker
maker_at occasion = maker_by occasion.command occasion.who occasion.when

-- the view fits what stands, and has all of its runs
abbrev pub ViewFits : Option Observation → (ℕ → List ℕ) → Occasion → Type 0
ViewFits None bytes occasion = FitsNothing occasion.view
ViewFits (Some o) bytes occasion =
    Fits (given_of placing o bytes occasion.command occasion.who occasion.when occasion.view)
    × IsWhole (given_of placing o bytes occasion.command occasion.who occasion.when occasion.view)

-- it may come after the log: words can say the command, the user is one, the moment is before 2100, what it sees is of its
-- types, and the view fits
pub record MayCome (log : Log) (occasion : Occasion) : Type 0 where
  pub formed : IsFormed occasion.command
  pub one : is_one_command occasion.command.function ≡ true
  pub user : IsUser occasion.who
  pub moment : occasion.when ≤ last_moment
  pub seen : IsView occasion.view
  pub view : ViewFits (observation log) (version_bytes log) occasion

abbrev pub verdict_after : Log → Occasion → Verdict
verdict_after log occasion = verdict placing (observation log) (version_bytes log) occasion.command occasion.who occasion.when occasion.view

-- The empty log is legal, and so is a legal log with the events of a command that is accepted after it.
pub data Legal : Log → Type 0 where
  nothing : Legal []
  more : (log next : Log) (occasion : Occasion) (events : List Event) → Legal log → MayCome log occasion
      → verdict_after log occasion ≡ Accept events → next ≡ followed log events → Legal next
