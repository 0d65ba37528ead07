-- A command of a plan that is done was accepted: its events come after the log, and the directories are as it asks.
use Rattle.std.proofs.Common.{◌≡◌, ℕ, refl, sym, ◌∙◌, ap, subst, List, Option, Some, false}
use Rattle.std.specs.Prelude.{drop, length}
use Rattle.std.proofs.Math.Seq.{drop-length}
use Rattle.ae_base.specs.declared.outcome.Outcome.{Outcome}
use Rattle.ae_base.specs.declared.outcome.Outcome.TheVariants.{Done}
use Rattle.ae_exec.specs.Directories.{IsDone}
use Rattle.ae_exec.specs.Step.{log_after, outcome_of_answer}
use Rattle.ae_lines.specs.declared.act.Act.TheVariants.{Run}
use Rattle.ae_log.specs.declared.event.Event.{Event}
use Rattle.ae_log.specs.After.{after_all}
use Rattle.ae_log.specs.Files.{version_bytes}
use Rattle.ae_log.specs.Log.{Log, followed}
use Rattle.ae_log.specs.Observed.{observation}
use Rattle.ae_machine.specs.Accepted.{decided}
use Rattle.ae_machine.specs.Call.{Given, given_of}
use Rattle.ae_machine.specs.Called.{Called, answer_after, answer_to, given_at, occasion, view}
use Rattle.ae_machine.specs.Directories.{dirs}
use Rattle.ae_machine.specs.Fits.{makes_runs}
use Rattle.ae_machine.specs.Legal.{Legal}
use Rattle.ae_machine.specs.Real.{IsLeft}
use Rattle.ae_machine.specs.Space.{placing}
use Rattle.ae_machine.specs.Verdict.{events_of}
use Rattle.ae_machine.specs.declared.verdict.Verdict.{Verdict}
use Rattle.ae_machine.specs.declared.verdict.Verdict.TheVariants.{Accept, Refuse}
use Rattle.ae_machine.proofs.Accepted.{IsPassed, accepted-passes}
use Rattle.ae_machine.proofs.AcceptedLogs.{called-follow}
use Rattle.ae_machine.proofs.LegalRightly.{legal-sound}
use Rattle.ae_outside.specs.Site.{RunMade}
use Rattle.ae_script.specs.Steps.{CommandEnds, LineDone, Point, answered, called_from, disk_fault, memory, site_fault}
use Rattle.ae_types.specs.Observation.{Observation}
use Rattle.ae_words.specs.declared.command.Command.{Command}
use Rattle.ae_received.proofs.Acts.{RunsAct}

-- it was accepted with these events, and they came after the log
pub record WasAccepted (log next : Log) (called : Called) : Type 0 where
  pub events : List Event
  pub is : answer_after log called ≡ Accept events
  pub follows : next ≡ followed log events

by-answer : (log : Log) (called : Called) (answer : Verdict) → answer_after log called ≡ answer → outcome_of_answer answer ≡ Done → WasAccepted log (log_after log (answer_after log called)) called
by-answer log called (Accept events) is done = record { events = events; is = is; follows = ap (log_after log) is }
by-answer log called (Refuse refusal) is done = absurd (cc done)

pub was-accepted : (log next : Log) (called : Called) (outcome : Outcome) (said : List ℕ) → CommandEnds log called outcome next said → outcome ≡ Done → WasAccepted log next called
was-accepted log _ called _ _ answered done = by-answer log called (answer_after log called) refl done
was-accepted log _ called _ _ disk_fault done = absurd (cc done)
was-accepted log _ called _ _ site_fault done = absurd (cc done)
was-accepted log _ called _ _ memory done = absurd (cc done)

-- the command with all that it saw
abbrev pub given_to : Point → Command → Point → Observation → Given
given_to from command to o = given_of placing o (version_bytes from.log) command from.who from.now (view (Some o) (version_bytes from.log) (called_from from command to))

-- and with what it saw before any run
abbrev pub given_first : Point → Command → Point → Observation → Given
given_first from command to o = given_at o (version_bytes from.log) (called_from from command to)

-- where it led
pub record CommandLeads (from : Point) (command : Command) (o : Observation) (step : LineDone) : Type 0 where
  pub follows : step.to.log ≡ followed from.log (events_of (given_to from command step.to o))
  pub stands : observation step.to.log ≡ Some (after_all o (events_of (given_to from command step.to o)))
  pub legal : Legal step.to.log
  pub passed : IsPassed (given_to from command step.to o) (events_of (given_to from command step.to o))
  pub who : step.to.who ≡ from.who
  pub trees : makes_runs command.function ≡ false → step.to.site.trees ≡ dirs (given_first from command step.to o) from.site.trees

pub command-leads : (from : Point) (command : Command) (o : Observation) (step : LineDone) → observation from.log ≡ Some o → Legal from.log → RunsAct from (Run command) step → CommandLeads from command o step
command-leads from command o step stood legal run =
    let call = called_from from command step.to in
    let was = was-accepted from.log step.to.log call step.outcome run.does.said run.does.ends run.done in
    let left : IsLeft (Some o) (version_bytes from.log) call = subst (λ (v : Option Observation). IsLeft v (version_bytes from.log) call) stood (run.does.left (subst IsDone (sym run.done) tt)) in
    let comes = occasion (Some o) (version_bytes from.log) call in
    let is : decided (Some o) (version_bytes from.log) comes ≡ Accept was.events = ap (λ (v : Option Observation). answer_to v (version_bytes from.log) call) (sym stood) ∙ was.is in
    let passed = accepted-passes o (version_bytes from.log) comes was.events is in
    let follow = called-follow from.log o (version_bytes from.log) comes was.events stood (legal-sound from.log o legal stood)
    (record { formed = run.given.formed; moment = run.given.moment; one = run.given.one; fits = left.1.0 }) is in
    record {
      follows = was.follows ∙ ap (λ (events : List Event). followed from.log events) (sym passed.these);
      stands = ap observation was.follows ∙ follow.stands ∙ ap (λ (events : List Event). Some (after_all o events)) (sym passed.these);
      legal = run.does.legal;
      passed = record { before = passed.before; sight = passed.sight; these = refl };
      who = ap (λ (p : Point). p.who) run.does.to;
      trees = λ none. left.0.trees (ap (λ (runs : List RunMade). drop (length from.site.runs) runs) (run.does.directories.own.runs none) ∙ drop-length from.site.runs);
    }
