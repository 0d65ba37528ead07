-- Runs with their commands, one after another.
use Rattle.std.proofs.Common.{IfOk, ◌≡◌, ℕ, ◌+◌, ◌<◌, refl, sym, ◌∙◌, ap, subst, List, [], ◌∷◌, ◌++◌, true, Option, Some, None, Result, Ok, Err, length, take, drop, get_or, map}
use Rattle.std.specs.Option.{option_or, option_and_then}
use Rattle.std.proofs.lemmas.List.{take_more, drop_more}
use Rattle.ae_base.specs.declared.refusal.Refusal.{Refusal}
use Rattle.ae_log.specs.declared.event.Event.{Event}
use Rattle.ae_log.specs.declared.event.EventKind.TheVariants as on
use Rattle.ae_log.specs.declared.event.RunEvent.{RunEvent}
use Rattle.ae_types.specs.declared.change.Change.{Change}
use Rattle.ae_types.specs.Runs.{Needed}
use Rattle.ae_words.specs.declared.table.Function.{Function}
use Rattle.ae_words.specs.declared.table.Function.TheVariants as function
use Rattle.ae_machine.specs.declared.commands.ConfigRead.{ConfigRead}
use Rattle.ae_machine.specs.declared.verdict.Verdict.TheVariants.{Accept, Refuse}
use Rattle.ae_evidence.specs.declared.runs.RunRow.{RunRow}
use Rattle.ae_evidence.specs.declared.runs.Job.{Job}
use Rattle.ae_machine.specs.Call.{Given, change_of, first_of, given_in, refusal_in}
use Rattle.ae_machine.specs.Commands.{AnswersRuns, command_told, config_read, config_seen, first_refusal, run_told}
use Rattle.ae_machine.specs.Fits.{makes_runs, runs_asked}
use Rattle.ae_machine.specs.Freezing.{configured, first_command_refused, right_files}
use Rattle.ae_machine.specs.Jobs.{AnswersJobs, AreJobs, IsJob}
use Rattle.ae_machine.specs.Real.{command_for}
use Rattle.ae_machine.specs.Runs.{command_by, command_of, config_bytes, delta_of_run, group, needed_of, run_event, subject, values_for}
use Rattle.ae_machine.specs.Verdict.{change_of_events, answer, events_of, kinds_of, runs, maker_in}
use Rattle.ae_machine.proofs.CommandsRead.{command-read}
use Rattle.ae_log.specs.Maker.{event_by}

module _ (command : Needed → Result (List ℕ) Refusal) where
  jobs-append : (runs : List Needed) (jobs : List Job) (run : Needed) (job : Job) → AreJobs command runs jobs → IsJob command run job → AreJobs command (runs ++ run ∷ []) (jobs ++ job ∷ [])
  jobs-append [] [] run job are is = (is, tt)
  jobs-append (r ∷ runs) (j ∷ jobs) run job are is = (are.0, jobs-append runs jobs run job are.1 is)
  jobs-append [] (j ∷ jobs) run job are is = absurd are
  jobs-append (r ∷ runs) [] run job are is = absurd are

  pub jobs-more : (runs : List Needed) (i : ℕ) (run : Needed) (jobs new : List Job) (job : Job) → i < length runs → run ≡ get_or runs i run → AreJobs command (take i runs) jobs → IsJob command run job → new ≡ jobs ++ job ∷ []
      → AreJobs command (take (i + 1) runs) new
  jobs-more runs i run jobs new job l e are is made =
      subst (λ rs. AreJobs command rs new) (sym (take_more runs i run l))
      (subst (AreJobs command (take i runs ++ get_or runs i run ∷ [])) (sym made)
      (subst (λ r. AreJobs command (take i runs ++ r ∷ []) (jobs ++ job ∷ [])) e (jobs-append (take i runs) jobs run job are is)))

  rest-from : (runs : List Needed) (i : ℕ) (run : Needed) → i < length runs → run ≡ get_or runs i run → first_refusal command (drop i runs) ≡ option_or (refusal_in (command run)) (first_refusal command (drop (i + 1) runs))
  rest-from runs i run l e = ap (first_refusal command) (drop_more runs i run l) ∙ ap (λ r. option_or (refusal_in (command r)) (first_refusal command (drop (i + 1) runs))) (sym e)

  pub goes-on : (runs : List Needed) (i : ℕ) (run : Needed) (text : List ℕ) → i < length runs → run ≡ get_or runs i run → Ok text ≡ command run → first_refusal command runs ≡ first_refusal command (drop i runs) → first_refusal command runs ≡ first_refusal command (drop (i + 1) runs)
  goes-on runs i run text l e is so = so ∙ rest-from runs i run l e ∙ ap (λ r. option_or (refusal_in r) (first_refusal command (drop (i + 1) runs))) (sym is)

  pub ends-here : (runs : List Needed) (i : ℕ) (run : Needed) (refusal : Refusal) → i < length runs → run ≡ get_or runs i run → Err refusal ≡ command run → first_refusal command runs ≡ first_refusal command (drop i runs) → first_refusal command runs ≡ Some refusal
  ends-here runs i run refusal l e is so = so ∙ rest-from runs i run l e ∙ ap (λ r. option_or (refusal_in r) (first_refusal command (drop (i + 1) runs))) (sym is)

-- ---- as the command asks

same-refusal : (given : Given) (change : Change) (runs : List Needed) → first_command_refused given change runs ≡ first_refusal (command_of given change) runs
same-refusal given change [] = refl
same-refusal given change (run ∷ runs) = ap (option_or (refusal_in (command_of given change run))) (same-refusal given change runs)

-- the kinds of a function with runs are its runs, of the change that is named
pub kinds-are : (given : Given) (f : Function) → makes_runs f ≡ true → kinds_of f given ≡ runs given (change_of given.call)
kinds-are given function.Build e = refl
kinds-are given _ e = cc

number-is : (given : Given) (f : Function) → makes_runs f ≡ true → change_of_events f given.call ≡ given.call.command.change
number-is given function.Build e = refl
number-is given _ e = cc

module _ (given : Given) (change : Change) where
  abbrev told : Needed → Result (List ℕ) Refusal
  told = command_told given.call.stands.project.name change (delta_of_run given.call change) (config_read (config_seen given.call.stands change given.view))

  told-is : config_bytes given change ≡ config_seen given.call.stands change given.view → (run : Needed) → told run ≡ command_of given change run
  told-is seen run = command-read (values_for given.call change run) run.kind (config_seen given.call.stands change given.view) ∙ ap (command_by (values_for given.call change run) run.kind) (sym seen)

  pub answers-jobs : change_of given.call ≡ Some change → config_bytes given change ≡ config_seen given.call.stands change given.view
      → (result : Result (List Job) Refusal) → AnswersRuns told (group given.call change) result → AnswersJobs given result
  answers-jobs is seen (Ok jobs) are =
      subst (λ x. AreJobs (command_for given x) (runs_asked given.call x) jobs) (sym is)
      (subst (λ c. AreJobs c (group given.call change) jobs) (λ i run. told-is seen run i) are)
  answers-jobs is seen (Err refusal) first =
      ap (option_and_then _) is ∙ same-refusal given change (group given.call change)
      ∙ ap (λ c. first_refusal c (group given.call change)) (λ i run. sym (told-is seen run) i) ∙ first

  -- ---- the events

  abbrev recorded : RunRow → RunEvent
  recorded = run_told given.call.stands.project.name change (delta_of_run given.call change) (config_read (config_seen given.call.stands change given.view)) (subject given change)

  recorded-is : config_bytes given change ≡ config_seen given.call.stands change given.view → (run : RunRow) → recorded run ≡ run_event given change run
  recorded-is seen run = ap (λ c. record (recorded run) { command = given_in c [] }) (told-is seen (needed_of run))

  map-both : {A B C : Type 0} (f : A → B) (g : B → C) (h : A → C) → ((a : A) → g (f a) ≡ h a) → (xs : List A) → map g (map f xs) ≡ map h xs
  map-both f g h e [] = refl
  map-both f g h e (x ∷ xs) = λ i. e x i ∷ map-both f g h e xs i

  pub events-made : makes_runs given.call.command.function ≡ true → change_of given.call ≡ Some change → config_bytes given change ≡ config_seen given.call.stands change given.view
      → map (event_by (maker_in given) given.call.command.change) (map on.Run (map recorded given.view.runs)) ≡ events_of given
  events-made makes is seen =
      ap (map (event_by (maker_in given) given.call.command.change))
      (map-both recorded on.Run (λ run. on.Run (run_event given change run)) (λ run. ap on.Run (recorded-is seen run)) given.view.runs
      ∙ sym (ap (runs given) is) ∙ sym (kinds-are given given.call.command.function makes))
      ∙ ap (λ n. map (event_by (maker_in given) n) (kinds_of given.call.command.function given)) (sym (number-is given given.call.command.function makes))

-- ---- as they were made

module _ (given : Given) (change : Change) where
  pub jobs-answered : change_of given.call ≡ Some change → config_bytes given change ≡ config_seen given.call.stands change given.view
      → (name : List ℕ) (delta : ℕ) (read : ConfigRead) (runs : List Needed) → name ≡ given.call.stands.project.name → delta ≡ delta_of_run given.call change
      → read ≡ config_read (config_seen given.call.stands change given.view) → runs ≡ group given.call change
      → {E : Type 0} (result : Result (Result (List Job) Refusal) E) → IfOk result (AnswersRuns (command_told name change delta read) runs) → IfOk result (AnswersJobs given)
  jobs-answered is seen name delta read runs n d r g (Ok answer) made =
      answers-jobs given change is seen answer
      (subst (λ x. AnswersRuns (told given change) x answer) g
      (subst (λ x. AnswersRuns (command_told given.call.stands.project.name change (delta_of_run given.call change) x) runs answer) r
      (subst (λ x. AnswersRuns (command_told given.call.stands.project.name change x read) runs answer) d
      (subst (λ x. AnswersRuns (command_told x change delta read) runs answer) n made))))
  jobs-answered is seen name delta read runs n d r g (Err error) made = tt

  pub seen-events : makes_runs given.call.command.function ≡ true → change_of given.call ≡ Some change → config_bytes given change ≡ config_seen given.call.stands change given.view
      → (name : List ℕ) (delta : ℕ) (read : ConfigRead) (about : List ℕ) (events : List RunEvent) → name ≡ given.call.stands.project.name → delta ≡ delta_of_run given.call change
      → read ≡ config_read (config_seen given.call.stands change given.view) → about ≡ subject given change → events ≡ map (run_told name change delta read about) given.view.runs
      → map (event_by (maker_in given) given.call.command.change) (map on.Run events) ≡ events_of given
  seen-events makes is seen name delta read about events n d r a made =
      ap (λ es. map (event_by (maker_in given) given.call.command.change) (map on.Run es))
      (made ∙ (λ i. map (run_told (n i) change (d i) (r i) (a i)) given.view.runs))
      ∙ events-made given change makes is seen

-- jobs of all runs leave none without a command
pub none-refuses : (command : Needed → Result (List ℕ) Refusal) (runs : List Needed) (jobs : List Job) → AreJobs command runs jobs → first_refusal command runs ≡ None
none-refuses command [] [] are = refl
none-refuses command (r ∷ runs) (j ∷ jobs) are = ap (λ x. option_or (refusal_in x) (first_refusal command runs)) are.0.command_is ∙ none-refuses command runs jobs are.1
none-refuses command [] (j ∷ jobs) are = absurd are
none-refuses command (r ∷ runs) [] are = absurd are

pub all-configured : (given : Given) (change : Change) (jobs : List Job) → change_of given.call ≡ Some change → AnswersJobs given (Ok jobs) → configured given ≡ None
all-configured given change jobs is are =
    ap (option_and_then _) is ∙ same-refusal given change (group given.call change)
    ∙ none-refuses (command_of given change) (group given.call change) jobs (subst (λ x. AreJobs (command_for given x) (runs_asked given.call x) jobs) is are)

-- ---- the answer

pub refused-first : (x y : Option Refusal) (refusal : Refusal) (events : List Event) → x ≡ Some refusal → Refuse refusal ≡ answer (option_or x (option_or y None)) events
refused-first x y refusal events is = sym (ap (λ z. answer (option_or z (option_or y None)) events) is)

pub refused-last : (x y : Option Refusal) (refusal : Refusal) (events : List Event) → x ≡ None → y ≡ Some refusal → Refuse refusal ≡ answer (option_or x (option_or y None)) events
refused-last x y refusal events none is = sym (λ i. answer (option_or (none i) (option_or (is i) None)) events)

pub not-refused : (x y : Option Refusal) (events : List Event) → x ≡ None → y ≡ None → Accept events ≡ answer (option_or x (option_or y None)) events
not-refused x y events none is = sym (λ i. answer (option_or (none i) (option_or (is i) None)) events)

-- where no change is named there is nothing to answer
pub nothing-named : (given : Given) → makes_runs given.call.command.function ≡ true → change_of given.call ≡ None → Accept [] ≡ answer (first_of (right_files ∷ configured ∷ []) given) (events_of given)
nothing-named given makes is =
    not-refused (right_files given) (configured given) [] (ap (option_and_then _) is) (ap (option_and_then _) is)
    ∙ ap (answer (first_of (right_files ∷ configured ∷ []) given)) none
  where
    none : [] ≡ events_of given
    none = ap (map (event_by (maker_in given) (change_of_events given.call.command.function given.call))) (sym (kinds-are given given.call.command.function makes ∙ ap (runs given) is))
