-- A run fails only of a command that makes runs.
use Rattle.std.specs.Prelude.{◌≡◌, ◌≢◌, ◌||◌, ℕ, Bool, true, false, List, [], ◌∷◌, map, Option, Some, None, if◌then◌else◌}
use Rattle.std.specs.List.{list_any}
use Rattle.std.proofs.Common.{refl, sym, ap, ◌∙◌}
use Rattle.std.proofs.lemmas.Bool.{true≢false}
use Rattle.ae_base.specs.declared.outcome.Outcome.{Outcome}
use Rattle.ae_base.specs.declared.outcome.Outcome.TheVariants.{Done, RunFailed, Refused, DiskFault, SiteFault, Damaged, Memory}
use Rattle.ae_base.specs.declared.refusal.Refusal.{Refusal}
use Rattle.ae_base.specs.declared.refusal.Refusal.TheVariants.{NoProject, ProjectExists}
use Rattle.ae_base.specs.declared.words.Role.TheVariants.{Administrator, Developer, Reviewer, Integrator}
use Rattle.ae_types.specs.declared.change.Change.{Change}
use Rattle.ae_types.specs.declared.change.ChangeFile.{ChangeFile}
use Rattle.ae_types.specs.Observation.{Observation}
use Rattle.ae_log.specs.declared.event.Event.{Event}
use Rattle.ae_log.specs.declared.event.EventKind.{EventKind}
use Rattle.ae_log.specs.declared.event.EventKind.TheVariants as on
use Rattle.ae_log.specs.Maker.{Maker, event_by}
use Rattle.ae_words.specs.declared.command.Command.{Command}
use Rattle.ae_words.specs.declared.table.Function.{Function}
use Rattle.ae_words.specs.declared.table.Function.TheVariants as function
use Rattle.ae_machine.specs.declared.verdict.Verdict.{Verdict}
use Rattle.ae_machine.specs.declared.verdict.Verdict.TheVariants.{Accept, Refuse}
use Rattle.ae_machine.specs.declared.view.View.{View}
use Rattle.ae_machine.specs.Call.{Call, Given, change_of, given_of}
use Rattle.ae_machine.specs.Fits.{makes_runs}
use Rattle.ae_machine.specs.Paths.{file_made, kind_made, path_event}
use Rattle.ae_machine.specs.Space.{placing}
use Rattle.ae_machine.specs.Verdict.{answer, change_of_events, ends, events_of, is_new_project, kinds_of, maker_in, new_project, new_project_event, new_project_file, refusal, verdict, verdict_on}
use Rattle.ae_exec.specs.Endings.{EndsAs, done, run_failed, refused, damaged, disk_fault, site_fault, memory}
use Rattle.ae_exec.specs.Said.{a_run_failed, is_failed_run}
use Rattle.ae_exec.specs.Seen.{IsDecidedSo, no_bytes}
use Rattle.ae_exec.proofs.Following.{quiet-shows}

-- ---- the events of a function that makes none

none-of : {A : Type 0} (kind : A → EventKind) → ((x : A) → is_failed_run (kind x) ≡ false) → (xs : List A) → list_any is_failed_run (map kind xs) ≡ false
none-of kind quiet [] = refl
none-of kind quiet (x ∷ xs) = ap (λ (b : Bool). b || list_any is_failed_run (map kind xs)) (quiet x) ∙ none-of kind quiet xs

file-quiet : (path : List ℕ) (made : Option ChangeFile) → is_failed_run (kind_made path made) ≡ false
file-quiet path (Some file) = refl
file-quiet path None = refl

files-quiet : (call : Call) (paths : List (List ℕ)) → list_any is_failed_run (map (path_event call) paths) ≡ false
files-quiet call paths = none-of (path_event call) (λ path. file-quiet path (file_made call.command.function call path)) paths

end-quiet : (given : Given) (change : Option Change) → list_any is_failed_run (ends given change) ≡ false
end-quiet given (Some change) = refl
end-quiet given None = refl

kinds-quiet : (f : Function) (given : Given) → makes_runs f ≡ false → list_any is_failed_run (kinds_of f given) ≡ false
kinds-quiet function.NewAdministrator given none = none-of (on.RoleAdd Administrator) (λ user. refl) given.call.command.users
kinds-quiet function.NewDeveloper given none = none-of (on.RoleAdd Developer) (λ user. refl) given.call.command.users
kinds-quiet function.NewReviewer given none = none-of (on.RoleAdd Reviewer) (λ user. refl) given.call.command.users
kinds-quiet function.NewIntegrator given none = none-of (on.RoleAdd Integrator) (λ user. refl) given.call.command.users
kinds-quiet function.RemoveAdministrator given none = none-of (on.RoleDrop Administrator) (λ user. refl) given.call.command.users
kinds-quiet function.RemoveDeveloper given none = none-of (on.RoleDrop Developer) (λ user. refl) given.call.command.users
kinds-quiet function.RemoveReviewer given none = none-of (on.RoleDrop Reviewer) (λ user. refl) given.call.command.users
kinds-quiet function.RemoveIntegrator given none = none-of (on.RoleDrop Integrator) (λ user. refl) given.call.command.users
kinds-quiet function.CopyFile given none = files-quiet given.call given.call.command.paths
kinds-quiet function.CopyFileUndo given none = files-quiet given.call given.call.command.paths
kinds-quiet function.NewFile given none = files-quiet given.call given.call.command.paths
kinds-quiet function.NewFileUndo given none = files-quiet given.call given.call.command.paths
kinds-quiet function.NewTest given none = files-quiet given.call given.call.command.paths
kinds-quiet function.NewTestUndo given none = files-quiet given.call given.call.command.paths
kinds-quiet function.RemoveFile given none = files-quiet given.call given.call.command.paths
kinds-quiet function.RemoveFileUndo given none = files-quiet given.call given.call.command.paths
kinds-quiet function.DevelopEnd given none = end-quiet given (change_of given.call)
kinds-quiet function.Build given none = absurd (true≢false none)
kinds-quiet function.Test given none = absurd (true≢false none)
kinds-quiet _ given none = refl

made-quiet : (maker : Maker) (change : Option ℕ) (kinds : List EventKind) → a_run_failed (map (event_by maker change) kinds) ≡ list_any is_failed_run kinds
made-quiet maker change [] = refl
made-quiet maker change (kind ∷ kinds) = ap (λ (b : Bool). is_failed_run kind || b) (made-quiet maker change kinds)

events-quiet : (given : Given) → makes_runs given.call.command.function ≡ false → a_run_failed (events_of given) ≡ false
events-quiet given none =
    made-quiet (maker_in given) (change_of_events given.call.command.function given.call) (kinds_of given.call.command.function given)
    ∙ kinds-quiet given.call.command.function given none

-- ---- the answer

accepts : (why : Option Refusal) (made events : List Event) → answer why made ≡ Accept events → a_run_failed made ≡ false → a_run_failed events ≡ false
accepts (Some refusal) made events is quiet = absurd (let both : Refuse refusal ≡ Accept events = is in cc)
accepts None made events is quiet = let same : made ≡ events = cc in ap a_run_failed (sym same) ∙ quiet

first-quiet : (command : Command) (who : List ℕ) (when : ℕ) (view : View) (events : List Event) (b : Bool) → (if b then new_project command who when view else Refuse NoProject) ≡ Accept events → a_run_failed events ≡ false
first-quiet command who when view events true is =
    accepts _ (new_project_event command who when (new_project_file command view) ∷ []) events is refl
first-quiet command who when view events false is = absurd (let both : Refuse NoProject ≡ Accept events = is in cc)

next-quiet : (given : Given) (events : List Event) (b : Bool) → makes_runs given.call.command.function ≡ false → (if b then Refuse ProjectExists else verdict_on given) ≡ Accept events → a_run_failed events ≡ false
next-quiet given events true none is = absurd (let both : Refuse ProjectExists ≡ Accept events = is in cc)
next-quiet given events false none is = accepts (refusal given) (events_of given) events is (events-quiet given none)

verdict-quiet : (o : Option Observation) (bytes : ℕ → List ℕ) (command : Command) (who : List ℕ) (when : ℕ) (view : View) (events : List Event) → makes_runs command.function ≡ false
    → verdict placing o bytes command who when view ≡ Accept events → a_run_failed events ≡ false
verdict-quiet None bytes command who when view events none is = first-quiet command who when view events (is_new_project command.function) is
verdict-quiet (Some o) bytes command who when view events none is = next-quiet (given_of placing o bytes command who when view) events (is_new_project command.function) none is

-- of the events with which it is answered no run failed, whatever devices tell
pub none-ran : (o : Option Observation) (command : Command) (who : List ℕ) (when : ℕ) (view : View) (v : Verdict) (events : List Event) → makes_runs command.function ≡ false → v ≡ Accept events
    → IsDecidedSo o command who when view v → true ≡ a_run_failed events → makes_runs command.function ≡ true
none-ran o command who when view v events none same decided failed =
    absurd (true≢false (failed ∙ verdict-quiet o no_bytes command who when view events none (decided no_bytes (quiet-shows o no_bytes command who view none) ∙ same)))

-- ---- outcomes

-- a failed run has its cause
pub failed-so : {D F X U : Type 0} {R : Refusal → Type 0} {M : List ℕ → Type 0} (outcome : Outcome) → EndsAs D F R M X U outcome → outcome ≡ RunFailed → F
failed-so _ (done is) same = absurd (let both : Done ≡ RunFailed = same in cc)
failed-so _ (run_failed is) same = is
failed-so _ (refused refusal is) same = absurd (let both : Refused refusal ≡ RunFailed = same in cc)
failed-so _ (damaged name is) same = absurd (let both : Damaged name ≡ RunFailed = same in cc)
failed-so _ (disk_fault rose) same = absurd (let both : DiskFault ≡ RunFailed = same in cc)
failed-so _ (site_fault rose) same = absurd (let both : SiteFault ≡ RunFailed = same in cc)
failed-so _ memory same = absurd (let both : Memory ≡ RunFailed = same in cc)
