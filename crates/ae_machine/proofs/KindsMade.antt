-- What a function makes are kinds of a few shapes, so what holds of each shape holds of all that it makes.
use Rattle.std.specs.Prelude.{◌≡◌, ℕ, true, List, [], ◌∷◌, map, All, Option, Some, None}
use Rattle.std.proofs.Common.{refl}
use Rattle.std.proofs.lemmas.List.Elements.{All-nil, All-cons, All-head, All-tail, All-map}
use Rattle.ae_base.specs.declared.words.Role.{Role}
use Rattle.ae_types.specs.declared.change.Change.{Change}
use Rattle.ae_types.specs.declared.change.ChangeFile.{ChangeFile}
use Rattle.ae_types.proofs.Members.{In}
use Rattle.ae_log.specs.declared.event.Event.{Event}
use Rattle.ae_log.specs.declared.event.EventKind.{EventKind}
use Rattle.ae_log.specs.declared.event.EventKind.TheVariants as on
use Rattle.ae_log.specs.Applies.{IsProject}
use Rattle.ae_words.specs.declared.table.Function.{Function}
use Rattle.ae_words.specs.declared.table.Function.TheVariants as function
use Rattle.ae_evidence.specs.declared.runs.RunRow.{RunRow}
use Rattle.ae_machine.specs.Call.{Given, change_of}
use Rattle.ae_machine.specs.Fits.{makes_runs}
use Rattle.ae_machine.specs.Paths.{file_made, kind_made, path_event}
use Rattle.ae_machine.specs.Runs.{run_event}
use Rattle.ae_machine.specs.Verdict.{kinds_of, end_of_development, ends, runs}
use Rattle.ae_machine.proofs.Lists.{members-all}
use Rattle.ae_log.specs.Maker.{Maker, event_by}

-- the function that makes such a kind, and nothing else
abbrev pub function_making : EventKind → Option Function
function_making (on.Project name attributes) = Some function.NewProject
function_making (on.Attributes attributes) = Some function.ProjectAttributes
function_making (on.New attributes) = Some function.NewChange
function_making on.NewUndo = Some function.NewChangeUndo
function_making (on.ChangeAttributes attributes) = Some function.ChangeAttributes
function_making on.Begin = Some function.DevelopBegin
function_making on.BeginUndo = Some function.DevelopBeginUndo
function_making on.EndUndo = Some function.DevelopEndUndo
function_making on.ReviewBegin = Some function.ReviewBegin
function_making on.ReviewBeginUndo = Some function.ReviewBeginUndo
function_making on.Pass = Some function.ReviewPass
function_making on.PassUndo = Some function.ReviewPassUndo
function_making on.Fail = Some function.ReviewFail
function_making on.IBegin = Some function.IntegrateBegin
function_making on.IBeginUndo = Some function.IntegrateBeginUndo
function_making on.IPass = Some function.IntegratePass
function_making on.IFail = Some function.IntegrateFail
function_making _ = None

pub project-maker : (kind : EventKind) → IsProject kind → function_making kind ≡ Some function.NewProject
project-maker (on.Project name attributes) is = refl
project-maker _ is = absurd is

-- each shape of what a function makes has P
pub record HasEachKind (P : EventKind → Type 0) (f : Function) (given : Given) : Type 0 where
  pub added : (role : Role) (user : List ℕ) → P (on.RoleAdd role user)
  pub dropped : (role : Role) (user : List ℕ) → P (on.RoleDrop role user)
  pub filed : (path : List ℕ) → In given.call.command.paths path → (file : ChangeFile) → P (on.File path file.action file.usage file.origin)
  pub unfiled : (path : List ℕ) → P (on.Unfile path)
  pub ran : makes_runs f ≡ true → (change : Change) → change_of given.call ≡ Some change → (run : RunRow) → In given.view.runs run → P (on.Run (run_event given change run))
  pub ended : f ≡ function.DevelopEnd → (change : Change) → change_of given.call ≡ Some change → P (end_of_development given change)
  pub alone : (kind : EventKind) → function_making kind ≡ Some f → kinds_of f given ≡ kind ∷ [] → P kind

-- the lists of each shape
pub by-shape : (P : EventKind → Type 0) (f : Function) (given : Given)
    → ((role : Role) → All P (map (on.RoleAdd role) given.call.command.users)) → ((role : Role) → All P (map (on.RoleDrop role) given.call.command.users))
    → All P (map (path_event given.call) given.call.command.paths) → (makes_runs f ≡ true → All P (runs given (change_of given.call)))
    → (f ≡ function.DevelopEnd → All P (ends given (change_of given.call)))
    → ((kind : EventKind) → function_making kind ≡ Some f → kinds_of f given ≡ kind ∷ [] → All P (kind ∷ [])) → All P [] → All P (kinds_of f given)
by-shape P function.List given added dropped filed ran ended alone none = none
by-shape P _ given added dropped filed ran ended alone none = search

module _ (P : EventKind → Type 0) (f : Function) (given : Given) (have : HasEachKind P f given) where
  of-path : (path : List ℕ) → In given.call.command.paths path → (file : Option ChangeFile) → P (kind_made path file)
  of-path path there (Some file) = have.filed path there file
  of-path path there None = have.unfiled path

  of-runs : (found : Option Change) → change_of given.call ≡ found → makes_runs f ≡ true → All P (runs given found)
  of-runs (Some change) there makes =
      All-map P (λ run. on.Run (run_event given change run)) given.view.runs
      (members-all (λ run. P (on.Run (run_event given change run))) given.view.runs (have.ran makes change there))
  of-runs None there makes = All-nil P

  of-end : (found : Option Change) → change_of given.call ≡ found → f ≡ function.DevelopEnd → All P (ends given found)
  of-end (Some change) there is = All-cons P (end_of_development given change) [] (have.ended is change there) (All-nil P)
  of-end None there is = All-nil P

  pub kinds-all : All P (kinds_of f given)
  kinds-all =
      by-shape P f given
      (λ role. All-map P (on.RoleAdd role) given.call.command.users (λ k d below. have.added role _))
      (λ role. All-map P (on.RoleDrop role) given.call.command.users (λ k d below. have.dropped role _))
      (All-map P (path_event given.call) given.call.command.paths
      (members-all (λ path. P (path_event given.call path)) given.call.command.paths (λ path there. of-path path there (file_made given.call.command.function given.call path))))
      (of-runs (change_of given.call) refl) (of-end (change_of given.call) refl)
      (λ kind maker only. All-cons P kind [] (have.alone kind maker only) (All-nil P)) (All-nil P)

-- ---- events of these kinds

-- each event has P
abbrev pub Each : (EventKind → Type 0) → List Event → Type 0
Each P [] = Unit {0}
Each P (event ∷ events) = P event.what × Each P events

pub each-event : (P : EventKind → Type 0) (kinds : List EventKind) (maker : Maker) (number : Option ℕ) → All P kinds → Each P (map (event_by maker number) kinds)
each-event P [] maker number all = tt
each-event P (kind ∷ kinds) maker number all = (All-head P kind kinds all, each-event P kinds maker number (All-tail P kind kinds all))
