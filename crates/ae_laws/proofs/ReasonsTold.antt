-- The reason of a command goes with the events that add a row to a history, and with no others.
use Rattle.std.specs.Prelude.{◌≡◌, ℕ, Bool, true, false, List, [], ◌∷◌, map, All, Option, Some, None, is_some, unwrap_or, if◌then◌else◌}
use Rattle.std.proofs.Common.{ap, sym}
use Rattle.std.proofs.lemmas.List.Elements.{All-nil, All-cons, All-map}
use Rattle.ae_base.specs.declared.words.Role.{Role}
use Rattle.ae_types.specs.declared.change.Change.{Change}
use Rattle.ae_types.specs.declared.change.ChangeFile.{ChangeFile}
use Rattle.ae_log.specs.declared.event.Event.{Event}
use Rattle.ae_log.specs.declared.event.EventKind.{EventKind}
use Rattle.ae_log.specs.declared.event.EventKind.TheVariants as on
use Rattle.ae_log.specs.Maker.{event_by}
use Rattle.ae_log.specs.Phases.{word_of}
use Rattle.ae_words.specs.Table.{adds_row}
use Rattle.ae_words.specs.declared.table.Function.{Function}
use Rattle.ae_words.specs.declared.table.Function.TheVariants as function
use Rattle.ae_machine.specs.Call.{Given, change_of}
use Rattle.ae_machine.specs.Paths.{file_made, kind_made, path_event}
use Rattle.ae_machine.specs.Runs.{run_event}
use Rattle.ae_machine.specs.Verdict.{change_of_events, end_of_development, ends, kinds_of, runs, maker_in}
use Rattle.ae_laws.specs.Reasons.{ReasonsAreTold, reason_with}

-- the function tells the reason just where the kind adds a row
abbrev Tells : Function → List ℕ → EventKind → Type 0
Tells f reason kind = (if adds_row f then reason else []) ≡ (if is_some (word_of kind) then reason else [])

-- the lists of each shape that a function makes
by-shape : (f : Function) (given : Given) (reason : List ℕ)
    → ((role : Role) → adds_row f ≡ false → All (Tells f reason) (map (on.RoleAdd role) given.call.command.users))
    → ((role : Role) → adds_row f ≡ false → All (Tells f reason) (map (on.RoleDrop role) given.call.command.users))
    → (adds_row f ≡ false → All (Tells f reason) (map (path_event given.call) given.call.command.paths))
    → (adds_row f ≡ false → All (Tells f reason) (runs given (change_of given.call)))
    → (adds_row f ≡ true → All (Tells f reason) (ends given (change_of given.call)))
    → ((kind : EventKind) → is_some (word_of kind) ≡ adds_row f → All (Tells f reason) (kind ∷ []))
    → All (Tells f reason) [] → All (Tells f reason) (kinds_of f given)
by-shape function.List given reason added dropped filed ran ended alone none = none
by-shape _ given reason added dropped filed ran ended alone none = search

module _ (f : Function) (given : Given) (reason : List ℕ) where
  silent : adds_row f ≡ false → (if adds_row f then reason else []) ≡ []
  silent e = ap (λ (b : Bool). if b then reason else []) e

  of-path : adds_row f ≡ false → (path : List ℕ) (made : Option ChangeFile) → Tells f reason (kind_made path made)
  of-path e path (Some file) = silent e
  of-path e path None = silent e

  of-runs : adds_row f ≡ false → (found : Option Change) → All (Tells f reason) (runs given found)
  of-runs e (Some change) = All-map (Tells f reason) (λ run. on.Run (run_event given change run)) given.view.runs (λ k d below. silent e)
  of-runs e None = All-nil (Tells f reason)

  of-end : adds_row f ≡ true → (found : Option Change) → All (Tells f reason) (ends given found)
  of-end e (Some change) = All-cons (Tells f reason) (end_of_development given change) [] (ap (λ (b : Bool). if b then reason else []) e) (All-nil (Tells f reason))
  of-end e None = All-nil (Tells f reason)

  told : All (Tells f reason) (kinds_of f given)
  told =
      by-shape f given reason
      (λ role e. All-map (Tells f reason) (on.RoleAdd role) given.call.command.users (λ k d below. silent e))
      (λ role e. All-map (Tells f reason) (on.RoleDrop role) given.call.command.users (λ k d below. silent e))
      (λ e. All-map (Tells f reason) (path_event given.call) given.call.command.paths (λ k d below. of-path e _ (file_made given.call.command.function given.call _)))
      (λ e. of-runs e (change_of given.call)) (λ e. of-end e (change_of given.call))
      (λ kind same. All-cons (Tells f reason) kind [] (ap (λ (b : Bool). if b then reason else []) (sym same)) (All-nil (Tells f reason)))
      (All-nil (Tells f reason))

pub reasons-told : ReasonsAreTold
reasons-told given =
    All-map (λ (event : Event). event.why ≡ reason_with given.call.command event.what) (event_by (maker_in given) (change_of_events given.call.command.function given.call))
    (kinds_of given.call.command.function given) (told given.call.command.function given (unwrap_or given.call.command.reason []))
