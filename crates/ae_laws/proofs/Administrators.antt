-- Each event of a legal log that changes settings or roles is by an administrator.
use Rattle.std.proofs.Common.{◌≡◌, ◌⊎◌, inl, inr, ℕ, refl, sym, ◌∙◌, ap, subst, List, [], ◌∷◌, map, Option, Some, None, Bool, true, false, cond, nat_eq, get_or}
use Rattle.std.specs.Prelude.{All, IsSome, is_some, ◌&&◌}
use Rattle.std.specs.List.{list_any}
use Rattle.std.specs.Set.{remove_key}
use Rattle.std.specs.Str.{bytes_eq}
use Rattle.std.proofs.lemmas.Bool.{false≢true, and_parts, or_left, or_right, or_cases}
use Rattle.std.proofs.lemmas.List.Elements.{All-nil, All-cons, All-head, All-tail, All-map}
use Rattle.std.proofs.lemmas.List.Folds.{list_any-append}
use Rattle.ae_base.specs.declared.refusal.Refusal.TheVariants.{NotAdministrator}
use Rattle.ae_base.specs.declared.words.Role.{Role}
use Rattle.ae_base.specs.declared.words.Role.TheVariants.{Administrator, Developer, Reviewer, Integrator}
use Rattle.ae_types.specs.declared.change.Change.{Change}
use Rattle.ae_types.specs.declared.change.ChangeFile.{ChangeFile}
use Rattle.ae_types.specs.Observation.{Observation}
use Rattle.ae_types.specs.Roles.{has_user}
use Rattle.ae_types.proofs.Keys.{by_text, by_number}
use Rattle.ae_log.specs.declared.event.Event.{Event}
use Rattle.ae_log.specs.declared.event.EventKind.{EventKind}
use Rattle.ae_log.specs.declared.event.EventKind.TheVariants as on
use Rattle.ae_log.specs.Applies.{IsProject}
use Rattle.ae_log.specs.Files.{version_bytes}
use Rattle.ae_log.specs.Log.{Log, followed}
use Rattle.ae_log.specs.Maker.{Maker, event_by}
use Rattle.ae_log.specs.Observed.{observation}
use Rattle.ae_log.specs.Settings.{role_users, users_after}
use Rattle.ae_log.proofs.Steps.{attributes-of}
use Rattle.ae_words.specs.declared.command.Command.{Command}
use Rattle.ae_words.specs.declared.table.Function.{Function}
use Rattle.ae_words.specs.declared.table.Function.TheVariants as function
use Rattle.ae_machine.specs.declared.verdict.Verdict.TheVariants.{Accept}
use Rattle.ae_machine.specs.declared.view.View.{View}
use Rattle.ae_machine.specs.Accepted.{decided}
use Rattle.ae_machine.specs.Call.{Call, Given, change_of, given_of}
use Rattle.ae_machine.specs.Legal.{nothing, more}
use Rattle.ae_machine.specs.Paths.{file_made, kind_made, path_event}
use Rattle.ae_machine.specs.Permission.{caller_is_administrator, may_be_added, may_be_dropped}
use Rattle.ae_machine.specs.Runs.{run_event}
use Rattle.ae_machine.specs.Space.{placing}
use Rattle.ae_machine.specs.Verdict.{asked, end_of_development, ends, events_of, maker_in, runs}
use Rattle.ae_machine.proofs.Accepted.{IsPassed, Passed, accepted-passes, tested, with_function}
use Rattle.ae_machine.proofs.AcceptedLogs.{accepted-starts, legal-stands}
use Rattle.ae_laws.specs.Administrators.{AreByAdministrators, IsAdministrator, IsByAdministrator, LegalIsByAdministrators, before_removals, is_removal_by, removes_administrator}

-- ---- these events, one after another

abbrev AreNext : Log → List Event → Type 0
AreNext log [] = Unit {0}
AreNext log (event ∷ events) = IsByAdministrator log event event.what × AreNext (event ∷ log) events

with-next : (events : List Event) (log : Log) → AreNext log events → AreByAdministrators log → AreByAdministrators (followed log events)
with-next [] log next have = have
with-next (event ∷ events) log next have = with-next events (event ∷ log) next.1 (next.0, have)

-- ---- events that change neither settings nor roles

abbrev IsQuiet : EventKind → Type 0
IsQuiet kind = (log : Log) (event : Event) → IsByAdministrator log event kind

quiet-next : (kinds : List EventKind) → All IsQuiet kinds → (maker : Maker) (number : Option ℕ) (log : Log) → AreNext log (map (event_by maker number) kinds)
quiet-next [] all maker number log = tt
quiet-next (kind ∷ kinds) all maker number log = (
  All-head IsQuiet kind kinds all log (event_by maker number kind),
  quiet-next kinds (All-tail IsQuiet kind kinds all) maker number (event_by maker number kind ∷ log),
)

quiet-path : (path : List ℕ) (made : Option ChangeFile) → IsQuiet (kind_made path made)
quiet-path path (Some file) = λ log event. tt
quiet-path path None = λ log event. tt

quiet-paths : (call : Call) (paths : List (List ℕ)) → All IsQuiet (map (path_event call) paths)
quiet-paths call paths =
    All-map IsQuiet (path_event call) paths (λ k d below. quiet-path (get_or paths k d) (file_made call.command.function call (get_or paths k d)))

quiet-runs : (given : Given) (found : Option Change) → All IsQuiet (runs given found)
quiet-runs given (Some change) = All-map IsQuiet (λ run. on.Run (run_event given change run)) given.view.runs (λ k d below log event. tt)
quiet-runs given None = All-nil IsQuiet

quiet-ends : (given : Given) (found : Option Change) → All IsQuiet (ends given found)
quiet-ends given (Some change) = All-cons IsQuiet (end_of_development given change) [] (λ log event. tt) (All-nil IsQuiet)
quiet-ends given None = All-nil IsQuiet

-- ---- events that change roles

-- a user that isn't removed here was there before
was-there : (test other : List ℕ → Bool) (users : List (List ℕ)) → list_any other (remove_key test users) ≡ true → list_any other users ≡ true
was-there test other [] is = is
was-there test other (user ∷ users) is = go (test user) (was-there test other users) is
  where
    go : (b : Bool) → (list_any other (remove_key test users) ≡ true → list_any other users ≡ true) → list_any other (cond b users (user ∷ remove_key test users)) ≡ true
        → list_any other (user ∷ users) ≡ true
    go true rest is = or_right (other user) (list_any other users) is
    go false rest is = elim (or_cases (other user) (list_any other (remove_key test users)) is) [
      | inl here ↦ or_left (other user) (list_any other users) here
      | inr there ↦ or_right (other user) (list_any other users) (rest there)
    ]

-- who is an administrator after a removal was one before it
before-removal : (kind : EventKind) (by who : List ℕ) (users : List (List ℕ)) → removes_administrator kind ≡ true → has_user (users_after kind by Administrator users) who ≡ true → has_user users who ≡ true
before-removal (on.RoleDrop Administrator user) by who users removes is = was-there (bytes_eq user) (bytes_eq who) users is
before-removal _ by who users removes is = cc

-- an administrator was one before the removals at the end
was-administrator : (who : List ℕ) (when : ℕ) (log : Log) → IsAdministrator log who → IsAdministrator (before_removals who when log) who
was-administrator who when [] is = is
was-administrator who when (event ∷ log) is = go (is_removal_by who when event) refl (was-administrator who when log)
  where
    removes : is_removal_by who when event ≡ true → removes_administrator event.what ≡ true
    removes e = (and_parts (bytes_eq who event.who && nat_eq when event.when) (removes_administrator event.what) e).1

    go : (b : Bool) → is_removal_by who when event ≡ b → (IsAdministrator log who → IsAdministrator (before_removals who when log) who)
        → IsAdministrator (cond b (before_removals who when log) (event ∷ log)) who
    go true e rest = rest (before-removal event.what event.who who (role_users log Administrator) (removes e) is)
    go false e rest = is

module _ (maker : Maker) (number : Option ℕ) where
  abbrev made : EventKind → Event
  made kind = event_by maker number kind

  -- who adds a user stays an administrator
  still : (role : Role) (user : List ℕ) (log : Log) → IsAdministrator log maker.who → IsAdministrator (made (on.RoleAdd role user) ∷ log) maker.who
  still Administrator user log is =
      list_any-append (bytes_eq maker.who) (role_users log Administrator) (user ∷ [])
      ∙ or_left (has_user (role_users log Administrator) maker.who) (has_user (user ∷ []) maker.who) is
  still _ user log is = is

  added-next : (role : Role) (users : List (List ℕ)) (log : Log) → IsAdministrator log maker.who → AreNext log (map made (map (on.RoleAdd role) users))
  added-next role [] log is = tt
  added-next role (user ∷ users) log is = (is, added-next role users (made (on.RoleAdd role user) ∷ log) (still role user log is))

  own-removal : (user : List ℕ) → is_removal_by maker.who maker.when (made (on.RoleDrop Administrator user)) ≡ true
  own-removal user = λ i. by_text.same_self maker.who i && by_number.same_self maker.when i && true

  removed-next : (users : List (List ℕ)) (log : Log) → IsAdministrator (before_removals maker.who maker.when log) maker.who → AreNext log (map made (map (on.RoleDrop Administrator) users))
  removed-next [] log is = tt
  removed-next (user ∷ users) log is =
      let event = made (on.RoleDrop Administrator user) in
      let same : before_removals maker.who maker.when (event ∷ log) ≡ before_removals maker.who maker.when log = ap (λ b. cond b (before_removals maker.who maker.when log) (event ∷ log)) (own-removal user) in
      (is, removed-next users (event ∷ log) (subst (λ (l : Log). IsAdministrator l maker.who) (sym same) is))

  dropped-next : (role : Role) (users : List (List ℕ)) (log : Log) → IsAdministrator log maker.who → AreNext log (map made (map (on.RoleDrop role) users))
  dropped-next Administrator users log is = removed-next users log (was-administrator maker.who maker.when log is)
  dropped-next role [] log is = tt
  dropped-next Developer (user ∷ users) log is = (is, dropped-next Developer users (made (on.RoleDrop Developer user) ∷ log) is)
  dropped-next Reviewer (user ∷ users) log is = (is, dropped-next Reviewer users (made (on.RoleDrop Reviewer user) ∷ log) is)
  dropped-next Integrator (user ∷ users) log is = (is, dropped-next Integrator users (made (on.RoleDrop Integrator user) ∷ log) is)

-- ---- the functions

module _ (log : Log) (o : Observation) (stood : observation log ≡ Some o) (c : Command) (who : List ℕ) (when : ℕ) (view : View) (events : List Event) where
  abbrev is_given : Function → Given
  is_given f = given_of placing o (version_bytes log) (with_function f c) who when view

  is-administrator : (f : Function) → caller_is_administrator (is_given f).call ≡ None → IsAdministrator log who
  is-administrator f may =
      ap (λ (q : Observation). has_user q.project.administrators who) (attributes-of log o stood).2 ∙ tested (has_user o.project.administrators who) NotAdministrator may

  abbrev maker : Function → Maker
  maker f = maker_in (is_given f)

  added : (f : Function) (role : Role) → Passed (caller_is_administrator ∷ may_be_added role ∷ []) (is_given f).call → AreNext log (map (event_by (maker f) c.change) (map (on.RoleAdd role) c.users))
  added f role asks = added-next (maker f) c.change role c.users log (is-administrator f asks.0)

  dropped : (f : Function) (role : Role) → Passed (caller_is_administrator ∷ may_be_dropped role ∷ []) (is_given f).call → AreNext log (map (event_by (maker f) c.change) (map (on.RoleDrop role) c.users))
  dropped f role asks = dropped-next (maker f) c.change role c.users log (is-administrator f asks.0)

  made-next : (f : Function) → Passed (asked f) (is_given f).call → AreNext log (events_of (is_given f))
  made-next function.ProjectAttributes asks = (is-administrator function.ProjectAttributes asks.0, tt)
  made-next function.ChangeAttributes asks = (is-administrator function.ChangeAttributes asks.1.0, tt)
  made-next f asks =
      let given = is_given f in
      let users-added = added f in
      let users-dropped = dropped f in
      let quiet = λ (number : Option ℕ) (kinds : List EventKind) (all : All IsQuiet kinds). quiet-next kinds all (maker f) number log in
      let on-paths = quiet-paths given.call c.paths in
      let on-runs = quiet-runs given (change_of given.call) in
      let on-ends = quiet-ends given (change_of given.call) in
      let once = λ (kind : EventKind) (is : IsQuiet kind). All-cons IsQuiet kind [] is (All-nil IsQuiet) in
      search

  by-function : (f : Function) → IsPassed (is_given f) events → AreNext log events
  by-function f p = subst (AreNext log) p.these (made-next f p.before.1.1)

-- ---- each event of a legal log

pub legal-by-administrators : LegalIsByAdministrators
legal-by-administrators log nothing = tt
legal-by-administrators log (more before next occasion events legal may accepted is) =
    subst AreByAdministrators (sym is) (with-next events before (go (observation before) refl) (legal-by-administrators before legal))
  where
    answered : (v : Option Observation) → observation before ≡ v → decided v (version_bytes before) occasion ≡ Accept events
    answered v stood = ap (λ (v : Option Observation). decided v (version_bytes before) occasion) (sym stood) ∙ accepted

    empty : observation before ≡ None → (before ≡ []) ⊎ IsSome (observation before) → before ≡ []
    empty none (inl is) = is
    empty none (inr there) = absurd (false≢true (sym (ap (λ (v : Option Observation). is_some v) none) ∙ there))

    begins : (event : Event) (kind : EventKind) → IsProject kind → before ≡ [] → IsByAdministrator before event kind
    begins event (on.Project name attributes) project none = none
    begins event _ project none = absurd project

    go : (v : Option Observation) → observation before ≡ v → AreNext before events
    go (Some o) stood =
        by-function before o stood occasion.command occasion.who occasion.when occasion.view events occasion.command.function
        (accepted-passes o (version_bytes before) occasion events (answered (Some o) stood))
    go None stood =
        let start = accepted-starts (version_bytes before) occasion events (answered None stood) in
        subst (AreNext before) (sym start.only) (begins start.event start.event.what start.starts.project (empty stood (legal-stands before legal)), tt)
