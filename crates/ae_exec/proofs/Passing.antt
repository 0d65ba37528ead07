-- The baseline after the pass of an integration is provided for by the log before it.
use Rattle.std.specs.Prelude.{◌≡◌, ℕ, false, List, [], ◌∷◌, map, Option, Some, None, IsSomeAnd}
use Rattle.std.proofs.Common.{refl, sym, ap, subst, ◌∙◌, inl, inr}
use Rattle.std.proofs.lemmas.Bool.{false≢true}
use Rattle.std.proofs.lemmas.Option.{same_Some}
use Rattle.ae_types.specs.Observation.{Observation}
use Rattle.ae_types.proofs.Members.{In, in-map}
use Rattle.ae_words.specs.declared.table.Function.{Function}
use Rattle.ae_words.specs.declared.table.Function.TheVariants as function
use Rattle.ae_log.specs.declared.event.Event.{Event}
use Rattle.ae_log.specs.declared.event.EventKind.{EventKind}
use Rattle.ae_log.specs.declared.event.EventKind.TheVariants as on
use Rattle.ae_log.specs.Applies.{IsProject}
use Rattle.ae_log.specs.Baseline.{baseline, candidate}
use Rattle.ae_log.specs.Files.{version_bytes}
use Rattle.ae_log.specs.Log.{Log, course, followed}
use Rattle.ae_log.specs.Observed.{observation, change}
use Rattle.ae_machine.specs.declared.verdict.Verdict.TheVariants.{Accept}
use Rattle.ae_machine.specs.Accepted.{decided}
use Rattle.ae_machine.specs.Call.{Given, given_of}
use Rattle.ae_machine.specs.Called.{Called, occasion_after}
use Rattle.ae_machine.specs.Fits.{makes_runs}
use Rattle.ae_machine.specs.Legal.{Legal, Occasion}
use Rattle.ae_machine.specs.Provenance.{IsProvided, ProvidedAt}
use Rattle.ae_machine.specs.Space.{placing}
use Rattle.ae_machine.specs.Verdict.{change_of_events, events_of, kinds_of, maker_in}
use Rattle.ae_machine.proofs.Accepted.{accepted-passes}
use Rattle.ae_machine.proofs.AcceptedLogs.{accepted-starts}
use Rattle.ae_machine.proofs.KindsMade.{kinds-all, function_making}
use Rattle.ae_machine.proofs.LegalRightly.{legal-provided}
use Rattle.ae_machine.proofs.Lists.{all-members}
use Rattle.ae_exec.specs.Holding.{BaselineIsProvided, MayGive}
use Rattle.ae_exec.specs.Step.{log_after, step}
use Rattle.ae_exec.proofs.Legally.{unrun-legal}
use Rattle.ae_exec.proofs.Shown.{in-list}
use Rattle.ae_log.specs.Maker.{Maker, event_by}

-- ---- the events of a function

-- a pass has no other kind beside it, and is of a function without runs
abbrev PassesAlone : Function → Given → EventKind → Type 0
PassesAlone f given kind = kind ≡ on.IPass → (makes_runs f ≡ false) × (kinds_of f given ≡ on.IPass ∷ [])

passes-quietly : (f : Function) → function_making on.IPass ≡ Some f → makes_runs f ≡ false
passes-quietly f maker = ap makes_runs (sym (same_Some function.IntegratePass f maker))

pass-alone : (f : Function) (given : Given) → In (kinds_of f given) on.IPass → (makes_runs f ≡ false) × (kinds_of f given ≡ on.IPass ∷ [])
pass-alone f given there = all-members (PassesAlone f given) (kinds_of f given) (kinds-all (PassesAlone f given) f given (record {
  added = λ role user is. cc;
  dropped = λ role user is. cc;
  filed = λ path there file is. cc;
  unfiled = λ path is. cc;
  ran = λ makes change there run among is. cc;
  ended = λ ends change there is. cc;
  alone = λ kind maker only is. (passes-quietly f (ap function_making (sym is) ∙ maker), only ∙ ap (λ (k : EventKind). k ∷ []) is);
})) on.IPass there refl

-- ---- the events of an answer

same-kinds : (maker : Maker) (c : Option ℕ) (kinds : List EventKind) → map (λ (event : Event). event.what) (map (event_by maker c) kinds) ≡ kinds
same-kinds maker c [] = refl
same-kinds maker c (kind ∷ kinds) = λ i. kind ∷ same-kinds maker c kinds i

-- so an answer with one has no other event, and the command makes no runs
record OnlyPass (occasion : Occasion) (events : List Event) (event : Event) : Type 0 where
  quiet : makes_runs occasion.command.function ≡ false
  alone : events ≡ event ∷ []

only : (xs : List Event) (x event : Event) → xs ≡ x ∷ [] → In xs event → xs ≡ event ∷ []
only xs x event is there = go (subst (λ (es : List Event). In es event) is there)
  where
    go : In (x ∷ []) event → xs ≡ event ∷ []
    go (inl same) = is ∙ ap (λ (e : Event). e ∷ []) same
    go (inr none) = absurd none

only-pass : (x : Option Observation) (bytes : ℕ → List ℕ) (occasion : Occasion) (events : List Event) (event : Event) → decided x bytes occasion ≡ Accept events → In events event → event.what ≡ on.IPass → OnlyPass occasion events event
only-pass (Some o) bytes occasion events event answered there passes = record { quiet = alone.0; alone = only events _ event (sym these ∙ ap (map made) alone.1) there }
  where
    given : Given
    given = given_of placing o bytes occasion.command occasion.who occasion.when occasion.view

    made : EventKind → Event
    made = event_by (maker_in given) (change_of_events given.call.command.function given.call)

    these : events_of given ≡ events
    these = (accepted-passes o bytes occasion events answered).these

    kind-in : In (map (λ (e : Event). e.what) events) on.IPass
    kind-in = subst (In (map (λ (e : Event). e.what) events)) passes (in-map (λ (e : Event). e.what) events event there)

    alone : (makes_runs occasion.command.function ≡ false) × (kinds_of occasion.command.function given ≡ on.IPass ∷ [])
    alone = pass-alone occasion.command.function given
        (subst (λ (kinds : List EventKind). In kinds on.IPass) (ap (map (λ (e : Event). e.what)) (sym these) ∙ same-kinds (maker_in given) (change_of_events given.call.command.function given.call) (kinds_of given.call.command.function given)) kind-in)
only-pass None bytes occasion events event answered there passes =
    let start = accepted-starts bytes occasion events answered in
    absurd (first start.event start.starts.project (subst (λ (es : List Event). In es event) start.only there))
  where
    first : (e : Event) → IsProject e.what → In (e ∷ []) event → ⊥
    first e is (inl same) = subst IsProject (ap (λ (x : Event). x.what) same ∙ passes) is
    first e is (inr none) = none

-- ---- the whole

some-and : {A : Type 0} (P : A → Type 0) (Q : Type 0) (v : Option A) → ((x : A) → P x → Q) → IsSomeAnd v P → Q
some-and P Q (Some x) then is = then x is
some-and P Q None then is = absurd is

pub baseline-provided : (log : Log) (called : Called) → MayGive called → Legal log → BaselineIsProvided log called
baseline-provided log called may legal event number has = record {
  files = ap baseline stepped ∙ some-and (λ (o : Observation). IsSomeAnd (change number (course log number)) (IsProvided log event number o)) Kept (observation log)
      (λ o there. some-and (IsProvided log event number o) Kept (change number (course log number)) (λ c is. is.baseline) there) provided;
  provided = provided;
}
  where
    Kept : Type 0
    Kept = baseline (event ∷ log) ≡ candidate log number

    only-one : OnlyPass (occasion_after log called) has.events event
    only-one = only-pass (observation log) (version_bytes log) (occasion_after log called) has.events event has.accepted (in-list has.events event has.among) has.passes

    stepped : step log called ≡ event ∷ log
    stepped = ap (log_after log) has.accepted ∙ ap (followed log) only-one.alone

    is_legal : Legal (event ∷ log)
    is_legal = subst Legal stepped (unrun-legal log called may (λ makes. absurd (false≢true (sym only-one.quiet ∙ makes))) legal)

    at : ProvidedAt log event event.change event.what
    at = (legal-provided (event ∷ log) is_legal).0

    provided : IsSomeAnd (observation log) (λ o. IsSomeAnd (change number (course log number)) (IsProvided log event number o))
    provided = subst (λ (kind : EventKind). ProvidedAt log event (Some number) kind) has.passes (subst (λ (c : Option ℕ). ProvidedAt log event c event.what) has.of_change at)
