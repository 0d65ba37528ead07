-- The examples of provenance, by computing.
use Rattle.ae_base.specs.declared.words.Usage.TheVariants as usage
use Rattle.ae_log.specs.Files.{FileFact, file}
use Rattle.ae_machine.specs.Updates.{ReplacesItsOrigin}
use Rattle.ae_laws.proofs.ExampleUpdates.{first-of}
use Rattle.std.proofs.Common.{zero, suc, ◌<◌, refl, sym, ap, subst, arith, [], ◌∷◌, Option, Some, None, length, ◌++◌, ◌≡◌, ℕ, List}
use Rattle.std.specs.Prelude.{All, IsSomeAnd, nat_eq}
use Rattle.std.specs.Option.{option_eq}
use Rattle.std.specs.Str.{bytes_eq}
use Rattle.std.proofs.lemmas.Bool.{false≢true}
use Rattle.std.proofs.lemmas.Option.{same_Some}
use Rattle.ae_base.specs.declared.words.Kind.TheVariants as kind
use Rattle.ae_types.specs.declared.change.Change.{Change}
use Rattle.ae_types.specs.Found.{there_and}
use Rattle.ae_types.specs.Runs.{Needed}
use Rattle.ae_types.proofs.Ordered.{none-some}
use Rattle.ae_log.specs.declared.event.EventKind.TheVariants as on
use Rattle.ae_log.specs.Log.{Log, Happened, course}
use Rattle.ae_log.specs.Applies.{is_awaiting_integration}
use Rattle.ae_log.specs.Observed.{change_with}
use Rattle.ae_log.specs.Runs.{same_rows}
use Rattle.ae_machine.specs.Attributes.{first_attributes, first_change_attributes}
use Rattle.ae_laws.specs.Examples.{first_baseline, passed_by_developer, passed_by_anybody, ended_after_pass, left_unclean, not_built, begun_again, without_test, waived_baseline, waived_unset, waived_and_passed, ended_waived, waiving, begun, change_event, project_event, ann, developed, integrated, files, test_file, cal, dee, bob, added, config_file}
use Rattle.ae_machine.specs.Provenance.{HasRun, IsReview, IsReviewed, Provenance, waives, latest_run, values_in}
use Rattle.ae_machine.specs.Verdict.{next_phase}
use Rattle.ae_laws.proofs.ExampleCommands.{gives}

no_run : Needed
no_run = record { kind = kind.Build; path = None }

both : {A : Type 0} (P : A → Type 0) (one other : A) → P one → P other → All P (one ∷ other ∷ [])
both P one other p q zero d l = p
both P one other p q (suc zero) d l = q
both P one other p q (suc (suc k)) d l = absurd (omega (arith, l))

abbrev before : Log
before = integrated ++ change_event cal on.Pass ∷ developed

abbrev x : Change
x = change_with 10 (course before 10) (first_change_attributes first_attributes)

abbrev build : Needed
build = record { kind = kind.Build; path = None }

abbrev test : Needed
test = record { kind = kind.Test; path = Some test_file }

abbrev WasRun : Needed → Type 0
WasRun needed = IsSomeAnd (latest_run before 10 needed) (HasRun before 10 x needed)

was-built : WasRun build
was-built = record { command = gives (values_in before 10 build) kind.Build; status = refl; before = refl; after = refl }

was-tested : WasRun test
was-tested = record { command = gives (values_in before 10 test) kind.Test; status = refl; before = refl; after = refl }

abbrev the_pass : Happened
the_pass = record { event = change_event cal on.Pass; before = developed }

cal-reviewed : IsReview (course before 10) the_pass
cal-reviewed = record { last = refl; by_reviewer = refl; apart = λ same. absurd (false≢true (ap (λ who. option_eq bytes_eq who (Some cal)) same)) }

was-reviewed : IsReviewed (course before 10)
was-reviewed = record { waived = λ w. absurd (false≢true w); passed = λ n. cal-reviewed; apart = λ pass is. subst (IsReview (course before 10)) (same_Some the_pass pass is) cal-reviewed }

abbrev first_config : Happened
first_config = record { event = change_event bob (added config_file usage.Config); before = begun }

abbrev first_test : Happened
first_test = record { event = change_event bob (added test_file usage.Test); before = first_config.event ∷ begun }

pub first-updates : (path : List ℕ) (fact : FileFact) → file (course before 10) path ≡ Some fact → ReplacesItsOrigin before 10 path fact
first-updates path fact f =
    let is = first-of before path fact first_test first_config (record { past = refl; baseline = refl }) (record { past = refl; baseline = refl })
    (λ made e. ap (λ (x : FileFact). x.origin) (sym (same_Some _ made e))) (λ made e. ap (λ (x : FileFact). x.origin) (sym (same_Some _ made e))) (bytes_eq path test_file) (bytes_eq path config_file) f in
    record { origin = is.origin; untouched = is.untouched; new = λ creates. refl }

pub is-provided : Provenance first_baseline
is-provided = (
  record {
    runs = both WasRun build test was-built was-tested;
    tests = λ needed none. absurd (false≢true (ap (λ tests. nat_eq (length tests) 0) none));
    review = was-reviewed;
    people = record {
      developed = record { what = refl; by_developer = refl };
      integrated = record {
        what = refl;
        same_user = refl;
        by_integrator = refl;
        not_developer = λ same. absurd (false≢true (ap (λ who. option_eq bytes_eq who (Some dee)) same));
        not_reviewer = λ same. absurd (false≢true (ap (λ who. option_eq bytes_eq who (Some dee)) same));
      };
    };
    updates = first-updates;
    baseline = refl;
  },
  (tt, (tt, (tt, (tt, (tt, (tt, (tt, (tt, (tt, (tt, (tt, (tt, (tt, (tt, (tt, (tt, tt)))))))))))))))),
)

pub developer-passed : Provenance passed_by_developer → ⊥
developer-passed p = let review = p.0.review.passed refl in (absurd (false≢true (review.apart refl)))

pub anybody-passed : Provenance passed_by_anybody → ⊥
anybody-passed p = let review = p.0.review.passed refl in (absurd (false≢true review.by_reviewer))

pub ended-later : Provenance ended_after_pass → ⊥
ended-later p = p.0.review.passed refl

pub unclean : Provenance left_unclean → ⊥
unclean p =
    let one : 1 < 2 = omega arith in
    let run = p.0.runs 1 no_run one in
    (absurd (false≢true (ap (λ rows. same_rows rows files) run.after)))

pub unbuilt : Provenance not_built → ⊥
unbuilt p = let first : 0 < 2 = omega arith in p.0.runs 0 no_run first

pub again : Provenance begun_again → ⊥
again p = let first : 0 < 2 = omega arith in p.0.runs 0 no_run first

pub untested : Provenance without_test → ⊥
untested p = p.0.tests refl refl

-- ---- without a review

abbrev before_waived : Log
before_waived = integrated ++ ended_waived (project_event ann waiving ∷ begun)

abbrev y : Change
y = change_with 10 (course before_waived 10) (first_change_attributes first_attributes)

abbrev RanWaived : Needed → Type 0
RanWaived needed = IsSomeAnd (latest_run before_waived 10 needed) (HasRun before_waived 10 y needed)

built-waived : RanWaived build
built-waived = record { command = gives (values_in before_waived 10 build) kind.Build; status = refl; before = refl; after = refl }

tested-waived : RanWaived test
tested-waived = record { command = gives (values_in before_waived 10 test) kind.Test; status = refl; before = refl; after = refl }

abbrev waived_config : Happened
waived_config = record { event = change_event bob (added config_file usage.Config); before = (project_event ann waiving ∷ begun) }

abbrev waived_test : Happened
waived_test = record { event = change_event bob (added test_file usage.Test); before = waived_config.event ∷ (project_event ann waiving ∷ begun) }

waived-updates : (path : List ℕ) (fact : FileFact) → file (course before_waived 10) path ≡ Some fact → ReplacesItsOrigin before_waived 10 path fact
waived-updates path fact f =
    let is = first-of before_waived path fact waived_test waived_config (record { past = refl; baseline = refl }) (record { past = refl; baseline = refl })
    (λ made e. ap (λ (x : FileFact). x.origin) (sym (same_Some _ made e))) (λ made e. ap (λ (x : FileFact). x.origin) (sym (same_Some _ made e))) (bytes_eq path test_file) (bytes_eq path config_file) f in
    record { origin = is.origin; untouched = is.untouched; new = λ creates. refl }

pub is-waived : Provenance waived_baseline
is-waived = (
  record {
    runs = both RanWaived build test built-waived tested-waived;
    tests = λ needed none. absurd (false≢true (ap (λ tests. nat_eq (length tests) 0) none));
    review = record { waived = λ w. record { last = refl; set = refl }; passed = λ n. absurd (false≢true (sym n)); apart = λ pass is. none-some pass is };
    people = record {
      developed = record { what = refl; by_developer = refl };
      integrated = record {
        what = refl;
        same_user = refl;
        by_integrator = refl;
        not_developer = λ same. absurd (false≢true (ap (λ who. option_eq bytes_eq who (Some dee)) same));
        not_reviewer = λ same. absurd (false≢true (ap (λ who. option_eq bytes_eq who (Some dee)) same));
      };
    };
    updates = waived-updates;
    baseline = refl;
  },
  (tt, (tt, (tt, (tt, (tt, (tt, (tt, (tt, (tt, (tt, (tt, (tt, (tt, (tt, (tt, (tt, tt)))))))))))))))),
)

pub unset : Provenance waived_unset → ⊥
unset p = let waiver = p.0.review.waived refl in (absurd (false≢true (ap (λ action. is_awaiting_integration (next_phase action)) waiver.set)))

pub passed-after : Provenance waived_and_passed → ⊥
passed-after p =
    let waiver = p.0.review.waived refl in
    (absurd (false≢true (ap (λ (v : Option Happened). there_and v (λ (happened : Happened). waives happened.event.what)) waiver.last)))
