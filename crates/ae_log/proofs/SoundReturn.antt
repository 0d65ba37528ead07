-- A change goes back into development: the rules are kept.
use Rattle.std.proofs.Common.{◌≡◌, ℕ, refl, sym, ◌∙◌, ap, map, Some, true, false, nat_eq, not}
use Rattle.std.proofs.lemmas.Bool.{false≢true, or_from}
use Rattle.std.proofs.lemmas.Option.{same_Some}
use Rattle.ae_base.specs.declared.words.Phase.{Phase}
use Rattle.ae_base.specs.declared.words.Phase.TheVariants as phase
use Rattle.ae_base.specs.declared.words.Ground.TheVariants as part
use Rattle.ae_types.specs.declared.change.Change.{Change}
use Rattle.ae_types.specs.Observation.{Observation}
use Rattle.ae_types.specs.Found.{change_in}
use Rattle.ae_types.specs.Phases.{is_awaiting_development, is_integrating, is_completed, has_integrator}
use Rattle.ae_types.specs.Sound.{Sound, IsMoment, IsGoodChange}
use Rattle.ae_types.proofs.Keys.{by_number}
use Rattle.ae_log.specs.declared.event.EventKind.{EventKind}
use Rattle.ae_log.specs.declared.event.EventKind.TheVariants as on
use Rattle.ae_log.specs.After.{after, change_after, where_number}
use Rattle.ae_log.specs.Applies.{comes_in}
use Rattle.ae_log.specs.Maker.{Maker}
use Rattle.ae_log.proofs.Steps.{of_change}
use Rattle.ae_log.proofs.OneChange.{each-own, own-good}
use Rattle.ae_log.proofs.Steady.{Steady, steady-deltas, steady-entries}
use Rattle.ae_log.proofs.Calm.{Calm, steady-of, calm-integrating, calm-candidate}
use Rattle.ae_log.proofs.Gone.{locks-gone, versions-gone, thawed-none, thawed-good}
use Rattle.ae_log.proofs.SoundQuiet.{fewer-runs, history-good}

-- what is so of a phase in which an end of development is taken back
pub record IsEnded (p : Phase) : Type 0 where
  pub developed : is_awaiting_development p ≡ false
  pub integrator : has_integrator p ≡ false
  pub integrating : is_integrating p ≡ false
  pub completed : is_completed p ≡ false

pub ended : (p : Phase) → comes_in on.EndUndo p ≡ true → IsEnded p
ended phase.AwaitingReview e = record { developed = refl; integrator = refl; integrating = refl; completed = refl }
ended phase.BeingReviewed e = record { developed = refl; integrator = refl; integrating = refl; completed = refl }
ended phase.AwaitingIntegration e = record { developed = refl; integrator = refl; integrating = refl; completed = refl }
ended _ e = cc

pub ended-fail : (p : Phase) → comes_in on.Fail p ≡ true → IsEnded p
ended-fail phase.BeingReviewed e = record { developed = refl; integrator = refl; integrating = refl; completed = refl }
ended-fail _ e = cc

module _ (o : Observation) (s : Sound o) (maker : Maker) (c : ℕ) (moment : IsMoment maker.when) (x : Change) (at_c : change_in o.changes c ≡ Some x) where
  abbrev pub good : IsGoodChange x
  good = s.changes.good c x at_c

  abbrev pub then_by : EventKind → Change → Change
  then_by kind = change_after o.project.next_version (of_change maker c kind)

  calm-back : (y : Change) → is_integrating y.phase ≡ false → is_completed y.phase ≡ false → IsEnded x.phase → Calm x y
  calm-back y i d e = record {
    integrating = i ∙ sym e.integrating;
    completed = d ∙ sym e.completed;
    files = λ f. absurd (false≢true (sym (or_from (is_integrating x.phase) (is_completed x.phase) e.integrating e.completed) ∙ f));
  }

  pub sound-end_undo : IsEnded x.phase → Sound (after o (of_change maker c on.EndUndo))
  sound-end_undo e = let calm = calm-back (then_by on.EndUndo x) refl refl e in record {
    project = s.project;
    rows = s.rows;
    changes = own-good c (then_by on.EndUndo) (λ _. refl) o.numbers o.changes x s.changes at_c (record {
      people = record { developer = good.people.developer ∙ ap not e.developed; reviewer = refl; reviewing = λ _. refl; integrator = good.people.integrator ∙ e.integrator };
      files = thawed-good x.phase phase.BeingDeveloped x.files good.files refl refl;
      runs = good.runs;
      history = history-good x.history _ good.history moment;
    });
    integrating = calm-integrating o s c (then_by on.EndUndo) (λ _. refl) x at_c calm;
    deltas = steady-deltas o s c (then_by on.EndUndo) (λ _. refl) x at_c (steady-of x (then_by on.EndUndo x) calm);
    versions = versions-gone o s c (then_by on.EndUndo) (λ _. refl) x at_c (thawed-none x.files);
    entries = steady-entries o s c (then_by on.EndUndo) (λ _. refl) x at_c (steady-of x (then_by on.EndUndo x) calm);
    locks = locks-gone o s c (then_by on.EndUndo) (λ _. refl) x at_c refl;
    candidate = calm-candidate o s c (then_by on.EndUndo) (λ _. refl) x at_c calm;
  }

  pub sound-fail : IsEnded x.phase → Sound (after o (of_change maker c on.Fail))
  sound-fail e = let calm = calm-back (then_by on.Fail x) refl refl e in record {
    project = s.project;
    rows = s.rows;
    changes = own-good c (then_by on.Fail) (λ _. refl) o.numbers o.changes x s.changes at_c (record {
      people = record { developer = good.people.developer ∙ ap not e.developed; reviewer = refl; reviewing = λ _. refl; integrator = good.people.integrator ∙ e.integrator };
      files = thawed-good x.phase phase.BeingDeveloped x.files good.files refl refl;
      runs = good.runs;
      history = history-good x.history _ good.history moment;
    });
    integrating = calm-integrating o s c (then_by on.Fail) (λ _. refl) x at_c calm;
    deltas = steady-deltas o s c (then_by on.Fail) (λ _. refl) x at_c (steady-of x (then_by on.Fail x) calm);
    versions = versions-gone o s c (then_by on.Fail) (λ _. refl) x at_c (thawed-none x.files);
    entries = steady-entries o s c (then_by on.Fail) (λ _. refl) x at_c (steady-of x (then_by on.Fail x) calm);
    locks = locks-gone o s c (then_by on.Fail) (λ _. refl) x at_c refl;
    candidate = calm-candidate o s c (then_by on.Fail) (λ _. refl) x at_c calm;
  }

  -- where the change was the one that is integrated, and isn't any more, none is
  pub none-integrates : (h : Change → Change) → ((y : Change) → Rattle.ae_types.specs.Found.number_of_change (h y) ≡ Rattle.ae_types.specs.Found.number_of_change y) → x.phase ≡ phase.BeingIntegrated → is_integrating (h x).phase ≡ false
      → (n : ℕ) (y : Change) → change_in (map (where_number c h) o.changes) n ≡ Some y → is_integrating y.phase ≡ true → ⊥
  none-integrates h keeps is not_now = each-own c h keeps o.changes (λ n y. is_integrating y.phase ≡ true → ⊥)
      (λ y ey i. absurd (false≢true (sym not_now ∙ ap (λ (z : Change). is_integrating (h z).phase) (same_Some x y (sym at_c ∙ ey)) ∙ i)))
      (λ n y differ ey i. absurd (false≢true (sym differ ∙ ap (nat_eq c) (s.integrating.one n c y x ey at_c i (ap is_integrating is)) ∙ by_number.same_self c)))

  steady-integrated : (y : Change) → is_completed y.phase ≡ false → x.phase ≡ phase.BeingIntegrated → Steady x y
  steady-integrated y d is = record { completed = d ∙ ap is_completed (sym is); files = λ e. absurd (false≢true (sym (ap is_completed is) ∙ e)) }

  pub sound-integrate_fail : x.phase ≡ phase.BeingIntegrated → Sound (after o (of_change maker c on.IFail))
  sound-integrate_fail is = let steady = steady-integrated (then_by on.IFail x) refl is in record {
    project = s.project;
    rows = s.rows;
    changes = own-good c (then_by on.IFail) (λ _. refl) o.numbers o.changes x s.changes at_c (record {
      people = record { developer = good.people.developer ∙ ap (λ p. not (is_awaiting_development p)) is; reviewer = refl; reviewing = λ _. refl; integrator = refl };
      files = thawed-good x.phase phase.BeingDeveloped x.files good.files refl refl;
      runs = fewer-runs part.Integrate x.evidence good.runs;
      history = history-good x.history _ good.history moment;
    });
    integrating = record {
      one = λ m n y z ey ez iy iz. absurd (none-integrates (then_by on.IFail) (λ _. refl) is refl m y ey iy);
      room = λ n y e i. absurd (none-integrates (then_by on.IFail) (λ _. refl) is refl n y e i);
    };
    deltas = steady-deltas o s c (then_by on.IFail) (λ _. refl) x at_c steady;
    versions = versions-gone o s c (then_by on.IFail) (λ _. refl) x at_c (thawed-none x.files);
    entries = steady-entries o s c (then_by on.IFail) (λ _. refl) x at_c steady;
    locks = locks-gone o s c (then_by on.IFail) (λ _. refl) x at_c refl;
    candidate = λ n y e i. absurd (none-integrates (then_by on.IFail) (λ _. refl) is refl n y e i);
  }
