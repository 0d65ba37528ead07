-- The files of a disk have one answer.
use Rattle.std.specs.Prelude.{◌≡◌, ℕ, if◌then◌else◌, List, Option, Some, None, Result, Ok, Err, is_some}
use Rattle.std.proofs.Common.{sym, ap, subst, ◌∙◌}
use Rattle.std.proofs.lemmas.Option.{same_Some}
use Rattle.ae_base.specs.declared.want.Want.{Want}
use Rattle.ae_base.specs.declared.want.Want.TheVariants as want
use Rattle.ae_base.specs.declared.outcome.Outcome.{Outcome}
use Rattle.ae_base.specs.declared.outcome.Outcome.TheVariants as outcome
use Rattle.ae_base.specs.declared.refusal.Refusal.{Refusal}
use Rattle.ae_outside.specs.Image.{Image}
use Rattle.ae_vault.specs.Vault.{effective}
use Rattle.ae_types.specs.declared.change.Change.{Change}
use Rattle.ae_types.specs.Found.{change_at}
use Rattle.ae_types.specs.Observation.{Observation}
use Rattle.ae_types.specs.Trees.{baseline_of}
use Rattle.ae_exec.specs.Endings.{IsDamagedAt}
use Rattle.ae_exec.specs.Reading.{AreKept, FirstIsLost}
use Rattle.ae_exec.specs.Shown.{Shown}
use Rattle.ae_exec.proofs.Completing.{damaged_once, never_damaged}
use Rattle.ae_exec.proofs.ReadInOrder.{kept-not-lost}
use Rattle.ae_exec.proofs.Stores.{one}
use Rattle.ae_bundle.specs.declared.bundle.Bundle.{Bundle}
use Rattle.ae_bundle.specs.Bundled.{text_of}
use Rattle.ae_lines.specs.declared.act.Act.{Act}
use Rattle.ae_dist.specs.Answers.{DamagedSending, Plans, RefusesPlan, RefusesSending, Says, Sends, Writes, damaged, done, refused, store, version}
use Rattle.ae_dist.specs.Laws.{PlanningHasOneAnswer, SendingHasOneAnswer, WritingHasOneAnswer}
use Rattle.ae_dist.specs.Plan.{free_number, no_room, plan_of, refuses_numbers, refuses_plan}
use Rattle.ae_dist.specs.Sending.{or_refuses, refuses_sending, sent_bundle, sent_rows, versions_of}

-- ---- one of three

-- what is answered is one thing where each of the three is so of one alone, and they exclude each other
pub says_once : {A : Type 0} (S : A → Type 0) (R : Refusal → Type 0) (M : List ℕ → Type 0) → ((a b : A) → S a → S b → a ≡ b) → ((r q : Refusal) → R r → R q → r ≡ q) → ((m n : List ℕ) → M m → M n → m ≡ n)
    → ((a : A) (r : Refusal) → S a → R r → ⊥) → ((a : A) (m : List ℕ) → S a → M m → ⊥) → ((r : Refusal) (m : List ℕ) → R r → M m → ⊥) → (x y : Result A Outcome) → Says S R M x → Says S R M y → x ≡ y
says_once S R M one_done one_refused one_damaged not_refused not_damaged not_both _ _ (done a is) (done b was) = ap Ok (one_done a b is was)
says_once S R M one_done one_refused one_damaged not_refused not_damaged not_both _ _ (done a is) (refused r was) = absurd (not_refused a r is was)
says_once S R M one_done one_refused one_damaged not_refused not_damaged not_both _ _ (done a is) (damaged m was) = absurd (not_damaged a m is was)
says_once S R M one_done one_refused one_damaged not_refused not_damaged not_both _ _ (refused r is) (done b was) = absurd (not_refused b r was is)
says_once S R M one_done one_refused one_damaged not_refused not_damaged not_both _ _ (refused r is) (refused q was) = ap (λ (x : Refusal). Err (outcome.Refused x)) (one_refused r q is was)
says_once S R M one_done one_refused one_damaged not_refused not_damaged not_both _ _ (refused r is) (damaged m was) = absurd (not_both r m is was)
says_once S R M one_done one_refused one_damaged not_refused not_damaged not_both _ _ (damaged m is) (done b was) = absurd (not_damaged b m was is)
says_once S R M one_done one_refused one_damaged not_refused not_damaged not_both _ _ (damaged m is) (refused q was) = absurd (not_both q m was is)
says_once S R M one_done one_refused one_damaged not_refused not_damaged not_both _ _ (damaged m is) (damaged n was) = ap (λ (x : List ℕ). Err (outcome.Damaged x)) (one_damaged m n is was)

-- ---- what stands

-- one project is shown
pub same_project : (wanted : Want) (image : Image) (o p : Observation) → Shown wanted image (Some o) → Shown wanted image (Some p) → o ≡ p
same_project wanted image o p shown seen = same_Some o p (one wanted image (Some o) (Some p) shown seen)

-- two reasons of what stands are one
pub one_reason : (wanted : Want) (image : Image) (why : Option Observation → Option Refusal) (o p : Option Observation) (r q : Refusal) → Shown wanted image o → Shown wanted image p → why o ≡ Some r → why p ≡ Some q → r ≡ q
one_reason wanted image why o p r q shown seen is was = same_Some r q (sym is ∙ ap why (one wanted image o p shown seen) ∙ was)

-- none and one are not both there
pub no_reason : (wanted : Want) (image : Image) (why : Option Observation → Option Refusal) (o : Observation) (p : Option Observation) (r : Refusal) → Shown wanted image (Some o) → Shown wanted image p → why (Some o) ≡ None → why p ≡ Some r → ⊥
no_reason wanted image why o p r shown seen free is = let both : None ≡ Some r = sym free ∙ ap why (one wanted image (Some o) p shown seen) ∙ is in cc

-- ---- sending

module _ (image : Image) (name : Option (List ℕ)) (number : ℕ) where
  abbrev why_not : Option Observation → Option Refusal
  why_not = refuses_sending name number

  -- one change of one project
  same_change : (o p : Observation) (c d : Change) → o ≡ p → change_at o number ≡ Some c → change_at p number ≡ Some d → c ≡ d
  same_change o p c d same there here = same_Some c d (sym there ∙ ap (λ (x : Observation). change_at x number) same ∙ here)

  sends_once : (a b : Bundle) → Sends image name number a → Sends image name number b → a ≡ b
  sends_once a b s t =
      let same = same_project (want.One number) image s.o t.o s.shown t.shown in
      let change = same_change s.o t.o s.change t.change same s.there t.there in
      s.is ∙ (λ i. sent_bundle (effective image) (change i) (sent_rows (same i) (change i))) ∙ sym t.is

  refuses_once : (r q : Refusal) → RefusesSending image name number r → RefusesSending image name number q → r ≡ q
  refuses_once r q s t = one_reason (want.One number) image why_not s.stands t.stands r q s.shown t.shown s.refused t.refused

  not_refused : (a : Bundle) (r : Refusal) → Sends image name number a → RefusesSending image name number r → ⊥
  not_refused a r s t = no_reason (want.One number) image why_not s.o t.stands r s.shown t.shown s.free t.refused

  one_damaged : (m n : List ℕ) → DamagedSending image name number m → DamagedSending image name number n → m ≡ n
  one_damaged m n (store is) (store was) = damaged_once (want.One number) image m n is was
  one_damaged m n (store is) (version o change shown there free lost) = absurd (never_damaged (want.One number) image (Some o) m shown is)
  one_damaged m n (version o change shown there free lost) (store is) = absurd (never_damaged (want.One number) image (Some o) n shown is)
  one_damaged m n (version o change shown there free lost) (version p other seen here fit worse) = lost.is_pack ∙ sym worse.is_pack

  kept_or_lost : (o p : Observation) (c d : Change) → o ≡ p → c ≡ d → AreKept (effective image) (versions_of (sent_rows o c)) → FirstIsLost (effective image) (versions_of (sent_rows p d)) → ⊥
  kept_or_lost o p c d same change kept lost =
      kept-not-lost (effective image) (versions_of (sent_rows p d)) (subst (AreKept (effective image)) (λ i. versions_of (sent_rows (same i) (change i))) kept) lost

  not_damaged : (a : Bundle) (m : List ℕ) → Sends image name number a → DamagedSending image name number m → ⊥
  not_damaged a m s (store is) = never_damaged (want.One number) image (Some s.o) m s.shown is
  not_damaged a m s (version o change shown there free lost) =
      let same = same_project (want.One number) image s.o o s.shown shown in
      kept_or_lost s.o o s.change change same (same_change s.o o s.change change same s.there there) s.kept lost.first

  not_both : (r : Refusal) (m : List ℕ) → RefusesSending image name number r → DamagedSending image name number m → ⊥
  not_both r m s (store is) = never_damaged (want.One number) image s.stands m s.shown is
  not_both r m s (version o change shown there free lost) = no_reason (want.One number) image why_not o s.stands r shown s.shown free s.refused

  writes_once : (a b : List ℕ) → Writes image name number a → Writes image name number b → a ≡ b
  writes_once a b s t = s.is.1 ∙ ap text_of (sends_once s.bundle t.bundle s.sent t.sent) ∙ sym t.is.1

pub sending_once : SendingHasOneAnswer
sending_once image name number one other a b =
    says_once (Sends image name number) (RefusesSending image name number) (DamagedSending image name number) (sends_once image name number) (refuses_once image name number) (one_damaged image name number)
    (not_refused image name number) (not_damaged image name number) (not_both image name number) one other a b

pub writing_once : WritingHasOneAnswer
writing_once image name number one other a b =
    says_once (Writes image name number) (RefusesSending image name number) (DamagedSending image name number) (writes_once image name number) (refuses_once image name number) (one_damaged image name number)
    (λ text r s t. not_refused image name number s.bundle r s.sent t) (λ text m s t. not_damaged image name number s.bundle m s.sent t) (not_both image name number) one other a b

-- ---- planning

module _ (image : Image) (name : Option (List ℕ)) (bundle : Bundle) where
  plans_once : (a b : List Act) → Plans image name bundle a → Plans image name bundle b → a ≡ b
  plans_once a b s t =
      let same = same_project want.Nothing image s.o t.o s.shown t.shown in
      let number : s.is.number ≡ t.is.number = same_Some s.is.number t.is.number (sym s.is.free ∙ ap free_number same ∙ t.is.free) in
      s.is.is ∙ (λ i. plan_of (baseline_of (same i)) (number i) bundle) ∙ sym t.is.is

  -- nothing refuses it
  free_plan : (a : List Act) (s : Plans image name bundle a) → refuses_plan name (Some s.o) ≡ None
  free_plan a s = ap (λ (x : Option Refusal). or_refuses x (refuses_numbers s.o)) s.is.named ∙ numbers s.is.number s.is.free
    where
      numbers : (n : ℕ) → free_number s.o ≡ Some n → refuses_numbers s.o ≡ None
      numbers n is = ap (λ (found : Option ℕ). if is_some found then None else Some no_room) is

  plan_refused_once : (r q : Refusal) → RefusesPlan image name r → RefusesPlan image name q → r ≡ q
  plan_refused_once r q s t = one_reason want.Nothing image (refuses_plan name) s.stands t.stands r q s.shown t.shown s.refused t.refused

  plan_not_refused : (a : List Act) (r : Refusal) → Plans image name bundle a → RefusesPlan image name r → ⊥
  plan_not_refused a r s t = no_reason want.Nothing image (refuses_plan name) s.o t.stands r s.shown t.shown (free_plan a s) t.refused

pub planning_once : PlanningHasOneAnswer
planning_once image name bundle one other a b =
    says_once (Plans image name bundle) (RefusesPlan image name) (IsDamagedAt want.Nothing image) (plans_once image name bundle) (plan_refused_once image name bundle) (damaged_once want.Nothing image)
    (plan_not_refused image name bundle) (λ acts m s is. never_damaged want.Nothing image (Some s.o) m s.shown is) (λ r m s is. never_damaged want.Nothing image s.stands m s.shown is) one other a b
