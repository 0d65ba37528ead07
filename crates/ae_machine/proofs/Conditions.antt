-- The first refusal of several conditions, asked one after another or some at a time.
use Rattle.std.specs.Prelude.{◌≡◌, List, [], ◌∷◌, ◌++◌, Option, Some, None, Result, Ok, Err, OnOk}
use Rattle.std.specs.Option.{option_and_then, option_or}
use Rattle.std.proofs.Common.{refl, sym, ap, subst, ◌∙◌}
use Rattle.ae_base.specs.declared.refusal.Refusal.{Refusal}
use Rattle.ae_types.specs.declared.change.Change.{Change}
use Rattle.ae_machine.specs.Call.{Call, Condition, change_of, first_of, on_change}
use Rattle.ae_machine.specs.declared.refused.Refused.{Refused}
use Rattle.ae_machine.specs.declared.refused.Refused.TheVariants.{Because, Memory}
use Rattle.ae_machine.specs.Refused.{Answers, UnlessMemory, refused_by}
use Rattle.ae_policy.specs.Answers.{IsAnswer}
use Rattle.ae_policy.specs.declared.error.PolicyError.{PolicyError}
use Rattle.ae_policy.specs.declared.error.PolicyError.TheVariants as policy

abbrev R : Type 0
R = Option Refusal

pub alone : (a : R) → option_or a None ≡ a
alone (Some a) = refl
alone None = refl

pub or-pass : (a b : R) → a ≡ None → option_or a b ≡ b
or-pass a b e = ap (λ (x : R). option_or x b) e

pub or-refuse : (a b : R) (refusal : Refusal) → a ≡ Some refusal → option_or a b ≡ Some refusal
or-refuse a b refusal e = ap (λ (x : R). option_or x b) e

-- where the first of them refuse, they do so with those that follow
pub first-refuse : (some rest : List Condition) (call : Call) (refusal : Refusal) → first_of some call ≡ Some refusal → first_of (some ++ rest) call ≡ Some refusal
first-refuse [] rest call refusal is = cc
first-refuse (a ∷ some) rest call refusal is = go (a call) is (first-refuse some rest call refusal)
  where
    go : (x : R) → option_or x (first_of some call) ≡ Some refusal → (first_of some call ≡ Some refusal → first_of (some ++ rest) call ≡ Some refusal) → option_or x (first_of (some ++ rest) call) ≡ Some refusal
    go (Some x) e more = e
    go None e more = more e

-- where they don't, those that follow answer
pub first-pass : (some rest : List Condition) (call : Call) → first_of some call ≡ None → first_of (some ++ rest) call ≡ first_of rest call
first-pass [] rest call is = refl
first-pass (a ∷ some) rest call is = go (a call) is (first-pass some rest call)
  where
    go : (x : R) → option_or x (first_of some call) ≡ None → (first_of some call ≡ None → first_of (some ++ rest) call ≡ first_of rest call) → option_or x (first_of (some ++ rest) call) ≡ first_of rest call
    go (Some x) e more = cc
    go None e more = more e

-- a condition on the change asks of the change that is named
pub of-change : (condition : Call → Change → Option Refusal) (call : Call) (change : Change) → change_of call ≡ Some change → on_change condition call ≡ condition call change
of-change condition call change is = ap (option_and_then (condition call)) is

-- what is asked of the caller, and then of him and the change that is named
pub caller-asked : (person : Condition) (a b : Call → Change → Option Refusal) (call : Call) (change : Change) → change_of call ≡ Some change
    → option_or (person call) (option_or (a call change) (b call change)) ≡ first_of (person ∷ on_change a ∷ on_change b ∷ []) call
caller-asked person a b call change is =
    let rest : Option Change → R = λ (v : Option Change). option_or (person call) (option_or (option_and_then (a call) v) (option_or (option_and_then (b call) v) None)) in
    sym (ap rest is ∙ ap (λ (x : R). option_or (person call) (option_or (a call change) x)) (alone (b call change)))

-- ---- what code answers

-- a condition that refuses, among others that refuse then for the same reason
pub refuses-so : (a b : R) (refused : Refused) → ((refusal : Refusal) → a ≡ Some refusal → b ≡ Some refusal) → Answers {T = R} a (Err refused) → Answers {T = R} b (Err refused)
refuses-so a b (Because refusal) h is = h refusal is
refuses-so a b Memory h is = tt

pub answers-as : {T : Type 0} (a b : R) (result : Result T Refused) → a ≡ b → Answers a result → Answers b result
answers-as a b result e is = subst (λ (reason : R). Answers reason result) e is

-- where it lets pass, what follows from that
pub on-pass : {T P : Type 0} (a : R) (result : Result T Refused) → (a ≡ None → P) → Answers a result → OnOk result P
on-pass a (Ok passed) h is = h is
on-pass a (Err refused) h is = tt

-- what is so whatever is answered
pub unless-memory : {T P : Type 0} (result : Result T Refused) → P → UnlessMemory result P
unless-memory (Ok passed) so = so
unless-memory (Err (Because refusal)) so = so
unless-memory (Err Memory) so = tt

-- what ae_policy answers
pub policy-so : (a b : R) (error : PolicyError) → a ≡ b → IsAnswer {T = R} a (Err error) → Answers {T = R} b (Err (refused_by error))
policy-so a b (policy.Refused refusal) e is = sym e ∙ is
policy-so a b policy.Memory e is = tt
