-- An input that is read as a change set, piece by piece.
use Rattle.std.specs.Prelude.{◌≡◌, ◌+◌, ◌≤◌, ◌<◌, ℕ, List, [], ◌++◌, take, length, Ok, Err, Result, IfOk, IfErr}
use Rattle.std.proofs.Common.{refl, sym, ap, subst, ◌∙◌, append-nil, append_assoc, arith}
use Rattle.std.proofs.lemmas.List.{length-append, length-take-le, take-append-le}
use Rattle.ae_base.specs.declared.outcome.Outcome.{Outcome}
use Rattle.ae_base.specs.declared.outcome.Outcome.TheVariants.{Refused}
use Rattle.ae_base.specs.declared.refusal.Refusal.TheVariants.{BadBundle}
use Rattle.ae_bundle.specs.Bundled.{BeginsNone, Bundled, Fits}
use Rattle.ae_bundle.specs.declared.bundle.Bundle.{Bundle}
use Rattle.ae_bundle.specs.declared.error.BundleError.{BundleError}
use Rattle.ae_bundle.specs.declared.error.BundleError.TheVariants as error
use Rattle.ae_dist.specs.Receiving.{HasCome, IsReceived, IsUnread, memory, not_understood, outcome_of}

-- the first bytes of a buffer that was filled at its front are those that came
front : (n : ℕ) (into rest : List ℕ) → n ≤ length into → take n (into ++ rest) ≡ take n into
front n into rest within = take-append-le n into rest within

module _ (told : Type 0) (before mid after stream into rest : List ℕ) (n : ℕ) (came : told → before ≡ stream ++ mid) (moved : told → mid ≡ take n into ++ after) (within : n ≤ length into) where
  -- the piece comes after what came
  pub came_on : told → before ≡ (stream ++ take n (into ++ rest)) ++ after
  came_on t =
      came t ∙ ap (λ (left : List ℕ). stream ++ left) (moved t ∙ ap (λ (piece : List ℕ). piece ++ after) (sym (front n into rest within))) ∙ sym (append_assoc stream (take n (into ++ rest)) after)

  -- an error of the reader ends the reading
  pub unread_by : (why : BundleError) (rose : Type 0) → (why ≡ error.Bad → BeginsNone (stream ++ take n (into ++ rest))) → IsUnread told before rose (outcome_of why)
  unread_by error.Bad rose bad = not_understood (λ t bundle text. bad refl after bundle (subst (λ (bytes : List ℕ). Bundled bytes bundle) (came_on t) text))
  unread_by error.Memory rose bad = memory

-- how many bytes came
pub size_on : (stream into rest : List ℕ) (n taken : ℕ) → length stream ≡ taken → n ≤ length into → length (stream ++ take n (into ++ rest)) ≡ taken + n
size_on stream into rest n taken was within =
    length-append stream (take n (into ++ rest)) ∙ ap (λ (k : ℕ). length stream + k) (ap length (front n into rest within) ∙ length-take-le n into within) ∙ ap (λ (k : ℕ). k + n) was

-- a buffer stays one
pub room_on : (into rest : List ℕ) (n : ℕ) → 1 ≤ n → n ≤ length into → 0 < length (into ++ rest)
room_on into rest n some within = let size = length-append into rest in omega (arith, size, some, within)

-- ---- the end of the input

module _ (told : Type 0) (before after : List ℕ) (reader : Result (List ℕ) BundleError) (come : HasCome told before [] reader) (ended : told → after ≡ []) where
  whole : told → before ≡ come.stream
  whole t = come.cut t ∙ append-nil come.stream

  pub received_all : (result : Result Bundle Outcome) → IfOk result (λ bundle. Bundled come.stream bundle) → IfOk result (IsReceived told before after)
  received_all (Ok bundle) text = record { text = λ t. subst (λ (bytes : List ℕ). Bundled bytes bundle) (sym (whole t)) text; ended = ended }
  received_all (Err why) text = tt

  pub received_fits : (result : Result Bundle Outcome) → IfOk result (λ bundle. Bundled come.stream bundle) → IfOk result Fits
  received_fits (Ok bundle) text = text.0
  received_fits (Err why) text = tt

  pub unread_all : (rose : Type 0) (result : Result Bundle Outcome) → IfErr result (λ why. (why ≡ Refused BadBundle) × ((bundle : Bundle) → Bundled come.stream bundle → ⊥)) → IfErr result (IsUnread told before rose)
  unread_all rose (Ok bundle) none = tt
  unread_all rose (Err why) none =
      subst (λ (o : Outcome). IsUnread told before rose o) (sym none.0) (not_understood (λ t bundle text. none.1 bundle (subst (λ (bytes : List ℕ). Bundled bytes bundle) (whole t) text)))
