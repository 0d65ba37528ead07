-- A stream that comes in pieces.
use Rattle.std.proofs.Common.{◌≡◌, ℕ, ◌+◌, ◌<◌, ◌≤◌, List, ◌∷◌, ◌++◌, Result, Ok, Err, length, take, drop, get_or, refl, sym, ap, subst, ◌∙◌, append_assoc}
use Rattle.std.specs.Prelude.{MatchResult, IfOk, IfErr, IsErrOf}
use Rattle.std.specs.Global.{Vec}
use Rattle.std.specs.List.{flat_map}
use Rattle.std.proofs.lemmas.List.{take-append-drop, drop_more, take_all}
use Rattle.std.proofs.lemmas.List.Concat.{flat_map-append, flat_map-cons}
use Rattle.ae_bundle.specs.declared.bundle.Bundle.{Bundle}
use Rattle.ae_bundle.specs.declared.error.BundleError.{BundleError}
use Rattle.ae_bundle.specs.declared.error.BundleError.TheVariants as error
use Rattle.ae_bundle.specs.Bundled.{Bundled, BeginsNone}
use Rattle.ae_bundle.proofs.Way.{one_bundle}

abbrev pub stream_of : List (Vec ℕ) → List ℕ
stream_of pieces = flat_map (λ (piece : Vec ℕ). piece.items) pieces

-- what came, the next piece, and the others
parts : (pieces : List (Vec ℕ)) (i : ℕ) (piece : Vec ℕ) → i < length pieces → piece ≡ get_or pieces i piece → stream_of pieces ≡ (stream_of (take i pieces) ++ piece.items) ++ stream_of (drop (i + 1) pieces)
parts pieces i piece below is =
    ap stream_of (sym (take-append-drop i pieces)) ∙ flat_map-append (λ (piece : Vec ℕ). piece.items) (take i pieces) (drop i pieces)
    ∙ ap (λ (ps : List (Vec ℕ)). stream_of (take i pieces) ++ stream_of ps) (drop_more pieces i piece below ∙ ap (λ (p : Vec ℕ). p ∷ drop (i + 1) pieces) (sym is))
    ∙ ap (λ (xs : List ℕ). stream_of (take i pieces) ++ xs) (flat_map-cons (λ (piece : Vec ℕ). piece.items) piece (drop (i + 1) pieces))
    ∙ sym (append_assoc (stream_of (take i pieces)) piece.items (stream_of (drop (i + 1) pieces)))

-- an error that isn't of memory comes only where no text begins so
pub stopped : (pieces : List (Vec ℕ)) (i : ℕ) (piece : Vec ℕ) (e : BundleError) → i < length pieces → piece ≡ get_or pieces i piece
    → (IsErrOf {T = Unit {0}} (Err e) error.Bad → BeginsNone (stream_of (take i pieces) ++ piece.items)) → (bundle : Bundle) → Bundled (stream_of pieces) bundle → e ≡ error.Memory
stopped pieces i piece error.Memory below is bad bundle text = refl
stopped pieces i piece error.Bad below is bad bundle text = absurd (bad refl (stream_of (drop (i + 1) pieces)) bundle (text.0, sym (parts pieces i piece below is) ∙ text.1))

-- where it ended well, it is the text of what is answered
pub ended : (stream : List ℕ) (r : Result Bundle BundleError) → IfOk r (λ bundle. Bundled stream bundle) → IfErr r (λ e. (e ≡ error.Bad) × ((bundle : Bundle) → Bundled stream bundle → ⊥))
    → (bundle : Bundle) → Bundled stream bundle → MatchResult r (λ read. read ≡ bundle) (λ e. e ≡ error.Memory)
ended stream (Ok read) is bad bundle text = one_bundle stream read bundle is text
ended stream (Err e) is bad bundle text = absurd (bad.1 bundle text)

-- once all pieces came
pub whole : (pieces : List (Vec ℕ)) (i : ℕ) → length pieces ≤ i → (P : List ℕ → Type 0) → P (stream_of (take i pieces)) → P (stream_of pieces)
whole pieces i all P is = subst P (ap stream_of (take_all i pieces all)) is
