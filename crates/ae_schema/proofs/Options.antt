-- Options that are read.
use Rattle.std.proofs.Common.{◌≡◌, ℕ, ◌*◌, List, [], ◌∷◌, length, map, Some, None, Result, Ok, Err, Bool, IsTrue, ◌↔◌, refl, sym, ◌∙◌, arith}
use Rattle.std.specs.Prelude.{MatchResult}
use Rattle.hex.specs.Hex.{encode_lower, lower_digits, decode_sized}
use Rattle.hex.specs.declared.error.FromHexError.{FromHexError}
use Rattle.hex.proofs.HexLemmas.{length-encode_with, decode_of-encode_lower, decode_sized-twice}
use Rattle.ae_text.specs.Tree.{Node}
use Rattle.ae_schema.specs.Records.{Named, structure}
use Rattle.ae_schema.specs.Fits.{IsDigest}
use Rattle.ae_schema.proofs.RowLists.{same_structure}

-- nothing is no value
pub no_none : {A P : Type 0} (x : A) → None ≡ Some x → P
no_none x e = absurd (cc)

-- the hex digits of a digest decode to it
pub decoded : (x text : List ℕ) → IsDigest x → encode_lower x ≡ text → decode_sized text 32 ≡ Ok x
decoded x text fits e =
    let many = length-encode_with lower_digits x in
    let len : length (encode_lower x) ≡ 2 * 32 = omega (arith, many, fits.0) in
    rw (← e) (decode_sized-twice (encode_lower x) 32 len ∙ decode_of-encode_lower x fits.1)

pub decoding : {R : Type 0} (ok : R) (sized : Result (List ℕ) FromHexError) (r : Result R FromHexError) (out x : List ℕ)
    → MatchResult sized (λ bytes. (r ≡ Ok ok) × (out ≡ bytes)) (λ e. r ≡ Err e) → sized ≡ Ok x → (r ≡ Ok ok) × (out ≡ x)
decoding ok sized r out x h e = rw e at h

-- a structure is empty where it has no fields
pub is_empty : {X : Type 0} (b : Bool) (n : Node) (f : X → Named) (xs : List X) → n ≡ structure (map f xs) → IsTrue b ↔ (length xs ≡ 0) → IsTrue b ↔ (n ≡ structure [])
is_empty b n f [] e test = (λ _. e, λ _. test.1 refl)
is_empty b n f (x ∷ xs) e test = (
  λ yes_it_is. absurd (let none : length (x ∷ xs) ≡ 0 = test.0 yes_it_is in omega arith),
  λ none. absurd (let same : [] ≡ map f (x ∷ xs) = same_structure n [] (map f (x ∷ xs)) (sym none) e in cc (same)),
)

pub no_error : {R E P : Type 0} (x : R) (e : E) → ◌≡◌ {A = Result R E} (Ok x) (Err e) → P
no_error x e h = absurd (cc)
