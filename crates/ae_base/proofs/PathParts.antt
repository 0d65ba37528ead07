-- The parts of a path, cut off one by one.
use Rattle.std.proofs.Common.{◌≡◌, ◌↔◌, ◌<◌, ◌≤◌, ◌+◌, ◌++◌, ◌&&◌, inl, inr, IsTrue, Option, Some, None, nat_lt, ℕ, suc, Bool, true, false, not, ◌==◌, cond, if◌then◌else◌, List, [], ◌∷◌, length, take, drop, refl, sym, ap, ◌∙◌, arith}
use Rattle.std.specs.List.{prefix_len, position}
use Rattle.std.proofs.lemmas.Bool.{cases_lt}
use Rattle.std.proofs.lemmas.Bool.Decides.{nat_tests}
use Rattle.std.proofs.lemmas.List.{append_cancel_left}
use Rattle.std.specs.List.{list_all}
use Rattle.ae_base.specs.Names.{parts, before_first_part, is_slash, is_part, BeginsWithSlash, IsFolderOf}

abbrev no_slash : ℕ → Bool
no_slash b = not (is_slash b)

parts-whole : (text : List ℕ) → length text ≡ prefix_len no_slash text → parts text ≡ text ∷ []
parts-whole [] e = refl
parts-whole (b ∷ bs) e =
    elim (b == 47) as (λ s. suc (length bs) ≡ cond (not s) (1 + prefix_len no_slash bs) 0 → (if s then [] ∷ parts bs else before_first_part b (parts bs)) ≡ (b ∷ bs) ∷ []) [
      | true ↦ λ h. absurd (omega (arith, h))
      | false ↦ λ h. ap (before_first_part b) (parts-whole bs (omega (arith, h)))
    ] e

parts-cut : (text : List ℕ) → prefix_len no_slash text < length text → parts text ≡ take (prefix_len no_slash text) text ∷ parts (drop (prefix_len no_slash text + 1) text)
parts-cut [] lt = absurd (omega arith)
parts-cut (b ∷ bs) lt =
    let n = prefix_len no_slash bs in
    let one : 1 + n ≡ suc n = omega arith in
    let two : 1 + n + 1 ≡ suc (n + 1) = omega arith in
    elim (b == 47) as (λ s. cond (not s) (1 + n) 0 < suc (length bs) → (if s then [] ∷ parts bs else before_first_part b (parts bs)) ≡ take (cond (not s) (1 + n) 0) (b ∷ bs) ∷ parts (drop (cond (not s) (1 + n) 0 + 1) (b ∷ bs))) [
      | true ↦ λ h. refl
      | false ↦ λ h. ap (before_first_part b) (parts-cut bs (omega (arith, h))) ∙ sym (λ i. take (one i) (b ∷ bs) ∷ parts (drop (two i) (b ∷ bs)))
    ] lt

-- where the first `/` stands, the text falls into the part before it and the parts after it
pub parts_good-cut : (text : List ℕ) (at : ℕ) → position is_slash text ≡ Some at → list_all is_part (parts text) ≡ (is_part (take at text) && list_all is_part (parts (drop (at + 1) text)))
parts_good-cut text at e = elim (cases_lt (prefix_len no_slash text) (length text)) [
  | inl lt ↦
      let yes : nat_lt (prefix_len no_slash text) (length text) ≡ true = grind (arith, nat_tests) in
      let found : Some (prefix_len no_slash text) ≡ Some at = sym (ap (λ (b : Bool). cond b (Some (prefix_len no_slash text)) None) yes) ∙ e in
      let is : prefix_len no_slash text ≡ at = cc in
      ap (list_all is_part) (parts-cut text lt) ∙ ap (λ (n : ℕ). is_part (take n text) && list_all is_part (parts (drop (n + 1) text))) is
  | inr le ↦
      let lost : nat_lt (prefix_len no_slash text) (length text) ≡ false = grind (arith, nat_tests) in
      let found : ◌≡◌ {A = Option ℕ} None (Some at) = sym (ap (λ (b : Bool). cond b (Some (prefix_len no_slash text)) None) lost) ∙ e in
      cc
]

and_true : (b : Bool) → (b && true) ≡ b
and_true true = refl
and_true false = refl

fits_all : (text : List ℕ) → prefix_len no_slash text ≤ length text
fits_all [] = omega arith
fits_all (b ∷ bs) = elim (is_slash b) as (λ s. cond (not s) (1 + prefix_len no_slash bs) 0 ≤ suc (length bs)) [ true ↦ omega arith | false ↦ omega (arith, fits_all bs) ]

-- a text without `/` is one part
pub parts_good-whole : (text : List ℕ) → position is_slash text ≡ None → list_all is_part (parts text) ≡ is_part text
parts_good-whole text e = elim (cases_lt (prefix_len no_slash text) (length text)) [
  | inl lt ↦
      let yes : nat_lt (prefix_len no_slash text) (length text) ≡ true = grind (arith, nat_tests) in
      let found : ◌≡◌ {A = Option ℕ} (Some (prefix_len no_slash text)) None = sym (ap (λ (b : Bool). cond b (Some (prefix_len no_slash text)) None) yes) ∙ e in
      cc
  | inr le ↦ ap (list_all is_part) (parts-whole text (omega (arith, fits_all text))) ∙ and_true (is_part text)
]

-- a path goes through a folder exactly where it begins with it and `/` stands after
pub below_rest : (path folder rest : List ℕ) (r : Bool) → path ≡ folder ++ rest → (IsTrue r ↔ BeginsWithSlash rest) → IsTrue r ↔ IsFolderOf folder path
below_rest path folder rest r is slash = (
  λ yes. let more = slash.0 yes in (more.0, is ∙ ap (λ (l : List ℕ). folder ++ l) more.1),
  λ below. slash.1 (below.0, append_cancel_left folder rest (47 ∷ below.0) (sym is ∙ below.1)),
)
