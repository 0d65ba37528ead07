-- Finding a word in a table of words.
use Rattle.std.proofs.Common.{◌≡◌, ◌↔◌, ◌⊎◌, inl, inr, ℕ, List, [], ◌∷◌, Bool, true, false, not, ◌&&◌, ◌||◌, cond, Some, map, refl, sym, ap, ◌∙◌}
use Rattle.std.specs.Prelude.{find}
use Rattle.std.specs.List.{list_any}
use Rattle.std.specs.Str.{bytes_eq}
use Rattle.std.proofs.lemmas.Slice.Eq.{bytes_eq-Decides}
use Rattle.std.proofs.lemmas.Bool.{cases_Bool}

-- the item is one of the table's
abbrev pub Stands : {A : Type 0} → A → List A → Type 0
Stands x [] = ⊥
Stands x (y ∷ ys) = (y ≡ x) ⊎ Stands x ys

-- no two words are the same
abbrev pub differ : List (List ℕ) → Bool
differ [] = true
differ (w ∷ ws) = not (list_any (bytes_eq w) ws) && differ ws

first_of : (a b : Bool) → (not a && b) ≡ true → (a ≡ false) × (b ≡ true)
first_of true b e = absurd (cc e)
first_of false b e = (refl, e)

-- a word that stands after isn't the first
absent : {A : Type 0} (word : A → List ℕ) (x : A) (w : List ℕ) (ys : List A) → list_any (bytes_eq w) (map word ys) ≡ false → Stands x ys → w ≡ word x → ⊥
absent word x w [] none stands same = stands
absent word x w (y ∷ ys) none stands same =
    elim (bytes_eq w (word y)) as (λ b. bytes_eq w (word y) ≡ b → (b || list_any (bytes_eq w) (map word ys)) ≡ false → ⊥) [
      | true ↦ λ is h. cc
      | false ↦ λ is h. elim stands [
        | inl here ↦ let equal = (bytes_eq-Decides w (word y)).1 (same ∙ ap word (sym here)) in cc
        | inr behind ↦ absent word x w ys h behind same
      ]
    ] refl none

pub found_word : {A : Type 0} (word : A → List ℕ) (all : List A) → differ (map word all) ≡ true → ((x : A) → Stands x all) → (text : List ℕ) (x : A) → (find (λ y. bytes_eq (word y) text) all ≡ Some x) ↔ (text ≡ word x)
found_word {A = A} word all apart complete text x = (found all, lost all apart (complete x))
  where
    found : (ys : List A) → find (λ y. bytes_eq (word y) text) ys ≡ Some x → text ≡ word x
    found [] e = absurd (cc e)
    found (y ∷ ys) e =
        elim (bytes_eq (word y) text) as (λ b. bytes_eq (word y) text ≡ b → cond b (Some y) (find (λ z. bytes_eq (word z) text) ys) ≡ Some x → text ≡ word x) [
          | true ↦ λ is h. let same : y ≡ x = cc in sym ((bytes_eq-Decides (word y) text).0 is) ∙ ap word same
          | false ↦ λ is h. found ys h
        ] refl e

    lost : (ys : List A) → differ (map word ys) ≡ true → Stands x ys → text ≡ word x → find (λ y. bytes_eq (word y) text) ys ≡ Some x
    lost [] apart stands e = absurd stands
    lost (y ∷ ys) apart stands e =
        let rest = find (λ z. bytes_eq (word z) text) ys in
        let alone = first_of (list_any (bytes_eq (word y)) (map word ys)) (differ (map word ys)) apart in
        elim stands [
          | inl here ↦ ap (λ (b : Bool). cond b (Some y) rest) ((bytes_eq-Decides (word y) text).1 (ap word here ∙ sym e)) ∙ ap Some here
          | inr behind ↦ elim (cases_Bool (bytes_eq (word y) text)) [
            | inl is ↦ absurd (absent word x (word y) ys alone.0 behind ((bytes_eq-Decides (word y) text).0 is ∙ e))
            | inr isnt ↦ ap (λ (b : Bool). cond b (Some y) rest) isnt ∙ lost ys alone.1 behind e
          ]
        ]
