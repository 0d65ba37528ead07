-- The items of words begin with the item of the first word.
use Rattle.std.proofs.Common.{◌≡◌, ℕ, ◌+◌, ◌-◌, ◌<◌, ◌≤◌, false, List, [], ◌∷◌, length, take, drop, get_or, map, string_bytes, String, Global, refl, sym, ap, subst, ◌∙◌, arith}
use Rattle.std.proofs.lemmas.List.{take_all}
use Rattle.ae_words.specs.Items.{a_wrong, an_option, Word, asks, word, item, items_from, takes_next}
use Rattle.ae_words.specs.declared.table.Setting.{Setting}

-- words are the first and those behind it
pub first_word : (words : List (String Global)) (first : String Global) (text : List ℕ) → first ≡ get_or words 0 first → 1 ≤ length words → text ≡ string_bytes first
    → map string_bytes words ≡ text ∷ map string_bytes (take (length words - 1) (drop 1 words))
first_word [] first text is some same = absurd (omega (arith, some))
first_word (w ∷ ws) first text is some same =
    let here : string_bytes w ≡ text = sym (same ∙ ap string_bytes is) in
    let behind : ws ≡ take (length (w ∷ ws) - 1) ws = sym (take_all (length (w ∷ ws) - 1) ws (omega arith)) in
    ap (λ (b : List ℕ). b ∷ map string_bytes ws) here ∙ ap (λ (bs : List (String Global)). text ∷ map string_bytes bs) behind

asks_none : (at : ℕ) (text : List ℕ) (o : Setting) (k : Word) → asks o ≡ k → (item at text k [] ∷ items_from (at + 1) (takes_next k) []) ≡ (a_wrong at ∷ [])
asks_none at text o k is = subst (λ (x : Word). (item at text x [] ∷ items_from (at + 1) (takes_next x) []) ≡ (a_wrong at ∷ [])) is refl

asks_some : (at : ℕ) (text : List ℕ) (o : Setting) (k : Word) (v : List ℕ) (vs : List (List ℕ)) → asks o ≡ k
    → (item at text k (v ∷ vs) ∷ items_from (at + 1) (takes_next k) (v ∷ vs)) ≡ (an_option at o (at + 1) v ∷ items_from (at + 2) false vs)
asks_some at text o k v vs is =
    let two : at + 1 + 1 ≡ at + 2 = omega arith in
    subst (λ (x : Word). (item at text x (v ∷ vs) ∷ items_from (at + 1) (takes_next x) (v ∷ vs)) ≡ (an_option at o (at + 1) v ∷ items_from (at + 2) false vs)) is (ap (λ (n : ℕ). an_option at o (at + 1) v ∷ items_from n false vs) two)

-- an option whose value is missing
pub no_value : (at : ℕ) (words behind : List (String Global)) (text : List ℕ) (o : Setting) → map string_bytes words ≡ text ∷ map string_bytes behind → asks o ≡ word text → length behind < 1
    → items_from at false (map string_bytes words) ≡ a_wrong at ∷ items_from (at + 1) false (map string_bytes behind)
no_value at words [] text o split is none = ap (items_from at false) split ∙ asks_none at text o (word text) is
no_value at words (b ∷ bs) text o split is none = absurd (omega (arith, none))

-- an option with the word behind it
pub its_value : (at : ℕ) (words behind rest : List (String Global)) (text v : List ℕ) (o : Setting) → map string_bytes words ≡ text ∷ map string_bytes behind → asks o ≡ word text
    → map string_bytes behind ≡ v ∷ map string_bytes rest
    → items_from at false (map string_bytes words) ≡ an_option at o (at + 1) v ∷ items_from (at + 2) false (map string_bytes rest)
its_value at words behind rest text v o split is next =
    ap (items_from at false) (split ∙ ap (λ (ws : List (List ℕ)). text ∷ ws) next) ∙ asks_some at text o (word text) v (map string_bytes rest) is
