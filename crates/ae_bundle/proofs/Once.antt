-- Each part of a text is written in one way, and begins no other.
use Rattle.std.proofs.Common.{◌≡◌, ℕ, ◌<◌, ◌≤◌, ◌^◌, List, [], ◌∷◌, ◌++◌, length, refl, sym, ◌∙◌, arith, append_assoc}
use Rattle.std.specs.Fmt.{decimal}
use Rattle.std.proofs.lemmas.List.{append_cancel_left}
use Rattle.std.proofs.lemmas.Option.{same_Some}
use Rattle.ae_base.proofs.WordsFound.{action_found, usage_found, cause_found}
use Rattle.std.proofs.lemmas.Fmt.{decimal_injective}
use Rattle.ae_base.specs.Limits.{most_file_bytes}
use Rattle.ae_base.specs.Names.{IsPath}
use Rattle.ae_base.specs.Words.{action_word, usage_word, cause_word}
use Rattle.ae_base.specs.declared.words.Action.{Action}
use Rattle.ae_base.specs.declared.words.Action.TheVariants as action
use Rattle.ae_base.specs.declared.words.Usage.{Usage}
use Rattle.ae_base.specs.declared.words.Cause.{Cause}
use Rattle.ae_types.proofs.Clashing.{heads, tails}
use Rattle.ae_bundle.specs.Bundled.{counted, file_label, end_label, most_bytes_of}
use Rattle.ae_bundle.specs.Reading.{Without, opened}
use Rattle.ae_bundle.proofs.Cuts.{cut_once, fronts_once, Without-append}
use Rattle.ae_bundle.proofs.Plain.{decimal-without, action-without, usage-without, path-without}

-- ---- words

pub action_once : (a b : Action) → action_word a ≡ action_word b → a ≡ b
action_once a b e = same_Some a b (sym ((action_found (action_word a) a).1 refl) ∙ (action_found (action_word a) b).1 e)

pub usage_once : (a b : Usage) → usage_word a ≡ usage_word b → a ≡ b
usage_once a b e = same_Some a b (sym ((usage_found (usage_word a) a).1 refl) ∙ (usage_found (usage_word a) b).1 e)

pub cause_once : (a b : Cause) → cause_word a ≡ cause_word b → a ≡ b
cause_once a b e = same_Some a b (sym ((cause_found (cause_word a) a).1 refl) ∙ (cause_found (cause_word a) b).1 e)

-- ---- a number and what is after it

pub number_once : (n m : ℕ) (x y : List ℕ) → n < 2 ^ 64 → m < 2 ^ 64 → decimal n ++ 10 ∷ x ≡ decimal m ++ 10 ∷ y → (n ≡ m) × (x ≡ y)
number_once n m x y low high e =
    let both = cut_once 10 (decimal n) (decimal m) x y (decimal-without 10 n (omega arith) low) (decimal-without 10 m (omega arith) high) e in
    (decimal_injective n m low high both.0, both.1)

pub opened_once : (label : List ℕ) (n m : ℕ) (x y : List ℕ) → n < 2 ^ 64 → m < 2 ^ 64 → opened label n x ≡ opened label m y → (n ≡ m) × (x ≡ y)
opened_once label n m x y low high e = number_once n m x y low high (append_cancel_left label _ _ e)

-- a label, a number, and bytes before more
pub counted-opened : (label bytes more : List ℕ) → counted label bytes ++ more ≡ opened label (length bytes) (bytes ++ 10 ∷ more)
counted-opened label bytes more = simp append_assoc

pub counted_once : (label x y t u : List ℕ) → length x < 2 ^ 64 → length y < 2 ^ 64 → counted label x ++ t ≡ counted label y ++ u → (x ≡ y) × (t ≡ u)
counted_once label x y t u low high e =
    let both = opened_once label (length x) (length y) (x ++ 10 ∷ t) (y ++ 10 ∷ u) low high (sym (counted-opened label x t) ∙ e ∙ counted-opened label y u) in
    let parts = fronts_once x y (10 ∷ t) (10 ∷ u) both.0 both.1 in
    (parts.0, tails 10 10 t u parts.1)

-- ---- the words of a file

regroup : (a u p more : List ℕ) → (a ++ 32 ∷ (u ++ 32 ∷ (p ++ 32 ∷ []))) ++ more ≡ a ++ 32 ∷ (u ++ 32 ∷ (p ++ 32 ∷ more))
regroup a u p more = simp append_assoc

-- two files of the same line
pub record SameFile (a b : Action) (u v : Usage) (p q : List ℕ) (n m : ℕ) (x y : List ℕ) : Type 0 where
  pub action : a ≡ b
  pub usage : u ≡ v
  pub path : p ≡ q
  pub size : n ≡ m
  pub rest : x ≡ y

pub file_once : (a b : Action) (u v : Usage) (p q : List ℕ) (n m : ℕ) (x y : List ℕ) → IsPath p → IsPath q → n < 2 ^ 64 → m < 2 ^ 64
    → opened (file_label a u p) n x ≡ opened (file_label b v q) m y → SameFile a b u v p q n m x y
file_once a b u v p q n m x y is_p is_q low high e =
    let one = sym (regroup (action_word a) (usage_word u) p (decimal n ++ 10 ∷ x)) ∙ e ∙ regroup (action_word b) (usage_word v) q (decimal m ++ 10 ∷ y) in
    let two = cut_once 32 (action_word a) (action_word b) _ _ (action-without 32 a (omega arith)) (action-without 32 b (omega arith)) one in
    let three = cut_once 32 (usage_word u) (usage_word v) _ _ (usage-without 32 u (omega arith)) (usage-without 32 v (omega arith)) two.1 in
    let four = cut_once 32 p q _ _ (path-without 32 p (omega arith) is_p) (path-without 32 q (omega arith) is_q) three.1 in
    let five = number_once n m x y low high four.1 in
    record { action = action_once a b two.0; usage = usage_once u v three.0; path = four.0; size = five.0; rest = five.1 }

-- a file's line has no line end
pub label-without : (a : Action) (u : Usage) (p : List ℕ) → IsPath p → Without 10 (file_label a u p)
label-without a u p is =
    Without-append 10 (action_word a) (32 ∷ (usage_word u ++ 32 ∷ (p ++ 32 ∷ []))) (action-without 10 a (omega arith)) (blank (usage_word u ++ 32 ∷ (p ++ 32 ∷ []))
    (Without-append 10 (usage_word u) (32 ∷ (p ++ 32 ∷ [])) (usage-without 10 u (omega arith)) (blank (p ++ 32 ∷ [])
    (Without-append 10 p (32 ∷ []) (path-without 10 p (omega arith) is) (blank [] tt)))))
  where
    blank : (xs : List ℕ) → Without 10 xs → Without 10 (32 ∷ xs)
    blank xs rest = ((λ is. absurd (omega (arith, is))), rest)

pub line-without : (a : Action) (u : Usage) (p : List ℕ) (n : ℕ) → IsPath p → n < 2 ^ 64 → Without 10 (file_label a u p ++ decimal n)
line-without a u p n is low = Without-append 10 (file_label a u p) (decimal n) (label-without a u p is) (decimal-without 10 n (omega arith) low)

-- no file's line begins as the last line does
pub label-no_end : (a : Action) (u : Usage) (p x y : List ℕ) → file_label a u p ++ x ≡ end_label ++ y → ⊥
label-no_end action.Create u p x y e = absurd (omega (arith, heads _ _ _ _ e))
label-no_end action.Modify u p x y e = absurd (omega (arith, heads _ _ _ _ e))
label-no_end action.Remove u p x y e = absurd (omega (arith, heads _ _ _ _ e))

pub size-low : (a : Action) (n : ℕ) → n ≤ most_bytes_of a → n ≤ most_file_bytes
size-low action.Create n low = low
size-low action.Modify n low = low
size-low action.Remove n low = omega (arith, low)
