-- The words of a line, cut one after the other.
use Rattle.std.proofs.Common.{◌≡◌, ◌↔◌, ℕ, ◌<◌, ◌≤◌, ◌^◌, Bool, true, false, cond, List, [], ◌∷◌, ◌++◌, Option, Some, None, length, refl, sym, ap, subst, ◌∙◌, arith, append_assoc}
use Rattle.std.specs.Prelude.{nat_le, codes, IsTrue}
use Rattle.std.specs.Str.{bytes_eq}
use Rattle.ae_base.specs.Bytes.{read_as}
use Rattle.std.specs.Fmt.{decimal}
use Rattle.std.proofs.lemmas.Bool.Decides.{nat_tests}
use Rattle.std.proofs.lemmas.Fmt.{decimal_nonempty, length-decimal-le}
use Rattle.std.proofs.lemmas.Option.{same_Some}
use Rattle.ae_base.specs.Names.{is_path, IsPath}
use Rattle.ae_base.specs.Numbers.{number_from, number_within, in_range}
use Rattle.ae_base.specs.Words.{action_word, usage_word}
use Rattle.ae_base.specs.declared.words.Action.{Action}
use Rattle.ae_base.specs.declared.words.Usage.{Usage}
use Rattle.ae_bundle.specs.declared.fields.FileLine.{FileLine}
use Rattle.ae_bundle.specs.Bundled.{file_label, is_config, most_bytes_of}
use Rattle.ae_bundle.specs.Reading.{Without, IsCut, IsSize, HasWords, IsFileLine}
use Rattle.ae_bundle.proofs.Cuts.{cut_once, cut_nowhere}
use Rattle.ae_bundle.proofs.Plain.{action-without, usage-without, path-without}
use Rattle.ae_bundle.proofs.Once.{action_once, usage_once}
use Rattle.ae_bundle.proofs.ReadBack.{decimal-read}

-- ---- lengths

within-of : (ds : List ℕ) (n most : ℕ) → number_from 0 ds ≡ Some n → 0 < length ds → length ds ≤ 20 → n ≤ most → number_within 20 0 most ds ≡ Some n
within-of [] n most is some short low = absurd (omega (arith, some))
within-of (d ∷ ds) n most is some short low =
    let few : nat_le (length (d ∷ ds)) 20 ≡ true = grind (arith, nat_tests, short) in
    let least : nat_le 0 n ≡ true = grind (arith, nat_tests) in
    let highest : nat_le n most ≡ true = grind (arith, nat_tests, low) in
    ap (λ (b : Bool). cond b (in_range 0 most (number_from 0 (d ∷ ds))) None) few ∙ ap (in_range 0 most) is ∙ rw (least, highest) refl

-- the digits of a length are read as it
pub size-read : (most n : ℕ) → n ≤ most → most < 2 ^ 64 → number_within 20 0 most (decimal n) ≡ Some n
size-read most n low fits =
    within-of (decimal n) n most (decimal-read n (omega (arith, low, fits))) (decimal_nonempty n (omega (arith, low, fits))) (length-decimal-le 20 n (omega arith) (omega (arith, low, fits)) (omega (arith, low, fits))) low

-- what isn't read is no length
pub no_size : (most : ℕ) (digits : List ℕ) (r : Option ℕ) → most < 2 ^ 64 → r ≡ number_within 20 0 most digits → r ≡ None → (size : ℕ) → IsSize most digits size → ⊥
no_size most digits r fits read none size is = never (sym none ∙ read ∙ ap (number_within 20 0 most) is.written ∙ size-read most size is.within fits)
  where
    never : None ≡ Some size → ⊥
    never e = cc

-- nor is what is written otherwise
pub other_size : (most read : ℕ) (digits : List ℕ) (r : Option ℕ) → most < 2 ^ 64 → r ≡ number_within 20 0 most digits → r ≡ Some read → (decimal read ≡ digits → ⊥) → (size : ℕ) → IsSize most digits size → ⊥
other_size most read digits r fits is some other size so =
    let same : read ≡ size = same_Some read size (sym some ∙ is ∙ ap (number_within 20 0 most) so.written ∙ size-read most size so.within fits) in
    other (ap decimal same ∙ sym so.written)

-- ---- cuts

pub no_cut : (text : List ℕ) → Without 32 text → (first rest : List ℕ) → IsCut text first rest → ⊥
no_cut text none first rest is = cut_nowhere 32 first text rest (sym is.parts) none

pub cut_is : (text a b x y : List ℕ) → IsCut text a b → IsCut text x y → (a ≡ x) × (b ≡ y)
cut_is text a b x y p q = cut_once 32 a x b y p.whole q.whole (sym p.parts ∙ q.parts)

-- ---- where a word is wrong

abbrev NoWords : List ℕ → Type 0
NoWords text = (a : Action) (u : Usage) (p : List ℕ) (n : ℕ) → HasWords text a u p n → ⊥

pub no_first : (text : List ℕ) → ((f r : List ℕ) → IsCut text f r → ⊥) → NoWords text
no_first text none a u p n has = none _ _ has.first

pub no_second : (text w r : List ℕ) → IsCut text w r → ((f s : List ℕ) → IsCut r f s → ⊥) → NoWords text
no_second text w r one none a u p n has = none _ _ (subst (λ (t : List ℕ). IsCut t (usage_word u) has.after_usage) (sym (cut_is text w r _ _ one has.first).1) has.second)

-- the second word is the one that is cut
second_is : (text w r v s : List ℕ) (a : Action) (u : Usage) (p : List ℕ) (n : ℕ) → IsCut text w r → IsCut r v s → (has : HasWords text a u p n) → (v ≡ usage_word u) × (s ≡ has.after_usage)
second_is text w r v s a u p n one two has = cut_is r v s _ _ two (subst (λ (t : List ℕ). IsCut t (usage_word u) has.after_usage) (sym (cut_is text w r _ _ one has.first).1) has.second)

pub no_third : (text w r v s : List ℕ) → IsCut text w r → IsCut r v s → ((f t : List ℕ) → IsCut s f t → ⊥) → NoWords text
no_third text w r v s one two none a u p n has = none _ _ (subst (λ (t : List ℕ). IsCut t p has.digits) (sym (second_is text w r v s a u p n one two has).1) has.third)

third_is : (text w r v s q ds : List ℕ) (a : Action) (u : Usage) (p : List ℕ) (n : ℕ) → IsCut text w r → IsCut r v s → IsCut s q ds → (has : HasWords text a u p n) → (q ≡ p) × (ds ≡ has.digits)
third_is text w r v s q ds a u p n one two three has = cut_is s q ds _ _ three (subst (λ (t : List ℕ). IsCut t p has.digits) (sym (second_is text w r v s a u p n one two has).1) has.third)

pub no_action : (text w r : List ℕ) → IsCut text w r → ((x : Action) → w ≡ action_word x → ⊥) → NoWords text
no_action text w r one none a u p n has = none a (cut_is text w r _ _ one has.first).0

pub no_usage : (text w r v s : List ℕ) → IsCut text w r → IsCut r v s → ((x : Usage) → v ≡ usage_word x → ⊥) → NoWords text
no_usage text w r v s one two none a u p n has = none u (second_is text w r v s a u p n one two has).0

pub no_length : (text w r v s q ds : List ℕ) (x : Action) → IsCut text w r → IsCut r v s → IsCut s q ds → w ≡ action_word x → ((size : ℕ) → IsSize (most_bytes_of x) ds size → ⊥) → NoWords text
no_length text w r v s q ds x one two three is none a u p n has =
    let same : x ≡ a = action_once x a (sym is ∙ (cut_is text w r _ _ one has.first).0) in
    none n (subst (λ (y : Action). IsSize (most_bytes_of y) ds n) (sym same) (subst (λ (t : List ℕ). IsSize (most_bytes_of a) t n) (sym (third_is text w r v s q ds a u p n one two three has).1) has.last))

pub words_are : (text w r v s q ds : List ℕ) (a : Action) (u : Usage) (n : ℕ) → IsCut text w r → IsCut r v s → IsCut s q ds → w ≡ action_word a → v ≡ usage_word u → IsSize (most_bytes_of a) ds n → HasWords text a u q n
words_are text w r v s q ds a u n one two three first second last = record {
  after_action = r;
  after_usage = s;
  digits = ds;
  first = subst (λ (t : List ℕ). IsCut text t r) first one;
  second = subst (λ (t : List ℕ). IsCut r t s) second two;
  third = three;
  last = last;
}

-- what a word reads as
pub no_word : {A : Type 0} (word : A → List ℕ) (r : Option A) (text : List ℕ) → ((x : A) → (r ≡ Some x) ↔ (text ≡ word x)) → r ≡ None → (x : A) → text ≡ word x → ⊥
no_word {A = A} word r text read none x is = never x (sym none ∙ (read x).1 is)
  where
    never : (x : A) → None ≡ Some x → ⊥
    never x e = cc

-- ---- the whole line

pub words_line : (text : List ℕ) (a : Action) (u : Usage) (p : List ℕ) (n : ℕ) → HasWords text a u p n → text ≡ file_label a u p ++ decimal n
words_line text a u p n has =
    has.first.parts ∙ ap (λ (t : List ℕ). action_word a ++ 32 ∷ t) (has.second.parts ∙ ap (λ (t : List ℕ). usage_word u ++ 32 ∷ t) (has.third.parts ∙ ap (λ (t : List ℕ). p ++ 32 ∷ t) has.last.written))
    ∙ regroup (action_word a) (usage_word u) p (decimal n)
  where
    regroup : (a u p d : List ℕ) → a ++ 32 ∷ (u ++ 32 ∷ (p ++ 32 ∷ d)) ≡ (a ++ 32 ∷ (u ++ 32 ∷ (p ++ 32 ∷ []))) ++ d
    regroup a u p d = simp append_assoc

pub line_words : (text : List ℕ) (file : FileLine) → IsFileLine text file → HasWords text file.action file.usage file.path file.size
line_words text file is = record {
  after_action = usage_word file.usage ++ 32 ∷ (file.path ++ 32 ∷ decimal file.size);
  after_usage = file.path ++ 32 ∷ decimal file.size;
  digits = decimal file.size;
  first = record { parts = is.written ∙ regroup (action_word file.action) (usage_word file.usage) file.path (decimal file.size); whole = action-without 32 file.action (omega arith) };
  second = record { parts = refl; whole = usage-without 32 file.usage (omega arith) };
  third = record { parts = refl; whole = path-without 32 file.path (omega arith) is.fits.is_path };
  last = record { within = is.fits.within; written = refl };
}
  where
    regroup : (a u p d : List ℕ) → (a ++ 32 ∷ (u ++ 32 ∷ (p ++ 32 ∷ []))) ++ d ≡ a ++ 32 ∷ (u ++ 32 ∷ (p ++ 32 ∷ d))
    regroup a u p d = simp append_assoc

-- a line has one set of words
pub words_once : (text : List ℕ) (a b : Action) (u v : Usage) (p q : List ℕ) (n m : ℕ) → HasWords text a u p n → HasWords text b v q m → (u ≡ v) × (p ≡ q)
words_once text a b u v p q n m one two =
    let first = cut_is text (action_word a) one.after_action (action_word b) two.after_action one.first two.first in
    let second = second_is text (action_word a) one.after_action (usage_word u) one.after_usage b v q m one.first one.second two in
    let third = third_is text (action_word a) one.after_action (usage_word u) one.after_usage p one.digits b v q m one.first one.second one.third two in
    (usage_once u v second.0, third.0)

-- ---- its path, and its usage

pub path_read : (r : Option (List ℕ)) (p q : List ℕ) → r ≡ read_as is_path p → r ≡ Some q → (q ≡ p) × IsPath p
path_read r p q read some = go (is_path p) refl (sym some ∙ read)
  where
    go : (b : Bool) → is_path p ≡ b → Some q ≡ cond b (Some p) None → (q ≡ p) × IsPath p
    go true is e = (same_Some q p e, is)
    go false is e = absurd (cc e)

no_path_read : (r : Option (List ℕ)) (p : List ℕ) → r ≡ read_as is_path p → r ≡ None → IsPath p → ⊥
no_path_read r p read none is = never (sym none ∙ read ∙ ap (λ (b : Bool). cond b (Some p) None) is)
  where
    never : None ≡ Some p → ⊥
    never e = cc

pub no_path : (text : List ℕ) (a : Action) (u : Usage) (p : List ℕ) (n : ℕ) (r : Option (List ℕ)) → HasWords text a u p n → r ≡ read_as is_path p → r ≡ None → (file : FileLine) → IsFileLine text file → ⊥
no_path text a u p n r has read none file is =
    let same = words_once text a file.action u file.usage p file.path n file.size has (line_words text file is) in
    no_path_read r p read none (subst IsPath (sym same.1) is.fits.is_path)

pub no_fit : (text : List ℕ) (a : Action) (u : Usage) (p q : List ℕ) (n : ℕ) (t : Bool) → HasWords text a u p n → q ≡ p → (IsTrue t ↔ (is_config u ≡ bytes_eq q (codes "aegis.conf"))) → t ≡ false → (file : FileLine) → IsFileLine text file → ⊥
no_fit text a u p q n t has path tells not_so file is =
    let same = words_once text a file.action u file.usage p file.path n file.size has (line_words text file is) in
    never (sym (tells.1 (ap is_config same.0 ∙ is.fits.config ∙ ap (λ (x : List ℕ). bytes_eq x (codes "aegis.conf")) (sym same.1 ∙ sym path))) ∙ not_so)
  where
    never : true ≡ false → ⊥
    never e = cc

pub line_is_file : (text : List ℕ) (a : Action) (u : Usage) (p q : List ℕ) (n : ℕ) → HasWords text a u p n → q ≡ p → IsPath p → is_config u ≡ bytes_eq q (codes "aegis.conf") → IsFileLine text (record { action = a; usage = u; path = q; size = n })
line_is_file text a u p q n has path is config = record {
  written = words_line text a u p n has ∙ ap (λ (x : List ℕ). file_label a u x ++ decimal n) (sym path);
  fits = record { is_path = subst IsPath (sym path) is; config = config; within = has.last.within };
}
