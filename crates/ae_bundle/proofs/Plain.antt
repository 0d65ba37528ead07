-- Words, paths, digits and hex digits have no blank and no line end.
use Rattle.std.proofs.Common.{◌≡◌, ℕ, zero, suc, ◌<◌, ◌≤◌, ◌^◌, ◌/◌, ◌%◌, refl, List, [], ◌∷◌, Bool, true, false, ◌&&◌, cond, not, get_or, arith}
use Rattle.std.specs.Prelude.{nat_lt, nat_le, codes, length}
use Rattle.std.specs.List.{list_all}
use Rattle.std.specs.Fmt.{decimal}
use Rattle.std.specs.Str.{bytes_eq}
use Rattle.std.specs.Str.Parse.{AllDigits}
use Rattle.std.specs.Char.{digit_value}
use Rattle.std.proofs.lemmas.Bool.Decides.{nat_tests}
use Rattle.std.proofs.lemmas.Fmt.{decimal_is_IsNumeral}
use Rattle.std.proofs.lemmas.Bool.{and_parts, and_from}
use Rattle.hex.specs.Hex.{encode_with, encode_lower, lower_digits}
use Rattle.ae_base.specs.Names.{is_path_byte, is_part, is_slash, parts, before_first_part, starts_with_dash, IsPath}
use Rattle.ae_base.specs.Words.{action_word, usage_word, cause_word}
use Rattle.ae_base.specs.declared.words.Action.{Action}
use Rattle.ae_base.specs.declared.words.Action.TheVariants as action
use Rattle.ae_base.specs.declared.words.Usage.{Usage}
use Rattle.ae_base.specs.declared.words.Usage.TheVariants as usage
use Rattle.ae_base.specs.declared.words.Cause.{Cause}
use Rattle.ae_base.specs.declared.words.Cause.TheVariants as cause
use Rattle.ae_bundle.specs.Reading.{Without}

-- a byte after the blank
abbrev is_plain : ℕ → Bool
is_plain b = nat_lt 32 b

abbrev IsPlain : List ℕ → Type 0
IsPlain bytes = list_all is_plain bytes ≡ true

plain-apart : (b c : ℕ) → is_plain b ≡ true → c ≤ 32 → b ≡ c → ⊥
plain-apart b c plain low same = grind (arith, nat_tests)

pub plain-without : (c : ℕ) (bytes : List ℕ) → c ≤ 32 → list_all is_plain bytes ≡ true → Without c bytes
plain-without c [] low all = tt
plain-without c (b ∷ bs) low all = (plain-apart b c ((and_parts (is_plain b) (list_all is_plain bs) all).0) low, plain-without c bs low ((and_parts (is_plain b) (list_all is_plain bs) all).1))

-- ---- digits

digit-plain : (c : ℕ) → digit_value c < 10 → is_plain c ≡ true
digit-plain c low = grind (arith, nat_tests)

digits-plain : (cs : List ℕ) → AllDigits 10 cs → IsPlain cs
digits-plain [] all = refl
digits-plain (c ∷ cs) all = and_from _ _ (digit-plain c all.0) (digits-plain cs all.1)

pub decimal-without : (c n : ℕ) → c ≤ 32 → n < 2 ^ 64 → Without c (decimal n)
decimal-without c n low fits = plain-without c (decimal n) low (digits-plain (decimal n) (decimal_is_IsNumeral n fits).0.1)

-- ---- words

pub action-without : (c : ℕ) (a : Action) → c ≤ 32 → Without c (action_word a)
action-without c action.Create low = plain-without c (action_word action.Create) low refl
action-without c action.Modify low = plain-without c (action_word action.Modify) low refl
action-without c action.Remove low = plain-without c (action_word action.Remove) low refl

pub usage-without : (c : ℕ) (u : Usage) → c ≤ 32 → Without c (usage_word u)
usage-without c usage.Source low = plain-without c (usage_word usage.Source) low refl
usage-without c usage.Config low = plain-without c (usage_word usage.Config) low refl
usage-without c usage.Test low = plain-without c (usage_word usage.Test) low refl

pub cause-without : (c : ℕ) (x : Cause) → c ≤ 32 → Without c (cause_word x)
cause-without c cause.ExternalBug low = plain-without c (cause_word cause.ExternalBug) low refl
cause-without c cause.ExternalEnhancement low = plain-without c (cause_word cause.ExternalEnhancement) low refl
cause-without c cause.ExternalImprovement low = plain-without c (cause_word cause.ExternalImprovement) low refl
cause-without c cause.InternalBug low = plain-without c (cause_word cause.InternalBug) low refl
cause-without c cause.InternalEnhancement low = plain-without c (cause_word cause.InternalEnhancement) low refl
cause-without c cause.InternalImprovement low = plain-without c (cause_word cause.InternalImprovement) low refl
cause-without c cause.Chain low = plain-without c (cause_word cause.Chain) low refl

-- ---- paths

path-byte-plain : (b : ℕ) → is_path_byte b ≡ true → is_plain b ≡ true
path-byte-plain b is = grind (arith, nat_tests)

slash-plain : (b : ℕ) → is_slash b ≡ true → is_plain b ≡ true
slash-plain b is = grind (arith, nat_tests)

abbrev PartsPlain : List (List ℕ) → Type 0
PartsPlain ps = list_all (λ part. list_all is_plain part) ps ≡ true

bytes-plain : (bs : List ℕ) → list_all is_path_byte bs ≡ true → IsPlain bs
bytes-plain [] e = refl
bytes-plain (b ∷ bs) e = and_from _ _ (path-byte-plain b ((and_parts _ _ e).0)) (bytes-plain bs ((and_parts _ _ e).1))

parts-plain : (ps : List (List ℕ)) → list_all is_part ps ≡ true → PartsPlain ps
parts-plain [] e = refl
parts-plain (p ∷ ps) e =
    let here = (and_parts _ (list_all is_path_byte p) ((and_parts (is_part p) (list_all is_part ps) e).0)).1 in
    and_from _ _ (bytes-plain p here) (parts-plain ps ((and_parts (is_part p) _ e).1))

whole-plain : (text : List ℕ) → PartsPlain (parts text) → IsPlain text
whole-plain [] all = refl
whole-plain (b ∷ bs) all = go (is_slash b) refl all (whole-plain bs)
  where
    first : (ps : List (List ℕ)) → PartsPlain (before_first_part b ps) → (is_plain b ≡ true) × PartsPlain ps
    first [] all = ((and_parts _ _ ((and_parts _ _ all).0)).0, refl)
    first (p ∷ ps) all = ((and_parts _ _ ((and_parts _ _ all).0)).0, and_from _ _ ((and_parts (is_plain b) _ ((and_parts _ _ all).0)).1) ((and_parts (list_all is_plain (b ∷ p)) _ all).1))

    go : (slash : Bool) → is_slash b ≡ slash → PartsPlain (cond slash ([] ∷ parts bs) (before_first_part b (parts bs))) → (PartsPlain (parts bs) → IsPlain bs) → IsPlain (b ∷ bs)
    go true is all rest = and_from _ _ (slash-plain b is) (rest all)
    go false is all rest = let p = first (parts bs) all in and_from _ _ p.0 (rest p.1)

pub path-without : (c : ℕ) (path : List ℕ) → c ≤ 32 → IsPath path → Without c path
path-without c path low is = plain-without c path low (whole-plain path (parts-plain (parts path) ((and_parts _ (list_all is_part (parts path)) is).1)))

pub path-short : (path : List ℕ) → IsPath path → length path ≤ 255
path-short path is =
    let front = (and_parts (not (starts_with_dash path) && not (bytes_eq path (codes "aegis.log")) && nat_le (length path) 255) (list_all is_part (parts path)) is).0 in
    let short = (and_parts (not (starts_with_dash path) && not (bytes_eq path (codes "aegis.log"))) (nat_le (length path) 255) front).1 in
    grind (arith, nat_tests, short)

-- ---- hex digits

reads-apart : (c : ℕ) (xs : List ℕ) (k : ℕ) → Without c xs → (0 ≡ c → ⊥) → get_or xs k 0 ≡ c → ⊥
reads-apart c [] k all none is = none is
reads-apart c (x ∷ xs) zero all none is = all.0 is
reads-apart c (x ∷ xs) (suc k) all none is = reads-apart c xs k all.1 none is

pub hex-without : (c : ℕ) (bytes : List ℕ) → 1 ≤ c → c ≤ 32 → Without c (encode_lower bytes)
unfolding encode_with
hex-without c [] low high = tt
hex-without c (b ∷ bs) low high =
    let digits : Without c lower_digits = plain-without c lower_digits high refl in
    let some : 0 ≡ c → ⊥ = λ is. absurd (omega (arith, is, low)) in
    (reads-apart c lower_digits (b / 16) digits some, (reads-apart c lower_digits (b % 16) digits some, hex-without c bs low high))
