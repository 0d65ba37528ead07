-- The text of the file that names a delta is read as that delta.
use Rattle.std.specs.Prelude.{◌≡◌, ◌==◌, ◌+◌, ◌≤◌, ◌<◌, ℕ, Bool, true, false, cond, List, [], ◌∷◌, ◌++◌, take, drop, length, nat_le, codes, Option, Some, None, Result, Ok, Err, IsSomeAnd}
use Rattle.std.specs.Fmt.{decimal}
use Rattle.std.specs.Option.{option_map_or}
use Rattle.std.proofs.Common.{inl, inr, refl, sym, ap, subst, ◌∙◌, arith}
use Rattle.std.proofs.lemmas.Bool.{eqb-true}
use Rattle.std.proofs.lemmas.Bool.Decides.{nat_tests}
use Rattle.std.proofs.lemmas.Fmt.{decimal_nonempty, length-decimal-le}
use Rattle.std.proofs.lemmas.List.{append_cancel_left, append_cancel_right, length-append, length-take, take_all}
use Rattle.std.proofs.lemmas.Option.{same_Some}
use Rattle.ae_base.specs.Limits.{most_deltas}
use Rattle.ae_base.specs.Numbers.{delta_number, in_range, number_from}
use Rattle.ae_base.specs.declared.outcome.Outcome.{Outcome}
use Rattle.ae_base.specs.declared.outcome.Outcome.TheVariants as outcome
use Rattle.ae_outside.specs.Image.{Image}
use Rattle.ae_outside.specs.State.{DiskState}
use Rattle.ae_types.proofs.Places.{no-items}
use Rattle.ae_vault.specs.Vault.{effective}
use Rattle.ae_exec.specs.Endings.{OthersSame, OthersStay}
use Rattle.ae_bundle.proofs.ReadBack.{decimal-read}
use Rattle.ae_branch.specs.Origin.{HaveOrigin, IsDamagedOrigin, NamesOrigin, named, no_branch, not_understood, origin_bytes, origin_file, origin_text}
use Rattle.ae_branch.specs.Steps.{AnswersAs, SaysOne, damaged, memory}

-- ---- its number

within_of : (ds : List ℕ) (n : ℕ) → number_from 0 ds ≡ Some n → 0 < length ds → length ds ≤ 10 → n ≤ most_deltas → delta_number ds ≡ Some n
within_of [] n is some short low = absurd (omega (arith, some))
within_of (d ∷ ds) n is some short low =
    let few : nat_le (length (d ∷ ds)) 10 ≡ true = grind (arith, nat_tests, short) in
    let least : nat_le 0 n ≡ true = grind (arith, nat_tests) in
    let highest : nat_le n most_deltas ≡ true = grind (arith, nat_tests, low) in
    ap (λ (b : Bool). cond b (in_range 0 most_deltas (number_from 0 (d ∷ ds))) None) few ∙ ap (in_range 0 most_deltas) is ∙ rw (least, highest) refl

digits_few : (n : ℕ) → n ≤ most_deltas → length (decimal n) ≤ 4
digits_few n low = length-decimal-le 4 n (omega arith) (omega (arith, low)) (omega (arith, low))

pub number_read : (n : ℕ) → n ≤ most_deltas → delta_number (decimal n) ≡ Some n
number_read n low = within_of (decimal n) n (decimal-read n (omega (arith, low))) (decimal_nonempty n (omega (arith, low))) (omega (arith, digits_few n low)) low

-- the digits that stand in a text are those of the delta whose text it is
pub digits_are : (text rest digits : List ℕ) (delta : ℕ) → text ≡ codes "delta = " ++ rest → rest ≡ digits ++ codes ";\n" → text ≡ origin_text delta → digits ≡ decimal delta
digits_are text rest digits delta front end is =
    let same : rest ≡ decimal delta ++ codes ";\n" = append_cancel_left (codes "delta = ") rest (decimal delta ++ codes ";\n") (sym front ∙ is) in
    append_cancel_right digits (decimal delta) (codes ";\n") (sym end ∙ same)

-- no delta has a text that begins or ends otherwise
pub no_front : (text : List ℕ) → ((rest : List ℕ) → text ≡ codes "delta = " ++ rest → ⊥) → (delta : ℕ) → text ≡ origin_text delta → ⊥
no_front text none delta is = none (decimal delta ++ codes ";\n") is

pub no_end : (text rest : List ℕ) → text ≡ codes "delta = " ++ rest → ((digits : List ℕ) → rest ≡ digits ++ codes ";\n" → ⊥) → (delta : ℕ) → text ≡ origin_text delta → ⊥
no_end text rest front none delta is = none (decimal delta) (append_cancel_left (codes "delta = ") rest (decimal delta ++ codes ";\n") (sym front ∙ is))

pub delta_read : (text rest digits : List ℕ) (delta : ℕ) → text ≡ codes "delta = " ++ rest → rest ≡ digits ++ codes ";\n" → delta ≤ most_deltas → text ≡ origin_text delta → delta_number digits ≡ Some delta
delta_read text rest digits delta front end low is = ap delta_number (digits_are text rest digits delta front end is) ∙ number_read delta low

-- ---- one delta has a text

pub same_delta : (m n : ℕ) → m ≤ most_deltas → n ≤ most_deltas → origin_text m ≡ origin_text n → m ≡ n
same_delta m n low high same =
    let digits : decimal m ≡ decimal n = digits_are (origin_text m) (decimal m ++ codes ";\n") (decimal m) n refl refl same in
    same_Some m n (sym (number_read m low) ∙ ap delta_number digits ∙ number_read n high)

some_text : (n : ℕ) → origin_text n ≡ [] → ⊥
some_text n none = cc

pub names_one : (bytes : List ℕ) → SaysOne (NamesOrigin bytes)
names_one bytes _ _ (named m low is) (named n high was) = ap Ok (same_delta m n low high (sym is ∙ was))
names_one bytes _ _ (named m low is) (no_branch none) = absurd (some_text m (sym is ∙ none))
names_one bytes _ _ (named m low is) (not_understood some other) = absurd (other m low is)
names_one bytes _ _ (no_branch none) (named n high was) = absurd (some_text n (sym was ∙ none))
names_one bytes _ _ (no_branch none) (no_branch also) = refl
names_one bytes _ _ (no_branch none) (not_understood some other) = absurd (some none)
names_one bytes _ _ (not_understood some other) (named n high was) = absurd (other n high was)
names_one bytes _ _ (not_understood some other) (no_branch none) = absurd (some none)
names_one bytes _ _ (not_understood some other) (not_understood also others) = refl

-- ---- the first bytes of the file say what it says

text_short : (n : ℕ) → n ≤ most_deltas → length (origin_text n) < 16
text_short n low =
    let front : length (origin_text n) ≡ 8 + length (decimal n ++ codes ";\n") = length-append (codes "delta = ") (decimal n ++ codes ";\n") in
    let end : length (decimal n ++ codes ";\n") ≡ length (decimal n) + 2 = length-append (decimal n) (codes ";\n") in
    omega (arith, front, end, digits_few n low)

whole_of : (bytes : List ℕ) → length (take 16 bytes) < 16 → take 16 bytes ≡ bytes
whole_of bytes short = take_all 16 bytes (omega (arith, length-take 16 bytes, short))

pub names_whole : (text bytes : List ℕ) → text ≡ take 16 bytes → (said : Result ℕ Outcome) → NamesOrigin text said → NamesOrigin bytes said
names_whole text bytes first _ (named delta low is) =
    let short : length (take 16 bytes) < 16 = subst (λ (t : List ℕ). length t < 16) (sym is ∙ first) (text_short delta low) in
    named delta low (sym (whole_of bytes short) ∙ sym first ∙ is)
names_whole text bytes first _ (no_branch none) =
    let short : length (take 16 bytes) < 16 = subst (λ (t : List ℕ). length t < 16) (sym none ∙ first) (omega arith) in
    no_branch (sym (whole_of bytes short) ∙ sym first ∙ none)
names_whole text bytes first _ (not_understood some other) =
    not_understood (λ none. some (first ∙ ap (take 16) none)) (λ delta low is.
    let short : length bytes < 16 = subst (λ (t : List ℕ). length t < 16) (sym is) (text_short delta low) in
    other delta low (first ∙ take_all 16 bytes (omega (arith, short)) ∙ is))

-- what is read of the file
pub first_bytes : (image : Image) (text bytes : List ℕ) → text ≡ bytes → IsSomeAnd (effective image) (λ files. bytes ≡ take 16 (drop 0 (files origin_file))) → text ≡ take 16 (origin_bytes image)
first_bytes image text bytes same read = same ∙ go (effective image) read
  where
    go : (files : Option Image) → IsSomeAnd files (λ f. bytes ≡ take 16 (drop 0 (f origin_file))) → bytes ≡ take 16 (option_map_or (λ (f : Image). f origin_file) files [])
    go (Some files) is = is
    go None is = absurd is

-- a text with no bytes is empty, and any other isn't
pub was_empty : (text : List ℕ) (empty : Bool) → empty ≡ (length text == 0) → empty ≡ true → text ≡ []
was_empty text empty is true_is = no-items text (eqb-true (length text) 0 (sym is ∙ true_is))

pub not_empty : (text : List ℕ) (empty : Bool) → empty ≡ (length text == 0) → empty ≡ false → text ≡ [] → ⊥
not_empty [] empty is false_is none = let both : true ≡ false = sym is ∙ false_is in cc
not_empty (b ∷ text) empty is false_is none = cc

-- ---- a damaged file

pub damaged_as : {A : Type 0} (told : Type 0) (S : Result A Outcome → Type 0) (rose : Type 0) (why : Outcome) → IsDamagedOrigin why → (told → S (Err (outcome.Damaged origin_file))) → AnswersAs told S rose (Err why)
damaged_as {A} told S rose why (inl is) says = subst (λ (o : Outcome). AnswersAs told S rose (Err o)) (sym is) (damaged origin_file says)
damaged_as {A} told S rose why (inr is) says = subst (λ (o : Outcome). AnswersAs told S rose (Err o)) (sym is) memory

-- ---- a command that changes nothing leaves the file as it was

different : (a b : ℕ) (xs ys : List ℕ) → (a ≡ b → ⊥) → a ∷ xs ≡ b ∷ ys → ⊥
different a b xs ys apart same = apart (let one : a ≡ b = cc in one)

pub origin_stays : (base disk : Image) → OthersSame (effective base) (effective disk) → origin_bytes disk ≡ origin_bytes base
origin_stays base disk others = go (effective base) (effective disk) others
  where
    go : (a b : Option Image) → OthersSame a b → option_map_or (λ (files : Image). files origin_file) b [] ≡ option_map_or (λ (files : Image). files origin_file) a []
    go None b is = ap (λ (files : Option Image). option_map_or (λ (f : Image). f origin_file) files []) is
    go (Some a) None is = absurd is
    go (Some a) (Some b) is =
        is origin_file (different 116 112 _ _ (λ e. absurd (omega (arith, e)))) (different 116 112 _ _ (λ e. absurd (omega (arith, e)))) (different 116 102 _ _ (λ e. absurd (omega (arith, e))))
        (λ number. different 116 99 _ _ (λ e. absurd (omega (arith, e))))

-- nor does any stop lose it, where it loses no other file
pub origin_kept : (delta : ℕ) (base disk : DiskState) → base.moment ≤ disk.moment → OthersStay base disk → HaveOrigin delta base → HaveOrigin delta disk
origin_kept delta base disk later stay have image may = (let one = stay disk.moment image later (omega arith) may in origin_stays one.0 image one.2 ∙ have one.0 one.1)
