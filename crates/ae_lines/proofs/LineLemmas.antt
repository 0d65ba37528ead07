-- What a line says, and what it keeps.
use Rattle.std.specs.Prelude.{◌≡◌, ◌<◌, ◌≤◌, ◌==◌, ◌&&◌, ◌++◌, nat_le, ℕ, Bool, true, false, List, [], ◌∷◌, Option, Some, None, Result, IfOk, IfNone, codes, if◌then◌else◌}
use Rattle.std.specs.Str.{bytes_eq}
use Rattle.std.specs.List.{list_all}
use Rattle.std.specs.Str.{IsAscii, IsUtf8}
use Rattle.std.proofs.lemmas.Str.{IsUtf8-from_ascii}
use Rattle.std.proofs.lemmas.Bool.Decides.{nat_tests}
use Rattle.std.proofs.Common.{refl, sym, ap, ◌∙◌, arith, subst}
use Rattle.std.specs.Option.{option_map, option_and_then}
use Rattle.std.proofs.lemmas.Bool.{and_parts}
use Rattle.ae_base.proofs.Ascii.{cons_small}
use Rattle.ae_base.specs.Bytes.{read_as}
use Rattle.ae_base.specs.Limits.{most_deltas}
use Rattle.ae_base.specs.Numbers.{change_number, delta_number}
use Rattle.ae_base.specs.Names.{is_path}
use Rattle.ae_outside.specs.declared.dir.Dir.{Dir}
use Rattle.ae_outside.specs.declared.dir.Dir.TheVariants.{Here, Develop, Integrate, Base}
use Rattle.ae_words.specs.Formed.{is_change_number}
use Rattle.ae_words.proofs.Formed.{within}
use Rattle.ae_lines.specs.Line.{IsDir, IsPlace, after_beginning, or_else, integrate_dir, develop_named, integrate_named, base_named, place_of, dir_named, is_ascii_word, Said, asks, wrong, said_or_wrong, said_by, as_line, at_line, put_line, fill_line, drop_line, Means}
use Rattle.ae_lines.specs.declared.line.Line.{Line}

-- ---- directories and files

change_dir : (make : ℕ → Dir) → ((n : ℕ) → is_change_number n ≡ true → IsDir (make n)) → (o : Option (List ℕ)) (d : Dir)
    → option_map make (option_and_then change_number o) ≡ Some d → IsDir d
change_dir make fits None d e = absurd (cc e)
change_dir make fits (Some v) d e = go (change_number v) refl e
  where
    go : (m : Option ℕ) → change_number v ≡ m → option_map make m ≡ Some d → IsDir d
    go None is e = absurd (cc e)
    go (Some n) is e = (let same : make n ≡ d = (let known : Some (make n) ≡ Some d = e in cc) in subst (λ (x : Dir). IsDir x) same (fits n (within 10 10 1999 v n is)))

from_one : (n : ℕ) → (n == 0) ≡ false → (nat_le 0 n && nat_le n most_deltas) ≡ true → (1 ≤ n) × (n ≤ most_deltas)
from_one n first fits = grind (arith, nat_tests)

delta_dir : (o : Option (List ℕ)) (d : Dir) → option_and_then integrate_dir (option_and_then delta_number o) ≡ Some d → IsDir d
delta_dir None d e = absurd (cc e)
delta_dir (Some v) d e = go (delta_number v) refl e
  where
    made : (n : ℕ) (b : Bool) → (n == 0) ≡ b → delta_number v ≡ Some n → (if b then None else Some (Integrate n)) ≡ Some d → IsDir d
    made n true first is e = absurd (cc e)
    made n false first is e =
        (let same : Integrate n ≡ d = (let known : Some (Integrate n) ≡ Some d = e in cc) in subst (λ (x : Dir). IsDir x) same (from_one n first (within 10 0 most_deltas v n is)))

    go : (m : Option ℕ) → delta_number v ≡ m → option_and_then integrate_dir m ≡ Some d → IsDir d
    go None is e = absurd (cc e)
    go (Some n) is e = made n (n == 0) refl is e

either_dir : (a b : Option Dir) → ((d : Dir) → a ≡ Some d → IsDir d) → ((d : Dir) → b ≡ Some d → IsDir d) → (d : Dir) → or_else a b ≡ Some d → IsDir d
either_dir None b first second d e = second d e
either_dir (Some x) b first second d e = first d e

here_or : (b : Bool) (o : Option Dir) → ((d : Dir) → o ≡ Some d → IsDir d) → (d : Dir) → (if b then Some Here else o) ≡ Some d → IsDir d
here_or true o others d e = (let same : Here ≡ d = (let known : Some Here ≡ Some d = e in cc) in subst (λ (x : Dir). IsDir x) same tt)
here_or false o others d e = others d e

-- a directory that is named is one
named_dir : (word : List ℕ) (d : Dir) → dir_named word ≡ Some d → IsDir d
named_dir word =
    here_or (bytes_eq word (codes "here")) (or_else (develop_named word) (or_else (integrate_named word) (base_named word)))
    (either_dir (develop_named word) (or_else (integrate_named word) (base_named word))
    (λ d e. change_dir (λ (n : ℕ). Develop n) (λ n fits. fits) (after_beginning (codes "develop.") word) d e)
    (either_dir (integrate_named word) (base_named word)
    (λ d e. delta_dir (after_beginning (codes "integrate.") word) d e)
    (λ d e. change_dir (λ (n : ℕ). Base n) (λ n fits. fits) (after_beginning (codes "base.") word) d e)))

-- a place that is named is one
pub named_place : (dir path : List ℕ) (p : Dir × List ℕ) → Some p ≡ place_of dir path → IsPlace p.0 p.1
named_place dir path p is = go (is_path path) refl (sym is)
  where
    dirs : (o : Option Dir) → dir_named dir ≡ o → is_path path ≡ true → option_map (λ (d : Dir). (d, path)) o ≡ Some p → IsPlace p.0 p.1
    dirs None named good e = absurd (cc e)
    dirs (Some d) named good e =
        (let same : (d, path) ≡ p = (let known : Some (d, path) ≡ Some p = e in cc) in subst (λ (q : Dir × List ℕ). IsPlace q.0 q.1) same (named_dir dir d named, good))

    go : (b : Bool) → is_path path ≡ b → (if b then option_map (λ (d : Dir). (d, path)) (dir_named dir) else None) ≡ Some p → IsPlace p.0 p.1
    go true good e = dirs (dir_named dir) refl good e
    go false bad e = absurd (cc e)

pub place_is : (dir path read : List ℕ) (d : Dir) → Some read ≡ read_as is_path path → dir_named dir ≡ Some d → Some (d, read) ≡ place_of dir path
place_is dir path read d is named = go (is_path path) refl
  where
    go : (b : Bool) → is_path path ≡ b → Some (d, read) ≡ place_of dir path
    go true good = let same : read ≡ path = (let known : Some read ≡ Some path = is ∙ (rw good refl) in cc) in rw (good, named, same) refl
    go false bad = absurd (let none : Some read ≡ None = is ∙ (rw bad refl) in cc)

nothing_small : IsAscii []
nothing_small i = omega arith

word_small : (b : ℕ) → nat_le b 127 ≡ true → b < 128
word_small b is = grind (arith, nat_tests)

all_small : (word : List ℕ) → is_ascii_word word ≡ true → IsAscii word
all_small [] is = nothing_small
all_small (b ∷ bs) is = cons_small b bs (word_small b ((and_parts (nat_le b 127) (is_ascii_word bs) is).0)) (all_small bs ((and_parts (nat_le b 127) (is_ascii_word bs) is).1))

-- a word of bytes below 128 is text
pub utf8_word : (word : List ℕ) → is_ascii_word word ≡ true → IsUtf8 word
utf8_word word is = IsUtf8-from_ascii word (all_small word is)

pub all_more : (words : List (List ℕ)) (word : List ℕ) → list_all is_ascii_word words ≡ true → is_ascii_word word ≡ true → list_all is_ascii_word (words ++ word ∷ []) ≡ true
all_more [] word all is = rw is refl
all_more (w ∷ words) word all is = rw ((and_parts (is_ascii_word w) (list_all is_ascii_word words) all).0) (all_more words word ((and_parts (is_ascii_word w) (list_all is_ascii_word words) all).1) is)

pub test_is : (name word text : List ℕ) (r b : Bool) → r ≡ bytes_eq name word → word ≡ text → r ≡ b → bytes_eq name text ≡ b
test_is name word text r b equal same is = ap (λ (t : List ℕ). bytes_eq name t) (sym same) ∙ sym equal ∙ is

said_do : (name : List ℕ) (rest : List (List ℕ)) → bytes_eq name (codes "as") ≡ false → bytes_eq name (codes "at") ≡ false → bytes_eq name (codes "do") ≡ true → said_by name rest ≡ asks rest
said_do name rest first second third = by_tests (bytes_eq name (codes "as")) (bytes_eq name (codes "at")) (bytes_eq name (codes "do")) first second third
  where
    by_tests : (a b c : Bool) → a ≡ false → b ≡ false → c ≡ true → (if a then said_or_wrong (as_line rest) else (if b then said_or_wrong (at_line rest) else (if c then asks rest else
        (if bytes_eq name (codes "put") then said_or_wrong (put_line rest) else (if bytes_eq name (codes "fill") then said_or_wrong (fill_line rest) else (if bytes_eq name (codes "drop") then said_or_wrong (drop_line rest) else wrong)))))) ≡ asks rest
    by_tests false false true x y z = refl
    by_tests true b c x y z = absurd (cc x)
    by_tests false true c x y z = absurd (cc y)
    by_tests false false false x y z = absurd (let both : false ≡ true = z in cc)

pub none_do : {E : Type 0} (name : List ℕ) (rest : List (List ℕ)) (r : Result (Option Line) E) → bytes_eq name (codes "as") ≡ false → bytes_eq name (codes "at") ≡ false → bytes_eq name (codes "do") ≡ true
    → IfOk r (λ (o : Option Line). IfNone o ((line : Line) → Means (asks rest) line → ⊥)) → IfOk r (λ (o : Option Line). IfNone o ((line : Line) → Means (said_by name rest) line → ⊥))
none_do {E} name rest r first second third none =
    subst (λ (s : Said). IfOk r (λ (o : Option Line). IfNone o ((line : Line) → Means s line → ⊥))) (sym (said_do name rest first second third)) none
