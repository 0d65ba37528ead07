-- Names are ASCII, and so text.
use Rattle.std.proofs.Common.{◌≡◌, ℕ, zero, suc, ◌<◌, ◌==◌, List, [], ◌∷◌, Bool, true, false, ◌&&◌, if◌then◌else◌, arith, refl, ap, ◌∙◌}
use Rattle.std.specs.List.{list_all}
use Rattle.std.specs.Str.{IsAscii, IsUtf8}
use Rattle.std.proofs.lemmas.Str.{IsUtf8-from_ascii}
use Rattle.std.proofs.lemmas.Bool.Decides.{nat_tests, Decides-eqb}
use Rattle.std.proofs.lemmas.Bool.{and_parts}
use Rattle.ae_base.specs.Names.{is_user_byte, is_name_byte, is_path_byte, is_part, parts, before_first_part, IsPath, IsUser, IsProjectName}

path_small : (b : ℕ) → is_path_byte b ≡ true → b < 128
path_small b is = grind (arith, nat_tests)

pub name_small : (b : ℕ) → is_name_byte b ≡ true → b < 128
name_small b is = grind (arith, nat_tests)

user_small : (b : ℕ) → is_user_byte b ≡ true → b < 128
user_small b is = grind (arith, nat_tests)

pub cons_small : (b : ℕ) (bs : List ℕ) → b < 128 → IsAscii bs → IsAscii (b ∷ bs)
cons_small b bs first rest zero = first
cons_small b bs first rest (suc i) = rest i

nothing_small : IsAscii []
nothing_small i = omega arith

all_small : (test : ℕ → Bool) → ((b : ℕ) → test b ≡ true → b < 128) → (text : List ℕ) → list_all test text ≡ true → IsAscii text
all_small test small [] is = nothing_small
all_small test small (b ∷ bs) is = cons_small b bs (small b ((and_parts (test b) (list_all test bs) is).0)) (all_small test small bs ((and_parts (test b) (list_all test bs) is).1))

pub utf8_user : (text : List ℕ) → IsUser text → IsUtf8 text
utf8_user [] is = absurd (cc is)
utf8_user (b ∷ bs) is = IsUtf8-from_ascii (b ∷ bs) (cons_small b bs (grind (arith, nat_tests)) (all_small is_user_byte user_small bs (grind (arith, nat_tests))))

pub utf8_project_name : (text : List ℕ) → IsProjectName text → IsUtf8 text
utf8_project_name [] is = absurd (cc is)
utf8_project_name (b ∷ bs) is = IsUtf8-from_ascii (b ∷ bs) (cons_small b bs (grind (arith, nat_tests)) (all_small is_name_byte name_small bs (grind (arith, nat_tests))))

-- where the parts are of path bytes, so is the text but for its `/`
abbrev all_good : List (List ℕ) → Bool
all_good [] = true
all_good (part ∷ rest) = list_all is_path_byte part && all_good rest

parts_good : (ps : List (List ℕ)) → list_all is_part ps ≡ true → all_good ps ≡ true
parts_good [] is = refl
parts_good (p ∷ ps) is = grind (arith, nat_tests, parts_good ps)

first_good : (b : ℕ) (ps : List (List ℕ)) → all_good (before_first_part b ps) ≡ true → (is_path_byte b ≡ true) × (all_good ps ≡ true)
first_good b [] is = ((and_parts (is_path_byte b) true ((and_parts (is_path_byte b && true) true is).0)).0, refl)
first_good b (p ∷ ps) is =
    let front = (and_parts (is_path_byte b && list_all is_path_byte p) (all_good ps) is).0 in
    let behind = (and_parts (is_path_byte b && list_all is_path_byte p) (all_good ps) is).1 in
    ((and_parts (is_path_byte b) (list_all is_path_byte p) front).0, ap (λ (x : Bool). x && all_good ps) ((and_parts (is_path_byte b) (list_all is_path_byte p) front).1) ∙ behind)

parts_small : (text : List ℕ) → all_good (parts text) ≡ true → IsAscii text
parts_small [] is = nothing_small
parts_small (b ∷ bs) is =
    elim (b == 47) as (λ s. (b == 47) ≡ s → all_good (if s then [] ∷ parts bs else before_first_part b (parts bs)) ≡ true → IsAscii (b ∷ bs)) [
      | true ↦ λ slash good. let same : b ≡ 47 = (Decides-eqb b 47).0 slash in cons_small b bs (omega arith) (parts_small bs good)
      | false ↦ λ other good. let both = first_good b (parts bs) good in cons_small b bs (path_small b both.0) (parts_small bs both.1)
    ] refl is

pub utf8_path : (text : List ℕ) → IsPath text → IsUtf8 text
utf8_path text is = IsUtf8-from_ascii text (parts_small text (parts_good (parts text) (grind (arith, nat_tests))))
