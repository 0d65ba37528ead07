-- Which texts are paths, users and project names, and which paths clash.
use Rattle.std.specs.Prelude.{ℕ, List, [], ◌∷◌, ◌++◌, Bool, false, not, ◌==◌, ◌&&◌, ◌||◌, ◌⊎◌, ◌≡◌, if◌then◌else◌, nat_le, length, codes, IsTrue}
use Rattle.std.specs.List.{list_all}
use Rattle.std.specs.Str.{bytes_eq}
use Rattle.ae_base.specs.Bytes.{dash, dot, plus, slash, underscore}

-- `a` to `z`
abbrev pub is_lower : ℕ → Bool
is_lower b = nat_le 97 b && nat_le b 122

-- `A` to `Z`
abbrev pub is_upper : ℕ → Bool
is_upper b = nat_le 65 b && nat_le b 90

-- `0` to `9`
abbrev pub is_digit : ℕ → Bool
is_digit b = nat_le 48 b && nat_le b 57

abbrev pub is_letter : ℕ → Bool
is_letter b = is_lower b || is_upper b

-- `a-z0-9_.-`
abbrev pub is_user_byte : ℕ → Bool
is_user_byte b = is_lower b || is_digit b || (b == underscore) || (b == dot) || (b == dash)

-- `A-Za-z0-9._-`
abbrev pub is_name_byte : ℕ → Bool
is_name_byte b = is_letter b || is_digit b || (b == dot) || (b == underscore) || (b == dash)

-- `A-Za-z0-9._+-`
abbrev pub is_path_byte : ℕ → Bool
is_path_byte b = is_name_byte b || (b == plus)

-- 1 to 32 bytes, the first a small letter or `_`
abbrev pub is_user : List ℕ → Bool
is_user [] = false
is_user (b ∷ bs) = (is_lower b || (b == underscore)) && nat_le (length bs) 31 && list_all is_user_byte bs

-- 1 to 64 bytes, the first a letter
abbrev pub is_project_name : List ℕ → Bool
is_project_name [] = false
is_project_name (b ∷ bs) = is_letter b && nat_le (length bs) 63 && list_all is_name_byte bs

abbrev pub is_slash : ℕ → Bool
is_slash b = b == slash

-- a byte put before the first of these texts
abbrev pub before_first_part : ℕ → List (List ℕ) → List (List ℕ)
before_first_part b [] = (b ∷ []) ∷ []
before_first_part b (part ∷ parts) = (b ∷ part) ∷ parts

-- the parts of a text between its `/`
abbrev pub parts : List ℕ → List (List ℕ)
parts [] = [] ∷ []
parts (b ∷ bs) = if is_slash b then [] ∷ parts bs else before_first_part b (parts bs)

-- neither empty nor `.` nor `..`
abbrev pub is_part : List ℕ → Bool
is_part part = not (length part == 0) && not (bytes_eq part (codes ".")) && not (bytes_eq part (codes "..")) && list_all is_path_byte part

abbrev pub starts_with_dash : List ℕ → Bool
starts_with_dash [] = false
starts_with_dash (b ∷ bs) = b == dash

-- at most 255 bytes of parts that are good, neither beginning with `-` nor `aegis.log`
abbrev pub is_path : List ℕ → Bool
is_path text =
    not (starts_with_dash text) && not (bytes_eq text (codes "aegis.log"))
    && nat_le (length text) 255 && list_all is_part (parts text)

abbrev pub BeginsWithSlash : List ℕ → Type 0
BeginsWithSlash text = (rest : List ℕ) × (text ≡ slash ∷ rest)

-- the first is a folder on the way to the second
abbrev pub IsFolderOf : List ℕ → List ℕ → Type 0
IsFolderOf folder path = (rest : List ℕ) × (path ≡ folder ++ slash ∷ rest)

-- one of the two is the other followed by `/` and more
abbrev pub Clash : List ℕ → List ℕ → Type 0
Clash a b = IsFolderOf a b ⊎ IsFolderOf b a

abbrev pub IsPath : List ℕ → Type 0
IsPath text = IsTrue (is_path text)

abbrev pub IsUser : List ℕ → Type 0
IsUser text = IsTrue (is_user text)

abbrev pub IsProjectName : List ℕ → Type 0
IsProjectName text = IsTrue (is_project_name text)
