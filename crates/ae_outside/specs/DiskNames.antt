-- Which texts name files of a disk.
use Rattle.std.specs.Prelude.{ℕ, Bool, true, ◌&&◌, ◌||◌, ◌==◌, nat_le, IsTrue, List, [], ◌∷◌, length}

-- a small letter, a digit or a dot
abbrev pub is_name_byte : ℕ → Bool
is_name_byte b = (nat_le 97 b && nat_le b 122) || ((nat_le 48 b && nat_le b 57) || (b == 46))

abbrev pub all_name_bytes : List ℕ → Bool
all_name_bytes [] = true
all_name_bytes (b ∷ bytes) = is_name_byte b && all_name_bytes bytes

abbrev pub is_disk_name : List ℕ → Bool
is_disk_name name = nat_le 1 (length name) && (nat_le (length name) 64 && all_name_bytes name)

-- 1 to 64 bytes of small letters, digits and dots
abbrev pub IsDiskName : List ℕ → Type 0
IsDiskName name = IsTrue (is_disk_name name)
