-- Who may do what with a file or a folder that is made: its maker, and those whom the folder around it lets.
use Rattle.std.specs.Prelude.{ℕ, nat_eq, bit_and, bit_or, Bool, if◌then◌else◌}

-- the bits of a folder's mode for its group and for all others; where a folder's entries stay their makers', none to write
abbrev pub shared_bits : ℕ → ℕ
shared_bits folder = bit_and folder (if nat_eq (bit_and folder 0o1000) 0 then 0o077 else 0o055)

-- a file that is made in a folder of that mode; a program may also be run
abbrev pub file_mode : Bool → ℕ → ℕ
file_mode is_program folder = if is_program then bit_or 0o700 (shared_bits folder) else bit_or 0o600 (bit_and (shared_bits folder) 0o066)

-- a folder that is made there; what is made in it keeps the group of the folder around where that one asks for it
abbrev pub folder_mode : ℕ → ℕ
folder_mode folder = bit_or (bit_or 0o700 (shared_bits folder)) (bit_and folder 0o2000)

-- the lock that is made there: who may write in the folder may read and write it
abbrev pub lock_mode : ℕ → ℕ
lock_mode folder = bit_or (bit_or 0o600 (if nat_eq (bit_and folder 0o020) 0 then 0 else 0o060)) (if nat_eq (bit_and folder 0o002) 0 then 0 else 0o006)
