-- The files that an image stands for, where a redo body may lie after an open gate.
use Rattle.std.specs.Prelude.{◌≡◌, ℕ, zero, suc, Bool, true, false, not, nat_lt, ◌&&◌, ◌||◌, ◌==◌, nat_le, List, [], ◌∷◌, length, take, drop, codes, Option, Some, None, unwrap_or, option_and_then, if◌then◌else◌}
use Rattle.std.specs.List.{list_all}
use Rattle.std.specs.Ordering.{is_lt, nat_cmp}
use Rattle.std.specs.Cmp.Lexicographic.{slice_cmp}
use Rattle.std.specs.Str.{bytes_eq}
use Rattle.std.specs.Int.{from_le_bytes, w32, w64}
use Rattle.ae_outside.specs.Image.{Image}
use Rattle.ae_outside.specs.DiskNames.{is_disk_name}
use Rattle.ae_vault.specs.declared.entry.Entry.{Entry}

-- the vault's own two files
abbrev pub gate : List ℕ
gate = codes "gate"

abbrev pub body : List ℕ
body = codes "body"

-- it is one of these two
abbrev pub is_own : List ℕ → Bool
is_own name = bytes_eq name gate || bytes_eq name body

-- a gate is open exactly where it begins with the byte 1
abbrev pub is_open : List ℕ → Bool
is_open [] = false
is_open (b ∷ bytes) = b == 1

abbrev pub IsOpen : Image → Type 0
IsOpen image = is_open (image gate) ≡ true

abbrev pub IsClosed : Image → Type 0
IsClosed image = is_open (image gate) ≡ false

-- the first of two answers that is there
abbrev pub or_else : Option (List ℕ) → Option (List ℕ) → Option (List ℕ)
or_else (Some bytes) other = Some bytes
or_else None other = other

-- what the entries, put one after another, give to a name: None where no entry names it
abbrev pub content_of : List Entry → List ℕ → Option (List ℕ)
content_of [] name = None
content_of (e ∷ entries) name = or_else (content_of entries name) (if bytes_eq e.name name then Some (unwrap_or e.bytes []) else None)

-- the entries put over the files
abbrev pub put : List Entry → Image → Image
put entries image name = unwrap_or (content_of entries name) (image name)

-- all but the vault's own two files
abbrev pub files : Image → Image
files image name = if is_own name then [] else image name

-- an entry's name, and whether a next one may follow it
abbrev pub is_entry_name : List ℕ → Bool
is_entry_name name = is_disk_name name && not (is_own name)

abbrev pub names_ascend : List Entry → Bool
names_ascend [] = true
names_ascend (e ∷ []) = true
names_ascend (e ∷ f ∷ entries) = is_lt (slice_cmp nat_cmp e.name f.name) && names_ascend (f ∷ entries)

abbrev pub all_entry_names : List Entry → Bool
all_entry_names = list_all (λ (e : Entry). is_entry_name e.name)

-- names are those of a disk, none of them the vault's own, and they ascend
abbrev pub are_entries : List Entry → Bool
are_entries entries = all_entry_names entries && names_ascend entries

-- the body's grammar: the bytes of an entry of this name, after their length, and what follows them
abbrev pub bytes_read : List ℕ → List ℕ → Option (Entry × List ℕ)
bytes_read name rest =
    if nat_lt (length rest) 8 then None
    else (let len = from_le_bytes w64 (take 8 rest) in
    if nat_lt (length (drop 8 rest)) len then None
    else Some (record { name = name; bytes = Some (take len (drop 8 rest)) }, drop len (drop 8 rest)))

-- 0 for an absent file, 1 for one with bytes
abbrev pub kind_read : List ℕ → List ℕ → Option (Entry × List ℕ)
kind_read name [] = None
kind_read name (kind ∷ rest) =
    if kind == 0 then Some (record { name = name; bytes = None }, rest)
    else (if kind == 1 then bytes_read name rest else None)

-- an entry, and what follows it
abbrev pub entry_read : List ℕ → Option (Entry × List ℕ)
entry_read [] = None
entry_read (n ∷ bytes) = if nat_lt (length bytes) n then None else kind_read (take n bytes) (drop n bytes)

-- so many entries, and nothing after them
abbrev pub entries_read : ℕ → List ℕ → Option (List Entry)
entries_read zero [] = Some []
entries_read zero (b ∷ bytes) = None
entries_read (suc n) bytes = option_and_then (λ (e : Entry × List ℕ). option_and_then (λ (es : List Entry). Some (e.0 ∷ es)) (entries_read n e.1)) (entry_read bytes)

-- the entries of a body, or None where it isn't in its grammar
abbrev pub body_entries : List ℕ → Option (List Entry)
body_entries bytes =
    if nat_le 4 (length bytes)
    then option_and_then (λ (es : List Entry). if are_entries es then Some es else None) (entries_read (from_le_bytes w32 (take 4 bytes)) (drop 4 bytes))
    else None

-- the files that an image stands for, or None where the gate is open and the body isn't in its grammar
abbrev pub effective : Image → Option Image
effective image =
    if is_open (image gate) then option_and_then (λ (es : List Entry). Some (put es (files image))) (body_entries (image body))
    else Some (files image)
