-- The text of a body.
use Rattle.std.specs.Prelude.{ℕ, List, [], ◌∷◌, ◌++◌, ◌<◌, ◌^◌, length, map, flat_map, Option, Some, None, unwrap_or}
use Rattle.std.specs.Int.{to_le_bytes, w32, w64}
use Rattle.ae_vault.specs.declared.entry.Entry.{Entry}

-- an empty text is an absent file
abbrev pub text_put : Option (List ℕ) → Option (List ℕ)
text_put None = None
text_put (Some []) = None
text_put (Some (b ∷ bytes)) = Some (b ∷ bytes)

-- the entry as it is put
abbrev pub entry_put : Entry → Entry
entry_put e = record { name = e.name; bytes = text_put e.bytes }

abbrev pub entries_put : List Entry → List Entry
entries_put entries = map entry_put entries

-- the byte 0, or the byte 1, the length and the bytes
abbrev pub content_bytes : Option (List ℕ) → List ℕ
content_bytes None = 0 ∷ []
content_bytes (Some bytes) = 1 ∷ to_le_bytes w64 (length bytes) ++ bytes

-- one byte of name length, the name, and the content
abbrev pub entry_bytes : Entry → List ℕ
entry_bytes e = length e.name ∷ e.name ++ content_bytes e.bytes

-- the count, and the entries one after another
abbrev pub body_of : List Entry → List ℕ
body_of entries = to_le_bytes w32 (length entries) ++ flat_map entry_bytes entries

-- each length has 64 bits
abbrev pub Fit : List Entry → Type 0
Fit [] = Unit {0}
Fit (e ∷ entries) = (length (unwrap_or e.bytes []) < 2 ^ 64) × Fit entries
