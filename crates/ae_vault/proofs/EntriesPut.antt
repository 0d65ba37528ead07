-- Entries with an empty text, put as absent files.
use Rattle.std.specs.Prelude.{◌≡◌, ℕ, suc, Bool, true, false, ◌&&◌, not, List, [], ◌∷◌, length, Option, Some, None, unwrap_or, if◌then◌else◌}
use Rattle.std.specs.Ordering.{is_lt, nat_cmp}
use Rattle.std.specs.Cmp.Lexicographic.{slice_cmp}
use Rattle.std.specs.Str.{bytes_eq}
use Rattle.std.proofs.Common.{refl, ap}
use Rattle.ae_outside.specs.Image.{Image}
use Rattle.ae_vault.specs.declared.entry.Entry.{Entry}
use Rattle.ae_vault.specs.Body.{entries_put, text_put}
use Rattle.ae_vault.specs.Pieces.{no_entry_is_pack, pack}
use Rattle.ae_vault.specs.Vault.{all_entry_names, are_entries, content_of, is_entry_name, names_ascend, or_else, put}

-- ---- the names stay

pub names-put : (entries : List Entry) → all_entry_names (entries_put entries) ≡ all_entry_names entries
names-put [] = refl
names-put (e ∷ entries) = ap (λ b. is_entry_name e.name && b) (names-put entries)

ascend-put : (entries : List Entry) → names_ascend (entries_put entries) ≡ names_ascend entries
ascend-put [] = refl
ascend-put (e ∷ []) = refl
ascend-put (e ∷ f ∷ entries) = λ i. names_first e f && ascend-put (f ∷ entries) i
  where
    names_first : Entry → Entry → Bool
    names_first e f = is_lt (slice_cmp nat_cmp e.name f.name)

pub all-named : (entries : List Entry) → are_entries entries ≡ true → all_entry_names entries ≡ true
all-named entries e = go (all_entry_names entries) e
  where
    go : (b : Bool) → (b && names_ascend entries) ≡ true → b ≡ true
    go true e = refl
    go false e = cc

pub entries-put : (entries : List Entry) → are_entries (entries_put entries) ≡ are_entries entries
entries-put entries = λ i. names-put entries i && ascend-put entries i

pub pack-put : (entries : List Entry) → no_entry_is_pack (entries_put entries) ≡ no_entry_is_pack entries
pack-put [] = refl
pack-put (e ∷ entries) = ap (λ b. not (bytes_eq e.name pack) && b) (pack-put entries)

pub length-put : (entries : List Entry) → length (entries_put entries) ≡ length entries
length-put [] = refl
length-put (e ∷ entries) = ap (λ (n : ℕ). suc n) (length-put entries)

-- ---- and so does what is put

text-put : (bytes : Option (List ℕ)) → unwrap_or (text_put bytes) [] ≡ unwrap_or bytes []
text-put None = refl
text-put (Some []) = refl
text-put (Some (b ∷ bytes)) = refl

pub content-put : (entries : List Entry) (name : List ℕ) → content_of (entries_put entries) name ≡ content_of entries name
content-put [] name = refl
content-put (e ∷ entries) name = λ i. or_else (content-put entries name i) (if bytes_eq e.name name then Some (text-put e.bytes i) else None)

pub files-put : (entries : List Entry) (files : Image) → put (entries_put entries) files ≡ put entries files
files-put entries files = λ i name. unwrap_or (content-put entries name i) (files name)
