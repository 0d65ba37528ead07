-- A file put among the files of a disk in memory.
use Rattle.std.proofs.Common.{◌≡◌, ℕ, suc, ◌+◌, ◌<◌, ◌≤◌, Bool, true, false, not, cond, if◌then◌else◌, List, [], ◌∷◌, ◌++◌, length, refl, sym, ap, ◌∙◌, arith}
use Rattle.std.proofs.Math.ListN.{set, get_or}
use Rattle.std.specs.List.{position_or_len}
use Rattle.std.specs.Str.{bytes_eq}
use Rattle.std.proofs.lemmas.Slice.Eq.{bytes_eq-Decides}
use Rattle.ae_memory_disk.specs.declared.disk_files.File.{File}
use Rattle.ae_outside.specs.Image.{Image, with_file}
use Rattle.ae_memory_disk.specs.DiskFiles.{bytes_of}

-- where the first file of a name is
abbrev pub place_of : List ℕ → List File → ℕ
place_of name files = position_or_len (λ file. bytes_eq file.name name) files

-- the row in front is the file's
over_here : (name bytes : List ℕ) (f : File) (files : List File) (other : List ℕ) → f.name ≡ name
    → (if bytes_eq f.name other then bytes else bytes_of files other) ≡ (if bytes_eq name other then bytes else (if bytes_eq f.name other then f.bytes else bytes_of files other))
over_here name bytes f files other is = ap (λ (n : List ℕ). if bytes_eq n other then bytes else bytes_of files other) is ∙ at (bytes_eq name other) ∙ ap (λ (n : List ℕ). if bytes_eq name other then bytes else (if bytes_eq n other then f.bytes else bytes_of files other)) (sym is)
  where
    at : (b : Bool) → (if b then bytes else bytes_of files other) ≡ (if b then bytes else (if b then f.bytes else bytes_of files other))
    at true = refl
    at false = refl

-- the row in front is another file's
over_there : (name bytes : List ℕ) (f : File) (new old other : List ℕ) → bytes_eq f.name name ≡ false → new ≡ (if bytes_eq name other then bytes else old)
    → (if bytes_eq f.name other then f.bytes else new) ≡ (if bytes_eq name other then bytes else (if bytes_eq f.name other then f.bytes else old))
over_there name bytes f new old other differs is =
    elim (bytes_eq name other) as (λ s. bytes_eq name other ≡ s → new ≡ (if s then bytes else old) → (if bytes_eq f.name other then f.bytes else new) ≡ (if s then bytes else (if bytes_eq f.name other then f.bytes else old))) [
      | true ↦ λ here there. ap (λ (b : Bool). if b then f.bytes else new) (ap (bytes_eq f.name) (sym ((bytes_eq-Decides name other).0 here)) ∙ differs) ∙ there
      | false ↦ λ here there. ap (λ (l : List ℕ). if bytes_eq f.name other then f.bytes else l) there
    ] refl is

-- at each name
put_over_at : (name bytes : List ℕ) (d : File) (files : List File) (other : List ℕ) → place_of name files < length files
    → bytes_of (set files (place_of name files) (record { name = (get_or files (place_of name files) d).name; bytes = bytes })) other ≡ (if bytes_eq name other then bytes else bytes_of files other)
put_over_at name bytes d [] other lt = absurd (omega arith)
put_over_at name bytes d (f ∷ files) other lt =
    elim (bytes_eq f.name name) as (λ s. bytes_eq f.name name ≡ s → (cond (not s) (1 + place_of name files) 0) < suc (length files)
    → bytes_of (set (f ∷ files) (cond (not s) (1 + place_of name files) 0) (record { name = (get_or (f ∷ files) (cond (not s) (1 + place_of name files) 0) d).name; bytes = bytes })) other ≡ (if bytes_eq name other then bytes else bytes_of (f ∷ files) other)) [
      | true ↦ λ same less. over_here name bytes f files other ((bytes_eq-Decides f.name name).0 same)
      | false ↦ λ differs less.
          let one : 1 + place_of name files ≡ suc (place_of name files) = omega arith in
          ap (λ (k : ℕ). bytes_of (set (f ∷ files) k (record { name = (get_or (f ∷ files) k d).name; bytes = bytes })) other) one ∙ over_there name bytes f _ (bytes_of files other) other differs (put_over_at name bytes d files other (omega (arith, less)))
    ] refl lt

put_behind_at : (name bytes : List ℕ) (files : List File) (other : List ℕ) → length files ≤ place_of name files
    → bytes_of (files ++ record { name = name; bytes = bytes } ∷ []) other ≡ (if bytes_eq name other then bytes else bytes_of files other)
put_behind_at name bytes [] other le = refl
put_behind_at name bytes (f ∷ files) other le =
    elim (bytes_eq f.name name) as (λ s. bytes_eq f.name name ≡ s → suc (length files) ≤ (cond (not s) (1 + place_of name files) 0)
    → bytes_of (f ∷ files ++ record { name = name; bytes = bytes } ∷ []) other ≡ (if bytes_eq name other then bytes else bytes_of (f ∷ files) other)) [
      | true ↦ λ same more. absurd (omega (arith, more))
      | false ↦ λ differs more. over_there name bytes f _ (bytes_of files other) other differs (put_behind_at name bytes files other (omega (arith, more)))
    ] refl le

-- in place of the first file of the name
pub put_over : (name bytes : List ℕ) (d : File) (files : List File) → place_of name files < length files
    → bytes_of (set files (place_of name files) (record { name = (get_or files (place_of name files) d).name; bytes = bytes })) ≡ with_file name (λ _. bytes) (bytes_of files)
put_over name bytes d files lt i other = put_over_at name bytes d files other lt i

-- after the others, where none has the name
pub put_behind : (name bytes : List ℕ) (files : List File) → length files ≤ place_of name files
    → bytes_of (files ++ record { name = name; bytes = bytes } ∷ []) ≡ with_file name (λ _. bytes) (bytes_of files)
put_behind name bytes files le i other = put_behind_at name bytes files other le i

-- a file changed, where its new bytes are known
pub with_file_as : (name next : List ℕ) (change : List ℕ → List ℕ) (image : Image) → next ≡ change (image name) → with_file name (λ _. next) image ≡ with_file name change image
with_file_as name next change image is i other = at other i
  where
    at : (other : List ℕ) → with_file name (λ _. next) image other ≡ with_file name change image other
    at other = elim (bytes_eq name other) as (λ s. bytes_eq name other ≡ s → (if s then next else image other) ≡ (if s then change (image other) else image other)) [
      | true ↦ λ here. is ∙ ap (λ (n : List ℕ). change (image n)) ((bytes_eq-Decides name other).0 here)
      | false ↦ λ here. refl
    ] refl
