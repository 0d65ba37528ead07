-- What is read of a disk in memory is one of the images that a stop may leave.
use Rattle.std.specs.Prelude.{◌≡◌, ◌⊎◌, ℕ, ◌+◌, ◌≤◌, Bool, true, false, nat_le, if◌then◌else◌, List, [], ◌∷◌, ◌++◌, length, take, drop, refl}
use Rattle.std.proofs.Common.{inl, inr, sym, ◌∙◌, ap, subst, arith, length-append, length-drop, append_assoc, ◌-◌}
use Rattle.std.proofs.lemmas.Bool.Decides.{nat_tests}
use Rattle.std.proofs.lemmas.Bool.{cases_lt}
use Rattle.std.proofs.lemmas.List.{take_all, take_at, drop_at, length-take, length-take-le}
use Rattle.std.specs.Str.{bytes_eq}
use Rattle.std.proofs.lemmas.Slice.Eq.{bytes_eq-Decides}
use Rattle.ae_memory_disk.specs.declared.disk_log.Change.{Change}
use Rattle.ae_memory_disk.specs.declared.disk_log.Change.TheVariants.{Write, Cut, Sync}
use Rattle.ae_memory_disk.specs.declared.disk_log.Logged.{Logged}
use Rattle.ae_outside.specs.Image.{Image, with_file, SameElsewhere, IsTorn, IsCut}
use Rattle.ae_memory_disk.specs.DiskLog.{overwritten, applied, Leaves, After, replay, Left}

-- a file that stays
pub torn_same : (at n : ℕ) (bytes : List ℕ) → IsTorn at n bytes bytes
torn_same at n bytes = record { before = refl; after = refl; no_shorter = omega arith; no_longer = omega arith }

pub cut_same : (len : ℕ) (bytes : List ℕ) → IsCut len bytes bytes
cut_same len bytes = record { front = refl; no_shorter = omega arith; no_longer = omega arith }

-- the two cases of a test
pub bool_cases : (b : Bool) → (b ≡ true) ⊎ (b ≡ false)
bool_cases true = inl refl
bool_cases false = inr refl

torn_over : (at : ℕ) (bytes old : List ℕ) → at ≤ length old → IsTorn at (length bytes) old (take at old ++ bytes ++ drop (at + length bytes) old)
torn_over at bytes old le =
    let front : length (take at old) ≡ at = length-take-le at old le in
    let both : length (take at old ++ bytes) ≡ at + length bytes = omega (arith, front, length-append (take at old) bytes) in
    let whole : length (take at old ++ bytes ++ drop (at + length bytes) old) ≡ at + length bytes + (length old - (at + length bytes)) =
    omega (arith, both, length-append (take at old ++ bytes) (drop (at + length bytes) old), length-drop (at + length bytes) old) in
    record {
      before = ap (λ (l : List ℕ). take at l) (append_assoc (take at old) bytes (drop (at + length bytes) old)) ∙ take_at (take at old) (bytes ++ drop (at + length bytes) old) at front;
      after = drop_at (take at old ++ bytes) (drop (at + length bytes) old) (at + length bytes) both;
      no_shorter = omega (arith, whole);
      no_longer = omega (arith, whole);
    }

-- bytes that are put within the file, or at its end
pub overwritten_fits : (at : ℕ) (bytes old : List ℕ) → at ≤ length old → overwritten at bytes old ≡ take at old ++ bytes ++ drop (at + length bytes) old
overwritten_fits at bytes old le =
    let fits : nat_le at (length old) ≡ true = grind (arith, nat_tests) in
    ap (λ (b : Bool). if b then take at old ++ bytes ++ drop (at + length bytes) old else old) fits

pub overwritten_torn : (at : ℕ) (bytes old : List ℕ) → IsTorn at (length bytes) old (overwritten at bytes old)
overwritten_torn at bytes old = elim (cases_lt (length old) at) [
  | inl past ↦
      let no : nat_le at (length old) ≡ false = grind (arith, nat_tests) in
      subst (λ (l : List ℕ). IsTorn at (length bytes) old l) (sym (ap (λ (b : Bool). if b then take at old ++ bytes ++ drop (at + length bytes) old else old) no)) (torn_same at (length bytes) old)
  | inr fits ↦ subst (λ (l : List ℕ). IsTorn at (length bytes) old l) (sym (overwritten_fits at bytes old fits)) (torn_over at bytes old fits)
]

pub cut_cut : (len : ℕ) (old : List ℕ) → IsCut len old (take len old)
cut_cut len old = record { front = take_take len old; no_shorter = omega (arith, length-take len old); no_longer = omega (arith, length-take len old) }
  where
    take_take : (n : ℕ) (l : List ℕ) → take n (take n l) ≡ take n l
    take_take n l = take_all n (take n l) (omega (arith, length-take n l))

-- the file of this name, and the others
pub file_here : (name : List ℕ) (change : List ℕ → List ℕ) (image : Image) → with_file name change image name ≡ change (image name)
file_here name change image = ap (λ (b : Bool). if b then change (image name) else image name) ((bytes_eq-Decides name name).1 refl)

pub file_elsewhere : (name : List ℕ) (change : List ℕ → List ℕ) (image : Image) → SameElsewhere name image (with_file name change image)
file_elsewhere name change image other differs = elim (bool_cases (bytes_eq name other)) [
  | inl same ↦ absurd (differs (sym ((bytes_eq-Decides name other).0 same)))
  | inr no_same ↦ ap (λ (b : Bool). if b then change (image other) else image other) no_same
]

-- what is read comes by a step that a stop may leave too
pub applied_leaves : (change : Change) (read : Image) → Leaves change read read (applied change read)
applied_leaves (Write name at bytes) read = record { file = subst (λ (l : List ℕ). IsTorn at (length bytes) (read name) l) (sym (file_here name (overwritten at bytes) read)) (overwritten_torn at bytes (read name)); others = file_elsewhere name (overwritten at bytes) read }
applied_leaves (Cut name len) read = record { file = subst (λ (l : List ℕ). IsCut len (read name) l) (sym (file_here name (take len) read)) (cut_cut len (read name)); others = file_elsewhere name (take len) read }
applied_leaves (Sync name) read = (refl, refl)

-- what is read after the log is one of the images
pub read_left : (read : Image) (images : Image → Type 0) (log : List Logged) → images read → Left read images log (replay read log)
read_left read images [] is = is
read_left read images (entry ∷ log) is = read_left (applied entry.change read) (After entry.change read images) log (read, is, applied_leaves entry.change read)

-- a file whose change changes nothing
pub with_file_same : (name : List ℕ) (change : List ℕ → List ℕ) (image : Image) → change (image name) ≡ image name → with_file name change image ≡ image
with_file_same name change image is i other = at other i
  where
    at : (other : List ℕ) → with_file name change image other ≡ image other
    at other = elim (bytes_eq name other) as (λ s. bytes_eq name other ≡ s → (if s then change (image other) else image other) ≡ image other) [
      | true ↦ λ here. ap (λ (n : List ℕ). change (image n)) (sym ((bytes_eq-Decides name other).0 here)) ∙ is ∙ ap image ((bytes_eq-Decides name other).0 here)
      | false ↦ λ here. refl
    ] refl
