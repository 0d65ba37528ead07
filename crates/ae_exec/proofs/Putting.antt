-- What a batch without pieces makes of the files.
use Rattle.std.specs.Prelude.{◌≡◌, ◌≢◌, ℕ, Bool, true, false, List, [], Option, Some, None, IsSomeAnd, unwrap_or}
use Rattle.std.proofs.Common.{refl, sym, ap, subst, ◌∙◌}
use Rattle.std.specs.Str.{bytes_eq}
use Rattle.std.specs.Cmp.Lexicographic.{bytes_decides}
use Rattle.ae_outside.specs.Image.{Image}
use Rattle.ae_vault.specs.declared.entry.Entry.{Entry}
use Rattle.ae_vault.specs.Vault.{content_of, put}
use Rattle.ae_vault.specs.Commit.{with_entries}
use Rattle.ae_vault.specs.Pieces.{pack, PackedOver, FilesOver}

-- names that are tested and aren't the same
pub differs : (a b : List ℕ) → bytes_eq a b ≡ false → a ≢ b
differs a b test same = absurd (let both : true ≡ false = sym ((bytes_decides a b).1 same) ∙ test in cc)

-- files that differ nowhere
pub same_files : (x y : Image) → PackedOver [] x y → y ≡ x
same_files x y over = λ i name. at name (bytes_eq name pack) refl i
  where
    at : (name : List ℕ) (test : Bool) → bytes_eq name pack ≡ test → y name ≡ x name
    at name true is = let same : name ≡ pack = (bytes_decides name pack).0 is in subst (λ (n : List ℕ). y n ≡ x n) (sym same) over.packed
    at name false is = over.others name (differs name pack is)

pub over_nothing : (a b : Option Image) → FilesOver [] a b → b ≡ a
over_nothing (Some x) (Some y) over = ap Some (same_files x y over)
over_nothing (Some x) None over = absurd over
over_nothing None b over = absurd over

-- what holds of the files holds where they weren't changed
pub kept_before : (P : Image → Type 0) (a b : Option Image) → FilesOver [] a b → IsSomeAnd a P → IsSomeAnd b P
kept_before P a b over holds = subst (λ (o : Option Image). IsSomeAnd o P) (sym (over_nothing a b over)) holds

-- what the entries make of files that are as they were
pub made_after : (P Q : Image → Type 0) (entries : List Entry) (a b : Option Image) → FilesOver [] (with_entries entries a) b → IsSomeAnd a P → ((x : Image) → P x → Q (put entries x)) → IsSomeAnd b Q
made_after P Q entries (Some x) b over holds makes = subst (λ (o : Option Image). IsSomeAnd o Q) (sym (over_nothing (with_entries entries (Some x)) b over)) (makes x holds)
made_after P Q entries None b over holds makes = absurd holds

-- a file that no entry names
pub others_stay : (entries : List Entry) (x : Image) (name : List ℕ) → content_of entries name ≡ None → put entries x name ≡ x name
others_stay entries x name is = ap (λ (o : Option (List ℕ)). unwrap_or o (x name)) is
