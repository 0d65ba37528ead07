-- Where the gate is closed, a file is what is read of it.
use Rattle.std.proofs.Common.{◌≡◌, ℕ, Bool, false, List, [], length, take, drop, Option, Some, IsSomeAnd, if◌then◌else◌, sym, ◌∙◌, ap, subst, arith}
use Rattle.std.proofs.lemmas.List.{take_all}
use Rattle.ae_outside.specs.Image.{Image, IsSame}
use Rattle.ae_outside.specs.State.{DiskState, reads, GoesOn}
use Rattle.ae_outside.specs.Time.{same_reads}
use Rattle.ae_vault.specs.Vault.{is_own, files, effective}
use Rattle.ae_vault.specs.Commit.{IsClean}
use Rattle.ae_vault.proofs.Files.{effective_closed}

-- what is made of what is read is made of the file
pub read_file : (s : DiskState) (name bytes : List ℕ) (made : List ℕ → List ℕ) → IsClean s → is_own name ≡ false → bytes ≡ made (reads s name) → IsSomeAnd (effective (reads s)) (λ (f : Image). bytes ≡ made (f name))
read_file s name bytes made clean other is =
    let closed : effective (reads s) ≡ Some (files (reads s)) = effective_closed (reads s) (clean (reads s) (s.reads_is_image s.moment (omega arith))) in
    let same : reads s name ≡ files (reads s) name = ap (λ (b : Bool). if b then [] else reads s name) (sym other) in
    subst (λ (o : Option Image). IsSomeAnd o (λ (f : Image). bytes ≡ made (f name))) (sym closed) (is ∙ ap made same)

-- as many bytes as a file has are all of it
pub whole_read : (s t : DiskState) (name bytes : List ℕ) (size : ℕ) → GoesOn IsSame s t → size ≡ length (reads s name) → bytes ≡ take size (drop 0 (reads t name)) → bytes ≡ reads s name
whole_read s t name bytes size goes size_is is =
    is ∙ ap (λ (i : Image). take size (i name)) (same_reads s t goes) ∙ take_all size (reads s name) (omega (arith, size_is))
