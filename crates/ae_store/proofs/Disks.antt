-- What is read from a clean disk.
use Rattle.std.proofs.Common.{◌≡◌, Some, sym, subst, arith, IsSomeAnd}
use Rattle.ae_outside.specs.Image.{Image}
use Rattle.ae_outside.specs.State.{DiskState, reads}
use Rattle.ae_vault.specs.Commit.{IsClean}
use Rattle.ae_vault.specs.Vault.{effective, files}
use Rattle.ae_vault.proofs.Files.{effective_closed}

pub clean_files : (disk : DiskState) → IsClean disk → effective (reads disk) ≡ Some (files (reads disk))
clean_files disk clean = effective_closed (reads disk) (clean (reads disk) (disk.reads_is_image disk.moment (omega arith)))

-- what holds of the files holds of the effective files
pub of_files : (disk : DiskState) (P : Image → Type 0) → IsClean disk → P (files (reads disk)) → IsSomeAnd (effective (reads disk)) P
of_files disk P clean holds = subst (λ o. IsSomeAnd o P) (sym (clean_files disk clean)) holds

-- and the other way
pub for_files : (disk : DiskState) (P : Image → Type 0) → IsClean disk → IsSomeAnd (effective (reads disk)) P → P (files (reads disk))
for_files disk P clean holds = subst (λ o. IsSomeAnd o P) (clean_files disk clean) holds
