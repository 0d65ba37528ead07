-- Which error it is: no two of them are the same.
use Rattle.std.specs.Prelude.{◌≡◌, Result, Ok, Err, IsErrOf}
use Rattle.std.specs.Result.{IsErrAnd}
use Rattle.std.proofs.Common.{refl, sym, subst}
use Rattle.ae_base.proofs.Results.{err_is}
use Rattle.ae_outside.specs.declared.failed.ReadError.{ReadError}
use Rattle.ae_outside.specs.declared.failed.ReadError.TheVariants as reading
use Rattle.ae_vault.specs.Commit.{UnlessFault}
use Rattle.ae_vault.specs.Errors.{read_error}
use Rattle.ae_vault.specs.declared.error.VaultError.{VaultError}
use Rattle.ae_vault.specs.declared.error.VaultError.TheVariants as vault

pub fault_is_no_damage : vault.DiskFault ≡ vault.Damaged → ⊥
fault_is_no_damage is = cc

pub fault_is_no_memory : vault.DiskFault ≡ vault.Memory → ⊥
fault_is_no_memory is = cc

pub memory_is_no_damage : vault.Memory ≡ vault.Damaged → ⊥
memory_is_no_damage is = cc

pub memory_is_no_fault : vault.Memory ≡ vault.DiskFault → ⊥
memory_is_no_fault is = cc

pub damaged_is_no_fault : {T : Type 0} → IsErrOf {T = T} (Err vault.Damaged) vault.DiskFault → ⊥
damaged_is_no_fault is = cc

pub reading_is_no_damage : (e : ReadError) → read_error e ≡ vault.Damaged → ⊥
reading_is_no_damage reading.Failed is = cc
reading_is_no_damage reading.Memory is = cc

pub reading_failed : (e : ReadError) → read_error e ≡ vault.DiskFault → e ≡ reading.Failed
reading_failed reading.Failed is = refl
reading_failed reading.Memory is = cc

-- ---- what holds unless the disk failed

pub at_fault : {T : Type 0} (r : Result T VaultError) (Holds : Type 0) → IsErrAnd r (λ (e : VaultError). e ≡ vault.DiskFault) → UnlessFault r Holds
at_fault {T} r Holds is = subst (λ (x : Result T VaultError). UnlessFault x Holds) (sym (err_is r vault.DiskFault is)) tt

pub at_any_end : {T : Type 0} (r : Result T VaultError) (Holds : Type 0) → Holds → UnlessFault r Holds
at_any_end (Ok value) Holds holds = holds
at_any_end (Err vault.Damaged) Holds holds = holds
at_any_end (Err vault.Memory) Holds holds = holds
at_any_end (Err vault.DiskFault) Holds holds = tt

-- the error is handed on
pub at_same_error : {T U : Type 0} (s : Result T VaultError) (r : Result U VaultError) (e : VaultError) (Before After : Type 0)
    → s ≡ Err e → IsErrAnd r (λ (x : VaultError). x ≡ e) → UnlessFault s Before → (Before → After) → UnlessFault r After
at_same_error {T} {U} s r e Before After first second held next =
    subst (λ (x : Result U VaultError). UnlessFault x After) (sym (err_is r e second)) (on e (subst (λ (x : Result T VaultError). UnlessFault x Before) first held))
  where
    on : (f : VaultError) → UnlessFault {T = T} (Err f) Before → UnlessFault {T = U} (Err f) After
    on vault.Damaged before = next before
    on vault.Memory before = next before
    on vault.DiskFault before = tt
