-- How a command ends where no state is loaded.
use Rattle.std.proofs.Common.{◌≡◌, ℕ, List, refl}
use Rattle.ae_base.specs.declared.refusal.Refusal.{Refusal}
use Rattle.ae_store.specs.declared.error.StoreError.{StoreError}
use Rattle.ae_store.specs.declared.error.StoreError.TheVariants as store
use Rattle.ae_exec.specs.Endings.{EndsAs, damaged, disk_fault, memory, outcome_of_stop}
use Rattle.ae_exec.specs.Stopping.{stop_of_store}

pub store_ends : {D F X U : Type 0} {R : Refusal → Type 0} {M : List ℕ → Type 0} (error : StoreError) → ((name : List ℕ) → error ≡ store.Damaged name → M name) → (error ≡ store.DiskFault → X)
    → EndsAs D F R M X U (outcome_of_stop (stop_of_store error))
store_ends (store.Damaged name) named rose = damaged name (named name refl)
store_ends store.DiskFault named rose = disk_fault (rose refl)
store_ends store.Memory named rose = memory
