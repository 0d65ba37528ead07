-- How a command ends, with other causes that follow.
use Rattle.std.specs.Prelude.{◌≡◌, ℕ, List, Result, Ok, Err, IfErr}
use Rattle.std.proofs.Common.{sym, subst, refl}
use Rattle.ae_base.specs.declared.outcome.Outcome.{Outcome}
use Rattle.ae_base.specs.declared.refusal.Refusal.{Refusal}
use Rattle.ae_outside.specs.declared.failed.SiteError.{SiteError}
use Rattle.ae_outside.specs.declared.failed.SiteError.TheVariants as site_error
use Rattle.ae_exec.specs.declared.reply.Finished.{Finished}
use Rattle.ae_exec.specs.declared.stop.Stop.{Stop}
use Rattle.ae_exec.specs.Endings.{EndsAs, done, run_failed, refused, damaged, disk_fault, site_fault, memory, outcome_of_attempt, outcome_of_stop}
use Rattle.ae_exec.specs.Stopping.{stop_of_site}

-- no run failed of a command that was stopped
pub ends_for : {D E F : Type 0} {R S : Refusal → Type 0} {M N : List ℕ → Type 0} {X Y U V : Type 0} (outcome : Outcome) → EndsAs D ⊥ R M X U outcome
    → (D → E) → ((refusal : Refusal) → R refusal → S refusal) → ((name : List ℕ) → M name → N name) → (X → Y) → (U → V) → EndsAs E F S N Y V outcome
ends_for _ (done is) if_done if_refused if_damaged if_disk if_site = done (if_done is)
ends_for _ (run_failed is) if_done if_refused if_damaged if_disk if_site = absurd is
ends_for _ (refused refusal is) if_done if_refused if_damaged if_disk if_site = refused refusal (if_refused refusal is)
ends_for _ (damaged name is) if_done if_refused if_damaged if_disk if_site = damaged name (if_damaged name is)
ends_for _ (disk_fault rose) if_done if_refused if_damaged if_disk if_site = disk_fault (if_disk rose)
ends_for _ (site_fault rose) if_done if_refused if_damaged if_disk if_site = site_fault (if_site rose)
ends_for _ memory if_done if_refused if_damaged if_disk if_site = memory

-- what follows of the error of a call that failed
pub if_err_for : {A : Type 0} (P Q : Stop → Type 0) (result : Result A Stop) → IfErr result P → ((stop : Stop) → P stop → Q stop) → IfErr result Q
if_err_for P Q (Ok value) holds follows = tt
if_err_for P Q (Err stop) holds follows = follows stop holds

-- the outcome of an attempt that failed
pub ends_err : {D F X U : Type 0} {R : Refusal → Type 0} {M : List ℕ → Type 0} (result : Result Finished Stop) (stop : Stop) → result ≡ Err stop → EndsAs D F R M X U (outcome_of_stop stop) → EndsAs D F R M X U (outcome_of_attempt result)
ends_err {D} {F} {X} {U} {R} {M} result stop is ends = subst (λ (r : Result Finished Stop). EndsAs D F R M X U (outcome_of_attempt r)) (sym is) ends

-- directories that aren't read
pub site_ends : {D F X U : Type 0} {R : Refusal → Type 0} {M : List ℕ → Type 0} (error : SiteError) → (error ≡ site_error.Failed → U) → EndsAs D F R M X U (outcome_of_stop (stop_of_site error))
site_ends site_error.Failed rose = site_fault (rose refl)
site_ends site_error.Memory rose = memory
