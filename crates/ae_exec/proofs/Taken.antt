-- A project in the first format is taken into the second, however a command ends.
use Rattle.std.proofs.Common.{ℕ, ◌≤◌, ◌<◌, Bool, true, false, List, [], ◌∷◌, Option, sym, subst, arith, inl, inr}
use Rattle.std.proofs.lemmas.List.Elements.{Contains-append_left}
use Rattle.ae_base.specs.declared.outcome.Outcome.{Outcome}
use Rattle.ae_base.specs.declared.outcome.Outcome.TheVariants.{DiskFault}
use Rattle.ae_base.specs.declared.refusal.Refusal.{Refusal}
use Rattle.ae_outside.specs.Image.{Image, IsSame}
use Rattle.ae_outside.specs.State.{DiskState, reads, MayLeave, Continues, GoesOn}
use Rattle.ae_schema.specs.declared.format.Format.TheVariants.{Two}
use Rattle.ae_vault.specs.Kept.{Holds, StandsForOne}
use Rattle.ae_vault.specs.Vault.{effective}
use Rattle.ae_log.specs.Log.{Log}
use Rattle.ae_exec.specs.declared.stop.Stop.{Stop}
use Rattle.ae_exec.specs.declared.stop.Stop.TheVariants as stop
use Rattle.ae_exec.specs.Endings.{EndsAs, damaged, disk_fault, done, memory, outcome_of_stop, refused, run_failed, site_fault}
use Rattle.ae_exec.specs.Migrated.{IsBroughtUp}
use Rattle.ae_exec.specs.Migrates.{HoldsInSecond, IsMigratedOrNot, IsPastMigration, IsUp, TakesToSecond}
use Rattle.ae_exec.specs.Performs.{LeavesDisk}
use Rattle.ae_exec.specs.Refined.{held_by}
use Rattle.ae_exec.specs.Stands.{StandsForLog, StandsForLogIn}
use Rattle.ae_exec.specs.Step.{outcome_done}
use Rattle.ae_exec.specs.Stops.{IsSettledNow, Leaves}
use Rattle.ae_exec.proofs.Committing.{begun}
use Rattle.ae_exec.proofs.Held.{one_of_more, same_holds, same_stops}
use Rattle.ae_exec.proofs.Leaving.{open_still}
use Rattle.ae_exec.proofs.Standing.{second_by_files}
use Rattle.ae_exec.proofs.Stores.{same_files}

-- ---- once the store is brought up, calls that change nothing

module _ (base mid disk : DiskState) (up : IsUp base mid) (same : GoesOn IsSame mid disk) where
  pub still_read : IsBroughtUp (reads base) (effective (reads base)) (effective (reads disk))
  still_read = subst (λ (files : Option Image). IsBroughtUp (reads base) (effective (reads base)) files) (sym (same_files mid disk same)) up.read

  -- an image is one that there was
  was-there : (f : Image) → MayLeave disk f → MayLeave mid f
  was-there f is = let was = same.images_since disk.moment f same.time.later (omega arith) is in subst (λ (g : Image). MayLeave mid g) (sym was.2) was.1

  pub still_each : IsSettledNow base → (f : Image) → MayLeave disk f → (from : Image) × MayLeave base from × IsBroughtUp (reads base) (effective from) (effective f)
  still_each settled f is = up.each settled f (was-there f is)

  pub still_whole : base.moment ≤ mid.moment → IsSettledNow base → IsMigratedOrNot base disk
  still_whole later settled = go (up.whole settled)
    where
      go : IsMigratedOrNot base mid → IsMigratedOrNot base disk
      go (inl opening) = inl (open_still base mid disk later opening same)
      go (inr each) = inr (λ f is. each f (was-there f is))

-- ---- it ended before the store was brought up

-- how an opening ends that isn't done
not-past : {D F : Type 0} {R : Refusal → Type 0} {M : List ℕ → Type 0} {X U : Type 0} (outcome : Outcome) → (D → ⊥) → (F → ⊥) → ((refusal : Refusal) → R refusal → ⊥) → (U → ⊥) → EndsAs D F R M X U outcome → IsPastMigration outcome → ⊥
not-past _ no_done no_failed no_refused no_site (done is) past = no_done is
not-past _ no_done no_failed no_refused no_site (run_failed is) past = no_failed is
not-past _ no_done no_failed no_refused no_site (refused refusal is) past = no_refused refusal is
not-past _ no_done no_failed no_refused no_site (damaged name is) past = past
not-past _ no_done no_failed no_refused no_site (disk_fault is) past = past
not-past _ no_done no_failed no_refused no_site (site_fault is) past = no_site is
not-past _ no_done no_failed no_refused no_site memory past = past

pub taken_early : {M : List ℕ → Type 0} {X : Type 0} (base disk : DiskState) (held : List Log) (log next : Log) (outcome : Outcome) → LeavesDisk base disk (Unit {0}) → Holds StandsForLog base held
    → EndsAs ⊥ ⊥ (λ (refusal : Refusal). ⊥) M X ⊥ outcome → TakesToSecond base disk held log next outcome
taken_early base disk held log next outcome left holds ends = record {
  taken = disk.moment;
  after_start = left.time.later;
  before_now = omega arith;
  until = (left.kept tt held holds).stops;
  since = λ u f from till is. absurd (omega (arith, from, till));
  brought = λ past. absurd (not-past outcome (λ none. none) (λ none. none) (λ refusal none. none) (λ none. none) ends past);
}

-- ---- after it was

module _ (base mid made : DiskState) (held : List Log) (log next : Log) (left : LeavesDisk base mid (Unit {0})) (holds : Holds StandsForLog base held) (second : HoldsInSecond mid log) (same : GoesOn IsSame mid made) where
  made-second : HoldsInSecond made log
  made-second = same_holds (StandsForLogIn Two) second_by_files mid made (log ∷ []) same second

  -- it was stopped before anything was put
  still-since : (u : ℕ) (f : Image) → mid.moment < u → u ≤ made.moment → made.image_at u f → StandsForOne (StandsForLogIn Two) (log ∷ next ∷ []) f
  still-since u f from till is =
      one_of_more (StandsForLogIn Two) second_by_files (log ∷ []) (log ∷ next ∷ []) f (λ l in_one. Contains-append_left (log ∷ []) (next ∷ []) l in_one) (same_stops (StandsForLogIn Two) second_by_files mid made (log ∷ []) same second u f (omega (arith, from)) till is)

  still-brought : (why : Stop) → IsPastMigration (outcome_of_stop why) → Holds (StandsForLogIn Two) made (held_by StandsForLog log next (outcome_of_stop why))
  still-brought (stop.Refused refusal) past = made-second
  still-brought (stop.Damaged name) past = absurd past
  still-brought stop.DiskFault past = absurd past
  still-brought stop.SiteFault past = made-second
  still-brought stop.Memory past = absurd past

  pub taken_still : (why : Stop) → TakesToSecond base made held log next (outcome_of_stop why)
  taken_still why = record {
    taken = mid.moment;
    after_start = left.time.later;
    before_now = same.time.later;
    until = λ u f from till is. (left.kept tt held holds).stops u f from till (same.time.no_more u f till is);
    since = still-since;
    brought = still-brought why;
  }

  -- or as it was put, or once it was
  module _ (disk : DiskState) (time : Continues made disk) (put : Leaves (StandsForLogIn Two) made disk (log ∷ next ∷ [])) where
    taken_put : (outcome : Outcome) → (IsPastMigration outcome → Holds (StandsForLogIn Two) disk (held_by StandsForLog log next outcome)) → TakesToSecond base disk held log next outcome
    taken_put outcome brought = record {
      taken = made.moment;
      after_start = omega (arith, left.time.later, same.time.later);
      before_now = time.later;
      until = λ u f from till is. (begun base mid made held (left.kept tt held holds) same).stops u f from till (time.no_more u f till is);
      since = λ u f from till is. put.stops u f (omega (arith, from)) till is;
      brought = brought;
    }

    pub taken_fault : TakesToSecond base disk held log next DiskFault
    taken_fault = taken_put DiskFault (λ past. absurd past)

    pub taken_done : (failed : Bool) → Holds (StandsForLogIn Two) disk (next ∷ []) → TakesToSecond base disk held log next (outcome_done failed)
    taken_done true now = taken_put (outcome_done true) (λ past. now)
    taken_done false now = taken_put (outcome_done false) (λ past. now)
