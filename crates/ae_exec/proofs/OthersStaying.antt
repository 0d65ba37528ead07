-- The other files of what a stop leaves stay as they were: while the store is opened and migrated, while it is read, and while a batch is put.
use Rattle.std.proofs.Common.{◌≡◌, ◌<◌, ◌≤◌, ◌⊎◌, inl, inr, sym, subst, arith, ℕ, List, Option}
use Rattle.std.proofs.lemmas.Bool.{cases_lt}
use Rattle.ae_outside.specs.Image.{Image}
use Rattle.ae_outside.specs.State.{Continues, DiskState, MayLeave, reads}
use Rattle.ae_types.specs.Observation.{Observation}
use Rattle.ae_vault.specs.Batch.{BatchRecord}
use Rattle.ae_vault.specs.Commit.{IsBefore, OnlyRecovers, Throughout}
use Rattle.ae_vault.specs.Pieces.{BatchAt}
use Rattle.ae_vault.specs.Vault.{effective}
use Rattle.ae_exec.specs.Endings.{OthersSame, OthersStay}
use Rattle.ae_exec.specs.Migrated.{BringingUpAt, IsMigrating, with_migration}
use Rattle.ae_exec.specs.Plan.{IsStep}
use Rattle.ae_exec.proofs.Migrating.{others_migrated}
use Rattle.ae_exec.proofs.Stores.{others_same, others_then, put_others}

-- ---- an opening, and a migration

migrating_others : (read from f : Image) → IsMigrating read from f → OthersSame (effective from) (effective f)
migrating_others read from f (o, first, inl same) = others_same (effective from) (effective f) same
migrating_others read from f (o, first, inr made) = subst (λ (files : Option Image). OthersSame (effective from) files) (sym made) (others_migrated o (effective from))

brought_others : (base : DiskState) (from f : Image) → (IsBefore from f × OnlyRecovers from f) ⊎ IsMigrating (reads base) from f → OthersSame (effective from) (effective f)
brought_others base from f (inl before) = others_same (effective from) (effective f) before.0
brought_others base from f (inr migrating) = migrating_others (reads base) from f migrating

pub brought_stay : (base disk : DiskState) → Throughout (BringingUpAt base) base.moment disk → OthersStay base disk
brought_stay base disk moments u f since until is = (let one = (moments u since until).each f is in (one.0, one.1, brought_others base one.0 f one.2))

-- ---- a batch that is a step

pub batch_stay : (base disk : DiskState) (batch : BatchRecord) (o : Option Observation) (next : Observation) → IsStep o next batch → Throughout (BatchAt batch base) base.moment disk → OthersStay base disk
batch_stay base disk batch o next step moments u f since until is =
    let one = (moments u since until).each f is in (one.0, one.1, put_others batch o next step.entries one.0 f one.2)

-- ---- one after another

pub stay_then : (base mid disk : DiskState) → base.moment ≤ mid.moment → OthersStay base mid → Continues mid disk → OthersStay mid disk → OthersStay base disk
stay_then base mid disk later first time second u f since until is = go (cases_lt u mid.moment)
  where
    go : (u < mid.moment) ⊎ (mid.moment ≤ u) → (from : Image) × MayLeave base from × OthersSame (effective from) (effective f)
    go (inl early) = first u f since (omega arith) (time.no_more u f (omega arith) is)
    go (inr late) =
        let then = second u f late until is in
        let was = first mid.moment then.0 later (omega arith) then.1 in
        (was.0, was.1, others_then (effective was.0) (effective then.0) (effective f) was.2 then.2)
