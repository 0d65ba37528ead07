-- Each moment of an opening that a migration may follow.
use Rattle.std.proofs.Common.{◌≡◌, ◌⊎◌, inl, inr, ℕ, ◌≤◌, sym, ◌∙◌, ap, subst, arith}
use Rattle.std.proofs.lemmas.Bool.{cases_lt}
use Rattle.ae_outside.specs.Image.{Image, IsSame}
use Rattle.ae_outside.specs.State.{DiskState, reads, MayLeave, Continues, GoesOn}
use Rattle.ae_vault.specs.Commit.{IsBefore, OnlyRecovers, OpenAt, Throughout}
use Rattle.ae_vault.specs.Vault.{body, effective}
use Rattle.ae_exec.specs.Migrated.{BringingUpAt, IsMigrating, with_migration}
use Rattle.ae_exec.proofs.Leaving.{recovers_then}
use Rattle.ae_exec.proofs.Migrating.{in_first_same}

-- an opening is one that no migration follows
pub opening_up : (base disk : DiskState) → Throughout (OpenAt base) base.moment disk → Throughout (BringingUpAt base) base.moment disk
opening_up base disk opening u from till =
    let at = opening u from till in
    record { settled = at.settled; each = λ f is. let was = at.each f is in (was.0, was.1, inl (was.2, was.3)) }

-- what was up to some moment stays so
earlier : (base mid disk : DiskState) (u : ℕ) → u ≤ mid.moment → Continues mid disk → BringingUpAt base (mid.reads_at u) (mid.image_at u) → BringingUpAt base (disk.reads_at u) (disk.image_at u)
earlier base mid disk u till time at = record {
  settled = λ f g here there opened. subst (λ (i : Image). g body ≡ i body) (sym (time.reads_stay u till)) (at.settled f g (time.no_more u f till here) (time.no_more u g till there) opened);
  each = λ f is. at.each f (time.no_more u f till is);
}

-- one moment, and then more
pub up_join : (base mid disk : DiskState) → Continues mid disk → Throughout (BringingUpAt base) base.moment mid
    → ((u : ℕ) → mid.moment ≤ u → u ≤ disk.moment → BringingUpAt base (disk.reads_at u) (disk.image_at u)) → Throughout (BringingUpAt base) base.moment disk
up_join base mid disk time first second u from till = elim (cases_lt u mid.moment) [
  | inl before ↦ earlier base mid disk u (omega (arith, before)) time (first u from (omega (arith, before)))
  | inr after ↦ second u after till
]

-- a call that changes nothing
pub up_still : (base mid disk : DiskState) → base.moment ≤ mid.moment → Throughout (BringingUpAt base) base.moment mid → GoesOn IsSame mid disk → Throughout (BringingUpAt base) base.moment disk
up_still base mid disk later up goes = up_join base mid disk goes.time up still
  where
    still : (u : ℕ) → mid.moment ≤ u → u ≤ disk.moment → BringingUpAt base (disk.reads_at u) (disk.image_at u)
    still u after till =
        let at : BringingUpAt base (reads mid) (MayLeave mid) = up mid.moment later (omega arith) in
        let was : (f : Image) → disk.image_at u f → MayLeave mid f = λ f is. let from_mid = goes.images_since u f after till is in subst (λ (g : Image). MayLeave mid g) (sym from_mid.2) from_mid.1 in
        record {
          settled = λ f g here there opened. subst (λ (i : Image). g body ≡ i body) (sym (goes.reads_since u after till)) (at.settled f g (was f here) (was g there) opened);
          each = λ f is. at.each f (was f is);
        }

-- an opening, and then a migration
module _ (base mid disk : DiskState) (same : effective (reads mid) ≡ effective (reads base)) where
  joined : (from between f : Image) → IsBefore from between → OnlyRecovers from between → (IsBefore between f × OnlyRecovers between f) ⊎ IsMigrating (reads mid) between f
      → (IsBefore from f × OnlyRecovers from f) ⊎ IsMigrating (reads base) from f
  joined from between f before recovers (inl then) = inl (recovers_then from between f before recovers then.0 then.1)
  joined from between f before recovers (inr (o, is, inl kept)) = inr (o, in_first_same (reads mid) (reads base) o same is, inl (kept ∙ before))
  joined from between f before recovers (inr (o, is, inr made)) = inr (o, in_first_same (reads mid) (reads base) o same is, inr (made ∙ ap (with_migration o) before))

  pub up_then : Continues mid disk → Throughout (OpenAt base) base.moment mid → base.moment ≤ mid.moment → Throughout (BringingUpAt mid) mid.moment disk → Throughout (BringingUpAt base) base.moment disk
  up_then time opening later second = up_join base mid disk time (opening_up base mid opening) then
    where
      then : (u : ℕ) → mid.moment ≤ u → u ≤ disk.moment → BringingUpAt base (disk.reads_at u) (disk.image_at u)
      then u after till =
          let at : BringingUpAt mid (disk.reads_at u) (disk.image_at u) = second u after till in
          record {
            settled = at.settled;
            each = λ f is.
                let was = at.each f is in
                let first = (opening mid.moment later (omega arith)).each was.0 was.1 in
                (first.0, first.1, joined first.0 was.0 f first.2 first.3 was.2);
          }
