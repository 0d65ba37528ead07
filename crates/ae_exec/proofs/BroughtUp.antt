-- An opening, and a migration after it, as one call.
use Rattle.std.proofs.Common.{◌≡◌, inl, inr, List, Option, ◌∷◌, [], ◌∙◌, ap, subst, arith}
use Rattle.std.specs.Prelude.{IsSomeAnd}
use Rattle.ae_outside.specs.Image.{Image}
use Rattle.ae_outside.specs.State.{DiskState, reads, MayLeave, Continues}
use Rattle.ae_vault.specs.Commit.{OpenAt, Throughout}
use Rattle.ae_vault.specs.Kept.{Holds}
use Rattle.ae_vault.specs.Vault.{effective}
use Rattle.ae_store.specs.Migrating.{NeedsNone}
use Rattle.ae_log.specs.Log.{Log}
use Rattle.ae_exec.specs.Migrated.{AgreesInFormat, AreMigrated, IsBroughtUp, MayBeMigrated, as_they_are, migrated, with_migration}
use Rattle.ae_exec.specs.Migrates.{IsMigratedOrNot, IsUp, KeepsLog}
use Rattle.ae_exec.specs.Performs.{LeavesDisk}
use Rattle.ae_exec.specs.Refined.{IsOpened}
use Rattle.ae_exec.specs.Stands.{StandsForLog}
use Rattle.ae_exec.specs.Stops.{IsSettledNow, Leaves}
use Rattle.ae_exec.proofs.Moments.{opening_up, up_then}
use Rattle.ae_exec.proofs.Ended.{continues_then}
use Rattle.ae_exec.proofs.Leaving.{leaves_then, open_then}
use Rattle.ae_exec.proofs.Migrating.{in_first_same}
use Rattle.ae_exec.proofs.Refining.{opened_on}
use Rattle.ae_exec.proofs.Standing.{alike, by_files}
use Rattle.ae_exec.proofs.OthersStaying.{brought_stay}
use Rattle.ae_exec.proofs.Stores.{others_same, others_then}

-- what an opening leaves
pub record Opened (base disk : DiskState) : Type 0 where
  pub time : Continues base disk
  pub left : (held : List Log) → Holds StandsForLog base held → Leaves StandsForLog base disk held
  pub any_moment : IsSettledNow base → Throughout (OpenAt base) base.moment disk
  pub files : effective (reads disk) ≡ effective (reads base)
  pub settled : IsSettledNow base → IsSettledNow disk
  pub in_format : IsSettledNow base → AgreesInFormat base → AgreesInFormat disk

pub opened_disk : (base disk : DiskState) → Opened base disk → LeavesDisk base disk (Unit {0})
opened_disk base disk opened = record {
  time = opened.time;
  kept = λ is held holds. opened.left held holds;
  any_moment = λ is settled. opening_up base disk (opened.any_moment settled);
  unchanged = λ is. inl opened.files;
  settled = opened.settled;
  in_format = opened.in_format;
  others = others_same (effective (reads base)) (effective (reads disk)) opened.files;
  others_stay = λ settled. brought_stay base disk (opening_up base disk (opened.any_moment settled));
}

-- ---- the files

module _ (base mid : Image) (same : effective mid ≡ effective base) where
  migrated-then : (old other new : Option Image) → other ≡ old → AreMigrated mid other new → AreMigrated base old new
  migrated-then old other new is (o, first, made) = (o, in_first_same mid base o same first, made ∙ ap (with_migration o) is)

  may-then : (new : Option Image) → MayBeMigrated mid (effective mid) new → MayBeMigrated base (effective base) new
  may-then new (inl kept) = inl (kept ∙ same)
  may-then new (inr made) = inr (migrated-then (effective base) (effective mid) new same made)

  brought-then : (old other new : Option Image) → other ≡ old → IsBroughtUp mid other new → IsBroughtUp base old new
  brought-then old other new is (as_they_are needs kept) = as_they_are (subst (λ (a : Option Image). IsSomeAnd a NeedsNone) same needs) (kept ∙ is)
  brought-then old other new is (migrated made) = migrated (migrated-then old other new is made)

-- ---- the disk

module _ (base mid disk : DiskState) (opened : Opened base mid) where
  pub up_disk : LeavesDisk mid disk (Unit {0}) → LeavesDisk base disk (Unit {0})
  up_disk up = record {
    time = continues_then base mid disk opened.time up.time;
    kept = λ is held holds.
        let first = opened.left held holds in
        leaves_then StandsForLog by_files alike base mid disk held held (λ l among. among) up.time first (up.kept tt held first.holds);
    any_moment = λ is settled. up_then base mid disk opened.files up.time (opened.any_moment settled) opened.time.later (up.any_moment tt (opened.settled settled));
    unchanged = λ is. may-then (reads base) (reads mid) opened.files (effective (reads disk)) (up.unchanged tt);
    settled = λ settled. up.settled (opened.settled settled);
    in_format = λ settled agrees. up.in_format (opened.settled settled) (opened.in_format settled agrees);
    others = others_then (effective (reads base)) (effective (reads mid)) (effective (reads disk)) (others_same (effective (reads base)) (effective (reads mid)) opened.files) up.others;
    others_stay = λ settled. brought_stay base disk (up_then base mid disk opened.files up.time (opened.any_moment settled) opened.time.later (up.any_moment tt (opened.settled settled)));
  }

  each-then : (P : Option Image → Option Image → Type 0) (Q : Option Image → Option Image → Type 0) → ((old other new : Option Image) → other ≡ old → P other new → Q old new) → IsSettledNow base
      → ((f : Image) → MayLeave disk f → (from : Image) × MayLeave mid from × P (effective from) (effective f)) → (f : Image) → MayLeave disk f → (from : Image) × MayLeave base from × Q (effective from) (effective f)
  each-then P Q joins settled each f is =
      let was = each f is in
      let from = (opened.any_moment settled mid.moment opened.time.later (omega arith)).each was.0 was.1 in
      (from.0, from.1, joins (effective from.0) (effective was.0) (effective f) from.2 was.2)

  whole-then : Continues mid disk → IsSettledNow base → IsMigratedOrNot mid disk → IsMigratedOrNot base disk
  whole-then time settled (inl opening) = inl (open_then base mid disk opened.time.later time (opened.any_moment settled) opening)
  whole-then time settled (inr each) = inr (each-then (AreMigrated (reads mid)) (AreMigrated (reads base)) (migrated-then (reads base) (reads mid) opened.files) settled each)

  pub up_up : Continues mid disk → IsUp mid disk → IsUp base disk
  up_up time up = record {
    second = up.second;
    read = brought-then (reads base) (reads mid) opened.files (effective (reads base)) (effective (reads mid)) (effective (reads disk)) opened.files up.read;
    each = λ settled. each-then (IsBroughtUp (reads mid)) (IsBroughtUp (reads base)) (brought-then (reads base) (reads mid) opened.files) settled (up.each (opened.settled settled));
    whole = λ settled. whole-then time settled (up.whole (opened.settled settled));
  }

-- it is opened to the log that was read, whether or not the migration is done
pub up_opened : (base mid disk : DiskState) (held : List Log) (log : Log) → Continues mid disk → ((l : Log) → Holds StandsForLog mid (l ∷ []) → KeepsLog mid disk l) → IsOpened StandsForLog base mid held log → IsOpened StandsForLog base disk held log
up_opened base mid disk held log time keeps opened =
    let kept = keeps log opened.holds in
    opened_on StandsForLog by_files alike base mid disk held log opened time kept.0 kept.1
