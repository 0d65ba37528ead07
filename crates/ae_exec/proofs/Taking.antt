-- A clean disk on which a migration is put, or on which none is needed.
use Rattle.std.proofs.Common.{◌≡◌, ◌⊎◌, inl, inr, ℕ, ◌≤◌, List, [], ◌∷◌, Option, Some, None, refl, sym, ◌∙◌, ap, subst, arith}
use Rattle.std.specs.Prelude.{Contains, IsSomeAnd, unwrap_or}
use Rattle.std.proofs.lemmas.Bool.{cases_lt}
use Rattle.ae_outside.specs.Image.{Image, IsSame}
use Rattle.ae_outside.specs.State.{DiskState, reads, MayLeave, Continues, GoesOn}
use Rattle.ae_schema.specs.declared.format.Format.TheVariants.{One, Two}
use Rattle.ae_types.specs.Observation.{Observation}
use Rattle.ae_vault.specs.declared.piece.Piece.{Piece}
use Rattle.ae_vault.specs.Batch.{BatchRecord}
use Rattle.ae_vault.specs.Commit.{IsClean, Throughout, with_entries}
use Rattle.ae_vault.specs.Kept.{Holds}
use Rattle.ae_vault.specs.Pieces.{BatchAt, FilesOver, IsAfterBatch, IsBeforeBatch}
use Rattle.ae_vault.specs.Vault.{effective, put}
use Rattle.ae_store.specs.Migrating.{IsMigration, IsNeeded, Migrates, NeedsNone}
use Rattle.ae_store.specs.Records.{IsMigrated, StandsFor, StandsIn}
use Rattle.ae_log.specs.Log.{Log}
use Rattle.ae_log.specs.Observed.{observation}
use Rattle.ae_exec.specs.Endings.{OthersSame}
use Rattle.ae_exec.specs.Migrated.{AgreesInFormat, AreMigrated, BringingUpAt, IsInFirst, MayBeMigrated, as_they_are, migrated, migrated_files, with_migration}
use Rattle.ae_exec.specs.Migrates.{HoldsInSecond, IsUp, KeepsLog}
use Rattle.ae_exec.specs.Performs.{LeavesDisk}
use Rattle.ae_exec.specs.Stands.{StandsForLog, StandsForLogIn}
use Rattle.ae_exec.specs.Stops.{IsSettledNow, Leaves}
use Rattle.ae_exec.proofs.Moments.{opening_up, up_join}
use Rattle.ae_exec.proofs.Ended.{continues_then}
use Rattle.ae_exec.proofs.Held.{only_one, same_holds}
use Rattle.ae_exec.proofs.InFormat.{clean_agrees, put_format, still_format}
use Rattle.ae_exec.proofs.Leaving.{clean_settled, holds_more, leaves_same, open_now, open_still, same_settled}
use Rattle.ae_exec.proofs.Migrating.{first_log, others_migrated, second-needless, second-stands, stands_migrated, stands_second}
use Rattle.ae_exec.proofs.Putting.{over_nothing}
use Rattle.ae_exec.proofs.Refining.{same_kept, stands_for}
use Rattle.ae_exec.proofs.Standing.{alike, by_files, in_some_format, second_alike}
use Rattle.ae_exec.proofs.OthersStaying.{brought_stay}
use Rattle.ae_exec.proofs.Stores.{others_same, same_files}

-- what the one log of a disk is
one-log : (disk : DiskState) (log : Log) → Holds StandsForLog disk (log ∷ []) → (f : Image) → MayLeave disk f → StandsForLog f log
one-log disk log holds f is = stands_for StandsForLog by_files alike log f (holds.each f is)

-- a clean disk of which each image stands for the log in the second format
second_holds : (disk : DiskState) (log : Log) → IsClean disk → ((f : Image) → MayLeave disk f → StandsForLogIn Two f log) → HoldsInSecond disk log
second_holds disk log clean all =
    let read : StandsForLogIn Two (reads disk) log = all (reads disk) (disk.reads_is_image disk.moment (omega arith)) in
    record {
      settled = clean_settled disk clean;
      read = (log, (0, omega arith, refl), read);
      each = λ f is. (log, (0, omega arith, refl), all f is);
      agrees = λ f m is agree stands. second_alike (reads disk) f log m read (all f is) stands;
    }

-- ---- calls that change nothing

module _ (base disk : DiskState) (clean : IsClean base) (goes : GoesOn IsSame base disk) where
  settled : IsSettledNow base
  settled = clean_settled base clean

  still-clean : IsClean disk
  still-clean f is = let was = goes.images_since disk.moment f goes.time.later (omega arith) is in clean f (subst (λ (g : Image). MayLeave base g) (sym was.2) was.1)

  pub still_leaves : LeavesDisk base disk (Unit {0})
  still_leaves = record {
    time = goes.time;
    kept = λ is held holds. leaves_same StandsForLog by_files alike base disk held goes holds;
    any_moment = λ is was. opening_up base disk (open_still base base disk (omega arith) (open_now base settled) goes);
    unchanged = λ is. inl (same_files base disk goes);
    settled = λ was. same_settled base disk goes was;
    in_format = λ was agrees. still_format base disk goes agrees;
    others = others_same (effective (reads base)) (effective (reads disk)) (same_files base disk goes);
    others_stay = λ was. brought_stay base disk (opening_up base disk (open_still base base disk (omega arith) (open_now base settled) goes));
  }

  pub still_keeps : (log : Log) → Holds StandsForLog base (log ∷ []) → KeepsLog base disk log
  still_keeps log holds = (same_kept StandsForLog by_files alike base disk log goes holds, same_holds StandsForLog by_files base disk (log ∷ []) goes holds)

  -- where no migration is needed
  module _ (needs : IsSomeAnd (effective (reads base)) NeedsNone) where
    pub needless_up : IsUp base disk
    needless_up = record {
      second = subst (λ (a : Option Image). IsSomeAnd a IsMigrated) (sym (same_files base disk goes)) (second-needless (effective (reads base)) needs);
      read = as_they_are needs (same_files base disk goes);
      each = λ was f is. let from = goes.images_since disk.moment f goes.time.later (omega arith) is in (from.0, from.1, as_they_are needs (ap effective from.2));
      whole = λ was. inl (open_still base base disk (omega arith) (open_now base settled) goes);
    }

    needless_each : (log : Log) → Holds StandsForLog base (log ∷ []) → AgreesInFormat base → (f : Image) → MayLeave disk f → StandsForLogIn Two f log
    needless_each log holds agrees f is =
        let from = goes.images_since disk.moment f goes.time.later (omega arith) is in
        let in_second = agrees from.0 from.1 (clean_agrees base clean from.0 from.1) (second-needless (effective (reads base)) needs) in
        subst (λ (g : Image). StandsForLogIn Two g log) (sym from.2) (stands_second from.0 log (one-log base log holds from.0 from.1) in_second)

    pub needless_second : (log : Log) → Holds StandsForLog base (log ∷ []) → AgreesInFormat base → HoldsInSecond disk log
    needless_second log holds agrees = second_holds disk log still-clean (needless_each log holds agrees)

-- ---- what is answered where a migration is asked for

pub needs_none : (a : Option Image) (made : Option BatchRecord) → made ≡ None → IsSomeAnd a (λ files. IsNeeded files made) → IsSomeAnd a NeedsNone
needs_none a made is needed = subst (λ (m : Option BatchRecord). IsSomeAnd a (λ files. IsNeeded files m)) is needed

pub needs_batch : (a : Option Image) (made : Option BatchRecord) (batch : BatchRecord) → made ≡ Some batch → IsSomeAnd a (λ files. IsNeeded files made) → IsSomeAnd a (λ files. IsMigration files batch)
needs_batch a made batch is needed = subst (λ (m : Option BatchRecord). IsSomeAnd a (λ files. IsNeeded files m)) is needed

-- ---- a batch of a migration

-- what the files stand for that it migrates
migration_of : (a : Option Image) (batch : BatchRecord) → IsSomeAnd a (λ files. IsMigration files batch) → (o : Observation) × IsSomeAnd a (λ files. StandsIn One files (Some o)) × Migrates o batch
migration_of (Some files) batch is = (is.stood, is.first, is.migrates)
migration_of None batch is = absurd is

module _ (o : Observation) (batch : BatchRecord) (migrates : Migrates o batch) where
  put_is : (files : Image) → put batch.entries files ≡ migrated_files o files
  put_is files = λ i name. unwrap_or (migrates.entries name i) (files name)

  with_is : (a : Option Image) → with_entries batch.entries a ≡ with_migration o a
  with_is (Some x) = ap (λ (files : Image). Some files) (put_is x)
  with_is None = refl

  before_is : (from f : Image) → IsBeforeBatch batch from f → effective f ≡ effective from
  before_is from f before = over_nothing (effective from) (effective f) (subst (λ (pieces : List Piece). FilesOver pieces (effective from) (effective f)) migrates.pieces before)

  after_is : (from f : Image) → IsAfterBatch batch from f → effective f ≡ with_migration o (effective from)
  after_is from f after =
      over_nothing (with_entries batch.entries (effective from)) (effective f) (subst (λ (pieces : List Piece). FilesOver pieces (with_entries batch.entries (effective from)) (effective f)) migrates.pieces after.files)
      ∙ with_is (effective from)

  either_is : (from f : Image) → IsBeforeBatch batch from f ⊎ IsAfterBatch batch from f → (effective f ≡ effective from) ⊎ (effective f ≡ with_migration o (effective from))
  either_is from f (inl before) = inl (before_is from f before)
  either_is from f (inr after) = inr (after_is from f after)

  makes : (files : Image) → StandsFor files (Some o) → StandsIn Two (migrated_files o files) (Some o)
  makes files stands = subst (λ (x : Image). StandsIn Two x (Some o)) (put_is files) (migrates.stands files stands)

-- ---- it is put, after calls that change nothing

-- the batch of a migration of what base reads was put, or a part of it, from mid on
pub record IsPut (base mid disk : DiskState) (batch : BatchRecord) : Type 0 where
  pub clean : IsClean base
  pub goes : GoesOn IsSame base mid
  pub is : IsSomeAnd (effective (reads base)) (λ files. IsMigration files batch)
  pub time : Continues mid disk
  pub any_moment : Throughout (BatchAt batch mid) mid.moment disk
  pub one_of_two : IsBeforeBatch batch (reads mid) (reads disk) ⊎ IsAfterBatch batch (reads mid) (reads disk)

module _ (base mid disk : DiskState) (batch : BatchRecord) (p : IsPut base mid disk batch) where
  abbrev o : Observation
  o = (migration_of (effective (reads base)) batch p.is).0

  migrates : Migrates o batch
  migrates = (migration_of (effective (reads base)) batch p.is).2

  in_first : IsInFirst (reads base) o
  in_first = record { first = (migration_of (effective (reads base)) batch p.is).1; makes = makes o batch migrates }

  read-mid : reads mid ≡ reads base
  read-mid = p.goes.reads_since mid.moment p.goes.time.later (omega arith)

  of-base : (m : Image) → MayLeave mid m → MayLeave base m
  of-base m is = let was = p.goes.images_since mid.moment m p.goes.time.later (omega arith) is in subst (λ (g : Image). MayLeave base g) (sym was.2) was.1

  later : base.moment ≤ disk.moment
  later = omega (arith, p.goes.time.later, p.time.later)

  mid-clean : IsClean mid
  mid-clean f is = p.clean f (of-base f is)

  -- ---- each moment

  moments : Throughout (BringingUpAt base) base.moment disk
  moments = up_join base mid disk p.time (opening_up base mid (open_still base base mid (omega arith) (open_now base (clean_settled base p.clean)) p.goes)) then
    where
      then : (u : ℕ) → mid.moment ≤ u → u ≤ disk.moment → BringingUpAt base (disk.reads_at u) (disk.image_at u)
      then u after till =
          let at : BatchAt batch mid (disk.reads_at u) (disk.image_at u) = p.any_moment u after till in
          record { settled = at.settled; each = λ f is. let was = at.each f is in (was.0, of-base was.0 was.1, inr (o, in_first, either_is o batch migrates was.0 f was.2)) }

  -- an image stands for the log that each one stood for
  module _ (log : Log) (all : (f : Image) → MayLeave base f → StandsForLog f log) where
    same-log : observation log ≡ Some o
    same-log = first_log (reads base) o log in_first (all (reads base) (base.reads_is_image base.moment (omega arith)))

    after-stands : (from f : Image) → MayLeave mid from → IsAfterBatch batch from f → StandsForLogIn Two f log
    after-stands from f is after = stands_migrated (reads base) from f o log in_first same-log (after_is o batch migrates from f after) (all from (of-base from is))

    each-stands : (from f : Image) → MayLeave mid from → IsBeforeBatch batch from f ⊎ IsAfterBatch batch from f → StandsForLog f log
    each-stands from f is (inl before) = by_files from f log (sym (before_is o batch migrates from f before)) (all from (of-base from is))
    each-stands from f is (inr after) = in_some_format Two f log (after-stands from f is after)

    always : (u : ℕ) (f : Image) → base.moment ≤ u → u ≤ disk.moment → disk.image_at u f → StandsForLog f log
    always u f from till is = elim (cases_lt u mid.moment) [
      | inl before ↦
          let was = p.goes.images_since u f from (omega (arith, before)) (p.time.no_more u f (omega (arith, before)) is) in
          subst (λ (g : Image). StandsForLog g log) (sym was.2) (all was.0 was.1)
      | inr after ↦ let was = (p.any_moment u after till).each f is in each-stands was.0 f was.1 was.2
    ]

    put-holds : Holds StandsForLog disk (log ∷ [])
    put-holds =
        let now : (f : Image) → MayLeave disk f → StandsForLog f log = λ f is. always disk.moment f later (omega arith) is in
        let read : StandsForLog (reads disk) log = now (reads disk) (disk.reads_is_image disk.moment (omega arith)) in
        record {
          settled = (p.any_moment disk.moment p.time.later (omega arith)).settled;
          read = (log, (0, omega arith, refl), read);
          each = λ f is. (log, (0, omega arith, refl), now f is);
          agrees = λ f m is agree stands. alike (reads disk) f log m read (now f is) stands;
        }

  -- ---- what it leaves

  put-kept : (held : List Log) → Holds StandsForLog base held → Leaves StandsForLog base disk held
  put-kept held holds =
      let log = holds.read.0 in
      let all : (f : Image) → MayLeave base f → StandsForLog f log = λ f is. holds.agrees f log is (clean_agrees base p.clean f is) holds.read.2 in
      record {
        stops = λ u f from till is. (log, holds.read.1, always log all u f from till is);
        holds = holds_more StandsForLog by_files alike disk (log ∷ []) held (λ k in_one. subst (λ (l : Log). Contains held l) (only_one StandsForLog by_files log k in_one) holds.read.1) (put-holds log all);
      }

  put-read : IsBeforeBatch batch (reads mid) (reads disk) ⊎ IsAfterBatch batch (reads mid) (reads disk) → MayBeMigrated (reads base) (effective (reads base)) (effective (reads disk))
  put-read (inl before) = inl (before_is o batch migrates (reads mid) (reads disk) before ∙ ap effective read-mid)
  put-read (inr after) = inr (o, in_first, after_is o batch migrates (reads mid) (reads disk) after ∙ ap (λ (i : Image). with_migration o (effective i)) read-mid)

  may-others : MayBeMigrated (reads base) (effective (reads base)) (effective (reads disk)) → OthersSame (effective (reads base)) (effective (reads disk))
  may-others (inl same) = others_same (effective (reads base)) (effective (reads disk)) same
  may-others (inr (x, is, made)) = subst (λ (a : Option Image). OthersSame (effective (reads base)) a) (sym made) (others_migrated x (effective (reads base)))

  pub put_leaves_disk : LeavesDisk base disk (Unit {0})
  put_leaves_disk = record {
    time = continues_then base mid disk p.goes.time p.time;
    kept = λ is held holds. put-kept held holds;
    any_moment = λ is was. moments;
    unchanged = λ is. put-read p.one_of_two;
    settled = λ was. (p.any_moment disk.moment p.time.later (omega arith)).settled;
    in_format = λ was agrees. put_format batch mid disk mid-clean p.time p.any_moment (still_format base mid p.goes agrees);
    others = may-others (put-read p.one_of_two);
    others_stay = λ was. brought_stay base disk moments;
  }

  pub put_keeps : (log : Log) → Holds StandsForLog base (log ∷ []) → KeepsLog base disk log
  put_keeps log holds = ((later, λ u f from till is. always log (one-log base log holds) u f from till is), put-holds log (one-log base log holds))

  -- ---- once it is done

  module _ (clean : IsClean disk) (all : (f : Image) → MayLeave disk f → (from : Image) × MayLeave mid from × IsAfterBatch batch from f) (read : IsAfterBatch batch (reads mid) (reads disk)) where
    read-migrated : effective (reads disk) ≡ with_migration o (effective (reads base))
    read-migrated = after_is o batch migrates (reads mid) (reads disk) read ∙ ap (λ (i : Image). with_migration o (effective i)) read-mid

    each-migrated : (f : Image) → MayLeave disk f → (from : Image) × MayLeave base from × AreMigrated (reads base) (effective from) (effective f)
    each-migrated f is = let was = all f is in (was.0, of-base was.0 was.1, (o, in_first, after_is o batch migrates was.0 f was.2))

    stands-second : (a : Option Image) → IsSomeAnd a (λ files. StandsIn One files (Some o)) → IsSomeAnd (with_migration o a) (λ files. StandsIn Two files (Some o))
    stands-second (Some x) stands = in_first.makes x (One, stands)
    stands-second None stands = absurd stands

    pub put_up : IsUp base disk
    put_up = record {
      second = second-stands (effective (reads disk)) (Some o) (subst (λ (a : Option Image). IsSomeAnd a (λ files. StandsIn Two files (Some o))) (sym read-migrated) (stands-second (effective (reads base)) in_first.first));
      read = migrated (o, in_first, read-migrated);
      each = λ was f is. let m = each-migrated f is in (m.0, m.1, migrated m.2);
      whole = λ was. inr each-migrated;
    }

    pub put_second : (log : Log) → Holds StandsForLog base (log ∷ []) → HoldsInSecond disk log
    put_second log holds = second_holds disk log clean (λ f is. let was = all f is in after-stands log (one-log base log holds) was.0 f was.1 was.2)
