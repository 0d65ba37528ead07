-- A command changes just the state files whose records differ, and the packed file in its pieces.
use Rattle.std.specs.Prelude.{◌≡◌, ◌⊎◌, ℕ, List, Option, Some, None, unwrap_or}
use Rattle.std.proofs.Common.{ap, subst, ◌∙◌, inl, inr, arith}
use Rattle.std.proofs.lemmas.Bool.{cases_lt}
use Rattle.ae_outside.specs.Image.{Image}
use Rattle.ae_outside.specs.State.{DiskState, Continues, MayLeave, reads}
use Rattle.ae_types.specs.Observation.{Observation}
use Rattle.ae_vault.specs.declared.entry.Entry.{Entry}
use Rattle.ae_vault.specs.declared.piece.Piece.{Piece}
use Rattle.ae_vault.specs.Batch.{BatchRecord}
use Rattle.ae_vault.specs.Commit.{IsBefore, OnlyRecovers, Throughout, with_entries}
use Rattle.ae_vault.specs.Pieces.{BatchAt, FilesOver, IsPacked, IsBeforeBatch, IsAfterBatch, pack}
use Rattle.ae_vault.specs.Vault.{content_of, effective}
use Rattle.ae_store.specs.Changed.{entry_for}
use Rattle.ae_exec.specs.Exact.{ChangesExactly, IsChangedBy, migrated_alone, not_yet, pieces_alone, whole, with_records}
use Rattle.ae_exec.specs.Migrated.{BringingUpAt, IsBroughtUp, IsMigrating}

-- ---- before anything is put

up-exact : (read from image : Image) (old : Option Observation) (next : Observation) (pieces : List Piece) → (IsBefore from image × OnlyRecovers from image) ⊎ IsMigrating read from image → IsChangedBy read old next pieces from image
up-exact read from image old next pieces (inl before) = not_yet before.0
up-exact read from image old next pieces (inr (o, is, inl kept)) = not_yet kept
up-exact read from image old next pieces (inr (o, is, inr made)) = migrated_alone (o, is, made)

pub opening-exact : (base disk : DiskState) (old : Option Observation) (next : Observation) (pieces : List Piece) → Throughout (BringingUpAt base) base.moment disk → ChangesExactly base disk old next pieces
opening-exact base disk old next pieces opening u f from till is = let was = (opening u from till).each f is in (was.0, was.1, up-exact (reads base) was.0 f old next pieces was.2)

-- ---- a batch

module _ (entries : List Entry) (pieces : List Piece) (old : Option Observation) (next : Observation) (are : (name : List ℕ) → content_of entries name ≡ entry_for old next name) where
  over-records : (a b : Option Image) → FilesOver pieces (with_entries entries a) b → FilesOver pieces (with_records old next a) b
  over-records (Some x) (Some y) over = record {
    others = λ name other. over.others name other ∙ ap (λ (c : Option (List ℕ)). unwrap_or c (x name)) (are name);
    packed = subst (λ (bytes : List ℕ). IsPacked pieces bytes (y pack)) (ap (λ (c : Option (List ℕ)). unwrap_or c (x pack)) (are pack)) over.packed;
  }
  over-records (Some x) None over = absurd over
  over-records None b over = absurd over

module _ (base made disk : DiskState) (batch : BatchRecord) (old : Option Observation) (next : Observation) (are : (name : List ℕ) → content_of batch.entries name ≡ entry_for old next name)
    (opening : Throughout (BringingUpAt base) base.moment made) (each : (f : Image) → MayLeave made f → (from : Image) × MayLeave base from × IsBroughtUp (reads base) (effective from) (effective f))
    (time : Continues made disk) (through : Throughout (BatchAt batch made) made.moment disk) where
  changed : (from mid f : Image) → IsBroughtUp (reads base) (effective from) (effective mid) → IsBeforeBatch batch mid f ⊎ IsAfterBatch batch mid f → IsChangedBy (reads base) old next batch.pieces from f
  changed from mid f up (inl before) = pieces_alone (effective mid) up before
  changed from mid f up (inr after) = whole (effective mid) up (over-records batch.entries batch.pieces old next are (effective mid) (effective f) after.files)

  pub commit-exact : ChangesExactly base disk old next batch.pieces
  commit-exact u f from till is = elim (cases_lt u made.moment) [
    | inl before ↦ opening-exact base made old next batch.pieces opening u f from (omega (arith, before)) (time.no_more u f (omega (arith, before)) is)
    | inr after ↦
        let between = (through u after till).each f is in
        let was = each between.0 between.1 in
        (was.0, was.1, changed was.0 between.0 f was.2 between.2)
  ]

-- once a batch is put, all of it is read
pub commit-whole : (base made disk : DiskState) (batch : BatchRecord) (old : Option Observation) (next : Observation) → ((name : List ℕ) → content_of batch.entries name ≡ entry_for old next name)
    → IsBroughtUp (reads base) (effective (reads base)) (effective (reads made)) → IsAfterBatch batch (reads made) (reads disk)
    → (files : Option Image) × IsBroughtUp (reads base) (effective (reads base)) files × FilesOver batch.pieces (with_records old next files) (effective (reads disk))
commit-whole base made disk batch old next are up after = (effective (reads made), up, over-records batch.entries batch.pieces old next are (effective (reads made)) (effective (reads disk)) after.files)
