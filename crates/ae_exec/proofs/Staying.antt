-- Versions stay where they are while a command is performed.
use Rattle.std.proofs.Common.{◌≡◌, ◌⊎◌, inl, inr, ℕ, ◌≤◌, List, Option, Some, None, refl, sym, ◌∙◌, subst, arith}
use Rattle.std.specs.Prelude.{IsSomeAnd}
use Rattle.std.proofs.lemmas.Bool.{cases_lt}
use Rattle.ae_outside.specs.Image.{Image}
use Rattle.ae_outside.specs.State.{DiskState, Continues, reads}
use Rattle.ae_vault.specs.Batch.{BatchRecord}
use Rattle.ae_vault.specs.Commit.{IsBefore, OnlyRecovers, Throughout, with_entries}
use Rattle.ae_vault.specs.Kept.{Holds}
use Rattle.ae_vault.specs.Pieces.{pack, FilesOver, KeepsOutside, BatchAt}
use Rattle.ae_vault.specs.Vault.{effective, put}
use Rattle.ae_types.specs.Observation.{Observation}
use Rattle.ae_log.specs.Log.{Log}
use Rattle.ae_exec.specs.Carried.{BatchTakes, KeepsVersions, FilesKeepVersions, VersionsStay}
use Rattle.ae_exec.specs.Migrated.{BringingUpAt, IsMigrating, with_migration}
use Rattle.ae_exec.specs.Stands.{FilesStand, StandsForLog}
use Rattle.ae_exec.proofs.Bytes.{packed-keeps}
use Rattle.ae_exec.proofs.Migrating.{pack_stays}
use Rattle.ae_exec.proofs.Standing.{same-pack}

-- the same files
keeps-self : (log : Log) (bytes : List ℕ) → KeepsVersions log bytes bytes
keeps-self log bytes = record { no_shorter = omega arith; same = λ place version there k from till lt. refl }

-- and then again
keeps-then : (log : Log) (a b c : Option Image) → FilesKeepVersions log a b → FilesKeepVersions log b c → FilesKeepVersions log a c
keeps-then log (Some x) (Some y) (Some z) first second = record {
  no_shorter = omega (arith, first.no_shorter, second.no_shorter);
  same = λ place version there k from till lt. second.same place version there k from till (omega (arith, lt, first.no_shorter)) ∙ first.same place version there k from till lt;
}
keeps-then log (Some x) (Some y) None first second = absurd second
keeps-then log (Some x) None c first second = absurd first
keeps-then log None b c first second = absurd first

same-files : (log l : Log) (a b : Option Image) → b ≡ a → IsSomeAnd a (λ x. FilesStand x l) → FilesKeepVersions log a b
same-files log l (Some x) b is stands = subst (λ (o : Option Image). FilesKeepVersions log (Some x) o) (sym is) (keeps-self log (x pack))
same-files log l None b is stands = absurd stands

-- a migration has no bytes of a version
migrated-files : (log l : Log) (o : Observation) (a b : Option Image) → b ≡ with_migration o a → IsSomeAnd a (λ x. FilesStand x l) → FilesKeepVersions log a b
migrated-files log l o (Some x) b is stands = subst (λ (files : Option Image). FilesKeepVersions log (Some x) files) (sym is) (subst (λ (bytes : List ℕ). KeepsVersions log (x pack) bytes) (sym (pack_stays o x)) (keeps-self log (x pack)))
migrated-files log l o None b is stands = absurd stands

-- ---- an opening that a migration may follow, and a call that changes nothing

up-files : (log l : Log) (read from image : Image) → IsSomeAnd (effective from) (λ x. FilesStand x l) → (IsBefore from image × OnlyRecovers from image) ⊎ IsMigrating read from image → FilesKeepVersions log (effective from) (effective image)
up-files log l read from image stands (inl before) = same-files log l (effective from) (effective image) before.0 stands
up-files log l read from image stands (inr (o, is, inl kept)) = same-files log l (effective from) (effective image) kept stands
up-files log l read from image stands (inr (o, is, inr made)) = migrated-files log l o (effective from) (effective image) made stands

pub opening-stays : (base disk : DiskState) (held : List Log) (log : Log) → Holds StandsForLog base held → Throughout (BringingUpAt base) base.moment disk → VersionsStay base disk log
opening-stays base disk held log holds opening u f from till is =
    let was = (opening u from till).each f is in
    let stood = holds.each was.0 was.1 in
    (was.0, was.1, up-files log stood.0 (reads base) was.0 f stood.2 was.2)

-- and then more
pub then-stays : (base mid disk : DiskState) (held : List Log) (log : Log) → base.moment ≤ mid.moment → Holds StandsForLog base held → Throughout (BringingUpAt base) base.moment mid → Continues mid disk → VersionsStay mid disk log → VersionsStay base disk log
then-stays base mid disk held log later holds opening time rest u f from till is = elim (cases_lt u mid.moment) [
  | inl before ↦ opening-stays base mid held log holds opening u f from (omega (arith, before)) (time.no_more u f (omega (arith, before)) is)
  | inr after ↦
      let between = rest u f after till is in
      let was = (opening mid.moment later (omega arith)).each between.0 between.1 in
      let stood = holds.each was.0 was.1 in
      (was.0, was.1, keeps-then log (effective was.0) (effective between.0) (effective f) (up-files log stood.0 (reads base) was.0 between.0 stood.2 was.2) between.2)
]

-- ---- a commit

module _ (log next : Log) (batch : BatchRecord) (takes : BatchTakes log next batch) where
  outside-keeps : (old new : List ℕ) → KeepsOutside batch.pieces old new → KeepsVersions log old new
  outside-keeps old new keeps = record {
    no_shorter = keeps.no_shorter;
    same = λ place version there k from till lt. keeps.same k lt (λ covered. takes.versions.apart place version there k covered from till);
  }

  before-keeps : (a b : Option Image) → FilesOver batch.pieces a b → FilesKeepVersions log a b
  before-keeps (Some x) (Some y) over = outside-keeps (x pack) (y pack) (packed-keeps batch.pieces (x pack) (y pack) over.packed)
  before-keeps (Some x) None over = absurd over
  before-keeps None b over = absurd over

  after-keeps : (a b : Option Image) → FilesOver batch.pieces (with_entries batch.entries a) b → FilesKeepVersions log a b
  after-keeps (Some x) (Some y) over = subst (λ (old : List ℕ). KeepsVersions log old (y pack)) (same-pack log next batch takes x)
      (outside-keeps (put batch.entries x pack) (y pack) (packed-keeps batch.pieces (put batch.entries x pack) (y pack) over.packed))
  after-keeps (Some x) None over = absurd over
  after-keeps None b over = absurd over

  pub commit-stays : (base disk : DiskState) → Throughout (BatchAt batch base) base.moment disk → VersionsStay base disk log
  commit-stays base disk through u f from till is =
      let was = (through u from till).each f is in (
        was.0,
        was.1,
        elim was.2 [
          | inl kept ↦ before-keeps (effective was.0) (effective f) kept
          | inr made ↦ after-keeps (effective was.0) (effective f) made.files
        ],
      )

pub later-on : (a b c : ℕ) → a ≤ b → b ≤ c → a ≤ c
later-on a b c first second = omega (arith, first, second)
