-- The images of a disk agree in their format, after each opening and each commit.
use Rattle.std.proofs.Common.{◌≡◌, ◌⊎◌, inl, inr, List, Option, Some, None, ℕ, sym, ◌∙◌, subst, arith}
use Rattle.std.specs.Prelude.{IsSomeAnd, unwrap_or}
use Rattle.ae_outside.specs.Image.{Image, IsSame}
use Rattle.ae_outside.specs.State.{DiskState, reads, MayLeave, Continues, GoesOn}
use Rattle.ae_schema.specs.declared.format.Format.TheVariants.{One}
use Rattle.ae_schema.specs.Formats.{IsOfFormat}
use Rattle.ae_vault.specs.declared.entry.Entry.{Entry}
use Rattle.ae_vault.specs.declared.piece.Piece.{Piece}
use Rattle.ae_vault.specs.Batch.{BatchRecord}
use Rattle.ae_vault.specs.Commit.{Agrees, IsClean, IsRecovering, Throughout, with_entries}
use Rattle.ae_vault.specs.Pieces.{BatchAt, FilesOver}
use Rattle.ae_vault.specs.Vault.{content_of, effective, put}
use Rattle.ae_store.specs.Names.{project_file}
use Rattle.ae_store.specs.Records.{IsMigrated}
use Rattle.ae_exec.specs.Migrated.{AgreesInFormat, IsSecond}
use Rattle.ae_exec.proofs.Standing.{project-other}

pub second_same : (f g : Image) → effective f ≡ effective g → IsSecond f → IsSecond g
second_same f g same is = subst (λ (a : Option Image). IsSomeAnd a IsMigrated) same is

-- the images of a clean disk have their gates closed
pub clean_agrees : (disk : DiskState) → IsClean disk → (f : Image) → MayLeave disk f → Agrees (reads disk) f
clean_agrees disk clean f is = clean f is ∙ sym (clean (reads disk) (disk.reads_is_image disk.moment (omega arith)))

-- ---- calls that change nothing

pub still_format : (base disk : DiskState) → GoesOn IsSame base disk → AgreesInFormat base → AgreesInFormat disk
still_format base disk goes agrees f is agree read =
    let same : reads disk ≡ reads base = goes.reads_since disk.moment goes.time.later (omega arith) in
    let was = goes.images_since disk.moment f goes.time.later (omega arith) is in
    agrees f (subst (λ (g : Image). MayLeave base g) (sym was.2) was.1) (subst (λ (i : Image). Agrees i f) same agree) (subst IsSecond same read)

-- ---- an opening

pub opened_format : (base disk : DiskState) → GoesOn IsSame base disk ⊎ IsRecovering base disk → AgreesInFormat base → AgreesInFormat disk
opened_format base disk (inl goes) agrees = still_format base disk goes agrees
opened_format base disk (inr recovering) agrees = λ f is agree read.
    let at = recovering.since disk.moment recovering.before_now (omega arith) in
    let was = at.each f is in
    second_same was.0 f (sym was.3) (agrees was.0 was.1 was.2 (second_same (reads disk) (reads base) at.read_before read))

-- ---- a commit

-- the bytes tell no first format
abbrev NotFirst : List ℕ → Type 0
NotFirst bytes = IsOfFormat One bytes → ⊥

over_second : (pieces : List Piece) (a b : Option Image) → FilesOver pieces a b → IsSomeAnd a IsMigrated → IsSomeAnd b IsMigrated
over_second pieces (Some x) (Some y) over is = subst NotFirst (sym (over.others project_file project-other)) is
over_second pieces (Some x) None over is = absurd over
over_second pieces None b over is = absurd over

over_back : (pieces : List Piece) (a b : Option Image) → FilesOver pieces a b → IsSomeAnd b IsMigrated → IsSomeAnd a IsMigrated
over_back pieces (Some x) (Some y) over is = subst NotFirst (over.others project_file project-other) is
over_back pieces (Some x) None over is = absurd over
over_back pieces None b over is = absurd over

put_second : (entry : Option (List ℕ)) (old other : List ℕ) → (NotFirst old → NotFirst other) → NotFirst (unwrap_or entry old) → NotFirst (unwrap_or entry other)
put_second (Some bytes) old other agrees is = is
put_second None old other agrees is = agrees is

after_second : (pieces : List Piece) (entries : List Entry) (r x read f : Option Image) → FilesOver pieces (with_entries entries r) read → FilesOver pieces (with_entries entries x) f → (IsSomeAnd r IsMigrated → IsSomeAnd x IsMigrated)
    → IsSomeAnd read IsMigrated → IsSomeAnd f IsMigrated
after_second pieces entries (Some r) (Some x) read f was over agrees is =
    over_second pieces (Some (put entries x)) f over (put_second (content_of entries project_file) (r project_file) (x project_file) agrees (over_back pieces (Some (put entries r)) read was is))
after_second pieces entries (Some r) None read f was over agrees is = absurd over
after_second pieces entries None x read f was over agrees is = absurd was

pub put_format : (batch : BatchRecord) (base disk : DiskState) → IsClean base → Continues base disk → Throughout (BatchAt batch base) base.moment disk → AgreesInFormat base → AgreesInFormat disk
put_format batch base disk clean time through agrees f is agree read =
    let at : BatchAt batch base (reads disk) (MayLeave disk) = through disk.moment time.later (omega arith) in
    let was = at.agrees f is agree in
    let of_base : IsSecond (reads base) → IsSecond was.0 = agrees was.0 was.1 (clean_agrees base clean was.0 was.1) in
    elim was.2 [
      | inl both ↦ over_second batch.pieces (effective was.0) (effective f) both.0 (of_base (over_back batch.pieces (effective (reads base)) (effective (reads disk)) both.1 read))
      | inr both ↦ after_second batch.pieces batch.entries (effective (reads base)) (effective was.0) (effective (reads disk)) (effective f) both.1.files both.0.files of_base read
    ]
