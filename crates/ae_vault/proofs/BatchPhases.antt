-- A commit with pieces: first these, and then the entries.
use Rattle.std.proofs.Common.{◌≡◌, ◌≢◌, ◌⊎◌, inl, inr, ℕ, ◌≤◌, Bool, true, false, if◌then◌else◌, List, [], ◌∷◌, Option, Some, None, unwrap_or, refl, sym, ◌∙◌, ap, subst, arith}
use Rattle.std.specs.Str.{bytes_eq}
use Rattle.std.proofs.lemmas.Bool.Decides.{nat_tests}
use Rattle.ae_outside.specs.Image.{Image}
use Rattle.ae_outside.specs.State.{DiskState, reads, MayLeave, Continues, GoesOn}
use Rattle.ae_outside.specs.Time.{reads_step}
use Rattle.ae_vault.specs.declared.entry.Entry.{Entry}
use Rattle.ae_vault.specs.declared.piece.Piece.{Piece}
use Rattle.ae_vault.specs.Batch.{BatchRecord}
use Rattle.ae_vault.specs.Vault.{gate, is_own, is_open, IsClosed, content_of, or_else, put, files, effective}
use Rattle.ae_vault.specs.Commit.{IsClean, with_entries, IsAfter, CommitAt, Throughout}
use Rattle.ae_vault.specs.Pieces.{pack, no_entry_is_pack, HasPieces, IsPacked, PackedOver, FilesOver, FilesHave, IsBeforeBatch, IsAfterBatch, BatchAt}
use Rattle.ae_vault.proofs.Files.{effective_closed}
use Rattle.ae_vault.proofs.Phases.{throughout_on}
use Rattle.ae_vault.proofs.Packs.{none_over}

gate_no_pack : gate ≢ pack
gate_no_pack same = let no_same : false ≡ true = ap (λ (l : List ℕ). bytes_eq l pack) same in cc

pub pack_unnamed : (entries : List Entry) → no_entry_is_pack entries ≡ true → content_of entries pack ≡ None
pack_unnamed [] other = refl
pack_unnamed (e ∷ entries) other =
    let rest : no_entry_is_pack entries ≡ true = grind (arith, nat_tests) in
    let here : bytes_eq e.name pack ≡ false = grind (arith, nat_tests) in
    ap (λ (o : Option (List ℕ)). or_else o (if bytes_eq e.name pack then Some (unwrap_or e.bytes []) else None)) (pack_unnamed entries rest)
    ∙ ap (λ (b : Bool). if b then Some (unwrap_or e.bytes []) else None) here

files_over : (pieces : List Piece) (f g : Image) → PackedOver pieces f g → PackedOver pieces (files f) (files g)
files_over pieces f g step = record {
  others = λ name differs. ap (λ (l : List ℕ). if is_own name then [] else l) (step.others name differs);
  packed = step.packed;
}

put_over : (entries : List Entry) (pieces : List Piece) (f g : Image) → content_of entries pack ≡ None → PackedOver pieces f g → PackedOver pieces (put entries f) (put entries g)
put_over entries pieces f g none step = record {
  others = λ name differs. ap (λ (l : List ℕ). unwrap_or (content_of entries name) l) (step.others name differs);
  packed = subst (λ (l : List ℕ). IsPacked pieces l (put entries g pack)) (sym (at_pack f)) (subst (λ (l : List ℕ). IsPacked pieces (f pack) l) (sym (at_pack g)) step.packed);
}
  where
    at_pack : (h : Image) → put entries h pack ≡ h pack
    at_pack h = ap (λ (o : Option (List ℕ)). unwrap_or o (h pack)) none

batch_fewer : (batch : BatchRecord) (base : DiskState) (r : Image) (I J : Image → Type 0) → BatchAt batch base r I → ((f : Image) → J f → I f) → BatchAt batch base r J
batch_fewer batch base r I J at fewer = record {
  settled = λ f g is that opened. at.settled f g (fewer f is) (fewer g that) opened;
  each = λ f is. at.each f (fewer f is);
  agrees = λ f is agree. at.agrees f (fewer f is) agree;
}

-- of the two, the one that is read
pub one_read : (batch : BatchRecord) (base t : DiskState) → Continues base t → Throughout (BatchAt batch base) base.moment t
    → IsBeforeBatch batch (reads base) (reads t) ⊎ IsAfterBatch batch (reads base) (reads t)
one_read batch base t time through =
    let now = through t.moment time.later (omega arith) in
    let found = now.agrees (reads t) (t.reads_is_image t.moment (omega arith)) refl in
    elim found.2 [
      | inl both ↦ inl both.1
      | inr both ↦ inr both.1
    ]

module _ (batch : BatchRecord) (unnamed : no_entry_is_pack batch.entries ≡ true) (base : DiskState) (clean : IsClean base) (s : DiskState) (goes : GoesOn (PackedOver batch.pieces) base s) where
  still_closed : (f g : Image) → PackedOver batch.pieces f g → IsClosed f → IsClosed g
  still_closed f g step closed = ap is_open (step.others gate gate_no_pack) ∙ closed

  before : (from mid f : Image) → PackedOver batch.pieces from mid → IsClosed from → effective f ≡ effective mid → IsBeforeBatch batch from f
  before from mid f step closed is =
      let mid_is : effective f ≡ Some (files mid) = is ∙ effective_closed mid (still_closed from mid step closed) in
      subst (λ (o : Option Image). FilesOver batch.pieces (effective from) o) (sym mid_is)
      (subst (λ (o : Option Image). FilesOver batch.pieces o (Some (files mid))) (sym (effective_closed from closed)) (files_over batch.pieces from mid step))

  after : (from mid f : Image) → PackedOver batch.pieces from mid → IsClosed from → HasPieces batch.pieces (mid pack) → effective f ≡ with_entries batch.entries (effective mid) → IsAfterBatch batch from f
  after from mid f step closed has is =
      let none = pack_unnamed batch.entries unnamed in
      let mid_is : effective f ≡ Some (put batch.entries (files mid)) = is ∙ ap (with_entries batch.entries) (effective_closed mid (still_closed from mid step closed)) in
      let from_is : with_entries batch.entries (effective from) ≡ Some (put batch.entries (files from)) = ap (with_entries batch.entries) (effective_closed from closed) in
      record {
        files =
            subst (λ (o : Option Image). FilesOver batch.pieces (with_entries batch.entries (effective from)) o) (sym mid_is)
            (subst (λ (o : Option Image). FilesOver batch.pieces o (Some (put batch.entries (files mid)))) (sym from_is) (put_over batch.entries batch.pieces (files from) (files mid) none (files_over batch.pieces from mid step)));
        has =
            subst (λ (o : Option Image). FilesHave batch.pieces o) (sym mid_is)
            (subst (λ (l : List ℕ). HasPieces batch.pieces l) (sym (ap (λ (o : Option (List ℕ)). unwrap_or o (files mid pack)) none)) has);
      }

  base_closed : IsClosed (reads base)
  base_closed = clean (reads base) (base.reads_is_image base.moment (omega arith))

  -- while the pieces are written
  at_pieces : (u : ℕ) → base.moment ≤ u → u ≤ s.moment → BatchAt batch base (s.reads_at u) (s.image_at u)
  at_pieces u from till = record {
    settled = λ f g is that opened.
        let was = goes.images_since u f from till is in
        let closed = still_closed was.0 f was.2 (clean was.0 was.1) in cc;
    each = λ f is.
        let was = goes.images_since u f from till is in
        (was.0, was.1, inl (before was.0 f f was.2 (clean was.0 was.1) refl));
    agrees = λ f is agree.
        let was = goes.images_since u f from till is in
        (was.0, was.1, inl (before was.0 f f was.2 (clean was.0 was.1) refl, before (reads base) (s.reads_at u) (s.reads_at u) (goes.reads_since u from till) base_closed refl));
  }

  pub through_pieces : Throughout (BatchAt batch base) base.moment s
  through_pieces = at_pieces

  module _ (has : (f : Image) → MayLeave s f → HasPieces batch.pieces (f pack)) where
    has_read : HasPieces batch.pieces (reads s pack)
    has_read = has (reads s) (s.reads_is_image s.moment (omega arith))

    from_start : (mid : Image) → MayLeave s mid → (from : Image) × MayLeave base from × PackedOver batch.pieces from mid
    from_start mid left = goes.images_since s.moment mid goes.time.later (omega arith) left

    read_start : PackedOver batch.pieces (reads base) (reads s)
    read_start = reads_step (PackedOver batch.pieces) base s goes

    -- while the entries are put
    at_entries : (r : Image) (I : Image → Type 0) → CommitAt batch.entries s r I → BatchAt batch base r I
    at_entries r I at = record {
      settled = at.settled;
      each = λ f is.
          let mid = at.each f is in
          let was = from_start mid.0 mid.1 in (
            was.0,
            was.1,
            elim mid.2 [
              | inl is_before ↦ inl (before was.0 mid.0 f was.2 (clean was.0 was.1) is_before)
              | inr is_after ↦ inr (after was.0 mid.0 f was.2 (clean was.0 was.1) (has mid.0 mid.1) is_after)
            ],
          );
      agrees = λ f is agree.
          let mid = at.agrees f is agree in
          let was = from_start mid.0 mid.1 in (
            was.0,
            was.1,
            elim mid.2 [
              | inl both ↦ inl (before was.0 mid.0 f was.2 (clean was.0 was.1) both.0, before (reads base) (reads s) r read_start base_closed both.1)
              | inr both ↦ inr (after was.0 mid.0 f was.2 (clean was.0 was.1) (has mid.0 mid.1) both.0, after (reads base) (reads s) r read_start base_closed has_read both.1)
            ],
          );
    }

    pub through_entries : (t : DiskState) → Continues s t → Throughout (CommitAt batch.entries s) s.moment t → Throughout (BatchAt batch base) base.moment t
    through_entries t time through =
        throughout_on (BatchAt batch base) (batch_fewer batch base) base.moment s t through_pieces time (λ u from till. at_entries _ _ (through u from till))

    pub all_after : (t : DiskState) → ((f : Image) → MayLeave t f → (mid : Image) × MayLeave s mid × IsAfter batch.entries mid f) → (f : Image) → MayLeave t f → (from : Image) × MayLeave base from × IsAfterBatch batch from f
    all_after t all f left =
        let mid = all f left in
        let was = from_start mid.0 mid.1 in
        (was.0, was.1, after was.0 mid.0 f was.2 (clean was.0 was.1) (has mid.0 mid.1) mid.2)

    pub read_after : (r : Image) → IsAfter batch.entries (reads s) r → IsAfterBatch batch (reads base) r
    read_after r is = after (reads base) (reads s) r read_start base_closed has_read is

-- a batch of nothing
module _ (batch : BatchRecord) (no_entries : batch.entries ≡ []) (no_pieces : batch.pieces ≡ []) (unnamed : no_entry_is_pack batch.entries ≡ true) (base : DiskState) (clean : IsClean base) where
  stays : GoesOn (PackedOver batch.pieces) base base
  stays = none_over batch.pieces base no_pieces

  has_none : (f : Image) → MayLeave base f → HasPieces batch.pieces (f pack)
  has_none f left = subst (λ (ps : List Piece). HasPieces ps (f pack)) (sym no_pieces) tt

  after_nothing : (f : Image) → IsAfter batch.entries f f
  after_nothing f = same (effective f) ∙ ap (λ (es : List Entry). with_entries es (effective f)) (sym no_entries)
    where
      same : (o : Option Image) → o ≡ with_entries [] o
      same (Some image) = refl
      same None = refl

  pub nothing_read : IsAfterBatch batch (reads base) (reads base)
  nothing_read = read_after batch unnamed base clean base stays has_none (reads base) (after_nothing (reads base))
