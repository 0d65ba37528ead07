use Rattle.std.proofs.Common.{◌≡◌, true, List, ap, refl, sym, ◌∙◌, subst, arith}
use Rattle.std.proofs.lemmas.Result.{on_ok_weaker}
use Rattle.std.proofs.lemmas.Bool.{false≢true}
use Rattle.ae_base.proofs.Results.{on_ok_of_err}
use Rattle.ae_outside.proofs.Rising.{counted_on}
use Rattle.ae_outside.specs.Image.{Image}
use Rattle.ae_outside.specs.State.{reads, MayLeave, GoesOn}
use Rattle.ae_outside.specs.Time.{continues_refl, continues_then}
use Rattle.ae_vault.specs.declared.piece.Piece.{Piece}
use Rattle.ae_vault.specs.Batch.{BatchRecord}
use Rattle.ae_vault.specs.Pieces.{pack, no_entry_is_pack, are_pieces, HasPieces, PackedOver}
use Rattle.ae_vault.proofs.BatchPhases.{through_pieces, through_entries, all_after, read_after, one_read}
use Rattle.ae_vault.proofs.vault.Vault.commit.Goals as goal

pub returns-in_err-write_pieces-clause-any_moment : goal.returns-in_err-write_pieces-clause-any_moment
returns-in_err-write_pieces-clause-any_moment g c = λ t.
    let unnamed : no_entry_is_pack c.args.batch.entries ≡ true = ap (λ (b : BatchRecord). no_entry_is_pack b.entries) (sym c.batch.view_is) ∙ c.batch.invariant.3 in
    let goes : GoesOn (PackedOver c.args.batch.pieces) (g.D.Disk.state c.args.disk.now) (g.D.Disk.state c.write_pieces.new.disk) = subst (λ (ps : List Piece). GoesOn (PackedOver ps) (g.D.Disk.state c.args.disk.now) (g.D.Disk.state c.write_pieces.new.disk)) c.pieces.ensures.value (c.write_pieces.ensures.change t) in
    through_pieces c.args.batch unnamed (g.D.Disk.state c.args.disk.now) (c.requires t) (g.D.Disk.state c.write_pieces.new.disk) goes

pub returns-clause-any_moment : goal.returns-clause-any_moment
returns-clause-any_moment g c = λ t.
    let unnamed : no_entry_is_pack c.args.batch.entries ≡ true = ap (λ (b : BatchRecord). no_entry_is_pack b.entries) (sym c.batch.view_is) ∙ c.batch.invariant.3 in
    let goes : GoesOn (PackedOver c.args.batch.pieces) (g.D.Disk.state c.args.disk.now) (g.D.Disk.state c.write_pieces.new.disk) = subst (λ (ps : List Piece). GoesOn (PackedOver ps) (g.D.Disk.state c.args.disk.now) (g.D.Disk.state c.write_pieces.new.disk)) c.pieces.ensures.value (c.write_pieces.ensures.change t) in
    let has : (f : Image) → MayLeave (g.D.Disk.state c.write_pieces.new.disk) f → HasPieces c.args.batch.pieces (f pack) = λ f left. subst (λ (ps : List Piece). HasPieces ps (f pack)) c.pieces.ensures.value (c.in_ok-write_pieces.ensures.has t f left) in
    through_entries c.args.batch unnamed (g.D.Disk.state c.args.disk.now) (c.requires t) (g.D.Disk.state c.write_pieces.new.disk) goes has (g.D.Disk.state c.put_batch.new.disk) (c.put_batch.ensures.time t) (c.put_batch.ensures.any_moment t)

pub returns-clause-one_of_two : goal.returns-clause-one_of_two
returns-clause-one_of_two g c = λ t.
    let unnamed : no_entry_is_pack c.args.batch.entries ≡ true = ap (λ (b : BatchRecord). no_entry_is_pack b.entries) (sym c.batch.view_is) ∙ c.batch.invariant.3 in
    let goes : GoesOn (PackedOver c.args.batch.pieces) (g.D.Disk.state c.args.disk.now) (g.D.Disk.state c.write_pieces.new.disk) = subst (λ (ps : List Piece). GoesOn (PackedOver ps) (g.D.Disk.state c.args.disk.now) (g.D.Disk.state c.write_pieces.new.disk)) c.pieces.ensures.value (c.write_pieces.ensures.change t) in
    let has : (f : Image) → MayLeave (g.D.Disk.state c.write_pieces.new.disk) f → HasPieces c.args.batch.pieces (f pack) = λ f left. subst (λ (ps : List Piece). HasPieces ps (f pack)) c.pieces.ensures.value (c.in_ok-write_pieces.ensures.has t f left) in
    one_read c.args.batch (g.D.Disk.state c.args.disk.now) (g.D.Disk.state c.put_batch.new.disk) (continues_then (g.D.Disk.state c.args.disk.now) (g.D.Disk.state c.write_pieces.new.disk) (g.D.Disk.state c.put_batch.new.disk) goes.time (c.put_batch.ensures.time t)) (through_entries c.args.batch unnamed (g.D.Disk.state c.args.disk.now) (c.requires t) (g.D.Disk.state c.write_pieces.new.disk) goes has (g.D.Disk.state c.put_batch.new.disk) (c.put_batch.ensures.time t) (c.put_batch.ensures.any_moment t))

pub returns-clause-all : goal.returns-clause-all
returns-clause-all g c =
    on_ok_weaker c.put_batch.result (λ all t.
    let unnamed : no_entry_is_pack c.args.batch.entries ≡ true = ap (λ (b : BatchRecord). no_entry_is_pack b.entries) (sym c.batch.view_is) ∙ c.batch.invariant.3 in
    let goes : GoesOn (PackedOver c.args.batch.pieces) (g.D.Disk.state c.args.disk.now) (g.D.Disk.state c.write_pieces.new.disk) = subst (λ (ps : List Piece). GoesOn (PackedOver ps) (g.D.Disk.state c.args.disk.now) (g.D.Disk.state c.write_pieces.new.disk)) c.pieces.ensures.value (c.write_pieces.ensures.change t) in
    let has : (f : Image) → MayLeave (g.D.Disk.state c.write_pieces.new.disk) f → HasPieces c.args.batch.pieces (f pack) = λ f left. subst (λ (ps : List Piece). HasPieces ps (f pack)) c.pieces.ensures.value (c.in_ok-write_pieces.ensures.has t f left) in
    all_after c.args.batch unnamed (g.D.Disk.state c.args.disk.now) (c.requires t) (g.D.Disk.state c.write_pieces.new.disk) goes has (g.D.Disk.state c.put_batch.new.disk) (all t)) c.put_batch.ensures.all

pub returns-clause-read : goal.returns-clause-read
returns-clause-read g c =
    on_ok_weaker c.put_batch.result (λ read t.
    let unnamed : no_entry_is_pack c.args.batch.entries ≡ true = ap (λ (b : BatchRecord). no_entry_is_pack b.entries) (sym c.batch.view_is) ∙ c.batch.invariant.3 in
    let goes : GoesOn (PackedOver c.args.batch.pieces) (g.D.Disk.state c.args.disk.now) (g.D.Disk.state c.write_pieces.new.disk) = subst (λ (ps : List Piece). GoesOn (PackedOver ps) (g.D.Disk.state c.args.disk.now) (g.D.Disk.state c.write_pieces.new.disk)) c.pieces.ensures.value (c.write_pieces.ensures.change t) in
    let has : (f : Image) → MayLeave (g.D.Disk.state c.write_pieces.new.disk) f → HasPieces c.args.batch.pieces (f pack) = λ f left. subst (λ (ps : List Piece). HasPieces ps (f pack)) c.pieces.ensures.value (c.in_ok-write_pieces.ensures.has t f left) in
    read_after c.args.batch unnamed (g.D.Disk.state c.args.disk.now) (c.requires t) (g.D.Disk.state c.write_pieces.new.disk) goes has (reads (g.D.Disk.state c.put_batch.new.disk)) (read t)) c.put_batch.ensures.read

pub returns-then-is_empty-clause-cause : goal.returns-then-is_empty-clause-cause
returns-then-is_empty-clause-cause g c = record { later = omega arith; rose = λ failed. absurd (false≢true failed) }

pub returns-in_err-write_pieces-clause-one_of_two : goal.returns-in_err-write_pieces-clause-one_of_two
returns-in_err-write_pieces-clause-one_of_two g c = λ t.
    let unnamed : no_entry_is_pack c.args.batch.entries ≡ true = ap (λ (b : BatchRecord). no_entry_is_pack b.entries) (sym c.batch.view_is) ∙ c.batch.invariant.3 in
    let goes : GoesOn (PackedOver c.args.batch.pieces) (g.D.Disk.state c.args.disk.now) (g.D.Disk.state c.write_pieces.new.disk) = subst (λ (ps : List Piece). GoesOn (PackedOver ps) (g.D.Disk.state c.args.disk.now) (g.D.Disk.state c.write_pieces.new.disk)) c.pieces.ensures.value (c.write_pieces.ensures.change t) in
    one_read c.args.batch (g.D.Disk.state c.args.disk.now) (g.D.Disk.state c.write_pieces.new.disk) goes.time (through_pieces c.args.batch unnamed (g.D.Disk.state c.args.disk.now) (c.requires t) (g.D.Disk.state c.write_pieces.new.disk) goes)

pub returns-clause-clean : goal.returns-clause-clean
returns-clause-clean g c = c.put_batch.ensures.clean

-- ---- what follows from the calls alone

pub write_pieces-requires : goal.write_pieces-requires
write_pieces-requires g c = ap are_pieces c.pieces.ensures.value ∙ c.pieces.ensures.pieces

pub returns-in_err-write_pieces-clause-time : goal.returns-in_err-write_pieces-clause-time
returns-in_err-write_pieces-clause-time g c = λ t. (c.write_pieces.ensures.change t).time

pub returns-in_err-write_pieces-clause-clean : goal.returns-in_err-write_pieces-clause-clean
returns-in_err-write_pieces-clause-clean g c = on_ok_of_err c.from_residual.result _ _ c.from_residual.ensures.1

pub returns-in_err-write_pieces-clause-all : goal.returns-in_err-write_pieces-clause-all
returns-in_err-write_pieces-clause-all g c = on_ok_of_err c.from_residual.result _ _ c.from_residual.ensures.1

pub returns-in_err-write_pieces-clause-read : goal.returns-in_err-write_pieces-clause-read
returns-in_err-write_pieces-clause-read g c = on_ok_of_err c.from_residual.result _ _ c.from_residual.ensures.1

pub returns-in_err-write_pieces-clause-cause : goal.returns-in_err-write_pieces-clause-cause
returns-in_err-write_pieces-clause-cause g c = record { later = c.write_pieces.ensures.cause.later; rose = λ is. c.in_err-write_pieces.ensures.cause.rose refl }

pub returns-clause-time : goal.returns-clause-time
returns-clause-time g c = λ t. continues_then _ _ _ (c.write_pieces.ensures.change t).time (c.put_batch.ensures.time t)

pub returns-clause-cause : goal.returns-clause-cause
returns-clause-cause g c = counted_on _ _ _ _ _ c.write_pieces.ensures.cause.later (λ is. is) c.put_batch.ensures.cause

pub returns-then-is_empty-clause-time : goal.returns-then-is_empty-clause-time
returns-then-is_empty-clause-time g c = λ t. continues_refl (g.D.Disk.state c.args.disk.now)

pub returns-then-is_empty-clause-nothing : goal.returns-then-is_empty-clause-nothing
returns-then-is_empty-clause-nothing g c = λ entries pieces. refl
