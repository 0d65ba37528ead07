use Rattle.std.proofs.Common.{◌≤◌, ℕ, List, [], ◌∷◌, length, refl, subst, arith}
use Rattle.std.proofs.Math.Nat.{le_trans}
use Rattle.ae_base.proofs.Results.{if_ok_of_err, on_ok_of_err}
use Rattle.ae_outside.proofs.Rising.{counted_on}
use Rattle.ae_outside.specs.Image.{WriteBegun, Overwritten}
use Rattle.ae_outside.specs.State.{reads, GoesOn}
use Rattle.ae_vault.specs.Pieces.{pack}
use Rattle.std.proofs.lemmas.Bool.{false≢true}
use Rattle.ae_vault.proofs.Packs.{zeros_for, begun_on, wrote_piece, piece_there, piece_same}
use Rattle.ae_vault.proofs.packed.put_piece.Goals as goal

pub returns-in_err-fill-clause-change : goal.returns-in_err-fill-clause-change
returns-in_err-fill-clause-change g c = λ t. zeros_for c.args.piece.now c.args.size _ _ (c.fill.ensures.change t)

pub returns-in_err-write_at-clause-change : goal.returns-in_err-write_at-clause-change
returns-in_err-write_at-clause-change g c = λ t.
    let wrote : GoesOn (WriteBegun pack c.args.piece.now.at (length c.args.piece.now.bytes)) (g.D.Disk.state c.fill.new.disk) (g.D.Disk.state c.write_at.new.self) =
    subst (λ (b : List ℕ). GoesOn (WriteBegun pack c.args.piece.now.at (length b)) (g.D.Disk.state c.fill.new.disk) (g.D.Disk.state c.write_at.new.self)) c.bytes-bytes.ensures.value (c.write_at.ensures.change t) in
    begun_on (c.args.piece.now ∷ []) c.args.size _ _ _ (zeros_for c.args.piece.now c.args.size _ _ (c.fill.ensures.change t)) (wrote_piece c.args.size c.args.piece.now _ _ wrote)

pub returns-clause-has : goal.returns-clause-has
returns-clause-has g c = λ t.
    let is = (c.in_ok-fill.ensures.read t).length_is in
    let le : c.args.piece.now.at ≤ length (reads (g.D.Disk.state c.fill.new.disk) pack) = omega (arith, is, c.max.ensures) in
    piece_there c.args.piece.now (reads (g.D.Disk.state c.fill.new.disk) pack) (reads (g.D.Disk.state c.write_at.new.self) pack) le
    (subst (λ (b : List ℕ). Overwritten c.args.piece.now.at b (reads (g.D.Disk.state c.fill.new.disk) pack) (reads (g.D.Disk.state c.write_at.new.self) pack)) c.bytes-bytes.ensures.value (c.in_ok-write_at.ensures.written t))

pub returns-clause-same : goal.returns-clause-same
returns-clause-same g c = λ t k lt out.
    piece_same c.args.piece.now c.args.size c.max.result (reads (g.D.Disk.state c.args.disk.now) pack) (reads (g.D.Disk.state c.fill.new.disk) pack) (reads (g.D.Disk.state c.write_at.new.self) pack)
    (c.requires.size t) (c.in_ok-fill.ensures.read t) (omega (arith, c.max.ensures))
    (subst (λ (b : List ℕ). Overwritten c.args.piece.now.at b (reads (g.D.Disk.state c.fill.new.disk) pack) (reads (g.D.Disk.state c.write_at.new.self) pack)) c.bytes-bytes.ensures.value (c.in_ok-write_at.ensures.written t))
    k lt out

pub returns-clause-change : goal.returns-clause-change
returns-clause-change g c = λ t.
    let wrote : GoesOn (WriteBegun pack c.args.piece.now.at (length c.args.piece.now.bytes)) (g.D.Disk.state c.fill.new.disk) (g.D.Disk.state c.write_at.new.self) =
    subst (λ (b : List ℕ). GoesOn (WriteBegun pack c.args.piece.now.at (length b)) (g.D.Disk.state c.fill.new.disk) (g.D.Disk.state c.write_at.new.self)) c.bytes-bytes.ensures.value (c.write_at.ensures.change t) in
    begun_on (c.args.piece.now ∷ []) c.args.size _ _ _ (zeros_for c.args.piece.now c.args.size _ _ (c.fill.ensures.change t)) (wrote_piece c.args.size c.args.piece.now _ _ wrote)

-- ---- what follows from the calls alone

pub returns-in_err-fill-clause-size : goal.returns-in_err-fill-clause-size
returns-in_err-fill-clause-size g c = if_ok_of_err c.from_residual.result _ _ c.from_residual.ensures.1

pub returns-in_err-fill-clause-no_shorter : goal.returns-in_err-fill-clause-no_shorter
returns-in_err-fill-clause-no_shorter g c = if_ok_of_err c.from_residual.result _ _ c.from_residual.ensures.1

pub returns-in_err-fill-clause-has : goal.returns-in_err-fill-clause-has
returns-in_err-fill-clause-has g c = on_ok_of_err c.from_residual.result _ _ c.from_residual.ensures.1

pub returns-in_err-fill-clause-same : goal.returns-in_err-fill-clause-same
returns-in_err-fill-clause-same g c = on_ok_of_err c.from_residual.result _ _ c.from_residual.ensures.1

pub returns-in_err-fill-clause-cause : goal.returns-in_err-fill-clause-cause
returns-in_err-fill-clause-cause g c = record { later = c.fill.ensures.cause.later; rose = λ is. c.in_err-fill.ensures.cause.rose refl }

pub returns-in_err-write_at-clause-size : goal.returns-in_err-write_at-clause-size
returns-in_err-write_at-clause-size g c = if_ok_of_err c.from_residual-in_err-write_at.result _ _ c.from_residual-in_err-write_at.ensures.1

pub returns-in_err-write_at-clause-no_shorter : goal.returns-in_err-write_at-clause-no_shorter
returns-in_err-write_at-clause-no_shorter g c = if_ok_of_err c.from_residual-in_err-write_at.result _ _ c.from_residual-in_err-write_at.ensures.1

pub returns-in_err-write_at-clause-has : goal.returns-in_err-write_at-clause-has
returns-in_err-write_at-clause-has g c = on_ok_of_err c.from_residual-in_err-write_at.result _ _ c.from_residual-in_err-write_at.ensures.1

pub returns-in_err-write_at-clause-same : goal.returns-in_err-write_at-clause-same
returns-in_err-write_at-clause-same g c = on_ok_of_err c.from_residual-in_err-write_at.result _ _ c.from_residual-in_err-write_at.ensures.1

pub returns-in_err-write_at-clause-cause : goal.returns-in_err-write_at-clause-cause
returns-in_err-write_at-clause-cause g c = counted_on _ _ _ _ _ c.fill.ensures.cause.later (λ is. refl) c.in_err-write_at.ensures.cause

pub returns-clause-cause : goal.returns-clause-cause
returns-clause-cause g c = record { later = le_trans c.fill.ensures.cause.later c.write_at.ensures.cause.later; rose = λ failed. absurd (false≢true failed) }
