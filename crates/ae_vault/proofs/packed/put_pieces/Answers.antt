use Rattle.std.proofs.Common.{◌≤◌, List, length, refl, subst, arith}
use Rattle.std.proofs.lemmas.Bool.{false≢true}
use Rattle.std.proofs.lemmas.List.{take_all}
use Rattle.ae_base.proofs.Results.{on_ok_of_err}
use Rattle.ae_outside.proofs.Rising.{counted_on}
use Rattle.ae_outside.specs.State.{reads}
use Rattle.ae_vault.specs.declared.piece.Piece.{Piece}
use Rattle.ae_vault.specs.Pieces.{pack, HasPieces}
use Rattle.ae_vault.proofs.Packs.{piece_on, has_one_more}
use Rattle.ae_vault.proofs.packed.put_pieces.Goals as goal

pub returns-in_err-size-clause-change : goal.returns-in_err-size-clause-change
returns-in_err-size-clause-change g c = λ t.
    piece_on c.args.pieces.now c.loop-piece.piece-index c.piece-item.result c.loop-piece.size c.args.size _ _ _ (omega arith) c.piece-item.is c.loop-piece.invariant.no_shorter (c.loop-piece.invariant.change t) (c.put_piece.ensures.change t)

pub loop-piece-preserved : goal.loop-piece-preserved
loop-piece-preserved g c = record {
  size = c.in_ok-size.ensures.size;
  no_shorter = omega (arith, c.loop-piece.invariant.no_shorter, c.in_ok-size.ensures.no_shorter);
  has = λ t.
      let longer : c.loop-piece.size ≤ length (reads (g.D.Disk.state c.put_piece.new.disk) pack) = let is = c.in_ok-size.ensures.size t in omega (arith, is, c.in_ok-size.ensures.no_shorter) in
      has_one_more c.args.pieces.now c.loop-piece.piece-index c.piece-item.result c.loop-piece.size (reads (g.D.Disk.state c.loop-piece.disk) pack) (reads (g.D.Disk.state c.put_piece.new.disk) pack)
      (omega arith) c.piece-item.is c.requires.pieces (c.loop-piece.invariant.size t) longer (c.in_ok-size.ensures.same t) (c.loop-piece.invariant.has t) (c.in_ok-size.ensures.has t);
  change = λ t.
      piece_on c.args.pieces.now c.loop-piece.piece-index c.piece-item.result c.loop-piece.size c.args.size _ _ _ (omega arith) c.piece-item.is c.loop-piece.invariant.no_shorter (c.loop-piece.invariant.change t) (c.put_piece.ensures.change t);
  faults = omega (arith, c.loop-piece.invariant.faults, c.put_piece.ensures.cause.later);
}

-- ---- what follows from the calls alone

pub returns-in_err-size-clause-has : goal.returns-in_err-size-clause-has
returns-in_err-size-clause-has g c = on_ok_of_err c.from_residual.result _ _ c.from_residual.ensures.1

pub returns-in_err-size-clause-cause : goal.returns-in_err-size-clause-cause
returns-in_err-size-clause-cause g c = counted_on _ _ _ _ _ c.loop-piece.invariant.faults (λ is. refl) c.in_err-size.ensures.cause

pub returns-clause-change : goal.returns-clause-change
returns-clause-change g c = c.loop-piece.invariant.change

pub returns-clause-cause : goal.returns-clause-cause
returns-clause-cause g c = record { later = c.loop-piece.invariant.faults; rose = λ failed. absurd (false≢true failed) }

pub put_piece-requires-clause-size : goal.put_piece-requires-clause-size
put_piece-requires-clause-size g c = c.loop-piece.invariant.size

pub returns-clause-has : goal.returns-clause-has
returns-clause-has g c = λ t.
    subst (λ (ps : List Piece). HasPieces ps (reads (g.D.Disk.state c.loop-piece.disk) pack)) (take_all c.loop-piece.piece-index c.args.pieces.now (omega arith)) (c.loop-piece.invariant.has t)
