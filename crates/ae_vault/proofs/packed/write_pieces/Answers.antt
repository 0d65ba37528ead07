use Rattle.std.proofs.Common.{refl, sym, ◌∙◌, arith}
use Rattle.std.proofs.Math.Nat.{le_trans}
use Rattle.ae_base.proofs.Results.{on_ok_of_err}
use Rattle.ae_outside.proofs.Rising.{counted_on}
use Rattle.std.proofs.lemmas.Bool.{false≢true}
use Rattle.ae_vault.proofs.Packs.{packs_over, none_over, begun_behind, begun_before, no_items, some_items}
use Rattle.ae_vault.proofs.packed.write_pieces.Goals as goal

pub returns-then-is_empty-clause-change : goal.returns-then-is_empty-clause-change
returns-then-is_empty-clause-change g c = λ t. none_over c.args.pieces.now (g.D.Disk.state c.args.disk.now) (no_items c.args.pieces.now (sym c.is_empty.ensures ∙ c.if-is_empty.true))

pub returns-in_err-put_pieces-clause-change : goal.returns-in_err-put_pieces-clause-change
returns-in_err-put_pieces-clause-change g c = λ t.
    packs_over c.args.pieces.now c.in_ok-size.size (g.D.Disk.state c.args.disk.now) (g.D.Disk.state c.put_pieces.new.disk) (some_items c.args.pieces.now (sym c.is_empty.ensures ∙ c.if-is_empty.false)) (c.in_ok-size.ensures.size t)
    (begun_behind c.args.pieces.now c.in_ok-size.size _ _ _ (c.size.ensures.change t) (c.put_pieces.ensures.change t))

pub returns-clause-change : goal.returns-clause-change
returns-clause-change g c = λ t.
    packs_over c.args.pieces.now c.in_ok-size.size (g.D.Disk.state c.args.disk.now) (g.D.Disk.state c.sync.new.self) (some_items c.args.pieces.now (sym c.is_empty.ensures ∙ c.if-is_empty.false)) (c.in_ok-size.ensures.size t)
    (begun_before c.args.pieces.now c.in_ok-size.size _ _ _ (begun_behind c.args.pieces.now c.in_ok-size.size _ _ _ (c.size.ensures.change t) (c.put_pieces.ensures.change t)) (c.sync.ensures.change t))

-- ---- what follows from the calls alone

pub returns-then-is_empty-clause-cause : goal.returns-then-is_empty-clause-cause
returns-then-is_empty-clause-cause g c = record { later = omega arith; rose = λ failed. absurd (false≢true failed) }

pub returns-in_err-size-clause-has : goal.returns-in_err-size-clause-has
returns-in_err-size-clause-has g c = on_ok_of_err c.from_residual.result _ _ c.from_residual.ensures.1

pub returns-in_err-size-clause-cause : goal.returns-in_err-size-clause-cause
returns-in_err-size-clause-cause g c = record { later = c.size.ensures.cause.later; rose = λ is. c.in_err-size.ensures.cause.rose refl }

pub put_pieces-requires-clause-pieces : goal.put_pieces-requires-clause-pieces
put_pieces-requires-clause-pieces g c = c.requires

pub returns-in_err-put_pieces-clause-has : goal.returns-in_err-put_pieces-clause-has
returns-in_err-put_pieces-clause-has g c = on_ok_of_err c.from_residual-in_err-put_pieces.result _ _ c.from_residual-in_err-put_pieces.ensures.1

pub returns-in_err-put_pieces-clause-cause : goal.returns-in_err-put_pieces-clause-cause
returns-in_err-put_pieces-clause-cause g c = counted_on _ _ _ _ _ c.size.ensures.cause.later (λ is. refl) c.in_err-put_pieces.ensures.cause

pub returns-clause-cause : goal.returns-clause-cause
returns-clause-cause g c = counted_on _ _ _ _ _ (le_trans c.size.ensures.cause.later c.put_pieces.ensures.cause.later) (λ is. is) c.sync.ensures.cause
