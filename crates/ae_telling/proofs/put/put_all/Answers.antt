use Rattle.std.proofs.Common.{arith}
use Rattle.std.proofs.lemmas.Grind.{common_steps}
use Rattle.ae_telling.proofs.Pieces.{taken_on, part_on}
use Rattle.ae_telling.proofs.put.put_all.Goals as goal

pub loop-at-preserved : goal.loop-at-preserved
loop-at-preserved g c = record {
  within = grind (arith, common_steps, c.in-Ok.ensures.at_most);
  later = omega (arith, c.loop-at.invariant.later, c.in-Ok.ensures.cause.later);
  taken = λ tells. taken_on _ _ _ c.args.bytes.now _ c.loop-at.at c.in-Ok.count (grind (arith, common_steps)) (c.loop-at.invariant.taken tells) (c.in-Ok.ensures.takes tells);
}

pub returns-in-Err-clause-part : goal.returns-in-Err-clause-part
returns-in-Err-clause-part g c = λ tells.
    part_on _ _ _ c.args.bytes.now _ c.loop-at.at c.loop-at.invariant.within (grind (arith, common_steps)) (c.loop-at.invariant.taken tells) (c.in-Err.ensures.part tells)
