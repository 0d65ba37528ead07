use Rattle.std.proofs.Common.{◌≤◌, ◌+◌, ℕ, [], length, subst, arith}
use Rattle.ae_outside.specs.State.{reads}
use Rattle.ae_vault.specs.Packing.{IsExtended}
use Rattle.ae_vault.specs.Pieces.{pack}
use Rattle.ae_vault.proofs.Packs.{wrote_zeros, begun_on, extended_on}
use Rattle.ae_vault.proofs.packed.fill.Goals as goal

pub returns-in_err-write_at-clause-change : goal.returns-in_err-write_at-clause-change
returns-in_err-write_at-clause-change g c = λ t. begun_on [] c.args.size _ _ _ (c.loop-size.invariant.change t) (wrote_zeros c.args.size c.loop-size.size _ _ _ c.loop-size.invariant.from (c.write_at.ensures.change t))

pub loop-size-preserved : goal.loop-size-preserved
loop-size-preserved g c = record {
  extended = λ t.
      let from : length (reads (g.D.Disk.state c.args.disk.now) pack) ≤ c.loop-size.size = let is = c.requires.size t in omega (arith, is, c.loop-size.invariant.from) in
      let more = extended_on c.loop-size.size c.front.result.now (reads (g.D.Disk.state c.args.disk.now) pack) (reads (g.D.Disk.state c.loop-size.disk) pack) (reads (g.D.Disk.state c.write_at.new.self) pack)
      from (c.loop-size.invariant.extended t) (c.in_ok-write_at.ensures.written t) in
      subst (λ (n : ℕ). IsExtended (c.loop-size.size + n) (reads (g.D.Disk.state c.args.disk.now) pack) (reads (g.D.Disk.state c.write_at.new.self) pack)) c.front.ensures more;
  from = omega (arith, c.loop-size.invariant.from);
  till = omega (arith, c.loop-size.invariant.till, c.min-len.ensures);
  change = λ t. begun_on [] c.args.size _ _ _ (c.loop-size.invariant.change t) (wrote_zeros c.args.size c.loop-size.size _ _ _ c.loop-size.invariant.from (c.write_at.ensures.change t));
  faults = omega (arith, c.loop-size.invariant.faults, c.write_at.ensures.cause.later);
}
