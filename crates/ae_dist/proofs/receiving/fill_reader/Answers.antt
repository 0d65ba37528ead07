use Rattle.std.proofs.Common.{◌≤◌, ◌∙◌, ℕ, Err, ap, arith, refl, subst}
use Rattle.ae_bundle.specs.Bundled.{most_text_bytes}
use Rattle.ae_outside.proofs.Rising.{risen_later}
use Rattle.ae_dist.specs.Receiving.{source_fault}
use Rattle.ae_dist.proofs.Arriving.{came_on, room_on, size_on, unread_by}
use Rattle.ae_dist.proofs.receiving.fill_reader.Goals as goal

pub returns-in-Err-clause-unread : goal.returns-in-Err-clause-unread
returns-in-Err-clause-unread g c = source_fault (risen_later _ _ _ c.loop-count.invariant.later (c.in-Err.ensures.cause.rose refl))

pub returns-in-Err-feed-clause-unread : goal.returns-in-Err-feed-clause-unread
returns-in-Err-feed-clause-unread g c =
    rw c.outcome_of.ensures
    (unread_by g.I.Source.tells (g.I.Source.left c.args.input.now) (g.I.Source.left c.loop-count.input) (g.I.Source.left c.read.new.self) c.loop-count.invariant.came.0 c.read.new.into _ c.in-Ok.count
    c.loop-count.invariant.came.3 c.in-Ok.ensures.moved c.in-Ok.ensures.at_most c.in-Err-feed.error _ (λ is. c.in-Err-feed.ensures.bad c.loop-count.invariant.came.0 c.loop-count.invariant.came.1 (ap Err is)))

pub loop-count-preserved : goal.loop-count-preserved
loop-count-preserved g c =
    let stream = c.loop-count.invariant.came.0 in
    let held = c.in_default.ensures.fed stream c.loop-count.invariant.came.1 in
    let size = size_on stream c.read.new.into _ c.in-Ok.count c.loop-count.taken c.loop-count.invariant.came.2 c.in-Ok.ensures.at_most in
    record {
      came = (
        _,
        held,
        size,
        came_on g.I.Source.tells (g.I.Source.left c.args.input.now) (g.I.Source.left c.loop-count.input) (g.I.Source.left c.read.new.self) stream c.read.new.into _ c.in-Ok.count c.loop-count.invariant.came.3 c.in-Ok.ensures.moved c.in-Ok.ensures.at_most,
      );
      within = subst (λ (n : ℕ). n ≤ most_text_bytes) size (c.note_bounded.ensures _ held);
      room = room_on c.read.new.into _ c.in-Ok.count (omega (arith, c.if-count-eq0.false)) c.in-Ok.ensures.at_most;
      quiet = c.in-Ok.ensures.quiet ∙ c.loop-count.invariant.quiet;
      later = omega (arith, c.loop-count.invariant.later, c.in-Ok.ensures.cause.later);
    }

pub returns-in-Err-clause-quiet : goal.returns-in-Err-clause-quiet
returns-in-Err-clause-quiet g c = λ other. absurd (other refl)

pub returns-then-count-eq0-clause-quiet : goal.returns-then-count-eq0-clause-quiet
returns-then-count-eq0-clause-quiet g c = λ other. c.in-Ok.ensures.quiet ∙ c.loop-count.invariant.quiet

pub returns-in-Err-feed-clause-quiet : goal.returns-in-Err-feed-clause-quiet
returns-in-Err-feed-clause-quiet g c = λ other. c.in-Ok.ensures.quiet ∙ c.loop-count.invariant.quiet
