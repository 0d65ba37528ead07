use Rattle.std.proofs.Common.{◌≤◌, ◌<◌, ◌++◌, arith}
use Rattle.ae_reader.specs.Cut.{most_bytes}
use Rattle.ae_session.proofs.Counting.{counted_begin, counted_on, counted_all}
use Rattle.ae_session.proofs.builds.count_builds.Goals as goal

pub loop-reader-init : goal.loop-reader-init
loop-reader-init c = record { so_far = counted_begin _ _ _ c.in_ok-reader.ensures.at c.in_ok-reader.ensures.unread; few = omega arith }

pub overflow_add-count : goal.overflow_add-count
overflow_add-count c =
    let one : c.in-Some.builds ≤ 1 = rw c.in-Some.is at c.in_ok-builds.ensures.one in
    let on : c.loop-reader.reader.at < c.next_builds.new.reader.at = rw c.in-Some.is at c.in_ok-builds.ensures.further in
    let within : c.next_builds.new.reader.at ≤ most_bytes = rw c.in-Some.is at c.in_ok-builds.ensures.within in
    omega (arith, one, on, within, c.loop-reader.invariant.few)

pub loop-reader-preserved : goal.loop-reader-preserved
loop-reader-preserved c =
    let one : c.in-Some.builds ≤ 1 = rw c.in-Some.is at c.in_ok-builds.ensures.one in
    let on : c.loop-reader.reader.at < c.next_builds.new.reader.at = rw c.in-Some.is at c.in_ok-builds.ensures.further in
    record {
      so_far = counted_on _ (c.loop-reader.reader.unread ++ c.loop-reader.source.rest.now) _ c.loop-reader.reader.at _ c.loop-reader.count c.in-Some.builds c.loop-reader.invariant.so_far (rw c.in-Some.is at c.in_ok-builds.ensures.next);
      few = omega (arith, one, on, c.loop-reader.invariant.few);
    }

pub returns : goal.returns
returns c = counted_all _ (c.loop-reader.reader.unread ++ c.loop-reader.source.rest.now) c.loop-reader.reader.at c.loop-reader.count c.loop-reader.invariant.so_far (rw c.in_default.is at c.in_ok-builds.ensures.none)
