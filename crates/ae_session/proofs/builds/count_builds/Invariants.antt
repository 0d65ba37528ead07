use Rattle.std.proofs.Common.{◌≤◌, ◌-◌, ◌++◌}
use Rattle.ae_session.proofs.Counting.{Counted}
use Rattle.ae_session.proofs.builds.count_builds.Given as goal

abbrev pub invariant-loop-reader : goal.invariant-loop-reader
invariant-loop-reader l = record {
  so_far : Counted l.initial.script l.reader.at l.count (l.reader.unread ++ l.source.rest.now);
  few : l.count ≤ l.reader.at;
}

abbrev pub decreases-loop-reader : goal.decreases-loop-reader
decreases-loop-reader l = 67108864 - l.reader.at
