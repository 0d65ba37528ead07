use Rattle.std.proofs.Common.{◌≡◌, ◌≤◌, ◌-◌, ◌++◌, length, take}
use Rattle.ae_telling.proofs.put.put_all.Given as goal

abbrev pub invariant-loop-at : goal.invariant-loop-at
invariant-loop-at g l = record {
  within : l.at ≤ length l.bytes;
  later : g.K.Sink.faults l.initial.sink ≤ g.K.Sink.faults l.sink;
  taken : g.K.Sink.tells → g.K.Sink.taken l.sink ≡ g.K.Sink.taken l.initial.sink ++ take l.at l.bytes;
}

abbrev pub decreases-loop-at : goal.decreases-loop-at
decreases-loop-at g l = length l.bytes - l.at
