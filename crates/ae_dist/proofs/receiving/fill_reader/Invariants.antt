use Rattle.std.proofs.Common.{◌≡◌, ◌≤◌, ◌<◌, ◌++◌, ◌-◌, List, ℕ, Ok, length}
use Rattle.ae_bundle.specs.Bundled.{most_text_bytes}
use Rattle.ae_dist.proofs.receiving.fill_reader.Given as goal

abbrev pub invariant-loop-count : goal.invariant-loop-count
invariant-loop-count g l = record {
  came : (stream : List ℕ) × (l.reader ≡ Ok stream) × (length stream ≡ l.taken) × (g.I.Source.tells → g.I.Source.left l.initial.input ≡ stream ++ g.I.Source.left l.input);
  within : l.taken ≤ most_text_bytes;
  room : 0 < length l.piece;
  quiet : g.I.Source.faults l.input ≡ g.I.Source.faults l.initial.input;
  later : g.I.Source.faults l.initial.input ≤ g.I.Source.faults l.input;
}

abbrev pub decreases-loop-count : goal.decreases-loop-count
decreases-loop-count g l = 68157441 - l.taken
