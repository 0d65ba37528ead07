use Rattle.std.proofs.Common.{◌≡◌, take, map}
use Rattle.ae_text.specs.Grammar.{line_ends, line_of}
use Rattle.ae_text.proofs.lines.lines_at.Given as goal

abbrev pub invariant-loop-place : goal.invariant-loop-place
invariant-loop-place l = (l.lines.items ≡ map (line_of l.bytes) (take l.place-index l.places)) × (l.ends ≡ line_ends (take l.from l.bytes))
