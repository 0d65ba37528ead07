use Rattle.ae_calls.proofs.Outlasting.{done-lines-outlast}
use Rattle.ae_calls.proofs.laws.done_lines_outlast_stops.Goals as goal

pub returns : goal.returns
returns g c = done-lines-outlast _ _ _ _
