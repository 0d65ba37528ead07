-- Laws of running a report.
use Rattle.std.specs.Prelude.{List, []}
use Rattle.ae_rlang.specs.Report.{Deeds}
use Rattle.ae_rlang.specs.Reads.{IsGood}
use Rattle.ae_types.specs.Observation.{Observation}
use Rattle.ae_report.specs.declared.total.Tally.{Tally}
use Rattle.ae_report.specs.Asked.{Asked, AsksIn, IsAnswered}

-- Of what a report that was read computes on any state, with any totals, all operands have the kinds that their operators and words
-- take, and so have the numbers that are added and the tests.
abbrev pub GoodReportsFit : Type 0
GoodReportsFit = (report : Deeds) → IsGood report → (o : Observation) (a : Asked) (totals : List Tally) → AsksIn report o [] a → IsAnswered a totals
