use Rattle.std.proofs.Common.{◌≡◌, ◌+◌, ◌∙◌, List, ◌∷◌, length, drop, refl, ap, subst, arith}
use Rattle.std.specs.Prelude.{slice_get}
use Rattle.std.specs.Option.{option_and_then, unwrap_or}
use Rattle.std.proofs.lemmas.List.{length-map}
use Rattle.std.proofs.lemmas.Option.{slice_get_read}
use Rattle.ae_types.specs.declared.change.Change.{Change}
use Rattle.ae_report.specs.Rows.{of_evidence, evidence_rows, no_row}
use Rattle.ae_report.specs.Frames.{parts_from}
use Rattle.ae_report.proofs.Places.{parts-go}
use Rattle.ae_report.proofs.rows.next_run.Goals as goal

pub returns-then-within-len-clause-goes : goal.returns-then-within-len-clause-goes
returns-then-within-len-clause-goes c =
    let at = c.loop-at.at in
    let within = c.loop-at.within in
    let changes = c.changes-changes.result.now in
    let change = c.index-changes-at.result in
    let P : List Change → Type 0 = λ cs.
    parts_from evidence_rows c.args.from.within (drop c.args.from.at cs)
    ≡ unwrap_or (option_and_then (λ (d : Change). slice_get (evidence_rows d) within) (slice_get cs at)) no_row ∷ parts_from evidence_rows (within + 1) (drop at cs) in
    let many = length-map change.evidence (of_evidence change.number) in
    let here = ap (λ (d : Change). length d.evidence) c.index-changes-at.is in
    let step : P changes =
    c.loop-at.invariant
    ∙ parts-go evidence_rows changes at within change (slice_get_read changes (length changes) at change refl c.loop-at-test.true c.index-changes-at.is)
    (omega (arith, many, here, c.len.ensures, c.if-within-len.true)) in
    subst P c.changes-changes.ensures step
