use Rattle.std.proofs.Common.{ℕ, sym, ◌∙◌}
use Rattle.std.specs.Fmt.{decimal}
use Rattle.std.proofs.lemmas.List.{append_cancel_left}
use Rattle.ae_bundle.specs.Reading.{IsSize, Announces}
use Rattle.ae_bundle.proofs.Turns.{none_weaker}
use Rattle.ae_bundle.proofs.reading.size_after.Goals as goal

pub returns-clause-none : goal.returns-clause-none
returns-clause-none c = none_weaker ((size : ℕ) → IsSize 65536 c.in_ok-digits.digits.now size → ⊥) ((size : ℕ) → Announces c.args.label.now c.args.line.now size → ⊥) c.read_size.result
    (λ none size says. none size (record { within = says.within; written = append_cancel_left c.args.label.now c.in_ok-digits.digits.now (decimal size) (sym c.in_ok-digits.ensures.some ∙ says.written) }))
    c.read_size.ensures.none
