use Rattle.std.proofs.Common.{sym, ◌∙◌}
use Rattle.ae_text.proofs.BadToken.{bad_here}
use Rattle.ae_text.proofs.scan.read_token.Goals as goal

pub returns-clause-value : goal.returns-clause-value
returns-clause-value c =
    bad_here c.args.bytes.now c.in-len1-up.len_at_least (sym c.is_letter_byte.ensures ∙ c.if-is_letter_byte.false) (sym c.is_digit_byte.ensures ∙ c.if-is_digit_byte.false)
    c.if-first-eq34.false (sym c.is_sign_byte.ensures ∙ c.if-is_sign_byte.false)
