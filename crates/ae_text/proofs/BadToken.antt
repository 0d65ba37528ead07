-- Where no token begins, there is a bad one.
use Rattle.std.proofs.Common.{◌≡◌, ◌≢◌, ◌≤◌, ◌==◌, ℕ, false, cond, List, [], ◌∷◌, length, get_or, sym, ◌∙◌, arith}
use Rattle.std.proofs.lemmas.Bool.Decides.{nat_tests}
use Rattle.std.proofs.lemmas.Bool.{cond-false}
use Rattle.ae_base.specs.Names.{is_digit}
use Rattle.ae_text.specs.WellFormed.{begins_word}
use Rattle.ae_text.specs.Token.{bad, is_sign}
use Rattle.ae_text.specs.Scan.{token_at}

pub bad_here : (bytes : List ℕ) → 1 ≤ length bytes → begins_word (get_or bytes 0 0) ≡ false → is_digit (get_or bytes 0 0) ≡ false → get_or bytes 0 0 ≢ 34 → is_sign (get_or bytes 0 0) ≡ false
    → (bad, bytes) ≡ token_at bytes
unfolding token_at
bad_here [] some word digit quote sign = absurd (omega (arith, some))
bad_here (b ∷ bs) some word digit quote sign =
    let no_quote : (b == 34) ≡ false = grind (arith, nat_tests, quote) in
    sym (cond-false (begins_word b) _ _ word ∙ (cond-false (is_digit b) _ _ digit ∙ (cond-false (b == 34) _ _ no_quote ∙ cond-false (is_sign b) _ _ sign)))
