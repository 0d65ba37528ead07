-- Bytes that stand for themselves in a string.
use Rattle.std.proofs.Common.{◌≡◌, ◌≢◌, ℕ, ◌≤◌, [], ◌∷◌, refl, arith}
use Rattle.std.proofs.lemmas.Bool.{ne_eqb, le-leb}
use Rattle.ae_text.specs.Canonical.{piece}

-- from 32 to 126, but `"` and `\`
pub plain_piece : (b : ℕ) → 32 ≤ b → b ≤ 126 → b ≢ 34 → b ≢ 92 → piece b ≡ b ∷ []
unfolding piece
plain_piece b low high quote slash =
    rw (ne_eqb b 10 (λ e. absurd (omega (arith, e, low))), ne_eqb b 9 (λ e. absurd (omega (arith, e, low))), ne_eqb b 34 quote, ne_eqb b 92 slash, le-leb 32 b low, le-leb b 126 high) refl
