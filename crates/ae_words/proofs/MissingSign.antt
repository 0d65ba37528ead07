-- A word that has ended spells no pattern whose first sign must be there.
use Rattle.std.proofs.Common.{◌≡◌, ◌≢◌, ◌<◌, ◌≤◌, ◌==◌, ℕ, Bool, false, List, [], ◌∷◌, length, get_or, sym, ◌∙◌, arith}
use Rattle.std.proofs.lemmas.Bool.Decides.{nat_tests}
use Rattle.std.specs.Char.{is_ascii_lowercase}
use Rattle.std.proofs.lemmas.Bool.{cond-false}
use Rattle.ae_words.specs.Spelling.{spells}

pub missing_sign : (is_cut : Bool) (pattern word : List ℕ) → 1 ≤ length pattern → length word < 1 → is_ascii_lowercase (get_or pattern 0 0) ≡ false → get_or pattern 0 0 ≢ 95
    → false ≡ spells is_cut pattern word
unfolding spells
missing_sign is_cut [] word some none large sign = absurd (omega (arith, some))
missing_sign is_cut (c ∷ cs) (b ∷ bs) some none large sign = absurd (omega (arith, none))
missing_sign is_cut (c ∷ cs) [] some none large sign =
    let is_sign : (c == 95) ≡ false = grind (arith, nat_tests, sign) in
    sym (cond-false (is_ascii_lowercase c) _ _ large ∙ cond-false (c == 95) _ _ is_sign)
