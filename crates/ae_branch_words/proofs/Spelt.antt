-- A test that is true exactly of spellings is the test by which they are defined.
use Rattle.std.proofs.Common.{◌≡◌, ◌↔◌, ℕ, List, Bool, true, false, refl, sym, IsTrue}
use Rattle.std.proofs.lemmas.Bool.{false_from_ne_true}
use Rattle.ae_words.specs.Spelling.{Matches, spells}
use Rattle.ae_words.proofs.Rule.{sound, complete}

pub same_as_rule : (found : Bool) (pattern word : List ℕ) → IsTrue found ↔ Matches pattern word → found ≡ spells false pattern word
same_as_rule true pattern word tells = sym (complete (tells.0 refl))
same_as_rule false pattern word tells = sym (false_from_ne_true (spells false pattern word) (λ spelled. let found : false ≡ true = tells.1 (sound false pattern word spelled) in cc))
