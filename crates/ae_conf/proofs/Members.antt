-- The fields of a structure that is made of fields.
use Rattle.std.proofs.Common.{◌≡◌, ℕ, List, [], ◌∷◌, refl, ap}
use Rattle.ae_text.specs.Tree.{Node}
use Rattle.ae_text.specs.View.{members_of}
use Rattle.ae_conf.specs.Fields.{members_in}

pub members_in-members_of : (ms : List (List ℕ × Node)) → members_in (members_of ms) ≡ ms
members_in-members_of [] = refl
members_in-members_of (m ∷ ms) = ap (λ (rest : List (List ℕ × Node)). m ∷ rest) (members_in-members_of ms)
