-- What a set says of a user is the test on its list.
use Rattle.std.proofs.Common.{◌≡◌, ◌↔◌, ℕ, List, Bool, true, false, IsTrue, Contains, refl, sym, ◌∙◌}
use Rattle.std.specs.Cmp.Lexicographic.{nat_list_eq_equiv}
use Rattle.std.proofs.lemmas.Map.Views.{list_any-from_Contains, Contains-from_any}
use Rattle.ae_types.proofs.UserLists.{same_bytes}
use Rattle.ae_types.specs.Roles.{has_user}

pub has_user_is : (users : List (List ℕ)) (user : List ℕ) (found : Bool) → IsTrue found ↔ Contains users user → found ≡ has_user users user
has_user_is users user true h = sym (list_any-from_Contains nat_list_eq_equiv user users (h.0 refl))
has_user_is users user false h = by (has_user users user) refl where
  by : (b : Bool) → has_user users user ≡ b → false ≡ has_user users user
  by true e =
      let wrong : false ≡ true = h.1 (Contains-from_any same_bytes user users e) in
      absurd cc
  by false e = sym e

-- who isn't found isn't there
pub not_there : (users : List (List ℕ)) (user : List ℕ) → has_user users user ≡ false → Contains users user → ⊥
not_there users user none there =
    let found : has_user users user ≡ true = list_any-from_Contains nat_list_eq_equiv user users there in
    let never : true ≡ false = sym found ∙ none in
    absurd cc
