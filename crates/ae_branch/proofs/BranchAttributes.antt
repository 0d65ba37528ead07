-- The attributes of a branch have a text: their names differ, and what they say is words and a string.
use Rattle.std.specs.Prelude.{◌≡◌, ℕ, Bool, true, false, not, ◌&&◌, List, [], ◌∷◌, IsTrue}
use Rattle.std.specs.List.{AllByRecursion, list_all}
use Rattle.std.specs.Str.{bytes_eq}
use Rattle.std.proofs.Common.{refl}
use Rattle.std.proofs.lemmas.Bool.{and_parts}
use Rattle.ae_dist.proofs.AttributesPrinted.{differs}
use Rattle.ae_text.specs.Tree.{Node, fields}
use Rattle.ae_text.specs.View.{members_of}
use Rattle.ae_text.specs.WellFormed.{HasDistinctNames, IsWellFormed, LacksName, MembersHaveDistinctNames, is_word}
use Rattle.ae_types.specs.Settings.{end_action_word, flag_word}
use Rattle.ae_types.specs.declared.project.Attributes.{Attributes}
use Rattle.ae_types.specs.declared.project.EndAction.{EndAction}
use Rattle.ae_types.specs.declared.project.EndAction.TheVariants.{AwaitingIntegration, AwaitingReview, BeingReviewed}
use Rattle.ae_branch.specs.Opening.{attribute_fields, attributes_of}

-- ---- words

flag_is_word : (flag : Bool) → IsTrue (is_word (flag_word flag))
flag_is_word true = refl
flag_is_word false = refl

-- ---- names

abbrev Named : Type 0
Named = List ℕ × Node

abbrev lacks : List ℕ → List Named → Bool
lacks name members = list_all (λ (m : Named). not (bytes_eq name m.0)) members

abbrev differ : List Named → Bool
differ [] = true
differ (m ∷ members) = lacks m.0 members && differ members

names_differ : (members : List Named) → differ members ≡ true → AllByRecursion (λ (m : Named). HasDistinctNames m.1) members → MembersHaveDistinctNames (members_of members)
names_differ [] is within = tt
names_differ (m ∷ members) is within = let both = and_parts (lacks m.0 members) (differ members) is in (lacks_name m.0 members both.0, within.0, names_differ members both.1 within.1)
  where
    lacks_name : (name : List ℕ) (members : List Named) → lacks name members ≡ true → LacksName name (members_of members)
    lacks_name name [] is = tt
    lacks_name name (m ∷ members) is = let both = and_parts (not (bytes_eq name m.0)) (lacks name members) is in (differs name m.0 both.0, lacks_name name members both.1)

-- ---- all of them

pub branch_attributes_well_formed : (attributes : Attributes) → IsWellFormed (fields (attributes_of attributes))
branch_attributes_well_formed attributes = (
  (
    refl,
    tt,
    (
      refl,
      flag_is_word attributes.developer_may_review,
      (
        refl,
        flag_is_word attributes.developer_may_integrate,
        (
          refl,
          flag_is_word attributes.reviewer_may_integrate,
          (
            refl,
            flag_is_word attributes.developers_may_create_changes,
            (refl, action_is_word attributes.develop_end_action, (refl, flag_is_word attributes.default_test_exemption, tt)),
          ),
        ),
      ),
    ),
  ),
  names_differ (attribute_fields attributes) refl (tt, (tt, (tt, (tt, (tt, (tt, (tt, tt))))))),
  (tt, (tt, (tt, (tt, (tt, (tt, (tt, tt))))))),
)
  where
    action_is_word : (action : EndAction) → IsTrue (is_word (end_action_word action))
    action_is_word BeingReviewed = refl
    action_is_word AwaitingReview = refl
    action_is_word AwaitingIntegration = refl
