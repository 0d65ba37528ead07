-- The file of attributes that a begin puts is read back: it gives those of the trunk.
use Rattle.std.proofs.Common.{◌≡◌, ◌⊎◌, inl, inr, ℕ, refl, sym, ◌∙◌, ap, subst, List, Option, Some, None, Bool, true, false, cond, Result, Ok, Err}
use Rattle.std.specs.Prelude.{length, nat_le, unwrap_or}
use Rattle.std.specs.Option.{option_map_or}
use Rattle.ae_base.specs.Bytes.{AreBytes}
use Rattle.ae_base.specs.Limits.{most_attribute_bytes}
use Rattle.ae_branch.specs.Opening.{attributes_of, attributes_text}
use Rattle.ae_branch.proofs.BranchAttributes.{branch_attributes_well_formed}
use Rattle.ae_conf.specs.Fields.{Fields, fields_in, first_wrong}
use Rattle.ae_conf.specs.Project.{given_project, project_attributes, project_kinds}
use Rattle.ae_conf.specs.Reading.{IsNoText, IsText, reading}
use Rattle.ae_conf.specs.RightFields.{fields_read, making}
use Rattle.ae_conf.specs.Values.{end_action_in, flag_in}
use Rattle.ae_machine.specs.Attributes.{content_gives, or_bad_line}
use Rattle.ae_machine.specs.Call.{given_in, refusal_in}
use Rattle.ae_outside.specs.Site.{content_within}
use Rattle.ae_outside.specs.declared.dir.Content.TheVariants.{Bytes, TooLong}
use Rattle.ae_text.specs.Tree.{fields, word}
use Rattle.ae_text.proofs.Again.{text_again}
use Rattle.ae_text.proofs.Whole.{one_tree}
use Rattle.ae_types.specs.Settings.{end_action_word, flag_word}
use Rattle.ae_types.specs.declared.project.Attributes.{Attributes}
use Rattle.ae_types.specs.declared.project.EndAction.{EndAction}
use Rattle.ae_types.specs.declared.project.EndAction.TheVariants as goto

-- ---- words

flag-read : (flag : Bool) → flag_in (word (flag_word flag)) ≡ Some flag
flag-read true = refl
flag-read false = refl

action-read : (action : EndAction) → end_action_in (word (end_action_word action)) ≡ Some action
action-read goto.BeingReviewed = refl
action-read goto.AwaitingReview = refl
action-read goto.AwaitingIntegration = refl

-- attributes are their parts
same-attributes : (a b : Attributes) → a.description ≡ b.description → a.developer_may_review ≡ b.developer_may_review → a.developer_may_integrate ≡ b.developer_may_integrate → a.reviewer_may_integrate ≡ b.reviewer_may_integrate
    → a.developers_may_create_changes ≡ b.developers_may_create_changes → a.develop_end_action ≡ b.develop_end_action → a.default_test_exemption ≡ b.default_test_exemption → a ≡ b
same-attributes a b d r i v c e t =
    λ x. record {
      description = d x;
      developer_may_review = r x;
      developer_may_integrate = i x;
      reviewer_may_integrate = v x;
      developers_may_create_changes = c x;
      develop_end_action = e x;
      default_test_exemption = t x;
    }

-- ---- the file

module _ (attributes : Attributes) where
  -- the fields give them
  given-same : (old : Attributes) → given_project (fields_in (fields (attributes_of attributes))) old ≡ attributes
  given-same old =
      same-attributes (given_project (fields_in (fields (attributes_of attributes))) old) attributes refl
      (ap (λ (f : Option Bool). unwrap_or f old.developer_may_review) (flag-read attributes.developer_may_review))
      (ap (λ (f : Option Bool). unwrap_or f old.developer_may_integrate) (flag-read attributes.developer_may_integrate))
      (ap (λ (f : Option Bool). unwrap_or f old.reviewer_may_integrate) (flag-read attributes.reviewer_may_integrate))
      (ap (λ (f : Option Bool). unwrap_or f old.developers_may_create_changes) (flag-read attributes.developers_may_create_changes))
      (ap (λ (f : Option EndAction). unwrap_or f old.develop_end_action) (action-read attributes.develop_end_action))
      (ap (λ (f : Option Bool). unwrap_or f old.default_test_exemption) (flag-read attributes.default_test_exemption))

  module _ (bytes : AreBytes attributes.description) (old new : Attributes) where
    is-tree : (text : IsText (attributes_text attributes)) → text.0 ≡ fields (attributes_of attributes)
    is-tree text =
        let again = text_again (fields (attributes_of attributes)) (attributes_text attributes) (branch_attributes_well_formed attributes) (bytes, (tt, (tt, (tt, (tt, (tt, (tt, tt))))))) refl in
        (one_tree (attributes_text attributes) text.0 (fields (attributes_of attributes)) text.1 again.0 text.2 again.1).0

    right-same : (found : Fields) (wrong : Option ℕ) → found ≡ fields_in (fields (attributes_of attributes)) → making (λ fields. given_project fields old) (option_map_or Err wrong (Ok found)) ≡ Ok new → new ≡ attributes
    right-same found (Some line) are is = absurd (cc is)
    right-same found None are is = let same : given_project found old ≡ new = cc is in sym same ∙ (ap (λ fields. given_project fields old) are ∙ given-same old)

    read-same : (read : IsText (attributes_text attributes) ⊎ IsNoText (attributes_text attributes)) → making (λ fields. given_project fields old) (fields_read project_kinds (attributes_text attributes) read) ≡ Ok new → new ≡ attributes
    read-same (inl text) is = right-same (fields_in text.0) (first_wrong project_kinds (fields_in text.0) text.1) (ap fields_in (is-tree text)) is
    read-same (inr error) is = absurd (cc is)

    -- where their description is one of bytes
    pub attributes-same : project_attributes (attributes_text attributes) old ≡ Ok new → new ≡ attributes
    attributes-same is = read-same (reading (attributes_text attributes)) is

-- ---- what is read of it

-- what was read is good, and is what the text gives
module _ (text path : List ℕ) (old : Attributes) where
  reading-gives : (read : Result Attributes ℕ) → refusal_in (or_bad_line read) ≡ None → read ≡ Ok (given_in (or_bad_line read) old)
  reading-gives (Ok attributes) good = refl
  reading-gives (Err line) good = absurd (cc good)

  length-gives : (fits : Bool) → refusal_in (content_gives project_attributes old path (cond fits (Bytes text) TooLong)) ≡ None
      → project_attributes text old ≡ Ok (given_in (content_gives project_attributes old path (cond fits (Bytes text) TooLong)) old)
  length-gives true good = reading-gives (project_attributes text old) good
  length-gives false good = absurd (cc good)

  pub project-gives : (held : Option (List ℕ)) → Some text ≡ held → refusal_in (content_gives project_attributes old path (content_within most_attribute_bytes held)) ≡ None
      → project_attributes text old ≡ Ok (given_in (content_gives project_attributes old path (content_within most_attribute_bytes held)) old)
  project-gives held is =
      subst (λ (h : Option (List ℕ)). refusal_in (content_gives project_attributes old path (content_within most_attribute_bytes h)) ≡ None
      → project_attributes text old ≡ Ok (given_in (content_gives project_attributes old path (content_within most_attribute_bytes h)) old)) is
      (length-gives (nat_le (length text) most_attribute_bytes))
