-- The file of attributes that a plan puts is read back: it gives what the change set says of itself.
use Rattle.std.proofs.Common.{◌≡◌, ◌⊎◌, inl, inr, ℕ, refl, sym, ◌∙◌, ap, Option, Some, None, Ok, Err}
use Rattle.std.specs.Prelude.{unwrap_or}
use Rattle.std.specs.Option.{option_map_or}
use Rattle.ae_base.specs.Words.{cause_word}
use Rattle.ae_base.specs.declared.words.Cause.{Cause}
use Rattle.ae_base.specs.declared.words.Cause.TheVariants as cause_is
use Rattle.ae_bundle.specs.declared.bundle.Bundle.{Bundle}
use Rattle.ae_conf.specs.Change.{change_attributes, change_kinds, given_change}
use Rattle.ae_conf.specs.Fields.{Fields, fields_in, first_wrong}
use Rattle.ae_conf.specs.Reading.{IsNoText, IsText, reading}
use Rattle.ae_conf.specs.RightFields.{fields_read, making}
use Rattle.ae_conf.specs.Values.{cause_in}
use Rattle.ae_dist.specs.Plan.{attributes_of, attributes_text}
use Rattle.ae_dist.proofs.AttributesPrinted.{attributes_well_formed}
use Rattle.ae_text.specs.Tree.{fields, word}
use Rattle.ae_text.proofs.Again.{text_again}
use Rattle.ae_text.proofs.Whole.{one_tree}
use Rattle.ae_types.specs.declared.change.ChangeAttributes.{ChangeAttributes}
use Rattle.ae_received.specs.Received.{AreDescribed, TextsAreBytes}

-- the word of a cause is read as that cause
cause-read : (cause : Cause) → cause_in (word (cause_word cause)) ≡ Some cause
cause-read cause_is.ExternalBug = refl
cause-read cause_is.ExternalEnhancement = refl
cause-read cause_is.ExternalImprovement = refl
cause-read cause_is.InternalBug = refl
cause-read cause_is.InternalEnhancement = refl
cause-read cause_is.InternalImprovement = refl
cause-read cause_is.Chain = refl

module _ (bundle : Bundle) (bytes : TextsAreBytes bundle) (old new : ChangeAttributes) where
  -- the fields give it
  given-described : given_change (fields_in (fields (attributes_of bundle))) old ≡ new → AreDescribed new bundle
  given-described is = record {
    brief = ap (λ (a : ChangeAttributes). a.brief) (sym is);
    description = ap (λ (a : ChangeAttributes). a.description) (sym is);
    cause = ap (λ (a : ChangeAttributes). a.cause) (sym is) ∙ ap (λ c. unwrap_or c old.cause) (cause-read bundle.cause);
  }

  is-tree : (text : IsText (attributes_text bundle)) → text.0 ≡ fields (attributes_of bundle)
  is-tree text =
      let again = text_again (fields (attributes_of bundle)) (attributes_text bundle) (attributes_well_formed bundle) (bytes.0, (bytes.1, (tt, tt))) refl in
      (one_tree (attributes_text bundle) text.0 (fields (attributes_of bundle)) text.1 again.0 text.2 again.1).0

  right-described : (found : Fields) (wrong : Option ℕ) → found ≡ fields_in (fields (attributes_of bundle))
      → making (λ fields. given_change fields old) (option_map_or Err wrong (Ok found)) ≡ Ok new → AreDescribed new bundle
  right-described found (Some line) are is = absurd (cc is)
  right-described found None are is = given-described (ap (λ fields. given_change fields old) (sym are) ∙ cc is)

  read-described : (read : IsText (attributes_text bundle) ⊎ IsNoText (attributes_text bundle)) → making (λ fields. given_change fields old) (fields_read change_kinds (attributes_text bundle) read) ≡ Ok new → AreDescribed new bundle
  read-described (inl text) is = right-described (fields_in text.0) (first_wrong change_kinds (fields_in text.0) text.1) (ap fields_in (is-tree text)) is
  read-described (inr error) is = absurd (cc is)

  pub attributes-described : change_attributes (attributes_text bundle) old ≡ Ok new → AreDescribed new bundle
  attributes-described is = read-described (reading (attributes_text bundle)) is
