-- The attributes of a change set have a text: their names and the word of the cause are words.
use Rattle.std.proofs.Common.{◌≡◌, ◌≢◌, ℕ, List, true, not, IsTrue, codes, refl}
use Rattle.std.specs.Str.{bytes_eq}
use Rattle.std.specs.Cmp.Lexicographic.{bytes_decides}
use Rattle.ae_base.specs.Words.{cause_word}
use Rattle.ae_base.specs.declared.words.Cause.{Cause}
use Rattle.ae_base.specs.declared.words.Cause.TheVariants as cause_is
use Rattle.ae_text.specs.Tree.{fields}
use Rattle.ae_text.specs.WellFormed.{is_word, IsWellFormed}
use Rattle.ae_bundle.specs.declared.bundle.Bundle.{Bundle}
use Rattle.ae_dist.specs.Plan.{attributes_of}

cause_is_word : (x : Cause) → IsTrue (is_word (cause_word x))
cause_is_word cause_is.ExternalBug = refl
cause_is_word cause_is.ExternalEnhancement = refl
cause_is_word cause_is.ExternalImprovement = refl
cause_is_word cause_is.InternalBug = refl
cause_is_word cause_is.InternalEnhancement = refl
cause_is_word cause_is.InternalImprovement = refl
cause_is_word cause_is.Chain = refl

pub differs : (k h : List ℕ) → not (bytes_eq k h) ≡ true → k ≢ h
differs k h e same = let yes : bytes_eq k h ≡ true = (bytes_decides k h).1 same in cc

pub attributes_well_formed : (bundle : Bundle) → IsWellFormed (fields (attributes_of bundle))
attributes_well_formed bundle = (
  (refl, tt, (refl, tt, (refl, cause_is_word bundle.cause, tt))),
  (
    (differs (codes "brief_description") (codes "description") refl, (differs (codes "brief_description") (codes "cause") refl, tt)),
    tt,
    ((differs (codes "description") (codes "cause") refl, tt), tt, (tt, tt, tt)),
  ),
  (tt, (tt, (tt, tt))),
)
