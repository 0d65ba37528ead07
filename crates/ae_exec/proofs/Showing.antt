-- What files show is one thing, and they show the parts of what they stand for.
use Rattle.std.proofs.Common.{◌≡◌, inl, inr, List, ℕ, Option, Some, None, refl, sym, ◌∙◌, ap, subst}
use Rattle.std.specs.Prelude.{IfSome, IsSomeAnd}
use Rattle.ae_base.specs.declared.want.Want.{Want}
use Rattle.ae_base.specs.declared.want.Want.TheVariants.{All as Everything}
use Rattle.ae_outside.specs.Image.{Image}
use Rattle.ae_schema.specs.declared.format.Format.{Format}
use Rattle.ae_schema.specs.declared.format.Format.TheVariants.{One, Two}
use Rattle.ae_types.specs.Observation.{Observation}
use Rattle.ae_types.specs.Part.{part_of}
use Rattle.ae_types.specs.Sound.{Sound}
use Rattle.ae_vault.specs.Kept.{ByFiles}
use Rattle.ae_vault.specs.Vault.{effective}
use Rattle.ae_store.specs.Answers.{IsNamed}
use Rattle.ae_store.specs.Names.{blamed_file}
use Rattle.ae_store.specs.Records.{ShowIn, ShownIn, StandsFor, StandsIn, nothing, records}
use Rattle.ae_store.proofs.Formats.{first_not_blamed, one_blamed_in, shown_not_blamed}
use Rattle.ae_store.proofs.OneState.{one_shown, one_state}
use Rattle.ae_store.proofs.ShownParts.{parts_are_shown}
use Rattle.ae_exec.specs.Shown.{Show, Shown}

-- ---- parts of what stands

pub stands_part : (want : Want) (files : Image) (x : Option Observation) → StandsFor files x → Show want files (part_of want x)
stands_part want files x (One, stands) = inr (x, stands, refl)
stands_part want files x (Two, stands) = inl (parts_are_shown Two want files x stands)

-- all of it is shown
pub stands_whole : (files : Image) (x : Option Observation) → StandsFor files x → Show Everything files x
stands_whole files x (One, stands) = inr (x, stands, one_state One Everything files x (part_of Everything x) stands (parts_are_shown One Everything files x stands))
stands_whole files x (Two, stands) = inl stands

module _ (want : Want) where
  -- ---- one thing

  -- where files show something in the second format, and stand for something in the first, there is no project
  one_of_both : (files : Image) (o whole : Option Observation) → ShowIn Two want files o → StandsIn One files whole → o ≡ part_of want whole
  one_of_both files o whole two one = one_shown want files o (part_of want whole) (Two, two) (One, parts_are_shown One want files whole one)

  pub one_show : (files : Image) (o p : Option Observation) → Show want files o → Show want files p → o ≡ p
  one_show files o p (inl two) (inl other) = one_state Two want files o p two other
  one_show files o p (inl two) (inr (whole, stands, is)) = one_of_both files o whole two stands ∙ sym is
  one_show files o p (inr (whole, stands, is)) (inl two) = is ∙ sym (one_of_both files p whole two stands)
  one_show files o p (inr (whole, stands, is)) (inr (other, there, same)) = is ∙ ap (part_of want) (one_state One Everything files whole other stands there) ∙ sym same

  -- what is shown is a fact of the effective files
  pub by_files : ByFiles (Shown want)
  by_files f g o same shown = subst (λ (files : Option Image). IsSomeAnd files (λ x. Show want x o)) same shown

  -- what is shown in the second format is shown
  second-some : (a : Option Image) (o : Option Observation) → IsSomeAnd a (λ files. ShowIn Two want files o) → IsSomeAnd a (λ files. Show want files o)
  second-some (Some files) o shows = inl shows
  second-some None o shows = absurd shows

  pub shown_second : (image : Image) (o : Option Observation) → ShownIn Two want image o → Shown want image o
  shown_second image o shown = second-some (effective image) o shown

  -- ---- it keeps the rules, and isn't damaged

  sound-in : (format : Format) (files : Image) (o : Option Observation) → ShowIn format want files o → IfSome o Sound
  sound-in format files _ (nothing is) = tt
  sound-in format files _ (records o are sound) = sound

  pub sound_show : (files : Image) (o : Option Observation) → Show want files o → IfSome o Sound
  sound_show files o (inl two) = sound-in Two files o two
  sound_show files o (inr (whole, stands, is)) = subst (λ (x : Option Observation). IfSome x Sound) (sym is) (sound-in One files (part_of want whole) (parts_are_shown One want files whole stands))

  -- what files show has no file that is named
  pub not_named : (files : Image) (o : Option Observation) (name : List ℕ) → Show want files o → IsNamed want files name → ⊥
  not_named files _ name (inl (nothing none)) named = named.1.some none
  not_named files _ name (inl (records o are sound)) named = shown_not_blamed want files o named.0 (Two, records o are sound) named.1
  not_named files _ name (inr (_, nothing none, is)) named = named.1.some none
  not_named files _ name (inr (_, records whole are sound, is)) named = first_not_blamed want files whole named.0 (records whole are sound) named.1

  -- and one file is named
  pub one_named : (files : Image) (n m : List ℕ) → IsNamed want files n → IsNamed want files m → n ≡ m
  one_named files n m one other = one.2 ∙ ap blamed_file (one_blamed_in want files one.0 other.0 one.1 other.1) ∙ sym other.2
