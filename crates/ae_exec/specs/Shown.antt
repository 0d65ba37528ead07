-- What the files of an image show a command of a project.
use Rattle.std.specs.Prelude.{◌≡◌, ◌⊎◌, Option, IsSomeAnd}
use Rattle.ae_base.specs.declared.want.Want.{Want}
use Rattle.ae_outside.specs.Image.{Image}
use Rattle.ae_schema.specs.declared.format.Format.TheVariants.{One, Two}
use Rattle.ae_store.specs.Records.{ShowIn, StandsIn}
use Rattle.ae_types.specs.Observation.{Observation}
use Rattle.ae_types.specs.Part.{part_of}
use Rattle.ae_vault.specs.Vault.{effective}

-- Files in the second format show the changes that are wanted. Of those in the first all changes are looked at, since they are taken
-- into the second before: they show what is wanted of what they stand for.
abbrev pub Show : Want → Image → Option Observation → Type 0
Show want files o = ShowIn Two want files o ⊎ ((whole : Option Observation) × StandsIn One files whole × (o ≡ part_of want whole))

-- the effective files of an image do
abbrev pub Shown : Want → Image → Option Observation → Type 0
Shown want image o = IsSomeAnd (effective image) (λ files. Show want files o)
