-- The format that files are in, and what is said of those that aren't in the first.
use Rattle.std.proofs.Common.{◌≡◌, ◌≢◌, inl, inr, [], Option, Some, None, Result, Ok, Err, sym, subst}
use Rattle.ae_base.specs.declared.want.Want.{Want}
use Rattle.ae_base.specs.declared.want.Want.TheVariants.{All}
use Rattle.ae_outside.specs.Image.{Image}
use Rattle.ae_schema.specs.declared.format.Format.{Format}
use Rattle.ae_schema.specs.declared.format.Format.TheVariants.{One, Two}
use Rattle.ae_schema.specs.Formats.{IsOfFormat}
use Rattle.ae_types.specs.declared.blame.Blame.{Blame}
use Rattle.ae_types.specs.declared.blame.Blame.TheVariants as blame
use Rattle.ae_types.specs.Observation.{Observation}
use Rattle.ae_store.specs.declared.stop.Stop.{Stop}
use Rattle.ae_store.specs.declared.stop.Stop.TheVariants.{Blamed, DiskFault, Memory}
use Rattle.ae_store.specs.Damage.{IsDamaged, IsReadIn, IsBlamedIn, project, first, second}
use Rattle.ae_store.specs.Migrating.{NeedsNone}
use Rattle.ae_store.specs.Names.{project_file}
use Rattle.ae_store.specs.Records.{IsMigrated, Show, ShowIn, StandsIn, looked_at, nothing}
use Rattle.ae_schema.proofs.ToldFormats.{no_both, project_tells}
use Rattle.ae_store.specs.Steps.{IsLoaded, IsRead, IsReading}
use Rattle.ae_store.proofs.OneRecord.{none_of_format}
use Rattle.ae_store.proofs.OneState.{of_format, one_blamed, state_not_damaged, view}

-- ---- what needs no migration

pub second_needs_none : (files : Image) (o : Option Observation) → StandsIn Two files o → NeedsNone files
second_needs_none files None stands = inl (view Two All files None stands)
second_needs_none files (Some o) stands = inr (of_format Two All files o stands)

pub needs_none_migrated : (files : Image) → NeedsNone files → IsMigrated files
needs_none_migrated files (inl empty) is = none_of_format One (subst (IsOfFormat One) empty is)
needs_none_migrated files (inr two) is = no_both (files project_file) is two

pub second_migrated : (want : Want) (files : Image) (o : Option Observation) → ShowIn Two want files o → IsMigrated files
second_migrated want files None shows is = none_of_format One (subst (IsOfFormat One) (view Two want files None shows) is)
second_migrated want files (Some o) shows is = no_both (files project_file) is (of_format Two want files o shows)

-- files that stand in the first format need one
pub first_needs : (files : Image) (o : Observation) → StandsIn One files (Some o) → NeedsNone files → ⊥
first_needs files o stands none = needs_none_migrated files none (of_format One All files o stands)

-- ---- what isn't in the first format

-- what is shown is shown in the second
pub in_second : (want : Want) (files : Image) (o : Option Observation) → IsMigrated files → Show want files o → ShowIn Two want files o
in_second want files o migrated (Two, shows) = shows
in_second want files None migrated (One, shows) = nothing (view One All files None shows)
in_second want files (Some o) migrated (One, shows) = absurd (migrated (of_format One All files o shows))

damaged_second : (want : Want) (files : Image) (b : Blame) (format : Format) → IsMigrated files → IsReadIn files format → IsDamaged format (looked_at format want) files b → IsDamaged Two want files b
damaged_second want files b _ migrated (first is) damaged = absurd (migrated is)
damaged_second want files b _ migrated (second none) damaged = damaged

-- and what is blamed is blamed in it
pub blamed_second : (want : Want) (files : Image) (b : Blame) → IsMigrated files → IsBlamedIn want files b → IsDamaged Two want files b
blamed_second want files b migrated blamed = damaged_second want files b blamed.format migrated blamed.read blamed.damaged

-- the format that is told is the one in which the files are read
pub told_read : (files : Image) (format : Format) → IsOfFormat format (files project_file) → IsReadIn files format
told_read files One is = first is
told_read files Two is = second (λ one. no_both (files project_file) one is)

-- ---- what is blamed

-- `project` is, where it tells no format
pub no_format_blamed : (want : Want) (files : Image) → files project_file ≢ [] → ((format : Format) → IsOfFormat format (files project_file) → ⊥) → IsBlamedIn want files blame.Project
no_format_blamed want files some none = record {
  some = some;
  format = Two;
  read = second (none One);
  damaged = project (λ p numbers reads. none Two (project_tells Two (p, numbers) (files project_file) reads.is.1));
}

-- what stands in the first format isn't blamed
pub first_not_blamed : (want : Want) (files : Image) (o : Observation) (b : Blame) → StandsIn One files (Some o) → IsBlamedIn want files b → ⊥
first_not_blamed want files o b stands blamed = go blamed.format blamed.read blamed.damaged
  where
    go : (format : Format) → IsReadIn files format → IsDamaged format (looked_at format want) files b → ⊥
    go _ (first is) damaged = state_not_damaged One All files o b stands damaged
    go _ (second migrated) damaged = migrated (of_format One All files o stands)

-- one file is blamed
pub one_blamed_in : (want : Want) (files : Image) (b c : Blame) → IsBlamedIn want files b → IsBlamedIn want files c → b ≡ c
one_blamed_in want files b c one other = go one.format one.read one.damaged other.format other.read other.damaged
  where
    go : (f : Format) → IsReadIn files f → IsDamaged f (looked_at f want) files b → (g : Format) → IsReadIn files g → IsDamaged g (looked_at g want) files c → b ≡ c
    go _ (first is) bad _ (first that) worse = one_blamed One All files b c bad worse
    go _ (first is) bad _ (second migrated) worse = absurd (migrated is)
    go _ (second migrated) bad _ (first is) worse = absurd (migrated is)
    go _ (second migrated) bad _ (second that) worse = one_blamed Two want files b c bad worse

-- what is shown isn't blamed
pub shown_not_blamed : (want : Want) (files : Image) (o : Observation) (b : Blame) → Show want files (Some o) → IsBlamedIn want files b → ⊥
shown_not_blamed want files o b (One, shows) blamed = first_not_blamed want files o b shows blamed
shown_not_blamed want files o b (Two, shows) blamed = state_not_damaged Two want files o b shows (blamed_second want files b (second_migrated want files (Some o) shows) blamed)

-- nor is where there is no project
pub not_blamed : (want : Want) (files : Image) (o : Option Observation) (b : Blame) → Show want files o → IsBlamedIn want files b → ⊥
not_blamed want files (Some o) b shows blamed = shown_not_blamed want files o b shows blamed
not_blamed want files None b (One, shows) blamed = blamed.some (view One All files None shows)
not_blamed want files None b (Two, shows) blamed = blamed.some (view Two want files None shows)

-- ---- the steps of reading in whichever format

-- what the bytes of `project` tell of a format
abbrev pub Tells : Image → Result Format Stop → Type 0
Tells files = IsReading (λ (format : Format). IsOfFormat format (files project_file)) blame.Project

-- where it tells none it is blamed
pub untold_read : (want : Want) (files : Image) (s : Stop) → files project_file ≢ [] → Tells files (Err s) → IsRead want files (Err s)
untold_read want files (Blamed b) some tells = subst (IsBlamedIn want files) (sym tells.0) (no_format_blamed want files some tells.1)
untold_read want files DiskFault some tells = tt
untold_read want files Memory some tells = tt

-- what is loaded in the format that is told is read
pub loaded_read : (want : Want) (files : Image) (format : Format) → IsOfFormat format (files project_file) → (r : Result (Option Observation) Stop) → IsLoaded format (looked_at format want) files r → IsRead want files r
loaded_read want files format is (Ok o) loaded = (format, loaded)
loaded_read want files format is (Err (Blamed b)) loaded = record { some = loaded.0; format = format; read = told_read files format is; damaged = loaded.1 }
loaded_read want files format is (Err DiskFault) loaded = tt
loaded_read want files format is (Err Memory) loaded = tt
