-- A migration: what it makes of files, and of what they stand for.
use Rattle.std.proofs.Common.{◌≡◌, ◌≢◌, inl, inr, ℕ, Bool, true, false, List, Option, Some, None, refl, sym, ap, subst}
use Rattle.std.specs.Prelude.{IsSomeAnd, if◌then◌else◌, unwrap_or}
use Rattle.std.specs.Str.{bytes_eq}
use Rattle.ae_base.specs.declared.want.Want.TheVariants.{All as Everything}
use Rattle.ae_outside.specs.Image.{Image}
use Rattle.ae_schema.specs.declared.format.Format.TheVariants.{One, Two}
use Rattle.ae_types.specs.Observation.{Observation}
use Rattle.ae_vault.specs.Pieces.{pack}
use Rattle.ae_vault.specs.Vault.{effective}
use Rattle.ae_store.specs.Changed.{entry_for}
use Rattle.ae_store.specs.Migrating.{NeedsNone, migrated_entry}
use Rattle.ae_store.specs.Names.{change_file, files_file, project_file}
use Rattle.ae_store.specs.Records.{IsMigrated, StandsFor, StandsIn, nothing, records}
use Rattle.ae_store.proofs.Formats.{needs_none_migrated, second_migrated}
use Rattle.ae_store.proofs.OneState.{of_format}
use Rattle.ae_log.specs.Log.{Log}
use Rattle.ae_log.specs.Observed.{observation}
use Rattle.ae_exec.specs.Endings.{OthersSame}
use Rattle.ae_exec.specs.Migrated.{IsInFirst, IsSecond, MayBeMigrated, migrated_files, with_migration}
use Rattle.ae_exec.specs.Shown.{Show}
use Rattle.ae_exec.specs.Stands.{FilesStand, FilesStandIn, HasVersions, StandsForLog, StandsForLogIn}
use Rattle.ae_exec.proofs.Showing.{stands_whole}
use Rattle.ae_exec.proofs.Standing.{by_files, in_some_format, no-entry, shows}
use Rattle.ae_exec.proofs.Stores.{no_other, one}

-- ---- files with a migration

pub pack_stays : (o : Observation) (files : Image) → migrated_files o files pack ≡ files pack
pack_stays o files = ap (λ (entry : Option (List ℕ)). unwrap_or entry (files pack)) (no-entry None o)

-- no file but `project` and those of changes
pub others_migrated : (o : Observation) (a : Option Image) → OthersSame a (with_migration o a)
others_migrated o None = refl
others_migrated o (Some x) = λ file no_pack no_project no_table no_change. ap (λ (entry : Option (List ℕ)). unwrap_or entry (x file)) (none file no_project no_table no_change)
  where
    none : (file : List ℕ) → file ≢ project_file → file ≢ files_file → ((number : ℕ) → file ≢ change_file number) → migrated_entry o file ≡ None
    none file no_project no_table no_change = go (bytes_eq file files_file)
      where
        go : (table : Bool) → (if table then None else entry_for None o file) ≡ None
        go true = refl
        go false = no_other None o file no_project no_table no_change

-- they stand for the same log, in the second format
migrated_stand : (o : Observation) → ((files : Image) → StandsFor files (Some o) → StandsIn Two (migrated_files o files) (Some o)) → (a : Option Image) (log : Log) → observation log ≡ Some o
    → IsSomeAnd a (λ x. FilesStand x log) → IsSomeAnd (with_migration o a) (λ x. FilesStandIn Two x log)
migrated_stand o makes (Some x) log is stand = record {
  records = subst (λ (v : Option Observation). StandsIn Two (migrated_files o x) v) (sym is) (makes x (subst (λ (v : Option Observation). StandsFor x v) is stand.records));
  versions = subst (λ (bytes : List ℕ). HasVersions bytes log) (sym (pack_stays o x)) stand.versions;
}
migrated_stand o makes None log is stand = absurd stand

-- ---- formats

pub second-needless : (a : Option Image) → IsSomeAnd a NeedsNone → IsSomeAnd a IsMigrated
second-needless (Some x) needs = needs_none_migrated x needs
second-needless None needs = absurd needs

pub second-stands : (a : Option Image) (o : Option Observation) → IsSomeAnd a (λ x. StandsIn Two x o) → IsSomeAnd a IsMigrated
second-stands (Some x) o stands = second_migrated Everything x o stands
second-stands None o stands = absurd stands

-- files that stand for something, and aren't in the first format, are in the second
to-second : (x : Image) (o : Option Observation) → StandsFor x o → IsMigrated x → StandsIn Two x o
to-second x o (Two, stands) is = stands
to-second x _ (One, nothing none) is = nothing none
to-second x _ (One, records o are sound) is = absurd (is (of_format One Everything x o (records o are sound)))

to-second-some : (a : Option Image) (log : Log) → IsSomeAnd a (λ x. FilesStand x log) → IsSomeAnd a IsMigrated → IsSomeAnd a (λ x. FilesStandIn Two x log)
to-second-some (Some x) log stand is = record { records = to-second x (observation log) stand.records is; versions = stand.versions }
to-second-some None log stand is = absurd stand

pub stands_second : (f : Image) (log : Log) → StandsForLog f log → IsSecond f → StandsForLogIn Two f log
stands_second f log stands is = to-second-some (effective f) log stands is

-- ---- what is read is a project in the first format

-- an image depends on its files alone
pub in_first_same : (f g : Image) (o : Observation) → effective f ≡ effective g → IsInFirst f o → IsInFirst g o
in_first_same f g o same is = record { first = subst (λ (a : Option Image). IsSomeAnd a (λ files. StandsIn One files (Some o))) same is.first; makes = is.makes }

first-shown : (a : Option Image) (o : Observation) → IsSomeAnd a (λ files. StandsIn One files (Some o)) → IsSomeAnd a (λ files. Show Everything files (Some o))
first-shown (Some x) o stands = stands_whole x (Some o) (One, stands)
first-shown None o stands = absurd stands

-- a log for which it stands has that project
pub first_log : (f : Image) (o : Observation) (log : Log) → IsInFirst f o → StandsForLog f log → observation log ≡ Some o
first_log f o log is stands = one Everything f (observation log) (Some o) (shows f log stands) (first-shown (effective f) o is.first)

-- an image that stands for the log does so with the migration, in the second format
pub stands_migrated : (read from image : Image) (o : Observation) (log : Log) → IsInFirst read o → observation log ≡ Some o → effective image ≡ with_migration o (effective from) → StandsForLog from log → StandsForLogIn Two image log
stands_migrated read from image o log is same made stands = subst (λ (a : Option Image). IsSomeAnd a (λ x. FilesStandIn Two x log)) (sym made) (migrated_stand o is.makes (effective from) log same stands)

-- where nothing was changed, or the project was migrated, what was read stands for the log still
pub stays_for : (base disk : Image) (log : Log) → MayBeMigrated base (effective base) (effective disk) → StandsForLog base log → StandsForLog disk log
stays_for base disk log (inl same) stands = by_files base disk log (sym same) stands
stays_for base disk log (inr (o, is, made)) stands = in_some_format Two disk log (stands_migrated base base disk o log is (first_log base o log is stands) made stands)
