-- What the steps of loading come to.
use Rattle.std.proofs.Common.{◌≡◌, ◌≢◌, ℕ, List, [], Some, Result, Ok, Err, sym, subst}
use Rattle.ae_base.specs.declared.want.Want.TheVariants.{All as Everything}
use Rattle.ae_outside.specs.Image.{Image}
use Rattle.ae_schema.specs.declared.format.Format.{Format}
use Rattle.ae_schema.specs.declared.format.Format.TheVariants.{One, Two}
use Rattle.ae_schema.specs.Formats.{IsOfFormat}
use Rattle.ae_types.specs.declared.blame.Blame.{Blame}
use Rattle.ae_types.specs.declared.blame.Blame.TheVariants as blame
use Rattle.ae_types.specs.declared.file_table.FileRow.{FileRow}
use Rattle.ae_types.specs.declared.file_table.Lock.{Lock}
use Rattle.ae_types.specs.declared.project.Project.{Project}
use Rattle.ae_types.specs.Observation.{Observation}
use Rattle.ae_types.proofs.RulesAre.{blamed-sound}
use Rattle.ae_store.specs.Names.{project_file}
use Rattle.ae_store.specs.Records.{StandsIn, looked_at, records}
use Rattle.ae_store.specs.Damage.{ReadsProject, ReadsTable, IsBlamedIn, IsDamaged, project, table, change, beside}
use Rattle.ae_store.proofs.Formats.{no_format_blamed, told_read}
use Rattle.ae_store.proofs.OneState.{Reads, read_records}
use Rattle.ae_audit.specs.declared.stop.Stop.{Stop}
use Rattle.ae_audit.specs.declared.stop.Stop.TheVariants.{Blamed, DiskFault, Memory}
use Rattle.ae_audit.specs.Steps.{IsFormatRead, IsRecordRead, AreRead, IsChecked, IsLoaded, IsLoadedIn}

-- ---- in a format

module _ (format : Format) where
  pub project_stops : (files : Image) (s : Stop) → IsRecordRead (λ (p : Project × List ℕ). ReadsProject format files p.0 p.1) blame.Project (Err s) → IsLoadedIn format files (Err s)
  project_stops files (Blamed b) is = subst (IsDamaged format Everything files) (sym is.0) (project (λ p numbers reads. is.1 (p, numbers) reads))
  project_stops files DiskFault is = tt
  project_stops files Memory is = tt
  project_stops files _ is = absurd is

  pub table_stops : (files : Image) (s : Stop) (p : Project) (numbers : List ℕ) → ReadsProject format files p numbers
      → IsRecordRead (λ (t : List FileRow × List Lock). ReadsTable files p t.0 t.1) blame.Files (Err s) → IsLoadedIn format files (Err s)
  table_stops files (Blamed b) p numbers rp is = subst (IsDamaged format Everything files) (sym is.0) (table p numbers rp (λ rows locks reads. is.1 (rows, locks) reads))
  table_stops files DiskFault p numbers rp is = tt
  table_stops files Memory p numbers rp is = tt
  table_stops files _ p numbers rp is = absurd is

  pub changes_stop : (files : Image) (s : Stop) (p : Project) (numbers : List ℕ) → ReadsProject format files p numbers
      → (rows : List FileRow) (locks : List Lock) → ReadsTable files p rows locks → AreRead format files numbers (Err s) → IsLoadedIn format files (Err s)
  changes_stop files (Blamed b) p numbers rp rows locks rt is =
      subst (IsDamaged format Everything files) (sym is.is) (change p numbers rp rows locks rt is.before is.number is.after is.splits is.changes is.read is.bad)
  changes_stop files DiskFault p numbers rp rows locks rt is = tt
  changes_stop files Memory p numbers rp rows locks rt is = tt
  changes_stop files _ p numbers rp rows locks rt is = absurd is

  pub checked_so : (files : Image) (o : Observation) (r : Result Observation Stop) → Reads format Everything files o → IsChecked o r → IsLoadedIn format files r
  checked_so files o (Ok state) reads is = subst (λ (x : Observation). StandsIn format files (Some x)) (sym is.0) (records o (read_records format Everything files o reads) (blamed-sound o is.1))
  checked_so files o (Err (Blamed b)) reads is = beside o b reads.project reads.table reads.changes is
  checked_so files o (Err Memory) reads is = tt
  checked_so files o (Err _) reads is = absurd is

-- the rules are no fault of the disk
pub checked_fault : (o : Observation) (r : Result Observation Stop) → IsChecked o r → r ≡ Err DiskFault → ⊥
checked_fault o (Err DiskFault) is e = is
checked_fault o (Ok state) is e = cc
checked_fault o (Err _) is e = cc

-- ---- in the format that is told

-- where `project` tells no format, it is blamed
pub format_stops : (files : Image) (s : Stop) → files project_file ≢ [] → IsFormatRead (files project_file) (Err s) → IsLoaded files (Err s)
format_stops files (Blamed b) some is = subst (IsBlamedIn Everything files) (sym is.0) (no_format_blamed Everything files some is.1)
format_stops files DiskFault some is = tt
format_stops files Memory some is = tt
format_stops files _ some is = absurd is

-- all changes are looked at in both formats
all_damaged : (format : Format) (files : Image) (b : Blame) → IsDamaged format Everything files b → IsDamaged format (looked_at format Everything) files b
all_damaged One files b damaged = damaged
all_damaged Two files b damaged = damaged

-- what was loaded in the format that `project` tells
pub loaded_in : (format : Format) (files : Image) (r : Result Observation Stop) → files project_file ≢ [] → IsOfFormat format (files project_file) → IsLoadedIn format files r → IsLoaded files r
loaded_in format files (Ok o) some told is = (format, is)
loaded_in format files (Err (Blamed b)) some told is = record { some = some; format = format; read = told_read files format told; damaged = all_damaged format files b is }
loaded_in format files (Err DiskFault) some told is = tt
loaded_in format files (Err Memory) some told is = tt
loaded_in format files (Err _) some told is = absurd is
