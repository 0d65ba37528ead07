-- What the answers of the check say.
use Rattle.std.specs.Prelude.{◌≡◌, ℕ, length, Option, Some}
use Rattle.std.specs.Option.{option_or}
use Rattle.std.specs.Ordering.{nat_cmp}
use Rattle.ae_types.specs.declared.blame.Blame.{Blame}
use Rattle.ae_types.specs.declared.blame.Blame.TheVariants as blame
use Rattle.ae_types.specs.Observation.{Observation}
use Rattle.ae_types.specs.Ordered.{Ascends, itself}
use Rattle.ae_types.specs.Found.{lock_path, number_of_delta}
use Rattle.ae_base.specs.Rows.{text_cmp}
use Rattle.ae_types.specs.Rules.{blame_unless, project_fits_changes, files_fit_changes}
use Rattle.ae_types.specs.Sound.{AreRows, AreChanges}
use Rattle.ae_rules.specs.declared.error.CheckError.{CheckError}
use Rattle.ae_rules.specs.declared.error.CheckError.TheVariants.{Blamed, Memory}

abbrev pub change_blame : ℕ → Blame
change_blame number = blame.Change number

-- each part by itself keeps its rules, so that keys find what they are to find
pub record IsReadable (o : Observation) : Type 0 where
  pub numbers : Ascends nat_cmp itself o.numbers
  pub deltas : Ascends nat_cmp number_of_delta o.project.deltas
  pub rows : AreRows (length o.project.deltas) o.files
  pub locks : Ascends text_cmp lock_path o.locks
  pub changes : AreChanges o.numbers o.changes

-- the blame of the rules beside one another
abbrev pub blamed_beside : Observation → Option Blame
blamed_beside o = option_or (blame_unless (project_fits_changes o) blame.Project) (blame_unless (files_fit_changes o) blame.Files)

-- the file that it names is the one that is blamed first; running out of memory says nothing
abbrev pub Names : CheckError → Option Blame → Type 0
Names (Blamed file) first = first ≡ Some file
Names Memory first = Unit {0}
