-- What holds of each command that is read.
use Rattle.std.specs.Prelude.{ℕ, ◌≡◌, List, [], ◌∷◌, Bool, true, false, ◌&&◌, not, Option, Some, None, length, nat_le, is_some}
use Rattle.std.specs.List.{list_all}
use Rattle.std.specs.Option.{is_none}
use Rattle.ae_base.specs.Limits.{most_deltas}
use Rattle.ae_words.specs.Spelling.{is_empty}
use Rattle.ae_base.specs.Names.{is_user, is_project_name, is_path}
use Rattle.ae_words.specs.Table.{row, allows}
use Rattle.ae_words.specs.Meaning.{most, last_start, most_generated_changes, most_generated_files, is_config, is_reason, is_whole}
use Rattle.ae_words.specs.declared.command.Command.{Command}
use Rattle.ae_words.specs.declared.table.Listing.{Listing}
use Rattle.ae_words.specs.declared.table.Setting.{Setting}
use Rattle.ae_words.specs.declared.table.Setting.TheVariants as setting
use Rattle.ae_words.specs.declared.table.Row.{Row}
use Rattle.ae_words.specs.declared.table.Row.TheVariants as rows

-- whether the option is there
abbrev pub has : Command → Setting → Bool
has c setting.Project = is_some c.project
has c setting.File = is_some c.attributes
has c setting.Change = is_some c.change
has c setting.Delta = is_some c.delta
has c setting.Overwriting = c.overwriting
has c setting.Baseline = c.baseline
has c setting.Regression = c.regression
has c setting.Reason = is_some c.reason

-- the options are allowed, and not both flags of Test are there
abbrev pub AreOptions : Option Listing → Command → Type 0
AreOptions l c = ((o : Setting) → has c o ≡ true → allows c.function l o ≡ true) × ((c.baseline && c.regression) ≡ false)

-- the path may be a test's
abbrev pub is_no_config : List ℕ → Bool
is_no_config p = not (is_config p)

-- at most 1,000 users
abbrev pub are_users : List (List ℕ) → Bool
are_users us = list_all is_user us && nat_le (length us) most

-- at most 1,000 paths
abbrev pub are_paths : List (List ℕ) → Bool
are_paths ps = list_all is_path ps && nat_le (length ps) most

-- at most 1,000 paths that may be tests
abbrev pub are_tests : List (List ℕ) → Bool
are_tests ps = list_all is_no_config ps && are_paths ps

-- at most one path
abbrev pub is_path_at_most : List (List ℕ) → Bool
is_path_at_most [] = true
is_path_at_most (p ∷ []) = is_path p
is_path_at_most (p ∷ q ∷ ps) = false

-- the start, the number of changes and the number of files, as far as they are there
abbrev pub are_numbers : List ℕ → Bool
are_numbers [] = true
are_numbers (s ∷ []) = nat_le s last_start
are_numbers (s ∷ n ∷ []) = nat_le s last_start && nat_le 1 n && nat_le n most_generated_changes
are_numbers (s ∷ n ∷ f ∷ []) =
    nat_le s last_start && nat_le 1 n && nat_le n most_generated_changes && nat_le 1 f && nat_le f most_generated_files
are_numbers (s ∷ n ∷ f ∷ x ∷ xs) = false

-- plain words stand where the row has them, and nowhere else
abbrev pub are_plain : Row → Command → Bool
are_plain rows.NewProject c = is_empty c.users && is_empty c.paths && is_none c.listing && is_empty c.numbers
are_plain rows.Users c = is_none c.name && are_users c.users && is_empty c.paths && is_none c.listing && is_empty c.numbers
are_plain rows.Copy c = is_none c.name && is_empty c.users && are_paths c.paths && is_none c.listing && is_empty c.numbers
are_plain rows.Paths c = is_none c.name && is_empty c.users && are_paths c.paths && is_none c.listing && is_empty c.numbers
are_plain rows.NewTest c = is_none c.name && is_empty c.users && are_tests c.paths && is_none c.listing && is_empty c.numbers
are_plain rows.Report c = is_none c.name && is_empty c.users && is_path_at_most c.paths && is_none c.listing && is_empty c.numbers
are_plain rows.Listing c = is_none c.name && is_empty c.users && is_empty c.paths && is_empty c.numbers
are_plain rows.Numbers c = is_none c.name && is_empty c.users && is_empty c.paths && is_none c.listing && are_numbers c.numbers
are_plain rows.Attributes c = is_none c.name && is_empty c.users && is_empty c.paths && is_none c.listing && is_empty c.numbers
are_plain rows.ChangeAttributes c = is_none c.name && is_empty c.users && is_empty c.paths && is_none c.listing && is_empty c.numbers
are_plain rows.Change c = is_none c.name && is_empty c.users && is_empty c.paths && is_none c.listing && is_empty c.numbers
are_plain rows.Test c = is_none c.name && is_empty c.users && is_empty c.paths && is_none c.listing && is_empty c.numbers
are_plain rows.Nothing c = is_none c.name && is_empty c.users && is_empty c.paths && is_none c.listing && is_empty c.numbers
are_plain rows.Alone c = is_none c.name && is_empty c.users && is_empty c.paths && is_none c.listing && is_empty c.numbers

-- what is there passes the test
abbrev pub fits : {A : Type 0} → (A → Bool) → Option A → Bool
fits test None = true
fits test (Some x) = test x

-- the numbers of a project's changes begin and end with these
abbrev pub first_change : ℕ
first_change = 10

abbrev pub last_change : ℕ
last_change = 1999

-- 10 to 1999
abbrev pub is_change_number : ℕ → Bool
is_change_number n = nat_le first_change n && nat_le n last_change

-- 0 to 1990
abbrev pub is_delta_number : ℕ → Bool
is_delta_number n = nat_le n most_deltas

-- what options and the name give is of its kind
pub record AreKinds (c : Command) : Type 0 where
  pub project : fits is_project_name c.project ≡ true
  pub change : fits is_change_number c.change ≡ true
  pub attributes : fits is_path c.attributes ≡ true
  pub delta : fits is_delta_number c.delta ≡ true
  pub name : fits is_project_name c.name ≡ true
  pub reason : fits is_reason c.reason ≡ true

-- the command is one that words can say: its options are allowed, its plain words are those of its function, all are of
-- their kinds, and nothing is missing
pub record IsFormed (c : Command) : Type 0 where
  pub kinds : AreKinds c
  pub options : AreOptions c.listing c
  pub plain : are_plain (row c.function) c ≡ true
  pub whole : is_whole c ≡ true
