-- The most that each thing may be, each number said once.
use Rattle.std.specs.Prelude.{ℕ}
use Rattle.ae_base.specs.declared.words.Which.{Which}
use Rattle.ae_base.specs.declared.words.Which.TheVariants as which_is

-- the last moment, in seconds since 1970: the end of the year 2099
abbrev pub last_moment : ℕ
last_moment = 4102444799

-- the bytes of a file, 4 MiB; of a file of attributes; and of all files that a development freezes, 64 MiB
abbrev pub most_file_bytes : ℕ
most_file_bytes = 4194304

abbrev pub most_attribute_bytes : ℕ
most_attribute_bytes = 65536

abbrev pub most_frozen_bytes : ℕ
most_frozen_bytes = 67108864

-- the files of a change, the files that a project ever had, and the tests of a baseline
abbrev pub most_change_files : ℕ
most_change_files = 1000

abbrev pub most_project_files : ℕ
most_project_files = 20000

abbrev pub most_project_tests : ℕ
most_project_tests = 1000

-- the users of a role
abbrev pub most_role_users : ℕ
most_role_users = 256

-- the changes and the deltas of a project
abbrev pub most_changes : ℕ
most_changes = 1990

abbrev pub most_deltas : ℕ
most_deltas = 1990

-- the number of a version, 2 ^ 62; the next one may be past it by the files of a change
abbrev pub most_versions : ℕ
most_versions = 4611686018427387904

abbrev pub most_next_version : ℕ
most_next_version = 4611686018427388904

-- the rows of a change's history
abbrev pub most_history_rows : ℕ
most_history_rows = 1000

-- the units of 64 bytes that hold the bytes of versions, 1 GiB
abbrev pub most_units : ℕ
most_units = 16777216

-- the number that a refusal by a limit tells
abbrev pub most_of : Which → ℕ
most_of which_is.FileBytes = most_file_bytes
most_of which_is.AttributeBytes = most_attribute_bytes
most_of which_is.FrozenBytes = most_frozen_bytes
most_of which_is.ChangeFiles = most_change_files
most_of which_is.ProjectFiles = most_project_files
most_of which_is.ProjectTests = most_project_tests
most_of which_is.RoleUsers = most_role_users
most_of which_is.Changes = most_changes
most_of which_is.Deltas = most_deltas
most_of which_is.Versions = most_versions
most_of which_is.HistoryRows = most_history_rows
