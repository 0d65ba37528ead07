-- What an item says, and when it is bad.
use Rattle.std.specs.Prelude.{ℕ, List, [], ◌∷◌, ◌++◌, Bool, true, false, ◌==◌, ◌&&◌, ◌||◌, not, if◌then◌else◌, Option, Some, None, Result, Ok, Err, length, nat_le, codes, is_some}
use Rattle.std.specs.Str.{bytes_eq}
use Rattle.ae_base.specs.Names.{is_user, is_project_name, is_path}
use Rattle.ae_base.specs.Numbers.{change_number, delta_number, number_within}
use Rattle.ae_words.specs.Items.{Item, a_plain, a_flag, an_option, a_wrong, listing_named}
use Rattle.ae_words.specs.Spelling.{is_empty}
use Rattle.ae_words.specs.Table.{row, allows, needs_change, needs_attributes}
use Rattle.ae_words.specs.declared.command.Command.{Command}
use Rattle.ae_words.specs.declared.table.Function.{Function}
use Rattle.ae_words.specs.declared.table.Listing.{Listing}
use Rattle.ae_words.specs.declared.table.Setting.{Setting}
use Rattle.ae_words.specs.declared.table.Setting.TheVariants as setting
use Rattle.ae_words.specs.declared.table.Row.{Row}
use Rattle.ae_words.specs.declared.table.Row.TheVariants as rows

-- the command that says nothing but its function
unfoldable pub blank : Function → Command
blank f = record { function = f; project = None; change = None; attributes = None; delta = None; overwriting = false; baseline = false; regression = false; name = None; users = []; paths = []; listing = None; numbers = []; reason = None }

-- so many users or paths may be there
abbrev pub most : ℕ
most = 1000

-- so many digits may write a number of the generator
abbrev pub most_digits : ℕ
most_digits = 20

-- up to this number it may start
abbrev pub last_start : ℕ
last_start = 18446744073709551615

-- so many changes it may make
abbrev pub most_generated_changes : ℕ
most_generated_changes = 200

-- and so many files of each
abbrev pub most_generated_files : ℕ
most_generated_files = 99

-- a reason has so many bytes at most
abbrev pub most_reason_bytes : ℕ
most_reason_bytes = 1000

-- ---- plain words

-- a project's name, once
abbrev pub with_name : Command → List ℕ → Option Command
with_name c w = if not (is_some c.name) && is_project_name w then Some (record c { name = Some w }) else None

-- one user more
abbrev pub with_user : Command → List ℕ → Option Command
with_user c w = if not (nat_le most (length c.users)) && is_user w then Some (record c { users = c.users ++ w ∷ [] }) else None

-- one path more
abbrev pub with_path : Command → List ℕ → Option Command
with_path c w = if not (nat_le most (length c.paths)) && is_path w then Some (record c { paths = c.paths ++ w ∷ [] }) else None

-- the path, where none is there yet
abbrev pub with_one_path : Command → List ℕ → Option Command
with_one_path c w = if is_empty c.paths then with_path c w else None

-- the path of the project's settings, which is no test
abbrev pub is_config : List ℕ → Bool
is_config p = bytes_eq p (codes "aegis.conf")

-- one path more that may be a test's
abbrev pub with_test : Command → List ℕ → Option Command
with_test c w = if is_config w then None else with_path c w

-- the command with the listing, if there is one
abbrev pub listed : Command → Option Listing → Option Command
listed c None = None
listed c (Some l) = Some (record c { listing = Some l })

-- the word of a listing, once
abbrev pub with_listing : Command → List ℕ → Option Command
with_listing c w = if is_some c.listing then None else listed c (listing_named w)

-- the number that a word writes after so many: the start, the number of changes, the number of files
abbrev pub next_number : ℕ → List ℕ → Option ℕ
next_number n w =
    if n == 0 then number_within most_digits 0 last_start w
    else if n == 1 then number_within most_digits 1 most_generated_changes w
    else if n == 2 then number_within most_digits 1 most_generated_files w
    else None

-- the command with the number after those before, if there is one
abbrev pub numbered : Command → Option ℕ → Option Command
numbered c None = None
numbered c (Some n) = Some (record c { numbers = c.numbers ++ n ∷ [] })

-- the next of the three numbers
abbrev pub with_number : Command → List ℕ → Option Command
with_number c w = numbered c (next_number (length c.numbers) w)

-- the command with a plain word more, if that is of its kind and not too many
abbrev pub with_plain : Row → Command → List ℕ → Option Command
with_plain rows.NewProject c w = with_name c w
with_plain rows.Users c w = with_user c w
with_plain rows.Copy c w = with_path c w
with_plain rows.Paths c w = with_path c w
with_plain rows.NewTest c w = with_test c w
with_plain rows.Report c w = with_one_path c w
with_plain rows.Listing c w = with_listing c w
with_plain rows.Numbers c w = with_number c w
with_plain rows.Attributes c w = None
with_plain rows.ChangeAttributes c w = None
with_plain rows.Change c w = None
with_plain rows.Test c w = None
with_plain rows.Nothing c w = None
with_plain rows.Alone c w = None

-- ---- options

-- whether the option was not there before; of the two flags of a test, neither
abbrev pub is_free : Command → Setting → Bool
is_free c setting.Project = not (is_some c.project)
is_free c setting.File = not (is_some c.attributes)
is_free c setting.Change = not (is_some c.change)
is_free c setting.Delta = not (is_some c.delta)
is_free c setting.Overwriting = not c.overwriting
is_free c setting.Baseline = not (c.baseline || c.regression)
is_free c setting.Regression = not (c.baseline || c.regression)
is_free c setting.Reason = not (is_some c.reason)

-- the command with the change, if there is one
abbrev pub with_change : Command → Option ℕ → Option Command
with_change c None = None
with_change c (Some n) = Some (record c { change = Some n })

-- the command with the delta, if there is one
abbrev pub with_delta : Command → Option ℕ → Option Command
with_delta c None = None
with_delta c (Some n) = Some (record c { delta = Some n })

-- any text that isn't too long, the empty one too
abbrev pub is_reason : List ℕ → Bool
is_reason text = nat_le (length text) most_reason_bytes

-- the command with an option's value more, if that is of its kind
abbrev pub with_value : Setting → Command → List ℕ → Option Command
with_value setting.Project c v = if is_project_name v then Some (record c { project = Some v }) else None
with_value setting.File c v = if is_path v then Some (record c { attributes = Some v }) else None
with_value setting.Change c v = with_change c (change_number v)
with_value setting.Delta c v = with_delta c (delta_number v)
with_value setting.Overwriting c v = None
with_value setting.Baseline c v = None
with_value setting.Regression c v = None
with_value setting.Reason c v = if is_reason v then Some (record c { reason = Some v }) else None

-- the command with the flag
abbrev pub with_flag : Setting → Command → Command
with_flag setting.Overwriting c = record c { overwriting = true }
with_flag setting.Baseline c = record c { baseline = true }
with_flag setting.Regression c = record c { regression = true }
with_flag setting.Project c = c
with_flag setting.File c = c
with_flag setting.Change c = c
with_flag setting.Delta c = c
with_flag setting.Reason c = c

-- ---- items

-- the command, or the place of the word that is bad
abbrev pub or_bad : ℕ → Option Command → Result Command ℕ
or_bad at None = Err at
or_bad at (Some c) = Ok c

-- whether the option is allowed and was not there before
abbrev pub may_come : Option Listing → Command → Setting → Bool
may_come l c o = allows c.function l o && is_free c o

-- the command with an item more, or the place of the item's bad word; `l` is the listing that the words name
unfoldable pub step : Option Listing → Command → Item → Result Command ℕ
step l c (a_plain at w) = or_bad at (with_plain (row c.function) c w)
step l c (a_flag at o) = if may_come l c o then Ok (with_flag o c) else Err at
step l c (an_option at o v_at v) = if may_come l c o then or_bad v_at (with_value o c v) else Err at
step l c (a_wrong at) = Err at

-- whether the plain words that the row requires are there
abbrev pub has_plain : Row → Command → Bool
has_plain rows.NewProject c = is_some c.name
has_plain rows.Users c = not (nat_le (length c.users) 0)
has_plain rows.Copy c = not (nat_le (length c.paths) 0)
has_plain rows.Paths c = not (nat_le (length c.paths) 0)
has_plain rows.NewTest c = not (nat_le (length c.paths) 0)
has_plain rows.Report c = not (nat_le (length c.paths) 0)
has_plain rows.Listing c = is_some c.listing
has_plain rows.Numbers c = nat_le 3 (length c.numbers)
has_plain rows.Attributes c = true
has_plain rows.ChangeAttributes c = true
has_plain rows.Change c = true
has_plain rows.Test c = true
has_plain rows.Nothing c = true
has_plain rows.Alone c = true

-- whether nothing that is required is missing
unfoldable pub is_whole : Command → Bool
is_whole c =
    has_plain (row c.function) c
    && (not (needs_attributes (row c.function)) || is_some c.attributes)
    && (not (needs_change (row c.function) c.listing) || is_some c.change)
