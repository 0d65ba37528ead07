-- How a change is made of a change set: what is done, one after the other.
use Rattle.std.specs.Prelude.{◌≡◌, ℕ, Bool, false, ◌&&◌, not, if◌then◌else◌, List, [], ◌∷◌, ◌++◌, Option, Some, None, is_some, codes, find}
use Rattle.std.specs.List.{filter_map}
use Rattle.std.specs.Option.{option_and_then, option_map_or}
use Rattle.std.specs.Str.{bytes_eq}
use Rattle.ae_base.specs.Limits.{most_changes}
use Rattle.ae_base.specs.Words.{cause_word}
use Rattle.ae_base.specs.declared.refusal.Refusal.{Refusal}
use Rattle.ae_base.specs.declared.refusal.Refusal.TheVariants.{Limit}
use Rattle.ae_base.specs.declared.words.Which.TheVariants.{Changes}
use Rattle.ae_log.specs.Settings.{change_numbers}
use Rattle.ae_outside.specs.declared.dir.Dir.TheVariants.{Here, Develop}
use Rattle.ae_text.specs.Canonical.{fields_text}
use Rattle.ae_text.specs.Tree.{str, word, Members}
use Rattle.ae_text.specs.View.{members_of}
use Rattle.ae_files.specs.InTree.{row_at}
use Rattle.ae_types.specs.Found.{has_number}
use Rattle.ae_types.specs.Observation.{Observation}
use Rattle.ae_types.specs.Phases.{is_remove, is_test}
use Rattle.ae_types.specs.Trees.{TreeRow, baseline_of}
use Rattle.ae_words.specs.declared.command.Command.{Command}
use Rattle.ae_words.specs.declared.table.Function.{Function}
use Rattle.ae_words.specs.declared.table.Function.TheVariants as function
use Rattle.ae_bundle.specs.declared.bundle.Bundle.{Bundle}
use Rattle.ae_bundle.specs.declared.bundle.BundleFile.{BundleFile}
use Rattle.ae_dist.specs.Sending.{or_refuses, refuses_project}
use Rattle.ae_lines.specs.declared.act.Act.{Act}
use Rattle.ae_lines.specs.declared.act.Act.TheVariants.{Run, Put}

-- ---- the change that is made

-- the least number that no change has
abbrev pub is_unused : List ℕ → ℕ → Bool
is_unused numbers number = not (has_number numbers number)

abbrev pub free_number : Observation → Option ℕ
free_number o = find (is_unused o.numbers) change_numbers

-- the file that gives its attributes, and the text of it
abbrev pub attributes_path : List ℕ
attributes_path = codes "received.attr"

abbrev pub attributes_of : Bundle → Members
attributes_of bundle = members_of (
    (codes "brief_description", str bundle.brief)
    ∷ (codes "description", str bundle.description)
    ∷ (codes "cause", word (cause_word bundle.cause))
    ∷ [])

abbrev pub attributes_text : Bundle → List ℕ
attributes_text bundle = fields_text (attributes_of bundle)

-- ---- commands

abbrev pub command : Function → Option ℕ → Option (List ℕ) → List (List ℕ) → Command
command function change attributes paths = record {
  function = function;
  project = None;
  change = change;
  attributes = attributes;
  delta = None;
  overwriting = false;
  baseline = false;
  regression = false;
  name = None;
  users = [];
  paths = paths;
  listing = None;
  numbers = [];
  reason = None;
}

-- the change is made, and its development begins
abbrev pub new_change : Command
new_change = command function.NewChange None (Some attributes_path) []

abbrev pub begin : ℕ → Command
begin number = command function.DevelopBegin (Some number) None []

-- a command on one path of the change
abbrev pub on_path : Function → ℕ → List ℕ → Command
on_path function number path = command function (Some number) None (path ∷ [])

-- ---- what is done with the files, where the baseline is this tree

-- the baseline of what stands; none where nothing does
abbrev pub tree_in : Option Observation → List TreeRow
tree_in stands = option_map_or baseline_of stands []

-- it has the path
abbrev pub is_there : List TreeRow → List ℕ → Bool
is_there tree path = is_some (row_at tree path)

-- a removed path is removed, where it is there
abbrev pub removal : List TreeRow → ℕ → BundleFile → Option Act
removal tree number file = if is_remove file.action && is_there tree file.path then Some (Run (on_path function.RemoveFile number file.path)) else None

-- any other is copied where it is there, and else it is a new test or a new file
abbrev pub adding : List TreeRow → BundleFile → Function
adding tree file =
    if is_there tree file.path then function.CopyFile
    else if is_test file.usage && not (bytes_eq file.path (codes "aegis.conf")) then function.NewTest
    else function.NewFile

abbrev pub addition : List TreeRow → ℕ → BundleFile → Option Act
addition tree number file = if is_remove file.action then None else Some (Run (on_path (adding tree file) number file.path))

-- and its bytes are put into the develop directory
abbrev pub put : ℕ → BundleFile → Option Act
put number file = if is_remove file.action then None else Some (Put (Develop number) file.path file.bytes)

-- ---- the plan, where the baseline is this tree

-- all that is done but for the files' bytes
abbrev pub commands_of : List TreeRow → ℕ → Bundle → List Act
commands_of tree number bundle =
    Put Here attributes_path (attributes_text bundle) ∷ Run new_change ∷ Run (begin number)
    ∷ (filter_map (removal tree number) bundle.files ++ filter_map (addition tree number) bundle.files)

abbrev pub plan_of : List TreeRow → ℕ → Bundle → List Act
plan_of tree number bundle =
    Put Here attributes_path (attributes_text bundle) ∷ Run new_change ∷ Run (begin number)
    ∷ (filter_map (removal tree number) bundle.files ++ (filter_map (addition tree number) bundle.files ++ filter_map (put number) bundle.files))

-- there is no room for one more change
abbrev pub no_room : Refusal
no_room = Limit Changes most_changes

abbrev pub refuses_numbers : Observation → Option Refusal
refuses_numbers o = if is_some (free_number o) then None else Some no_room

-- why there is no plan for what stands, for a call that names a project, or none: the first of these reasons
abbrev pub refuses_plan : Option (List ℕ) → Option Observation → Option Refusal
refuses_plan name stands = or_refuses (refuses_project name stands) (option_and_then refuses_numbers stands)

-- the files say that this is the plan: of the least free number
pub record IsPlan (o : Observation) (name : Option (List ℕ)) (bundle : Bundle) (acts : List Act) : Type 0 where
  pub number : ℕ
  pub named : refuses_project name (Some o) ≡ None
  pub free : free_number o ≡ Some number
  pub is : acts ≡ plan_of (baseline_of o) number bundle
