-- What a command that failed leaves of the directories, path by path.
use Rattle.std.specs.Prelude.{◌≡◌, ◌⊎◌, ℕ, Bool, true, false, ◌||◌, List, Contains}
use Rattle.ae_outside.specs.declared.dir.Dir.{Dir}
use Rattle.ae_outside.specs.Trees.{Tree}
use Rattle.ae_types.specs.Observation.{Observation}
use Rattle.ae_words.specs.declared.command.Command.{Command}
use Rattle.ae_words.specs.declared.table.Function.{Function}
use Rattle.ae_machine.specs.declared.view.View.{View}
use Rattle.ae_machine.specs.Call.{given_of}
use Rattle.ae_machine.specs.Directories.{dir_changes, dirs}
use Rattle.ae_machine.specs.Fits.{makes_runs}
use Rattle.ae_machine.specs.Space.{placing}
use Rattle.ae_dirs.specs.Parts.{AreInPart}
use Rattle.ae_exec.specs.Directories.{makes_files, puts_files, removes_files}

-- Of a command that makes no runs, where its changes were made in part, each path is as it was, or as the command makes it.
abbrev pub FailedChangeInPart : Type 0
FailedChangeInPart =
    (o : Observation) (bytes : ℕ → List ℕ) (command : Command) (who : List ℕ) (when : ℕ) (view : View) (before after : Dir → Tree)
    → makes_runs command.function ≡ false → AreInPart (dir_changes (given_of placing o bytes command who when view)) before after
    → (dir : Dir) (path : List ℕ) → (after dir path ≡ before dir path) ⊎ (after dir path ≡ dirs (given_of placing o bytes command who when view) before dir path)

-- the functions that touch no path but those that the words name
abbrev pub names_its_paths : Function → Bool
names_its_paths function = makes_files function || removes_files function || puts_files function

-- of one of these no other path is changed
abbrev pub NamedAlone : Type 0
NamedAlone =
    (o : Observation) (bytes : ℕ → List ℕ) (command : Command) (who : List ℕ) (when : ℕ) (view : View) (before after : Dir → Tree)
    → names_its_paths command.function ≡ true → AreInPart (dir_changes (given_of placing o bytes command who when view)) before after
    → (dir : Dir) (path : List ℕ) → (Contains command.paths path → ⊥) → after dir path ≡ before dir path
