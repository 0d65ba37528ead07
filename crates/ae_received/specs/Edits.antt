-- What a change does at a path.
use Rattle.std.specs.Prelude.{ℕ, List, Option}
use Rattle.std.specs.Option.{option_map}
use Rattle.ae_base.specs.declared.words.Action.{Action}
use Rattle.ae_base.specs.declared.words.Usage.{Usage}
use Rattle.ae_types.specs.declared.change.ChangeFile.{ChangeFile}
use Rattle.ae_types.specs.Found.{file_in}

-- a path of a change, what is done to it, and what it is for
pub record Edit : Type 0 where
  pub path : List ℕ
  pub action : Action
  pub usage : Usage

abbrev pub edit : List ℕ → Action → Usage → Edit
edit path action usage = record { path = path; action = action; usage = usage }

abbrev pub edit_path : Edit → List ℕ
edit_path made = made.path

-- what a row of a change says of it
abbrev pub edit_of : ChangeFile → Edit
edit_of file = edit file.path file.action file.usage

-- what the rows of a change say of a path
abbrev pub edit_at : List ChangeFile → List ℕ → Option Edit
edit_at files path = option_map edit_of (file_in files path)
