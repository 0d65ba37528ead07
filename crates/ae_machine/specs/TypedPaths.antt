-- The paths that stand after a legal log are paths, since words can say each of its commands.
use Rattle.std.specs.Prelude.{◌≡◌, ℕ, List, map, Some, All}
use Rattle.ae_base.specs.Names.{IsPath}
use Rattle.ae_types.specs.declared.change.Change.{Change}
use Rattle.ae_types.specs.Found.{change_at, file_path, row_path}
use Rattle.ae_types.specs.Observation.{Observation}
use Rattle.ae_words.specs.declared.command.Command.{Command}
use Rattle.ae_log.specs.Log.{Log}
use Rattle.ae_log.specs.Observed.{observation}
use Rattle.ae_machine.specs.Call.{call_of, change_named}
use Rattle.ae_machine.specs.Fits.{paths_asked}
use Rattle.ae_machine.specs.Legal.{Legal}

-- those of the changes' files, and those of the file table
pub record ArePaths (o : Observation) : Type 0 where
  pub files : (number : ℕ) (change : Change) → change_at o number ≡ Some change → All IsPath (map file_path change.files)
  pub table : All IsPath (map row_path o.files)

abbrev pub LegalHasPaths : Type 0
LegalHasPaths = (log : Log) (o : Observation) → Legal log → observation log ≡ Some o → ArePaths o

-- so are those whose files a command reads
abbrev pub PathsAskedAre : Type 0
PathsAskedAre = (o : Observation) (command : Command) (who : List ℕ) → ArePaths o → All IsPath (paths_asked (call_of o command who) (change_named o command.change))
