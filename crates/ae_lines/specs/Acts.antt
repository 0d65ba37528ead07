-- Which acts may be done, and which a plan may have.
use Rattle.std.specs.Prelude.{◌≡◌, ◌≢◌, true}
use Rattle.ae_words.specs.Formed.{IsFormed}
use Rattle.ae_words.specs.Table.{is_one_command}
use Rattle.ae_words.specs.declared.table.Function.TheVariants.{Build, Test}
use Rattle.ae_lines.specs.declared.act.Act.{Act}
use Rattle.ae_lines.specs.declared.act.Act.TheVariants.{Run, Put}

-- a command that may be performed, or any file that is written
abbrev pub MayBeDone : Act → Type 0
MayBeDone (Run command) = IsFormed command × (is_one_command command.function ≡ true)
MayBeDone (Put dir path text) = Unit {0}

-- a plan builds and tests nothing: its commands may be performed, and make no runs
abbrev pub MayBePlanned : Act → Type 0
MayBePlanned (Run command) = MayBeDone (Run command) × (command.function ≢ Build) × (command.function ≢ Test)
MayBePlanned (Put dir path text) = Unit {0}
