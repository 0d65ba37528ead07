-- What is so of the script of a made-up project.
use Rattle.std.specs.Prelude.{ℕ, ◌≢◌, ◌≤◌, List, Contains}
use Rattle.ae_generator.specs.Lines.{generated_text}
use Rattle.ae_lines.specs.Line.{IsLine}
use Rattle.ae_lines.specs.declared.line.Line.TheVariants.{Do}
use Rattle.ae_reader.specs.Cut.{lines_of, content_of}
use Rattle.ae_words.specs.declared.command.Command.{Command}
use Rattle.ae_words.specs.declared.table.Function.TheVariants as function
use Rattle.ae_lines.specs.Script.{IsScript}

-- the generator takes so many changes, each of so many files
pub record IsSize (changes files : ℕ) : Type 0 where
  pub some_changes : 1 ≤ changes
  pub few_changes : changes ≤ 200
  pub some_files : 1 ≤ files
  pub few_files : files ≤ 99

-- each line of each generated text is understood
abbrev pub AreScripts : Type 0
AreScripts = (start changes files : ℕ) → IsSize changes files → IsScript (generated_text start changes files)

-- none of its lines says a test
abbrev pub HoldNoTests : Type 0
HoldNoTests =
    (start changes files : ℕ) → IsSize changes files
    → (line : List ℕ) (command : Command) → Contains (lines_of (generated_text start changes files)) line → IsLine (content_of line) (Do command)
    → command.function ≢ function.Test
