-- A question about a function says which function that is.
use Rattle.std.specs.Prelude.{Option, Some, None}
use Rattle.ae_words.specs.declared.table.Function.{Function}
use Rattle.aegis.specs.declared.help.Question.{Question}
use Rattle.aegis.specs.declared.help.Question.TheVariants.{HelpOf}

-- the function, where it is one about a function
abbrev pub asked_of : Option Question → Option Function
asked_of (Some (HelpOf function)) = Some function
asked_of _ = None
