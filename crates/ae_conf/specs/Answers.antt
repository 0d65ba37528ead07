-- What a reader of attributes answers where memory may run out.
use Rattle.std.specs.Prelude.{◌≡◌, ℕ, Result, Ok, Err}
use Rattle.ae_conf.specs.declared.error.ConfError.{ConfError}
use Rattle.ae_conf.specs.declared.error.ConfError.TheVariants.{Line, Memory}

-- it is these attributes, or this line, unless memory runs out
abbrev pub IsAnswer : {A : Type 0} → Result A ℕ → Result A ConfError → Type 0
IsAnswer answer (Ok attributes) = answer ≡ Ok attributes
IsAnswer answer (Err (Line line)) = answer ≡ Err line
IsAnswer answer (Err Memory) = Unit {0}
