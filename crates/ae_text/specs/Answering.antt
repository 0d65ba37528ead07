-- What `read_tree` answers where memory may run out.
use Rattle.std.specs.Prelude.{◌≡◌, Result, Ok, Err}
use Rattle.ae_text.specs.declared.read.Parsed.{Parsed}
use Rattle.ae_text.specs.declared.read.TextError.{TextError}
use Rattle.ae_text.specs.declared.read.TextError.TheVariants.{Syntax, TooDeep, Memory}

-- it is read so, unless memory runs out
abbrev pub IsRead : (Parsed → Type 0) → Result Parsed TextError → Type 0
IsRead P (Ok p) = P p
IsRead P (Err (Syntax line)) = ⊥
IsRead P (Err (TooDeep line)) = ⊥
IsRead P (Err Memory) = Unit {0}

-- it is refused so, unless memory runs out
abbrev pub IsRefused : TextError → Result Parsed TextError → Type 0
IsRefused error (Ok p) = ⊥
IsRefused error (Err (Syntax line)) = error ≡ Syntax line
IsRefused error (Err (TooDeep line)) = error ≡ TooDeep line
IsRefused error (Err Memory) = Unit {0}
