-- The fields of a file of a user.
use Rattle.std.specs.Prelude.{◌⊎◌, ℕ, List, Result, Ok, Err}
use Rattle.std.proofs.Common.{inl, inr}
use Rattle.ae_conf.specs.Kinds.{Kinds}
use Rattle.ae_conf.specs.Reading.{IsText, IsNoText, reading}
use Rattle.ae_conf.specs.Fields.{Fields, fields_in, right_or_line}

-- the fields of a text, where they are right; what is no text has a bad line
abbrev pub fields_read : Kinds → (bytes : List ℕ) → IsText bytes ⊎ IsNoText bytes → Result Fields ℕ
fields_read kinds bytes (inl text) = right_or_line kinds (fields_in text.0) text.1
fields_read kinds bytes (inr error) = Err error.0

-- the fields of the text that the bytes are, or the bad line: that of the first wrong token, and where there is none that of the first wrong field
abbrev pub right_fields : Kinds → List ℕ → Result Fields ℕ
right_fields kinds bytes = fields_read kinds bytes (reading bytes)

-- what these fields make, or the same line
abbrev pub making : {A : Type 0} → (Fields → A) → Result Fields ℕ → Result A ℕ
making made (Ok fields) = Ok (made fields)
making made (Err line) = Err line
