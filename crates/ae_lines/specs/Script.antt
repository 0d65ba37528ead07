-- Which texts are scripts.
use Rattle.std.specs.Prelude.{ℕ, ◌+◌, List, [], ◌∷◌, length}
use Rattle.ae_reader.specs.Cut.{lines_of, content_of, IsWithin}
use Rattle.ae_lines.specs.Line.{IsLine}
use Rattle.ae_lines.specs.declared.line.Line.{Line}

-- a line after so many bytes passes no limit and says this
pub record IsGood (at : ℕ) (line : List ℕ) (says : Line) : Type 0 where
  pub within : IsWithin at line
  pub said : IsLine (content_of line) says

-- it isn't understood
abbrev pub IsBad : ℕ → List ℕ → Type 0
IsBad at line = (says : Line) → IsGood at line says → ⊥

-- these say those, one each
abbrev pub AreLines : ℕ → List (List ℕ) → List Line → Type 0
AreLines at [] [] = Unit {0}
AreLines at (line ∷ lines) (says ∷ more) = IsGood at line says × AreLines (at + length line) lines more
AreLines at [] (says ∷ more) = ⊥
AreLines at (line ∷ lines) [] = ⊥

-- how many bytes they are
abbrev pub size : List (List ℕ) → ℕ
size [] = 0
size (line ∷ lines) = length line + size lines

-- each line of it is understood
abbrev pub IsScript : List ℕ → Type 0
IsScript script = (says : List Line) × AreLines 0 (lines_of script) says
