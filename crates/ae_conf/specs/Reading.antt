-- Bytes are a text in one way, or have one first wrong token.
use Rattle.std.specs.Prelude.{◌⊎◌, ℕ, List}
use Rattle.ae_text.specs.Tree.{Node}
use Rattle.ae_text.specs.Grammar.{Reads}
use Rattle.ae_text.specs.Wrong.{IsError}
use Rattle.ae_text.proofs.EveryText.{every_text}

-- a tree whose text the bytes are, and the lines of its fields
abbrev pub IsText : List ℕ → Type 0
IsText bytes = (tree : Node) × (lines : List ℕ) × Reads bytes tree lines

-- the line of the first wrong token of bytes that are no text
abbrev pub IsNoText : List ℕ → Type 0
IsNoText bytes = (line : ℕ) × IsError bytes line

-- Which of both the bytes are. The grammar has just one answer for them, so that this type says it all.
pub reading : (bytes : List ℕ) → IsText bytes ⊎ IsNoText bytes
reading bytes = every_text bytes
