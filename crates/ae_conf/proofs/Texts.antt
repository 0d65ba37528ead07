-- Bytes that are a text are read as it, and others have their line.
use Rattle.std.proofs.Common.{◌≡◌, ◌⊎◌, inl, inr, ℕ, List, Err, refl, ap}
use Rattle.ae_text.specs.Tree.{Node}
use Rattle.ae_text.specs.Grammar.{Reads}
use Rattle.ae_text.specs.Wrong.{IsError}
use Rattle.ae_text.proofs.Whole.{one_tree}
use Rattle.ae_text.proofs.Errors.{never_both, one_line}
use Rattle.ae_conf.specs.Kinds.{Kinds}
use Rattle.ae_conf.specs.Reading.{IsText, IsNoText, reading}
use Rattle.ae_conf.specs.Fields.{fields_in, right_or_line}
use Rattle.ae_conf.specs.RightFields.{fields_read, right_fields}

pub text_fields : (kinds : Kinds) (bytes : List ℕ) (tree : Node) (lines : List ℕ) → Reads bytes tree lines → right_fields kinds bytes ≡ right_or_line kinds (fields_in tree) lines
text_fields kinds bytes tree lines reads = by (reading bytes) where
  by : (r : IsText bytes ⊎ IsNoText bytes) → fields_read kinds bytes r ≡ right_or_line kinds (fields_in tree) lines
  by (inl text) = let one = one_tree bytes text.0 tree text.1 lines text.2 reads in rw (one.0, one.1) refl
  by (inr error) = absurd (never_both bytes tree lines error.0 reads error.1)

pub error_line : (kinds : Kinds) (bytes : List ℕ) (line : ℕ) → IsError bytes line → right_fields kinds bytes ≡ Err line
error_line kinds bytes line error = by (reading bytes) where
  by : (r : IsText bytes ⊎ IsNoText bytes) → fields_read kinds bytes r ≡ Err line
  by (inl text) = absurd (never_both bytes text.0 text.1 line text.2 error)
  by (inr other) = ap Err (one_line bytes other.0 line other.1 error)
