-- What a printer has put.
use Rattle.std.specs.Prelude.{◌≡◌, ℕ, List, [], ◌∷◌, ◌++◌}
use Rattle.ae_text.specs.Tree.{Node, word, number, str, list, fields, Members, no_members, member}
use Rattle.ae_text.specs.View.{members_of}
use Rattle.ae_text.specs.Canonical.{spaced_fields_text, fields_text}
use Rattle.ae_text.specs.Printing.{MembersFitTypes}
use Rattle.ae_schema.specs.Records.{Named}

-- the fields of a structure, each after a space
abbrev pub spaced : List Named → List ℕ
spaced ms = spaced_fields_text (members_of ms)

-- the fields of a file, each in a line
abbrev pub lines : List Named → List ℕ
lines ms = fields_text (members_of ms)

-- the fields, one after another
abbrev pub listed : Members → List Named
listed no_members = []
listed (member k j ms) = (k, j) ∷ listed ms

-- the fields that stand in a structure
abbrev pub inside : Node → List Named
inside (word w) = []
inside (number n) = []
inside (str s) = []
inside (list js) = []
inside (fields ms) = listed ms

-- The text of these fields stands behind what stood there, and each value is one that its type can hold.
pub record ArePut (text_of : List Named → List ℕ) (before after : List ℕ) (ms : List Named) : Type 0 where
  pub text : after ≡ before ++ text_of ms
  pub types : MembersFitTypes (members_of ms)
