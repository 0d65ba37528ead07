-- Bytes, and the texts that pass a test.
use Rattle.std.specs.Prelude.{ℕ, ◌<◌, List, [], ◌∷◌, Bool, if◌then◌else◌, Option, Some, None}

-- each is below 256
abbrev pub AreBytes : List ℕ → Type 0
AreBytes [] = Unit {0}
AreBytes (b ∷ bs) = (b < 256) × AreBytes bs

-- the text itself where it passes the test, and nothing where it doesn't
abbrev pub read_as : (List ℕ → Bool) → List ℕ → Option (List ℕ)
read_as test text = if test text then Some text else None

-- ---- the signs that bytes are

-- `$`
abbrev pub dollar : ℕ
dollar = 36

-- `+`, `-`, `.` and `_`
abbrev pub plus : ℕ
plus = 43

abbrev pub dash : ℕ
dash = 45

abbrev pub dot : ℕ
dot = 46

abbrev pub underscore : ℕ
underscore = 95

-- `/`
abbrev pub slash : ℕ
slash = 47

-- `=`
abbrev pub equals_sign : ℕ
equals_sign = 61

-- `{` and `}`
abbrev pub open_brace : ℕ
open_brace = 123

abbrev pub close_brace : ℕ
close_brace = 125
