-- Lists of users, each user the list of the bytes of its name.
use Rattle.std.specs.Prelude.{ℕ, List}
use Rattle.std.specs.List.{IsDistinct}
use Rattle.std.specs.Str.{bytes_eq}
use Rattle.std.specs.Set.{remove_key}

-- no user stands twice
abbrev pub AllDiffer : List (List ℕ) → Type 0
AllDiffer users = IsDistinct bytes_eq users

-- the users but for this one, in their order
abbrev pub without : List ℕ → List (List ℕ) → List (List ℕ)
without user users = remove_key (bytes_eq user) users
