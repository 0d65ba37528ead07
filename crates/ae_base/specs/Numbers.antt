-- The numbers that texts of decimal digits write.
use Rattle.std.specs.Prelude.{ℕ, ◌+◌, ◌*◌, ◌-◌, List, [], ◌∷◌, ◌&&◌, if◌then◌else◌, nat_le, length, Option, Some, None}
use Rattle.ae_base.specs.Limits.{most_deltas}
use Rattle.ae_base.specs.Names.{is_digit}

-- the number that goes on from n by these digits, where it ends below 2 ^ 64
abbrev pub number_from : ℕ → List ℕ → Option ℕ
number_from n [] = Some n
number_from n (b ∷ bs) =
    if is_digit b then (if nat_le (10 * n + (b - 48)) 18446744073709551615 then number_from (10 * n + (b - 48)) bs else None) else None

abbrev pub in_range : ℕ → ℕ → Option ℕ → Option ℕ
in_range low high None = None
in_range low high (Some n) = if nat_le low n && nat_le n high then Some n else None

-- the number that 1 to `most` digits write, where it is from `low` to `high`
abbrev pub number_within : ℕ → ℕ → ℕ → List ℕ → Option ℕ
number_within most low high [] = None
number_within most low high (b ∷ bs) = if nat_le (length (b ∷ bs)) most then in_range low high (number_from 0 (b ∷ bs)) else None

-- a change's number: 10 to 1999
abbrev pub change_number : List ℕ → Option ℕ
change_number = number_within 10 10 1999

-- a delta's number: 0 to 1990
abbrev pub delta_number : List ℕ → Option ℕ
delta_number = number_within 10 0 most_deltas
