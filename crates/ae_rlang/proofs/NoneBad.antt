-- Where nothing is bad, no part of it is bad.
use Rattle.std.proofs.Common.{◌≡◌, ℕ, refl}
use Rattle.std.specs.Prelude.{Bool, true, false, Option, Some, None, nat_lt, if◌then◌else◌}
use Rattle.ae_rlang.specs.Operator.{earlier, bad_where}

pub first-none : (a b : Option ℕ) → earlier a b ≡ None → a ≡ None
first-none None b is = refl
first-none (Some x) None is = is
first-none (Some x) (Some y) is = absurd (go (nat_lt y x) is)
  where
    go : (c : Bool) → (if c then Some y else Some x) ≡ None → ⊥
    go true e = cc
    go false e = cc

pub second-none : (a b : Option ℕ) → earlier a b ≡ None → b ≡ None
second-none None b is = is
second-none (Some x) None is = refl
second-none (Some x) (Some y) is = absurd (go (nat_lt y x) is)
  where
    go : (c : Bool) → (if c then Some y else Some x) ≡ None → ⊥
    go true e = cc
    go false e = cc

pub good : (b : Bool) (line : ℕ) → bad_where b line ≡ None → b ≡ false
good true line is = let no : Some line ≡ None = is in cc
good false line is = refl
