-- What waits in an expression, and what takes its value.
use Rattle.std.proofs.Common.{◌≡◌, ℕ, ◌≤◌, ◌<◌, true, false, leb, arith, List, [], ◌∷◌, refl}
use Rattle.std.proofs.lemmas.Bool.Decides.{nat_tests}
use Rattle.ae_rlang.specs.declared.operator.Operator.{Operator}
use Rattle.ae_rlang.specs.declared.operator.Operator.TheVariants.{Or, And, Equal, Unequal, Less, AtMost, Plus, Minus}
use Rattle.ae_rlang.specs.Operator.{binds, left_binds, right_binds}
use Rattle.ae_rlang.specs.Values.{Value}
use Rattle.ae_rlang.specs.Machine.{Pending, side, no, pending_binds, wanted, taken, reduced}

-- two ways to reduce give the same at each level up to this one
abbrev pub Agree : ℕ → List Pending → Value → List Pending → Value → Type 0
Agree tight ps v qs w = (j : ℕ) → j ≤ tight → reduced j ps v ≡ reduced j qs w

pub left_at_least : (op : Operator) → binds op ≤ left_binds op
left_at_least Or = omega arith
left_at_least And = omega arith
left_at_least Equal = omega arith
left_at_least Unequal = omega arith
left_at_least Less = omega arith
left_at_least AtMost = omega arith
left_at_least Plus = omega arith
left_at_least Minus = omega arith

pub right_at_least : (op : Operator) → binds op ≤ right_binds op
right_at_least Or = omega arith
right_at_least And = omega arith
right_at_least Equal = omega arith
right_at_least Unequal = omega arith
right_at_least Less = omega arith
right_at_least AtMost = omega arith
right_at_least Plus = omega arith
right_at_least Minus = omega arith

-- an operator that may stand where `not` waits binds its left side more tightly
not_below : (op : Operator) → 2 ≤ binds op → 2 < left_binds op
not_below Or h = omega (arith, h)
not_below And h = omega (arith, h)
not_below Equal h = omega arith
not_below Unequal h = omega arith
not_below Less h = omega arith
not_below AtMost h = omega arith
not_below Plus h = omega arith
not_below Minus h = omega arith

-- an operator wants more than it binds
wants_more : (op : Operator) → binds op < right_binds op
wants_more Or = omega arith
wants_more And = omega arith
wants_more Equal = omega arith
wants_more Unequal = omega arith
wants_more Less = omega arith
wants_more AtMost = omega arith
wants_more Plus = omega arith
wants_more Minus = omega arith

-- what waits below an operator that may stand there is not reduced for its left side
pub stays : (ps : List Pending) (v : Value) (op : Operator) → wanted ps ≤ binds op → reduced (left_binds op) ps v ≡ (ps, v)
stays [] v op h = refl
stays (side q l a ∷ ps) v op h =
    let lt : leb (left_binds op) (binds q) ≡ false = grind (arith, nat_tests, wants_more q, left_at_least op) in
    rw lt refl
stays (no l ∷ ps) v op h =
    let lt : leb (left_binds op) 2 ≡ false = grind (arith, nat_tests, not_below op h) in
    rw lt refl

-- what waits and binds so tightly takes the value
pub takes : (j : ℕ) (p : Pending) (ps : List Pending) (v : Value) → j ≤ pending_binds p → reduced j (p ∷ ps) v ≡ reduced j ps (taken p v)
takes j p ps v h = let le : leb j (pending_binds p) ≡ true = grind (arith, nat_tests) in rw le refl
