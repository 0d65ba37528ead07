-- How many parentheses are open.
use Rattle.std.proofs.Common.{◌≡◌, ℕ, ◌+◌, List, [], ◌∷◌, length, arith, ap, ◌∙◌}
use Rattle.std.proofs.lemmas.Grind.{common_steps}
use Rattle.ae_rlang.specs.declared.expression.Group.{Group}
use Rattle.ae_rlang.specs.Machine as spec
use Rattle.ae_rlang.specs.Machine.{level_in}
use Rattle.ae_rlang.specs.Steps.{groups_seen}

level_length : (gs : List spec.Group) (level : ℕ) → level_in gs level ≡ length gs + level
level_length [] level = omega arith
level_length (g ∷ gs) level = let again : level_in gs level ≡ length gs + level = level_length gs level in omega (arith, again)

pub level_seen : (gs : List Group) (level : ℕ) → level_in (groups_seen gs) level ≡ length gs + level
level_seen gs level = level_length (groups_seen gs) level ∙ ap (λ (n : ℕ). n + level) (grind (arith, common_steps))
