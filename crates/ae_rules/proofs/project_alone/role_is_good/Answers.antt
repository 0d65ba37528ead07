use Rattle.std.proofs.Common.{sym, ◌∙◌, ap, ◌&&◌, List, ℕ}
use Rattle.std.specs.Prelude.{length, nat_le}
use Rattle.ae_types.proofs.RulesAlone.{facts-differ}
use Rattle.ae_rules.proofs.project_alone.role_is_good.Goals as goal

pub returns : goal.returns
returns c = ap (λ (users : List (List ℕ)). nat_le (length users) 256) c.users.ensures.users
    ∙ sym (ap (λ b. b && nat_le (length c.args.users.now) 256) (facts-differ c.args.users.now c.users.ensures.differ))
