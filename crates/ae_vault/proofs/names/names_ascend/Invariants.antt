use Rattle.std.proofs.Common.{◌≡◌, length}
use Rattle.ae_vault.specs.Vault.{names_ascend}
use Rattle.ae_vault.proofs.names.names_ascend.Given as goal

abbrev pub invariant-loop-rest : goal.invariant-loop-rest
invariant-loop-rest l = names_ascend l.fn.entries ≡ names_ascend l.rest

abbrev pub decreases-loop-rest : goal.decreases-loop-rest
decreases-loop-rest l = length l.rest
