use Rattle.std.proofs.Common.{ℕ, List, take, drop}
use Rattle.std.proofs.lemmas.Result.{IfOk-weaker}
use Rattle.ae_vault.proofs.Read.{read_file}
use Rattle.ae_vault.proofs.vault.Vault.get_range.Goals as goal

pub returns-clause-bytes : goal.returns-clause-bytes
returns-clause-bytes g c =
    IfOk-weaker c.read_at.result _ _ (λ bytes is t. read_file (g.D.Disk.state c.args.disk.now) c.args.name.now bytes.items (λ (l : List ℕ). take c.args.len (drop c.args.at l)) (c.requires.clean t) c.requires.other (is t)) c.read_at.ensures.bytes
