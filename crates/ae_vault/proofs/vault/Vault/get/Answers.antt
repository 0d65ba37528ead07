use Rattle.std.proofs.Common.{ℕ, List}
use Rattle.std.proofs.lemmas.Result.{IfOk-weaker}
use Rattle.ae_vault.proofs.Read.{read_file, whole_read}
use Rattle.ae_vault.proofs.vault.Vault.get.Goals as goal

pub returns-clause-bytes : goal.returns-clause-bytes
returns-clause-bytes g c =
    let before = g.D.Disk.state c.args.disk.now in
    let after = g.D.Disk.state c.size.new.self in
    IfOk-weaker c.read_at.result _ _ (λ bytes is t. read_file before c.args.name.now bytes.items (λ (l : List ℕ). l) (c.requires.clean t) c.requires.other
    (whole_read before after c.args.name.now bytes.items c.in-Ok.size (c.size.ensures.change t) (c.in-Ok.ensures.size t) (is t))) c.read_at.ensures.bytes
