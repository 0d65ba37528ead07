use Rattle.ae_vault.proofs.DiskNameText.{utf8_name}
use Rattle.ae_vault.proofs.entry.disk_name.Goals as goal

pub unreachable-requires : goal.unreachable-requires
unreachable-requires c = absurd (c.in-Err.ensures.cases.0 (utf8_name c.args.name.now c.requires))
