use Rattle.std.proofs.Common.{◌∙◌, sym}
use Rattle.ae_outside.specs.State.{reads}
use Rattle.ae_vault.specs.Vault.{files}
use Rattle.ae_store.proofs.files.load_table.Goals as goal

pub returns-clause-table : goal.returns-clause-table
returns-clause-table g c = λ t.
    c.good_table.ensures.value (files (reads (g.D.Disk.state c.args.disk.now))) (c.in_ok-bytes.ensures.bytes t ∙ sym c.as_slice.ensures.value)
