use Rattle.std.proofs.Common.{◌∙◌, ap, sym}
use Rattle.ae_outside.specs.State.{reads}
use Rattle.ae_vault.specs.Vault.{files}
use Rattle.ae_store.proofs.files.load_change.Goals as goal

pub returns-clause-loaded : goal.returns-clause-loaded
returns-clause-loaded g c = λ t.
    let here = files (reads (g.D.Disk.state c.args.disk.now)) in
    c.good_change.ensures.value here
    (ap here (sym (c.as_str.ensures.value ∙ c.in_ok-name.ensures.value)) ∙ c.in_ok-bytes.ensures.bytes t ∙ sym c.as_slice.ensures.value)
