use Rattle.std.proofs.Common.{◌≡◌, true, Err, refl, sym, ◌∙◌, ap}
use Rattle.ae_outside.specs.Image.{Image, IsSame}
use Rattle.ae_outside.specs.State.{reads}
use Rattle.ae_outside.specs.Time.{goes_on_refl, same_reads}
use Rattle.ae_vault.specs.Vault.{body, is_open, body_entries}
use Rattle.ae_vault.proofs.Redo.{gate_read, open_damaged}
use Rattle.ae_audit.specs.Audits as audits
use Rattle.ae_audit.proofs.effective.read_redo.Goals as goal

pub returns-in-Err-Bad-clause-stop : goal.returns-in-Err-Bad-clause-stop
returns-in-Err-Bad-clause-stop g c = λ t.
    let start = g.D.Disk.state c.args.disk.now in
    let opened : is_open c.in_ok-first.first.items ≡ true = ap is_open (sym c.deref.ensures.value) ∙ sym c.is_open_gate.ensures ∙ c.if-not-is_open_gate.false in
    let bytes : c.deref-2.result.now ≡ reads start body = c.deref-2.ensures.value ∙ c.in_ok-bytes.ensures.bytes t ∙ ap (λ (image : Image). image body) (same_reads _ _ (c.read_at.ensures.change t)) in
    audits.body (open_damaged (reads start) (gate_read start start c.in_ok-first.first.items true (goes_on_refl IsSame _ (λ f. refl)) (c.in_ok-first.ensures.bytes t) opened)
    (ap body_entries (sym bytes) ∙ c.in-Err-Bad.ensures.bad (ap Err c.in-Err-Bad.field-0-is)))
