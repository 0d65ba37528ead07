use Rattle.std.proofs.Common.{◌≡◌, ◌-◌, ◌+◌, Err, List, ap, sym, ◌∙◌, arith}
use Rattle.ae_base.proofs.Results.{err_was, if_ok_of_err, ok_is_no_err}
use Rattle.ae_vault.specs.declared.entry.Entry.{Entry}
use Rattle.ae_vault.specs.declared.error.VaultError.TheVariants.{DiskFault, Damaged, Memory}
use Rattle.ae_vault.specs.Vault.{entries_read}
use Rattle.ae_vault.proofs.BodyText.{behind, read_one, read_none, read_last}
use Rattle.ae_vault.proofs.Erring.{memory_is_no_damage, memory_is_no_fault}
use Rattle.ae_vault.proofs.body.read_entries.Goals as goal

pub returns-in_err-entry-clause-damaged : goal.returns-in_err-entry-clause-damaged
returns-in_err-entry-clause-damaged c = λ is.
    let is_damaged : c.in_err-entry.field-0.0 ≡ Damaged = err_was c.from_residual.result _ Damaged c.from_residual.ensures.1 is in
    c.loop-done.invariant ∙ read_none (c.args.count - c.loop-done.done) (c.args.count - (c.loop-done.done + 1)) c.loop-done.entries.items c.loop-done.rest.now (omega arith) (c.in_err-entry.ensures.damaged (ap Err is_damaged))

pub loop-done-preserved : goal.loop-done-preserved
loop-done-preserved c =
    c.loop-done.invariant
    ∙ read_one (c.args.count - c.loop-done.done) (c.args.count - (c.loop-done.done + 1)) c.loop-done.entries.items c.in_ok-entry.entry c.loop-done.rest.now c.in_ok-entry.after.now (omega arith) c.in_ok-entry.ensures.ok
    ∙ ap (λ (es : List Entry). behind es (entries_read (c.args.count - (c.loop-done.done + 1)) c.in_ok-entry.after.now)) (sym c.in_ok-push.ensures.items)

pub returns-clause-entries : goal.returns-clause-entries
returns-clause-entries c =
    c.loop-done.invariant
    ∙ read_last (c.args.count - c.loop-done.done) c.loop-done.entries.items c.loop-done.rest.now (omega arith) (sym c.is_empty.ensures ∙ c.if-not-is_empty.false)

-- ---- what follows from the calls alone

pub returns-in_err-entry-clause-entries : goal.returns-in_err-entry-clause-entries
returns-in_err-entry-clause-entries c = if_ok_of_err c.from_residual.result _ _ c.from_residual.ensures.1

pub returns-in_err-entry-clause-no_fault : goal.returns-in_err-entry-clause-no_fault
returns-in_err-entry-clause-no_fault c = λ is. c.in_err-entry.ensures.no_fault (ap Err (err_was c.from_residual.result _ DiskFault c.from_residual.ensures.1 is))

pub returns-in_err-push-clause-entries : goal.returns-in_err-push-clause-entries
returns-in_err-push-clause-entries c = if_ok_of_err c.from_residual-in_err-push.result _ _ c.from_residual-in_err-push.ensures.1

pub returns-in_err-push-clause-damaged : goal.returns-in_err-push-clause-damaged
returns-in_err-push-clause-damaged c = λ is. absurd (memory_is_no_damage (err_was c.from_residual-in_err-push.result Memory Damaged c.from_residual-in_err-push.ensures.1 is))

pub returns-in_err-push-clause-no_fault : goal.returns-in_err-push-clause-no_fault
returns-in_err-push-clause-no_fault c = λ is. memory_is_no_fault (err_was c.from_residual-in_err-push.result Memory DiskFault c.from_residual-in_err-push.ensures.1 is)

pub returns-clause-damaged : goal.returns-clause-damaged
returns-clause-damaged c = λ is. absurd (ok_is_no_err _ _ is)

pub returns-clause-no_fault : goal.returns-clause-no_fault
returns-clause-no_fault c = λ is. ok_is_no_err _ _ is
