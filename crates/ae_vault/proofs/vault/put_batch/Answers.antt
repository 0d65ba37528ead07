use Rattle.std.proofs.Common.{true, false, List, ap, refl, subst, ◌∙◌}
use Rattle.std.proofs.Math.Nat.{le_trans}
use Rattle.ae_base.proofs.Results.{on_ok, on_ok_both, on_ok_of_err}
use Rattle.ae_outside.proofs.Rising.{counted_on}
use Rattle.ae_vault.specs.declared.entry.Entry.{Entry}
use Rattle.ae_outside.specs.Image.{Image}
use Rattle.ae_outside.specs.State.{reads, MayLeave, GoesOn}
use Rattle.ae_vault.specs.Vault.{gate, body, all_entry_names}
use Rattle.ae_vault.specs.Commit.{IsAfter, SameOutside, HasEntries}
use Rattle.ae_vault.proofs.Phases.{stable_as, stable_open}
use Rattle.ae_vault.proofs.CommitPhases.{through1, through2, through3, through4, all4, read4}
use Rattle.ae_outside.specs.Time.{continues_then}
use Rattle.ae_vault.proofs.vault.put_batch.Goals as goal

pub returns-in_err-replace-clause-any_moment : goal.returns-in_err-replace-clause-any_moment
returns-in_err-replace-clause-any_moment g c = λ t. through1 c.args.batch.now.entries c.body.result.now (g.D.Disk.state c.args.disk.now) c.body.ensures.body c.body.ensures.names (c.requires t) (g.D.Disk.state c.replace.new.disk) (c.replace.ensures.change t)

pub returns-in_err-set_gate-clause-any_moment : goal.returns-in_err-set_gate-clause-any_moment
returns-in_err-set_gate-clause-any_moment g c = λ t. through2 c.args.batch.now.entries c.body.result.now (g.D.Disk.state c.args.disk.now) c.body.ensures.body c.body.ensures.names (c.requires t) (g.D.Disk.state c.replace.new.disk) (c.replace.ensures.change t)
    (stable_as body c.body.result.now (g.D.Disk.state c.replace.new.disk) (c.in_ok-replace.ensures.stable t) (c.in_ok-replace.ensures.reads t))
    (g.D.Disk.state c.set_gate.new.disk) (c.set_gate.ensures.change t)

pub returns-in_err-put_entries-clause-any_moment : goal.returns-in_err-put_entries-clause-any_moment
returns-in_err-put_entries-clause-any_moment g c = λ t. through3 c.args.batch.now.entries c.body.result.now (g.D.Disk.state c.args.disk.now) c.body.ensures.body c.body.ensures.names (c.requires t) (g.D.Disk.state c.replace.new.disk) (c.replace.ensures.change t)
    (stable_as body c.body.result.now (g.D.Disk.state c.replace.new.disk) (c.in_ok-replace.ensures.stable t) (c.in_ok-replace.ensures.reads t))
    (g.D.Disk.state c.set_gate.new.disk) (c.set_gate.ensures.change t)
    (stable_open gate true (g.D.Disk.state c.set_gate.new.disk) (c.in_ok-set_gate.ensures.stable t) (c.in_ok-set_gate.ensures.reads t))
    (g.D.Disk.state c.put_entries.new.disk) (subst (λ (es : List Entry). GoesOn (SameOutside es) (g.D.Disk.state c.set_gate.new.disk) (g.D.Disk.state c.put_entries.new.disk)) c.entries.ensures (c.put_entries.ensures.change t))

pub returns-clause-any_moment : goal.returns-clause-any_moment
returns-clause-any_moment g c = λ t. through4 c.args.batch.now.entries c.body.result.now (g.D.Disk.state c.args.disk.now) c.body.ensures.body c.body.ensures.names (c.requires t) (g.D.Disk.state c.replace.new.disk) (c.replace.ensures.change t)
    (stable_as body c.body.result.now (g.D.Disk.state c.replace.new.disk) (c.in_ok-replace.ensures.stable t) (c.in_ok-replace.ensures.reads t))
    (g.D.Disk.state c.set_gate.new.disk) (c.set_gate.ensures.change t)
    (stable_open gate true (g.D.Disk.state c.set_gate.new.disk) (c.in_ok-set_gate.ensures.stable t) (c.in_ok-set_gate.ensures.reads t))
    (g.D.Disk.state c.put_entries.new.disk) (subst (λ (es : List Entry). GoesOn (SameOutside es) (g.D.Disk.state c.set_gate.new.disk) (g.D.Disk.state c.put_entries.new.disk)) c.entries.ensures (c.put_entries.ensures.change t))
    (subst (λ (es : List Entry). (f : Image) → MayLeave (g.D.Disk.state c.put_entries.new.disk) f → HasEntries es f) c.entries.ensures (c.in_ok-put_entries.ensures.has t))
    (g.D.Disk.state c.set_gate-2.new.disk) (c.set_gate-2.ensures.change t)

pub returns-clause-all : goal.returns-clause-all
returns-clause-all g c =
    let all : g.D.Disk.tells → (f : Image) → MayLeave (g.D.Disk.state c.set_gate-2.new.disk) f → (from : Image) × MayLeave (g.D.Disk.state c.args.disk.now) from × IsAfter c.args.batch.now.entries from f = λ t. all4 c.args.batch.now.entries c.body.result.now (g.D.Disk.state c.args.disk.now) c.body.ensures.body c.body.ensures.names (c.requires t) (g.D.Disk.state c.replace.new.disk) (c.replace.ensures.change t)
    (stable_as body c.body.result.now (g.D.Disk.state c.replace.new.disk) (c.in_ok-replace.ensures.stable t) (c.in_ok-replace.ensures.reads t))
    (g.D.Disk.state c.set_gate.new.disk) (c.set_gate.ensures.change t)
    (stable_open gate true (g.D.Disk.state c.set_gate.new.disk) (c.in_ok-set_gate.ensures.stable t) (c.in_ok-set_gate.ensures.reads t))
    (g.D.Disk.state c.put_entries.new.disk) (subst (λ (es : List Entry). GoesOn (SameOutside es) (g.D.Disk.state c.set_gate.new.disk) (g.D.Disk.state c.put_entries.new.disk)) c.entries.ensures (c.put_entries.ensures.change t))
    (subst (λ (es : List Entry). (f : Image) → MayLeave (g.D.Disk.state c.put_entries.new.disk) f → HasEntries es f) c.entries.ensures (c.in_ok-put_entries.ensures.has t))
    (g.D.Disk.state c.set_gate-2.new.disk) (c.set_gate-2.ensures.change t) in
    on_ok c.set_gate-2.result _ all

pub returns-clause-read : goal.returns-clause-read
returns-clause-read g c =
    let read : g.D.Disk.tells → IsAfter c.args.batch.now.entries (reads (g.D.Disk.state c.args.disk.now)) (reads (g.D.Disk.state c.set_gate-2.new.disk)) = λ t. read4 c.args.batch.now.entries c.body.result.now (g.D.Disk.state c.args.disk.now) c.body.ensures.body c.body.ensures.names (c.requires t) (g.D.Disk.state c.replace.new.disk) (c.replace.ensures.change t)
    (stable_as body c.body.result.now (g.D.Disk.state c.replace.new.disk) (c.in_ok-replace.ensures.stable t) (c.in_ok-replace.ensures.reads t))
    (g.D.Disk.state c.set_gate.new.disk) (c.set_gate.ensures.change t)
    (stable_open gate true (g.D.Disk.state c.set_gate.new.disk) (c.in_ok-set_gate.ensures.stable t) (c.in_ok-set_gate.ensures.reads t))
    (g.D.Disk.state c.put_entries.new.disk) (subst (λ (es : List Entry). GoesOn (SameOutside es) (g.D.Disk.state c.set_gate.new.disk) (g.D.Disk.state c.put_entries.new.disk)) c.entries.ensures (c.put_entries.ensures.change t))
    (subst (λ (es : List Entry). (f : Image) → MayLeave (g.D.Disk.state c.put_entries.new.disk) f → HasEntries es f) c.entries.ensures (c.in_ok-put_entries.ensures.has t))
    (g.D.Disk.state c.set_gate-2.new.disk) (c.set_gate-2.ensures.change t) in
    on_ok c.set_gate-2.result _ read

-- ---- what follows from the calls alone

pub returns-in_err-replace-clause-time : goal.returns-in_err-replace-clause-time
returns-in_err-replace-clause-time g c = λ t. (c.replace.ensures.change t).time

pub returns-in_err-replace-clause-clean : goal.returns-in_err-replace-clause-clean
returns-in_err-replace-clause-clean g c = on_ok_of_err c.from_residual.result _ _ c.from_residual.ensures.1

pub returns-in_err-replace-clause-all : goal.returns-in_err-replace-clause-all
returns-in_err-replace-clause-all g c = on_ok_of_err c.from_residual.result _ _ c.from_residual.ensures.1

pub returns-in_err-replace-clause-read : goal.returns-in_err-replace-clause-read
returns-in_err-replace-clause-read g c = on_ok_of_err c.from_residual.result _ _ c.from_residual.ensures.1

pub returns-in_err-replace-clause-cause : goal.returns-in_err-replace-clause-cause
returns-in_err-replace-clause-cause g c = record { later = c.replace.ensures.cause.later; rose = λ is. c.in_err-replace.ensures.cause.rose refl }

pub returns-in_err-set_gate-clause-time : goal.returns-in_err-set_gate-clause-time
returns-in_err-set_gate-clause-time g c = λ t. continues_then _ _ _ (c.replace.ensures.change t).time (c.set_gate.ensures.change t).time

pub returns-in_err-set_gate-clause-clean : goal.returns-in_err-set_gate-clause-clean
returns-in_err-set_gate-clause-clean g c = on_ok_of_err c.from_residual-in_err-set_gate.result _ _ c.from_residual-in_err-set_gate.ensures.1

pub returns-in_err-set_gate-clause-all : goal.returns-in_err-set_gate-clause-all
returns-in_err-set_gate-clause-all g c = on_ok_of_err c.from_residual-in_err-set_gate.result _ _ c.from_residual-in_err-set_gate.ensures.1

pub returns-in_err-set_gate-clause-read : goal.returns-in_err-set_gate-clause-read
returns-in_err-set_gate-clause-read g c = on_ok_of_err c.from_residual-in_err-set_gate.result _ _ c.from_residual-in_err-set_gate.ensures.1

pub returns-in_err-set_gate-clause-cause : goal.returns-in_err-set_gate-clause-cause
returns-in_err-set_gate-clause-cause g c = counted_on _ _ _ _ _ (c.replace.ensures.cause.later) (λ is. refl) c.in_err-set_gate.ensures.cause

pub returns-in_err-put_entries-clause-time : goal.returns-in_err-put_entries-clause-time
returns-in_err-put_entries-clause-time g c = λ t. continues_then _ _ _ (continues_then _ _ _ (c.replace.ensures.change t).time (c.set_gate.ensures.change t).time) (c.put_entries.ensures.change t).time

pub returns-in_err-put_entries-clause-clean : goal.returns-in_err-put_entries-clause-clean
returns-in_err-put_entries-clause-clean g c = on_ok_of_err c.from_residual-in_err-put_entries.result _ _ c.from_residual-in_err-put_entries.ensures.1

pub returns-in_err-put_entries-clause-all : goal.returns-in_err-put_entries-clause-all
returns-in_err-put_entries-clause-all g c = on_ok_of_err c.from_residual-in_err-put_entries.result _ _ c.from_residual-in_err-put_entries.ensures.1

pub returns-in_err-put_entries-clause-read : goal.returns-in_err-put_entries-clause-read
returns-in_err-put_entries-clause-read g c = on_ok_of_err c.from_residual-in_err-put_entries.result _ _ c.from_residual-in_err-put_entries.ensures.1

pub returns-in_err-put_entries-clause-cause : goal.returns-in_err-put_entries-clause-cause
returns-in_err-put_entries-clause-cause g c = counted_on _ _ _ _ _ (le_trans c.replace.ensures.cause.later c.set_gate.ensures.cause.later) (λ is. refl) c.in_err-put_entries.ensures.cause

pub put_entries-requires : goal.put_entries-requires
put_entries-requires g c = ap all_entry_names c.entries.ensures ∙ c.body.ensures.names

pub returns-clause-time : goal.returns-clause-time
returns-clause-time g c = λ t. continues_then _ _ _ (continues_then _ _ _ (continues_then _ _ _ (c.replace.ensures.change t).time (c.set_gate.ensures.change t).time) (c.put_entries.ensures.change t).time) (c.set_gate-2.ensures.change t).time

pub returns-clause-clean : goal.returns-clause-clean
returns-clause-clean g c = on_ok_both c.set_gate-2.result _ _ _ (λ stable reads t. stable_open gate false (g.D.Disk.state c.set_gate-2.new.disk) (stable t) (reads t)) c.set_gate-2.ensures.stable c.set_gate-2.ensures.reads

pub returns-clause-cause : goal.returns-clause-cause
returns-clause-cause g c = counted_on _ _ _ _ _ (le_trans (le_trans c.replace.ensures.cause.later c.set_gate.ensures.cause.later) c.put_entries.ensures.cause.later) (λ is. is) c.set_gate-2.ensures.cause
