use Rattle.std.proofs.Common.{◌∙◌, ap, sym, subst, List}
use Rattle.std.specs.Ordering.{nat_cmp}
use Rattle.std.proofs.lemmas.Result.{on_ok_weaker}
use Rattle.ae_base.proofs.Results.{on_ok_of_err}
use Rattle.ae_base.specs.Rows.{text_cmp}
use Rattle.ae_types.specs.declared.change.Change.{Change}
use Rattle.ae_types.specs.Observation.{Observation}
use Rattle.ae_types.specs.Ordered.{Ascends, itself}
use Rattle.ae_types.specs.Found.{change_in, number_of_change, row_path, lock_path}
use Rattle.ae_log.specs.After.{files_of}
use Rattle.ae_log.proofs.AlteredChange.{may-alter-each, together}
use Rattle.ae_log.proofs.next_state.alter_of_change.Goals as goal

pub alter_changes-requires-clause-may : goal.alter_changes-requires-clause-may
alter_changes-requires-clause-may c =
    let parts = c.parts.inside in
    may-alter-each (record { project = parts.project; numbers = parts.numbers; files = parts.files; locks = parts.locks; changes = parts.changes }) c.args.parts.now c.parts.view_is c.args.event.now c.args.number c.requires.names c.requires.sound c.requires.follows

pub returns : goal.returns
returns c =
    let parts = c.parts.inside in
    on_ok_weaker c.alter_project.result (λ project.
    together (record { project = parts.project; numbers = parts.numbers; files = parts.files; locks = parts.locks; changes = parts.changes }) c.args.parts.now c.parts.view_is c.args.event.now c.args.number
    c.files_of-own.result.now c.len.result
    (c.files_of-own.ensures ∙ ap (λ changes. files_of (change_in changes c.args.number)) c.as_slice.ensures) c.len.ensures _
    project c.in_ok-alter_numbers.ensures c.in_ok-alter_rows.ensures c.in_ok-alter_locks.ensures c.in_ok-alter_changes.ensures) c.alter_project.ensures

-- ---- what follows from the calls alone, and that all ascend

pub returns-in_err-alter_rows : goal.returns-in_err-alter_rows
returns-in_err-alter_rows c = on_ok_of_err c.from_residual.result _ _ c.from_residual.ensures.1

pub returns-in_err-alter_locks : goal.returns-in_err-alter_locks
returns-in_err-alter_locks c = on_ok_of_err c.from_residual-in_err-alter_locks.result _ _ c.from_residual-in_err-alter_locks.ensures.1

pub returns-in_err-alter_numbers : goal.returns-in_err-alter_numbers
returns-in_err-alter_numbers c = on_ok_of_err c.from_residual-in_err-alter_numbers.result _ _ c.from_residual-in_err-alter_numbers.ensures.1

pub returns-in_err-alter_changes : goal.returns-in_err-alter_changes
returns-in_err-alter_changes c = on_ok_of_err c.from_residual-in_err-alter_changes.result _ _ c.from_residual-in_err-alter_changes.ensures.1

pub files_of-own-requires : goal.files_of-own-requires
files_of-own-requires c =
    subst (λ (changes : List Change). Ascends nat_cmp number_of_change changes) (sym c.as_slice.ensures) (subst (λ (o : Observation). Ascends nat_cmp number_of_change o.changes) (sym c.parts.view_is) c.requires.sound.changes.ascend)

pub alter_rows-requires-clause-ascend : goal.alter_rows-requires-clause-ascend
alter_rows-requires-clause-ascend c = subst (λ (o : Observation). Ascends text_cmp row_path o.files) (sym c.parts.view_is) c.requires.sound.rows.ascend

pub alter_locks-requires : goal.alter_locks-requires
alter_locks-requires c = subst (λ (o : Observation). Ascends text_cmp lock_path o.locks) (sym c.parts.view_is) c.requires.sound.locks.ascend

pub alter_numbers-requires : goal.alter_numbers-requires
alter_numbers-requires c = subst (λ (o : Observation). Ascends nat_cmp itself o.numbers) (sym c.parts.view_is) c.requires.sound.project.numbers_ascend

pub alter_changes-requires-clause-ascend : goal.alter_changes-requires-clause-ascend
alter_changes-requires-clause-ascend c = subst (λ (o : Observation). Ascends nat_cmp number_of_change o.changes) (sym c.parts.view_is) c.requires.sound.changes.ascend
