use Rattle.std.proofs.Common.{rules, ◌≡◌, sym, subst, All, [], Err}
use Rattle.ae_base.proofs.Results.{err_is}
use Rattle.ae_types.specs.Trees.{TreeRow}
use Rattle.ae_machine.specs.Call.{call_of, change_named}
use Rattle.ae_machine.specs.Versions.{rows_based}
use Rattle.ae_exec.specs.declared.stop.Stop.TheVariants as stop
use Rattle.ae_exec.specs.Endings.{memory}
use Rattle.ae_exec.specs.Reading.{IsInside}
use Rattle.ae_exec.proofs.RunVersions.{based-inside}
use Rattle.ae_exec.proofs.running.based_files.Goals as goal

pub returns-in_err-rows-clause-stopped : goal.returns-in_err-rows-clause-stopped
returns-in_err-rows-clause-stopped g c = let is : c.from_residual.result ≡ Err stop.Memory = err_is _ _ c.from_residual.ensures.1 in rw is memory

pub files_of_rows-requires-clause-inside : goal.files_of_rows-requires-clause-inside
files_of_rows-requires-clause-inside g c =
    let are : c.as_slice.result.now ≡ rows_based (call_of c.args.state.now c.args.command.now []) (change_named c.args.state.now c.args.command.now.change) = let e = c.in_ok-rows.ensures [] in search rules in
    subst (All (λ (row : TreeRow). IsInside row.version)) (sym are) (based-inside c.args.state.now c.note_sound.ensures.sound c.args.command.now)

-- ---- what follows from the calls alone

pub returns-clause-same : goal.returns-clause-same
returns-clause-same g c = c.files_of_rows.ensures.same

pub returns-clause-later : goal.returns-clause-later
returns-clause-later g c = c.files_of_rows.ensures.later
