use Rattle.std.proofs.Common.{rules, ◌≡◌, ◌∙◌, ap, sym, subst, All, List, [], map, Option, Some, None, Err}
use Rattle.ae_base.proofs.Results.{err_is}
use Rattle.ae_outside.specs.Image.{Image}
use Rattle.ae_outside.specs.State.{reads}
use Rattle.ae_types.specs.Trees.{TreeRow, tree_path}
use Rattle.ae_vault.specs.Vault.{effective}
use Rattle.ae_machine.specs.Versions.{first_differing}
use Rattle.ae_exec.specs.declared.stop.Stop.TheVariants as stop
use Rattle.ae_exec.specs.Bytes.{rows_at}
use Rattle.ae_exec.specs.Endings.{memory, refused}
use Rattle.ae_exec.specs.Reading.{AreKept, IsInside, IsLostAmong, compared_for, versions_of}
use Rattle.ae_exec.proofs.CandidateNumbers.{compared-bytes}
use Rattle.ae_exec.proofs.Compared.{differing-kept, lost-compared}
use Rattle.ae_exec.proofs.Endings.{ends_for}
use Rattle.ae_exec.proofs.RunVersions.{compared-have, compared-inside}
use Rattle.ae_exec.proofs.comparing.compare.Goals as goal

pub returns-in_err-rows-clause-stopped : goal.returns-in_err-rows-clause-stopped
returns-in_err-rows-clause-stopped g c = let is : c.from_residual.result ≡ Err stop.Memory = err_is _ _ c.from_residual.ensures.1 in rw is memory

pub files_of_rows-requires-clause-inside : goal.files_of_rows-requires-clause-inside
files_of_rows-requires-clause-inside g c =
    let are : c.as_slice.result.now ≡ compared_for c.args.command.now c.args.state.now = let e = c.in_ok-rows.ensures [] in search rules in
    subst (All (λ (row : TreeRow). IsInside row.version)) (sym are) (compared-inside c.args.state.now c.note_sound.ensures.sound c.args.command.now)

pub returns-in_err-files-clause-stopped : goal.returns-in_err-files-clause-stopped
returns-in_err-files-clause-stopped g c =
    let is : c.from_residual-in_err-files.result ≡ Err c.in_err-files.field-0.0 = err_is _ _ c.from_residual-in_err-files.ensures.1 in
    let are : c.as_slice.result.now ≡ compared_for c.args.command.now c.args.state.now = let e = c.in_ok-rows.ensures [] in search rules in
    rw is (ends_for _ c.in_err-files.ensures.stopped (λ none. none) (λ refusal none. absurd none)
    (λ name lost tells. lost-compared c.args.state.now c.args.command.now c.requires.runs (reads (g.D.Disk.state c.args.disk.now)) name
    (subst (λ (rows : List TreeRow). IsLostAmong (reads (g.D.Disk.state c.args.disk.now)) (versions_of rows) name) are (lost tells)))
    (λ rose. rose) (λ none. absurd none))

pub returns-in_err-refusal-clause-stopped : goal.returns-in_err-refusal-clause-stopped
returns-in_err-refusal-clause-stopped g c = let is : c.from_residual-in_err-refusal.result ≡ Err stop.Memory = err_is _ _ c.from_residual-in_err-refusal.ensures.1 in rw is memory

pub returns-in-Some-clause-stopped : goal.returns-in-Some-clause-stopped
returns-in-Some-clause-stopped g c =
    let are : c.as_slice.result.now ≡ compared_for c.args.command.now c.args.state.now = let e = c.in_ok-rows.ensures [] in search rules in
    let files : Option Image = effective (reads (g.D.Disk.state c.args.disk.now)) in
    let differs : first_differing c.args.view.now c.in_ok-files.files ≡ Some c.in-Some.refusal = sym c.in_ok-refusal.ensures ∙ c.in-Some.is in
    refused c.in-Some.refusal (λ tells. (
      λ bytes have.
          ap (first_differing c.args.view.now) (sym (c.in_ok-files.ensures.rows tells ∙ ap (rows_at files) are ∙ compared-have c.args.state.now files bytes have c.args.command.now)) ∙ differs,
      differing-kept c.args.state.now c.args.command.now c.requires.runs files c.args.view.now c.in-Some.refusal
          (subst (λ (rows : List TreeRow). AreKept files (versions_of rows)) are (c.in_ok-files.ensures.kept tells))
          (ap (first_differing c.args.view.now) (sym (c.in_ok-files.ensures.rows tells ∙ ap (rows_at files) are)) ∙ differs),
    ))

pub returns-clause-some : goal.returns-clause-some
returns-clause-some g c =
    let are : c.as_slice.result.now ≡ compared_for c.args.command.now c.args.state.now = let e = c.in_ok-rows.ensures [] in search rules in
    let none : first_differing c.args.view.now c.in_ok-files.files ≡ None = sym c.in_ok-refusal.ensures ∙ c.in-None.is in
    let bytes = compared-bytes c.args.state.now c.note_sound.ensures.sound c.args.command.now c.in_ok-files.files (c.in_ok-files.ensures.paths ∙ ap (map tree_path) are) c.in_ok-files.ensures.there in
    (bytes.0, ap (first_differing c.args.view.now) (sym bytes.1) ∙ none)

pub returns-clause-none : goal.returns-clause-none
returns-clause-none g c = λ tells bytes have.
    let are : c.as_slice.result.now ≡ compared_for c.args.command.now c.args.state.now = let e = c.in_ok-rows.ensures [] in search rules in
    let files : Option Image = effective (reads (g.D.Disk.state c.args.disk.now)) in
    ap (first_differing c.args.view.now) (sym (c.in_ok-files.ensures.rows tells ∙ ap (rows_at files) are ∙ compared-have c.args.state.now files bytes have c.args.command.now))
    ∙ sym c.in_ok-refusal.ensures ∙ c.in-None.is

-- ---- what follows from the calls alone

pub returns-in_err-files-clause-same : goal.returns-in_err-files-clause-same
returns-in_err-files-clause-same g c = c.files_of_rows.ensures.same

pub returns-in_err-files-clause-later : goal.returns-in_err-files-clause-later
returns-in_err-files-clause-later g c = c.files_of_rows.ensures.later

pub returns-in_err-refusal-clause-same : goal.returns-in_err-refusal-clause-same
returns-in_err-refusal-clause-same g c = c.files_of_rows.ensures.same

pub returns-in_err-refusal-clause-later : goal.returns-in_err-refusal-clause-later
returns-in_err-refusal-clause-later g c = c.files_of_rows.ensures.later

pub returns-in-Some-clause-same : goal.returns-in-Some-clause-same
returns-in-Some-clause-same g c = c.files_of_rows.ensures.same

pub returns-in-Some-clause-later : goal.returns-in-Some-clause-later
returns-in-Some-clause-later g c = c.files_of_rows.ensures.later

pub returns-clause-same : goal.returns-clause-same
returns-clause-same g c = c.files_of_rows.ensures.same

pub returns-clause-later : goal.returns-clause-later
returns-clause-later g c = c.files_of_rows.ensures.later

pub returns-clause-kept : goal.returns-clause-kept
returns-clause-kept g c = λ tells.
    let are : c.as_slice.result.now ≡ compared_for c.args.command.now c.args.state.now = let e = c.in_ok-rows.ensures [] in search rules in
    subst (λ (rows : List TreeRow). AreKept (effective (reads (g.D.Disk.state c.args.disk.now))) (versions_of rows)) are (c.in_ok-files.ensures.kept tells)
