use Rattle.std.proofs.Common.{◌≡◌, ◌∙◌, ap, sym, ℕ, List, [], ◌++◌, Err}
use Rattle.std.specs.List.{cons_option}
use Rattle.ae_machine.proofs.SightShows.{config-asked-is}
use Rattle.ae_base.proofs.Results.{err_is}
use Rattle.ae_outside.specs.declared.dir.Content.{Content}
use Rattle.ae_outside.specs.State.{reads}
use Rattle.ae_vault.specs.Vault.{effective}
use Rattle.ae_machine.specs.declared.view.View.{View}
use Rattle.ae_machine.specs.Call.{change_named, given_of}
use Rattle.ae_machine.specs.Called.{Called, called, given_before, nothing_seen}
use Rattle.ae_machine.specs.Space.{placing}
use Rattle.ae_machine.specs.Versions.{files_refused}
use Rattle.ae_exec.specs.declared.stop.Stop.TheVariants as stop
use Rattle.ae_exec.specs.Endings.{memory}
use Rattle.ae_exec.specs.Seen.{files_alone, no_bytes}
use Rattle.ae_exec.proofs.Compared.{bytes-for-both}
use Rattle.ae_exec.proofs.Endings.{ends_for}
use Rattle.ae_exec.proofs.FirstSeen.{rows-show}
use Rattle.ae_exec.proofs.RunAnswers.{either-refused}
use Rattle.ae_exec.proofs.seeing.see.Goals as goal

pub returns-in_err-view-clause-stopped : goal.returns-in_err-view-clause-stopped
returns-in_err-view-clause-stopped g c = λ who when.
    let is : c.from_residual.result ≡ Err c.in_err-view.field-0.0 = err_is _ _ c.from_residual.ensures.1 in
    rw is (ends_for _ c.in_err-view.ensures.stopped (λ none. none) (λ refusal none. absurd none) (λ name none. absurd none) (λ none. absurd none) (λ rose. rose.0))

pub returns-in_err-row-clause-stopped : goal.returns-in_err-row-clause-stopped
returns-in_err-row-clause-stopped g c = λ who when.
    let call : Called = called c.args.command.now who when (g.S.Site.state c.args.site.now) (g.S.Site.state c.args.site.now) in
    let is : c.from_residual-in_err-row.result ≡ Err c.in_err-row.field-0.0 = err_is _ _ c.from_residual-in_err-row.ensures.1 in
    rw is (ends_for _ (c.in_err-row.ensures.stopped who when) (λ none. none)
    (λ refusal why tells seen. either-refused (effective (reads (g.D.Disk.state c.args.disk.now))) c.args.state.now call c.requires.runs refusal c.in_ok-view.view (c.in_ok-view.ensures.alone seen who when) (why tells))
    (λ name lost tells seen. (
      ap (λ (v : View). files_refused (given_of placing c.args.state.now no_bytes c.args.command.now who when v)) (sym (c.in_ok-view.ensures.alone seen who when)) ∙ (lost tells).0,
      (lost tells).1,
    )) (λ rose. rose) (λ none. absurd none))

pub returns-in_err-seen-clause-stopped : goal.returns-in_err-seen-clause-stopped
returns-in_err-seen-clause-stopped g c = λ who when. let is : c.from_residual-in_err-seen.result ≡ Err stop.Memory = err_is _ _ c.from_residual-in_err-seen.ensures.1 in rw is memory

pub returns-clause-seen : goal.returns-clause-seen
returns-clause-seen g c = λ tells seen bytes who when have.
    let call : Called = called c.args.command.now who when (g.S.Site.state c.args.site.now) (g.S.Site.state c.args.site.now) in
    let alone : c.in_ok-view.view ≡ files_alone c.args.state.now call = c.in_ok-view.ensures.alone seen who when in
    let row = c.in_ok-row.ensures.told tells bytes have ∙ sym (config-asked-is (given_before c.args.state.now bytes call nothing_seen) (change_named c.args.state.now c.args.command.now.change)) in
    c.in_ok-seen.ensures ∙ (λ i. record (alone i) { develop = (alone i).develop ++ row i })

pub returns-clause-shown : goal.returns-clause-shown
returns-clause-shown g c =
    let both = bytes-for-both c.args.state.now c.args.command.now c.in_ok-view.view (cons_option c.in_ok-row.row []) c.in_ok-row.ensures.some c.in_ok-row.ensures.row in (
      both.0,
      λ who. rows-show c.args.state.now both.0 c.args.command.now who c.in_ok-seen.seen c.in_ok-view.view c.requires.runs
          (ap (λ (v : View). v.develop) c.in_ok-seen.ensures ∙ ap (λ (more : List (List ℕ × Content)). c.in_ok-view.view.develop ++ more) both.2) c.in_ok-view.ensures.paths both.1,
    )

pub returns-clause-shows : goal.returns-clause-shows
returns-clause-shows g c = λ tells bytes who have.
    rows-show c.args.state.now bytes c.args.command.now who c.in_ok-seen.seen c.in_ok-view.view c.requires.runs
    (ap (λ (v : View). v.develop) c.in_ok-seen.ensures
    ∙ ap (λ (more : List (List ℕ × Content)). c.in_ok-view.view.develop ++ more) (c.in_ok-row.ensures.told tells bytes have))
    c.in_ok-view.ensures.paths (c.in_ok-row.ensures.none tells bytes have)

pub returns-clause-files : goal.returns-clause-files
returns-clause-files g c = λ seen. (
  cons_option c.in_ok-row.row [],
  ap (λ (v : View). v.develop) c.in_ok-seen.ensures ∙ ap (λ (v : View). v.develop ++ cons_option c.in_ok-row.row []) (c.in_ok-view.ensures.alone seen [] 0),
)

-- ---- what follows from the calls alone

pub returns-in_err-view-clause-site_same : goal.returns-in_err-view-clause-site_same
returns-in_err-view-clause-site_same g c = c.see_files.ensures.same

pub returns-in_err-view-clause-site_later : goal.returns-in_err-view-clause-site_later
returns-in_err-view-clause-site_later g c = c.see_files.ensures.later

pub returns-in_err-row-clause-site_same : goal.returns-in_err-row-clause-site_same
returns-in_err-row-clause-site_same g c = c.see_files.ensures.same

pub returns-in_err-row-clause-site_later : goal.returns-in_err-row-clause-site_later
returns-in_err-row-clause-site_later g c = c.see_files.ensures.later

pub returns-in_err-seen-clause-site_same : goal.returns-in_err-seen-clause-site_same
returns-in_err-seen-clause-site_same g c = c.see_files.ensures.same

pub returns-in_err-seen-clause-site_later : goal.returns-in_err-seen-clause-site_later
returns-in_err-seen-clause-site_later g c = c.see_files.ensures.later

pub returns-clause-site_same : goal.returns-clause-site_same
returns-clause-site_same g c = c.see_files.ensures.same

pub returns-clause-site_later : goal.returns-clause-site_later
returns-clause-site_later g c = c.see_files.ensures.later

pub returns-in_err-row-clause-same : goal.returns-in_err-row-clause-same
returns-in_err-row-clause-same g c = c.asked_row.ensures.same

pub returns-in_err-row-clause-disk_later : goal.returns-in_err-row-clause-disk_later
returns-in_err-row-clause-disk_later g c = c.asked_row.ensures.later

pub returns-in_err-seen-clause-same : goal.returns-in_err-seen-clause-same
returns-in_err-seen-clause-same g c = c.asked_row.ensures.same

pub returns-in_err-seen-clause-disk_later : goal.returns-in_err-seen-clause-disk_later
returns-in_err-seen-clause-disk_later g c = c.asked_row.ensures.later

pub returns-clause-same : goal.returns-clause-same
returns-clause-same g c = c.asked_row.ensures.same

pub returns-clause-disk_later : goal.returns-clause-disk_later
returns-clause-disk_later g c = c.asked_row.ensures.later

pub returns-clause-kept : goal.returns-clause-kept
returns-clause-kept g c = c.in_ok-row.ensures.kept
