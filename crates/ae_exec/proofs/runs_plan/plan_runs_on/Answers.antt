use Rattle.std.proofs.Math.Nat.{le_trans}
use Rattle.std.proofs.Common.{refl, ◌≡◌, ◌∙◌, ap, sym, subst, inr, ℕ, List, Option, Some, Err}
use Rattle.ae_machine.proofs.SightShows.{reads-too}
use Rattle.ae_base.proofs.Results.{err_is, ok_is_no_err}
use Rattle.ae_outside.proofs.Rising.{risen_later}
use Rattle.ae_outside.specs.Image.{Image}
use Rattle.ae_outside.specs.Site.{SiteState}
use Rattle.ae_outside.specs.State.{reads}
use Rattle.ae_outside.specs.Time.{same_on, same_reads}
use Rattle.ae_vault.specs.Vault.{effective}
use Rattle.ae_machine.specs.declared.verdict.Verdict.TheVariants.{Accept, Refuse}
use Rattle.ae_machine.specs.declared.view.View.{View}
use Rattle.ae_machine.specs.Called.{Called, answer_to, called}
use Rattle.ae_evidence.specs.Directories.{dirs_after}
use Rattle.ae_machine.specs.Real.{IsLeft}
use Rattle.ae_dirs.specs.Reads as dir_reads
use Rattle.ae_dirs.specs.Runs.{MakesByteRuns}
use Rattle.ae_base.specs.Rows.{paths_of}
use Rattle.ae_machine.specs.Space.{placing}
use Rattle.ae_machine.specs.Versions.{ShowsVersions}
use Rattle.ae_base.specs.declared.outcome.Outcome.{Outcome}
use Rattle.ae_exec.specs.Bytes.{HaveBytes}
use Rattle.ae_exec.specs.Directories.{ChangesAsAsked, ChangesThenRuns}
use Rattle.ae_machine.specs.Verdict.{verdict}
use Rattle.ae_exec.specs.Reading.{AreKept, versions_for_runs}
use Rattle.ae_exec.specs.Runs.{HaveRun}
use Rattle.ae_exec.specs.declared.stop.Stop.TheVariants as stop
use Rattle.ae_exec.specs.Endings.{memory, refused}
use Rattle.ae_exec.specs.Seen as seen_specs
use Rattle.ae_exec.specs.Seen.{FilesRefuse, IsDecidedSo, answering, reading}
use Rattle.ae_exec.specs.Stopping.{stop_of_dirs}
use Rattle.ae_exec.proofs.Endings.{ends_for}
use Rattle.ae_exec.proofs.Ended.{dirs_err, for_err}
use Rattle.ae_exec.proofs.OwnDirs.{asked-ran, asked-still, dirs_ends, dirs_touch, early-so, early-still, no-disk-fault, leaves-runs, leaves-still, site-stops}
use Rattle.ae_exec.proofs.Following.{same_answer}
use Rattle.ae_exec.proofs.RunAnswers.{accepted-configured, accepted-with}
use Rattle.ae_exec.proofs.RanSo.{all-kept, lost-later, ran-both, refused-so, seen-changes, unrun-answer}
use Rattle.ae_exec.proofs.runs_plan.plan_runs_on.Goals as goal

pub returns-in_err-view-clause-stopped : goal.returns-in_err-view-clause-stopped
returns-in_err-view-clause-stopped g c =
    let is : c.from_residual.result ≡ Err c.in_err-view.field-0.0 = err_is _ _ c.from_residual.ensures.1 in
    let call : Called = called c.args.request.now.command.now c.args.request.now.who.now c.args.request.now.when (g.S.Site.state c.args.site.now) (g.S.Site.state c.see.new.site) in
    rw is (ends_for _ (c.in_err-view.ensures.stopped c.args.request.now.who.now c.args.request.now.when) (λ none. none)
    (λ refusal seen tells told. refused-so (effective (reads (g.D.Disk.state c.args.disk.now))) c.args.state.now call c.requires.runs c.requires.passed (c.see.ensures.site_same told) refusal
    (subst (λ (after : SiteState). FilesRefuse (effective (reads (g.D.Disk.state c.args.disk.now))) c.args.state.now (called c.args.request.now.command.now c.args.request.now.who.now c.args.request.now.when (g.S.Site.state c.args.site.now) after) refusal) (sym (c.see.ensures.site_same told)) (seen tells told)))
    (λ name lost tells told. let both = lost tells told in answering (record { before = c.requires.passed; files = both.0 }) both.1)
    (λ rose. rose) (λ rose. (rose, λ tells told. reading c.requires.passed (inr (reads-too c.args.request.now.command.now.function c.requires.runs)))))

pub returns-in_err-plan-clause-stopped : goal.returns-in_err-plan-clause-stopped
returns-in_err-plan-clause-stopped g c =
    let is : c.from_residual-in_err-plan.result ≡ Err c.in_err-plan.field-0.0 = err_is _ _ c.from_residual-in_err-plan.ensures.1 in
    let call : Called = called c.args.request.now.command.now c.args.request.now.who.now c.args.request.now.when (g.S.Site.state c.args.site.now) (g.S.Site.state c.see.new.site) in
    rw is (ends_for _ c.in_err-plan.ensures.stopped (λ none. none) (λ refusal none. absurd none)
    (λ name lost tells told.
    let same : effective (reads (g.D.Disk.state c.see.new.disk)) ≡ effective (reads (g.D.Disk.state c.args.disk.now)) = ap effective (same_reads (g.D.Disk.state c.args.disk.now) (g.D.Disk.state c.see.new.disk) (c.see.ensures.same tells)) in
    seen_specs.accepted c.in_default.field-0
    (unrun-answer (effective (reads (g.D.Disk.state c.args.disk.now))) c.args.state.now call c.in_ok-view.view (Accept c.in_default.field-0) (c.see.ensures.site_same told)
    (λ bytes have. c.in_ok-view.ensures.seen tells told bytes c.args.request.now.who.now c.args.request.now.when have) (λ bytes have. c.in_ok-view.ensures.shows tells bytes c.args.request.now.who.now have)
    (subst (IsDecidedSo (Some c.args.state.now) c.args.request.now.command.now c.args.request.now.who.now c.args.request.now.when c.in_ok-view.view) c.in_default.is c.in_ok-refusal.ensures.is))
    (lost-later c.args.state.now c.args.request.now.command.now c.args.request.now.who.now c.args.request.now.formed c.requires.runs c.requires.passed (reads (g.D.Disk.state c.args.disk.now)) (reads (g.D.Disk.state c.see.new.disk)) name same
    (c.in_ok-view.ensures.kept tells) (lost tells)))
    (λ rose. risen_later _ _ _ c.see.ensures.disk_later rose) (λ none. absurd none))

pub returns-in_err-runs-clause-stopped : goal.returns-in_err-runs-clause-stopped
returns-in_err-runs-clause-stopped g c =
    let is : c.from_residual-in_err-runs.result ≡ Err (stop_of_dirs c.in_err-runs.field-0.0) = err_is _ _ c.from_residual-in_err-runs.ensures.1 in
    rw is (dirs_ends c.in_err-runs.field-0.0 (λ failed. (risen_later _ _ _ c.see.ensures.site_later (c.in_err-runs.ensures.cause.rose (ap Err failed)), λ tells told. reading c.requires.passed (inr (reads-too c.args.request.now.command.now.function c.requires.runs)))))

pub returns-in_err-runs-clause-same : goal.returns-in_err-runs-clause-same
returns-in_err-runs-clause-same g c = λ tells. same_on (g.D.Disk.state c.args.disk.now) (g.D.Disk.state c.see.new.disk) (g.D.Disk.state c.ready.new.disk) (c.see.ensures.same tells) (c.ready.ensures.same tells)

pub returns-in_err-planned-clause-stopped : goal.returns-in_err-planned-clause-stopped
returns-in_err-planned-clause-stopped g c = let is : c.from_residual-in_err-planned.result ≡ Err stop.Memory = err_is _ _ c.from_residual-in_err-planned.ensures.1 in rw is memory

pub returns-in_err-planned-clause-same : goal.returns-in_err-planned-clause-same
returns-in_err-planned-clause-same g c = λ tells. same_on (g.D.Disk.state c.args.disk.now) (g.D.Disk.state c.see.new.disk) (g.D.Disk.state c.ready.new.disk) (c.see.ensures.same tells) (c.ready.ensures.same tells)

pub returns-clause-same : goal.returns-clause-same
returns-clause-same g c = λ tells. same_on (g.D.Disk.state c.args.disk.now) (g.D.Disk.state c.see.new.disk) (g.D.Disk.state c.ready.new.disk) (c.see.ensures.same tells) (c.ready.ensures.same tells)

pub ready-requires-clause-accepted : goal.ready-requires-clause-accepted
ready-requires-clause-accepted g c =
    let shown = c.in_ok-view.ensures.shown in (
      shown.0,
      c.args.request.now.who.now,
      c.args.request.now.when,
      shown.1 c.args.request.now.who.now,
      accepted-configured c.args.state.now shown.0 c.args.request.now.command.now c.args.request.now.who.now c.args.request.now.when c.in_ok-view.view c.in_default.field-0 c.requires.runs c.requires.passed
          (c.in_ok-refusal.ensures.is shown.0 (shown.1 c.args.request.now.who.now) ∙ c.in_default.is),
    )

pub returns-clause-planned : goal.returns-clause-planned
returns-clause-planned g c =
    let files : Option Image = effective (reads (g.D.Disk.state c.args.disk.now)) in
    let o = c.args.state.now in
    let call : Called = called c.args.request.now.command.now c.args.request.now.who.now c.args.request.now.when (g.S.Site.state c.args.site.now) (g.S.Site.state c.make_runs-made.new.site) in
    let kept : g.D.Disk.tells → AreKept files (versions_for_runs c.args.request.now.command.now c.args.state.now) = λ tells.
    subst (λ (x : Option Image). AreKept x (versions_for_runs c.args.request.now.command.now c.args.state.now)) (ap effective (same_reads (g.D.Disk.state c.args.disk.now) (g.D.Disk.state c.see.new.disk) (c.see.ensures.same tells))) (c.in_ok-plan.ensures.kept tells) in
    let decided : IsDecidedSo (Some o) c.args.request.now.command.now c.args.request.now.who.now c.args.request.now.when (record c.in_ok-view.view { runs = c.in_ok-runs.runs }) (Accept c.in_ok-planned.ensures.0) =
    subst (λ (v : View). IsDecidedSo (Some o) c.args.request.now.command.now c.args.request.now.who.now c.args.request.now.when v (Accept c.in_ok-planned.ensures.0)) c.with_runs-view.ensures c.in_ok-planned.ensures.1 in
    let ran : g.D.Disk.tells → g.S.Site.tells → (bytes : ℕ → List ℕ) → HaveBytes files (Some c.args.state.now) bytes → (answer_to (Some c.args.state.now) bytes call ≡ Accept c.in_ok-planned.ensures.0) × IsLeft (Some c.args.state.now) bytes call = λ tells told bytes have.
    let shows : ShowsVersions (Some c.args.state.now) bytes c.args.request.now.command.now c.args.request.now.who.now c.in_ok-view.view = c.in_ok-view.ensures.shows tells bytes c.args.request.now.who.now have in
    let same : effective (reads (g.D.Disk.state c.see.new.disk)) ≡ files = ap effective (same_reads (g.D.Disk.state c.args.disk.now) (g.D.Disk.state c.see.new.disk) (c.see.ensures.same tells)) in
    ran-both files c.args.state.now call c.note_sound.ensures.sound c.requires.runs c.args.request.now.formed c.requires.passed (c.in_ok-view.ensures.kept tells) (kept tells) bytes have
    c.in_ok-view.view (c.in_ok-view.ensures.seen tells told bytes c.args.request.now.who.now c.args.request.now.when have) c.runs_dir.result c.in_ok-plan.plan.changes c.in_ok-plan.plan.tracked c.in_ok-plan.plan.jobs c.in_ok-runs.runs
    (c.runs_dir.ensures c.args.request.now.who.now)
    (c.in_ok-plan.ensures.are tells bytes c.args.request.now.who.now c.args.request.now.when (subst (λ (x : Option Image). HaveBytes x (Some c.args.state.now) bytes) (sym same) have) shows)
    c.in_ok-plan.ensures.ascends c.in_ok-runs.ensures.whole
    (subst (λ (st : SiteState). c.in_ok-plan.plan.tracked ≡ dir_reads.tracked_in (dirs_after c.in_ok-plan.plan.changes st.trees c.runs_dir.result) c.in_ok-plan.plan.tracked
    → HaveRun c.runs_dir.result c.in_ok-plan.plan.changes (paths_of c.in_ok-plan.plan.tracked) c.in_ok-plan.plan.jobs c.in_ok-runs.runs st (g.S.Site.state c.make_runs-made.new.site)) (c.see.ensures.site_same told) (c.in_ok-runs.ensures.ran told))
    (Accept c.in_ok-planned.ensures.0) shows decided in
    record {
      events = c.in_ok-planned.ensures.0;
      accepted = λ told bytes have. (ran told.0 told.1 bytes have).0;
      left = λ told bytes have. (ran told.0 told.1 bytes have).1;
      kept = λ told. all-kept c.args.state.now c.args.request.now.command.now c.args.request.now.who.now c.args.request.now.formed c.requires.runs c.requires.passed files (c.in_ok-view.ensures.kept told.0) (kept told.0);
      made = c.in_ok-planned.ensures.2;
      ran = λ failed. c.requires.runs;
    }

pub returns-in_err-refusal-clause-stopped : goal.returns-in_err-refusal-clause-stopped
returns-in_err-refusal-clause-stopped g c = let is : c.from_residual-in_err-refusal.result ≡ Err stop.Memory = err_is _ _ c.from_residual-in_err-refusal.ensures.1 in rw is memory

pub returns-in-Refuse-clause-stopped : goal.returns-in-Refuse-clause-stopped
returns-in-Refuse-clause-stopped g c =
    let call : Called = called c.args.request.now.command.now c.args.request.now.who.now c.args.request.now.when (g.S.Site.state c.args.site.now) (g.S.Site.state c.see.new.site) in
    refused c.in-Refuse.refusal (λ tells told. record {
      answer = unrun-answer (effective (reads (g.D.Disk.state c.args.disk.now))) c.args.state.now call c.in_ok-view.view (Refuse c.in-Refuse.refusal) (c.see.ensures.site_same told)
          (λ bytes have. c.in_ok-view.ensures.seen tells told bytes c.args.request.now.who.now c.args.request.now.when have) (λ bytes have. c.in_ok-view.ensures.shows tells bytes c.args.request.now.who.now have)
          (same_answer (Some c.args.state.now) c.args.request.now.command.now c.args.request.now.who.now c.args.request.now.when _ _ _ _ refl c.in-Refuse.is c.in_ok-refusal.ensures.is);
      kept = λ passes. c.in_ok-view.ensures.kept tells;
    })

pub returns-in_err-view-clause-directories : goal.returns-in_err-view-clause-directories
returns-in_err-view-clause-directories g c = λ seen. leaves-still c.args.request.now.command.now (g.S.Site.state c.args.site.now) (g.S.Site.state c.see.new.site) _ (c.see.ensures.site_same seen)

pub returns-in_err-refusal-clause-directories : goal.returns-in_err-refusal-clause-directories
returns-in_err-refusal-clause-directories g c = λ seen. leaves-still c.args.request.now.command.now (g.S.Site.state c.args.site.now) (g.S.Site.state c.see.new.site) _ (c.see.ensures.site_same seen)

pub returns-in-Refuse-clause-directories : goal.returns-in-Refuse-clause-directories
returns-in-Refuse-clause-directories g c = λ seen. leaves-still c.args.request.now.command.now (g.S.Site.state c.args.site.now) (g.S.Site.state c.see.new.site) _ (c.see.ensures.site_same seen)

pub returns-in_err-plan-clause-directories : goal.returns-in_err-plan-clause-directories
returns-in_err-plan-clause-directories g c = λ seen. leaves-still c.args.request.now.command.now (g.S.Site.state c.args.site.now) (g.S.Site.state c.see.new.site) _ (c.see.ensures.site_same seen)

pub returns-in_err-runs-clause-directories : goal.returns-in_err-runs-clause-directories
returns-in_err-runs-clause-directories g c = λ seen.
    dirs_err c.args.request.now.command.now (g.S.Site.state c.args.site.now) (g.S.Site.state c.make_runs-made.new.site) _ (stop_of_dirs c.in_err-runs.field-0.0) (err_is _ _ c.from_residual-in_err-runs.ensures.1)
    (leaves-runs c.args.request.now.command.now c.in_ok-plan.plan.changes (g.S.Site.state c.args.site.now) (g.S.Site.state c.make_runs-made.new.site) _ c.requires.runs (dirs_touch c.in_err-runs.field-0.0)
    (subst (λ (st : SiteState). MakesByteRuns st (g.S.Site.state c.make_runs-made.new.site)) (c.see.ensures.site_same seen) (c.make_runs-made.ensures.bytes seen)) c.in_ok-plan.ensures.own
    (λ other. subst (λ (st : SiteState). ChangesThenRuns c.in_ok-plan.plan.changes st (g.S.Site.state c.make_runs-made.new.site)) (c.see.ensures.site_same seen)
    (c.in_err-runs.ensures.only seen (site-stops c.in_err-runs.field-0.0 other))))

pub returns-in_err-planned-clause-directories : goal.returns-in_err-planned-clause-directories
returns-in_err-planned-clause-directories g c = λ seen.
    dirs_err c.args.request.now.command.now (g.S.Site.state c.args.site.now) (g.S.Site.state c.make_runs-made.new.site) _ stop.Memory (err_is _ _ c.from_residual-in_err-planned.ensures.1)
    (leaves-runs c.args.request.now.command.now c.in_ok-plan.plan.changes (g.S.Site.state c.args.site.now) (g.S.Site.state c.make_runs-made.new.site) _ c.requires.runs (λ none. none)
    (subst (λ (st : SiteState). MakesByteRuns st (g.S.Site.state c.make_runs-made.new.site)) (c.see.ensures.site_same seen) (c.make_runs-made.ensures.bytes seen)) c.in_ok-plan.ensures.own
    (λ other. subst (λ (st : SiteState). ChangesThenRuns c.in_ok-plan.plan.changes st (g.S.Site.state c.make_runs-made.new.site)) (c.see.ensures.site_same seen)
    (c.in_ok-runs.ensures.only seen (ok_is_no_err _ _))))

pub returns-clause-directories : goal.returns-clause-directories
returns-clause-directories g c = λ seen.
    leaves-runs c.args.request.now.command.now c.in_ok-plan.plan.changes (g.S.Site.state c.args.site.now) (g.S.Site.state c.make_runs-made.new.site) _ c.requires.runs (λ none. none)
    (subst (λ (st : SiteState). MakesByteRuns st (g.S.Site.state c.make_runs-made.new.site)) (c.see.ensures.site_same seen) (c.make_runs-made.ensures.bytes seen)) c.in_ok-plan.ensures.own
    (λ other. subst (λ (st : SiteState). ChangesThenRuns c.in_ok-plan.plan.changes st (g.S.Site.state c.make_runs-made.new.site)) (c.see.ensures.site_same seen)
    (c.in_ok-runs.ensures.only seen (ok_is_no_err _ _)))

pub plan_accepted-planned-requires-clause-accepted : goal.plan_accepted-planned-requires-clause-accepted
plan_accepted-planned-requires-clause-accepted g c =
    let shown = c.in_ok-view.ensures.shown in
    let first : verdict placing (Some c.args.state.now) shown.0 c.args.request.now.command.now c.args.request.now.who.now c.args.request.now.when c.in_ok-view.view ≡ Accept c.in_default.field-0 = c.in_ok-refusal.ensures.is shown.0 (shown.1 c.args.request.now.who.now) ∙ c.in_default.is in (
      shown.0,
      subst (ShowsVersions (Some c.args.state.now) shown.0 c.args.request.now.command.now c.args.request.now.who.now) (sym c.with_runs-view.ensures) (shown.1 c.args.request.now.who.now),
      _,
      ap (verdict placing (Some c.args.state.now) shown.0 c.args.request.now.command.now c.args.request.now.who.now c.args.request.now.when) c.with_runs-view.ensures
          ∙ accepted-with c.args.state.now shown.0 c.args.request.now.command.now c.args.request.now.who.now c.args.request.now.when c.in_ok-view.view c.in_ok-runs.runs c.in_default.field-0 c.requires.runs c.requires.passed first,
    )

-- ---- what follows from the calls alone

pub returns-in_err-view-clause-same : goal.returns-in_err-view-clause-same
returns-in_err-view-clause-same g c = c.see.ensures.same

pub returns-in_err-view-clause-disk_later : goal.returns-in_err-view-clause-disk_later
returns-in_err-view-clause-disk_later g c = c.see.ensures.disk_later

pub returns-in_err-refusal-clause-same : goal.returns-in_err-refusal-clause-same
returns-in_err-refusal-clause-same g c = c.see.ensures.same

pub returns-in_err-refusal-clause-disk_later : goal.returns-in_err-refusal-clause-disk_later
returns-in_err-refusal-clause-disk_later g c = c.see.ensures.disk_later

pub returns-in-Refuse-clause-same : goal.returns-in-Refuse-clause-same
returns-in-Refuse-clause-same g c = c.see.ensures.same

pub returns-in-Refuse-clause-disk_later : goal.returns-in-Refuse-clause-disk_later
returns-in-Refuse-clause-disk_later g c = c.see.ensures.disk_later

pub returns-in_err-plan-clause-same : goal.returns-in_err-plan-clause-same
returns-in_err-plan-clause-same g c = λ tells. same_on (g.D.Disk.state c.args.disk.now) (g.D.Disk.state c.see.new.disk) (g.D.Disk.state c.ready.new.disk) (c.see.ensures.same tells) (c.ready.ensures.same tells)

pub returns-in_err-view-clause-early : goal.returns-in_err-view-clause-early
returns-in_err-view-clause-early g c = λ told. early-still (g.S.Site.state c.args.site.now) (g.S.Site.state c.see.new.site) _ (c.see.ensures.site_same told)

pub returns-in_err-view-clause-site_later : goal.returns-in_err-view-clause-site_later
returns-in_err-view-clause-site_later g c = c.see.ensures.site_later

pub returns-in_err-refusal-clause-early : goal.returns-in_err-refusal-clause-early
returns-in_err-refusal-clause-early g c = λ told. early-still (g.S.Site.state c.args.site.now) (g.S.Site.state c.see.new.site) _ (c.see.ensures.site_same told)

pub returns-in_err-refusal-clause-site_later : goal.returns-in_err-refusal-clause-site_later
returns-in_err-refusal-clause-site_later g c = c.see.ensures.site_later

pub returns-in-Refuse-clause-early : goal.returns-in-Refuse-clause-early
returns-in-Refuse-clause-early g c = λ told fault. c.see.ensures.site_same told

pub returns-in-Refuse-clause-site_later : goal.returns-in-Refuse-clause-site_later
returns-in-Refuse-clause-site_later g c = c.see.ensures.site_later

pub returns-in_err-plan-clause-early : goal.returns-in_err-plan-clause-early
returns-in_err-plan-clause-early g c = λ told. early-still (g.S.Site.state c.args.site.now) (g.S.Site.state c.see.new.site) _ (c.see.ensures.site_same told)

pub returns-in_err-plan-clause-site_later : goal.returns-in_err-plan-clause-site_later
returns-in_err-plan-clause-site_later g c = c.see.ensures.site_later

pub returns-in_err-plan-clause-disk_later : goal.returns-in_err-plan-clause-disk_later
returns-in_err-plan-clause-disk_later g c = le_trans c.see.ensures.disk_later c.ready.ensures.later

pub returns-in_err-runs-clause-disk_later : goal.returns-in_err-runs-clause-disk_later
returns-in_err-runs-clause-disk_later g c = le_trans c.see.ensures.disk_later c.ready.ensures.later

pub returns-in_err-planned-clause-disk_later : goal.returns-in_err-planned-clause-disk_later
returns-in_err-planned-clause-disk_later g c = le_trans c.see.ensures.disk_later c.ready.ensures.later

pub returns-clause-disk_later : goal.returns-clause-disk_later
returns-clause-disk_later g c = le_trans c.see.ensures.disk_later c.ready.ensures.later

pub returns-in_err-runs-clause-site_later : goal.returns-in_err-runs-clause-site_later
returns-in_err-runs-clause-site_later g c = le_trans c.see.ensures.site_later c.make_runs-made.ensures.cause.later

pub returns-in_err-planned-clause-site_later : goal.returns-in_err-planned-clause-site_later
returns-in_err-planned-clause-site_later g c = le_trans c.see.ensures.site_later c.make_runs-made.ensures.cause.later

pub returns-clause-site_later : goal.returns-clause-site_later
returns-clause-site_later g c = le_trans c.see.ensures.site_later c.make_runs-made.ensures.cause.later

pub returns-in_err-runs-clause-early : goal.returns-in_err-runs-clause-early
returns-in_err-runs-clause-early g c = λ told. early-so (g.S.Site.state c.args.site.now) (g.S.Site.state c.make_runs-made.new.site) _ (stop_of_dirs c.in_err-runs.field-0.0) c.from_residual-in_err-runs.ensures.1 (no-disk-fault c.in_err-runs.field-0.0)

pub returns-in_err-planned-clause-early : goal.returns-in_err-planned-clause-early
returns-in_err-planned-clause-early g c = λ told. early-so (g.S.Site.state c.args.site.now) (g.S.Site.state c.make_runs-made.new.site) _ stop.Memory c.from_residual-in_err-planned.ensures.1 (λ fault. cc)

pub plan_accepted-planned-requires-clause-runs : goal.plan_accepted-planned-requires-clause-runs
plan_accepted-planned-requires-clause-runs g c = c.requires.runs

pub plan_accepted-planned-requires-clause-passed : goal.plan_accepted-planned-requires-clause-passed
plan_accepted-planned-requires-clause-passed g c = c.requires.passed

pub ready-requires-clause-runs : goal.ready-requires-clause-runs
ready-requires-clause-runs g c = c.requires.runs

-- ---- what was asked of the directories, and no more

pub returns-in_err-view-clause-asked : goal.returns-in_err-view-clause-asked
returns-in_err-view-clause-asked g c = λ told.
    asked-still g.D.Disk.tells (effective (reads (g.D.Disk.state c.args.disk.now))) c.args.request.now.command.now (Some c.args.state.now) (g.S.Site.state c.args.site.now) (g.S.Site.state c.see.new.site) _ (c.see.ensures.site_same told)

pub returns-in_err-refusal-clause-asked : goal.returns-in_err-refusal-clause-asked
returns-in_err-refusal-clause-asked g c = λ told.
    asked-still g.D.Disk.tells (effective (reads (g.D.Disk.state c.args.disk.now))) c.args.request.now.command.now (Some c.args.state.now) (g.S.Site.state c.args.site.now) (g.S.Site.state c.see.new.site) _ (c.see.ensures.site_same told)

pub returns-in-Refuse-clause-asked : goal.returns-in-Refuse-clause-asked
returns-in-Refuse-clause-asked g c = λ told.
    asked-still g.D.Disk.tells (effective (reads (g.D.Disk.state c.args.disk.now))) c.args.request.now.command.now (Some c.args.state.now) (g.S.Site.state c.args.site.now) (g.S.Site.state c.see.new.site) _ (c.see.ensures.site_same told)

pub returns-in_err-plan-clause-asked : goal.returns-in_err-plan-clause-asked
returns-in_err-plan-clause-asked g c = λ told.
    asked-still g.D.Disk.tells (effective (reads (g.D.Disk.state c.args.disk.now))) c.args.request.now.command.now (Some c.args.state.now) (g.S.Site.state c.args.site.now) (g.S.Site.state c.see.new.site) _ (c.see.ensures.site_same told)

pub returns-in_err-runs-clause-asked : goal.returns-in_err-runs-clause-asked
returns-in_err-runs-clause-asked g c = λ told.
    for_err (λ (outcome : Outcome). ChangesAsAsked g.D.Disk.tells (effective (reads (g.D.Disk.state c.args.disk.now))) c.args.request.now.command.now c.args.state.now (g.S.Site.state c.args.site.now) (g.S.Site.state c.make_runs-made.new.site) outcome)
    _ (stop_of_dirs c.in_err-runs.field-0.0) (err_is _ _ c.from_residual-in_err-runs.ensures.1)
    (asked-ran g.D.Disk.tells (effective (reads (g.D.Disk.state c.args.disk.now))) c.args.request.now.command.now c.args.state.now c.in_ok-plan.plan.changes (g.S.Site.state c.args.site.now) (g.S.Site.state c.see.new.site) (g.S.Site.state c.make_runs-made.new.site) _ c.requires.runs (c.see.ensures.site_same told)
    (λ other. c.in_err-runs.ensures.only told (site-stops c.in_err-runs.field-0.0 other))
    (λ tells bytes have who when.
    let call : Called = called c.args.request.now.command.now who when (g.S.Site.state c.args.site.now) (g.S.Site.state c.make_runs-made.new.site) in
    let same : effective (reads (g.D.Disk.state c.see.new.disk)) ≡ effective (reads (g.D.Disk.state c.args.disk.now)) = ap effective (same_reads (g.D.Disk.state c.args.disk.now) (g.D.Disk.state c.see.new.disk) (c.see.ensures.same tells)) in
    seen-changes (effective (reads (g.D.Disk.state c.args.disk.now))) c.args.state.now call bytes c.in_ok-view.view c.in_ok-plan.plan.changes c.in_ok-plan.plan.tracked c.in_ok-plan.plan.jobs (c.in_ok-view.ensures.seen tells told bytes who when have)
    (c.in_ok-plan.ensures.are tells bytes who when (subst (λ (x : Option Image). HaveBytes x (Some c.args.state.now) bytes) (sym same) have) (c.in_ok-view.ensures.shows tells bytes who have))))

pub returns-in_err-planned-clause-asked : goal.returns-in_err-planned-clause-asked
returns-in_err-planned-clause-asked g c = λ told.
    for_err (λ (outcome : Outcome). ChangesAsAsked g.D.Disk.tells (effective (reads (g.D.Disk.state c.args.disk.now))) c.args.request.now.command.now c.args.state.now (g.S.Site.state c.args.site.now) (g.S.Site.state c.make_runs-made.new.site) outcome)
    _ stop.Memory (err_is _ _ c.from_residual-in_err-planned.ensures.1)
    (asked-ran g.D.Disk.tells (effective (reads (g.D.Disk.state c.args.disk.now))) c.args.request.now.command.now c.args.state.now c.in_ok-plan.plan.changes (g.S.Site.state c.args.site.now) (g.S.Site.state c.see.new.site) (g.S.Site.state c.make_runs-made.new.site) _ c.requires.runs (c.see.ensures.site_same told)
    (λ other. c.in_ok-runs.ensures.only told (ok_is_no_err _ _))
    (λ tells bytes have who when.
    let call : Called = called c.args.request.now.command.now who when (g.S.Site.state c.args.site.now) (g.S.Site.state c.make_runs-made.new.site) in
    let same : effective (reads (g.D.Disk.state c.see.new.disk)) ≡ effective (reads (g.D.Disk.state c.args.disk.now)) = ap effective (same_reads (g.D.Disk.state c.args.disk.now) (g.D.Disk.state c.see.new.disk) (c.see.ensures.same tells)) in
    seen-changes (effective (reads (g.D.Disk.state c.args.disk.now))) c.args.state.now call bytes c.in_ok-view.view c.in_ok-plan.plan.changes c.in_ok-plan.plan.tracked c.in_ok-plan.plan.jobs (c.in_ok-view.ensures.seen tells told bytes who when have)
    (c.in_ok-plan.ensures.are tells bytes who when (subst (λ (x : Option Image). HaveBytes x (Some c.args.state.now) bytes) (sym same) have) (c.in_ok-view.ensures.shows tells bytes who have))))

pub returns-clause-asked : goal.returns-clause-asked
returns-clause-asked g c = λ told.
    (asked-ran g.D.Disk.tells (effective (reads (g.D.Disk.state c.args.disk.now))) c.args.request.now.command.now c.args.state.now c.in_ok-plan.plan.changes (g.S.Site.state c.args.site.now) (g.S.Site.state c.see.new.site) (g.S.Site.state c.make_runs-made.new.site) _ c.requires.runs (c.see.ensures.site_same told)
    (λ other. c.in_ok-runs.ensures.only told (ok_is_no_err _ _))
    (λ tells bytes have who when.
    let call : Called = called c.args.request.now.command.now who when (g.S.Site.state c.args.site.now) (g.S.Site.state c.make_runs-made.new.site) in
    let same : effective (reads (g.D.Disk.state c.see.new.disk)) ≡ effective (reads (g.D.Disk.state c.args.disk.now)) = ap effective (same_reads (g.D.Disk.state c.args.disk.now) (g.D.Disk.state c.see.new.disk) (c.see.ensures.same tells)) in
    seen-changes (effective (reads (g.D.Disk.state c.args.disk.now))) c.args.state.now call bytes c.in_ok-view.view c.in_ok-plan.plan.changes c.in_ok-plan.plan.tracked c.in_ok-plan.plan.jobs (c.in_ok-view.ensures.seen tells told bytes who when have)
    (c.in_ok-plan.ensures.are tells bytes who when (subst (λ (x : Option Image). HaveBytes x (Some c.args.state.now) bytes) (sym same) have) (c.in_ok-view.ensures.shows tells bytes who have))))
