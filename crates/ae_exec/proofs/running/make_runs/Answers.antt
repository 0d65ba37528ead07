use Rattle.std.proofs.Common.{◌≡◌, ◌∙◌, sym, ap, subst, List, Err}
use Rattle.ae_base.proofs.Results.{err_is, ok_is_no_err}
use Rattle.ae_outside.specs.Site.{SiteState}
use Rattle.ae_evidence.specs.declared.directories.DirChange.{DirChange}
use Rattle.ae_evidence.specs.Directories.{dirs_after}
use Rattle.ae_dirs.specs.Parts.{AreInPart}
use Rattle.ae_dirs.specs.declared.error.DirsError.TheVariants as dirs
use Rattle.ae_dirs.proofs.ByteRuns.{made-then, none-made}
use Rattle.ae_exec.proofs.ThenRuns.{none-then, whole-then}
use Rattle.ae_exec.proofs.running.make_runs.Goals as goal

pub returns-in_err-change_dirs-clause-bytes : goal.returns-in_err-change_dirs-clause-bytes
returns-in_err-change_dirs-clause-bytes g c = λ tells. none-made (g.S.Site.state c.args.site.now) (g.S.Site.state c.change_dirs.new.site) (c.change_dirs.ensures.only tells).runs

pub returns-clause-bytes : goal.returns-clause-bytes
returns-clause-bytes g c = λ tells.
    made-then (g.S.Site.state c.args.site.now) (g.S.Site.state c.change_dirs.new.site) (g.S.Site.state c.run_group.new.site) (none-made (g.S.Site.state c.args.site.now) (g.S.Site.state c.change_dirs.new.site) (c.change_dirs.ensures.only tells).runs) (c.run_group.ensures.bytes tells)

-- ---- the changes were made, and then the runs

pub returns-in_err-change_dirs-clause-only : goal.returns-in_err-change_dirs-clause-only
returns-in_err-change_dirs-clause-only g c = λ tells none.
    let before : SiteState = g.S.Site.state c.args.site.now in
    let changed : SiteState = g.S.Site.state c.change_dirs.new.site in
    none-then c.args.plan.now.changes before changed (c.change_dirs.ensures.only tells).runs
    (subst (λ (l : List DirChange). AreInPart l before.trees changed.trees) c.as_slice.ensures (c.change_dirs.ensures.part tells (λ is.
    let which : c.in_err-change_dirs.field-0.0 ≡ dirs.SiteFault = (let both = sym c.in_err-change_dirs.was ∙ is in cc) in
    none (err_is _ _ c.from_residual.ensures.1 ∙ ap Err which))))

pub returns-clause-only : goal.returns-clause-only
returns-clause-only g c = λ tells none.
    let before : SiteState = g.S.Site.state c.args.site.now in
    let changed : SiteState = g.S.Site.state c.change_dirs.new.site in
    whole-then c.args.plan.now.changes before changed (g.S.Site.state c.run_group.new.site) (c.change_dirs.ensures.only tells).runs
    (subst (λ (l : List DirChange). AreInPart l before.trees changed.trees) c.as_slice.ensures (c.change_dirs.ensures.part tells (λ is. ok_is_no_err _ _ (sym c.in_ok-change_dirs.was ∙ is))))
    (subst (λ (l : List DirChange). changed.trees ≡ dirs_after l before.trees) c.as_slice.ensures (c.in_ok-change_dirs.ensures.changed tells))
    (c.run_group.ensures.only tells none)
