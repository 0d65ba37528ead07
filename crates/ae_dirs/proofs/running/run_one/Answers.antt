use Rattle.std.proofs.Common.{sym, ap, ◌∙◌}
use Rattle.ae_base.proofs.Results.{err_is}
use Rattle.ae_outside.specs.Site.{SiteState}
use Rattle.ae_dirs.specs.declared.error.DirsError.TheVariants.{SiteFault}
use Rattle.ae_dirs.specs.Runs.{MakesByteRuns}
use Rattle.ae_dirs.proofs.ByteRuns.{made-same, no-more, none-made, one-made}
use Rattle.ae_dirs.proofs.RunsLead.{by-one, by-same}
use Rattle.ae_dirs.proofs.running.run_one.Goals as goal

pub returns-clause-before : goal.returns-clause-before
returns-clause-before g c = c.in_ok-before.ensures

-- ---- the run is one of bytes

pub returns-in_err-exit-clause-bytes : goal.returns-in_err-exit-clause-bytes
returns-in_err-exit-clause-bytes g c = λ tells. none-made (g.S.Site.state c.args.site.now) (g.S.Site.state c.run.new.self) (c.in_err-exit.ensures.not_run tells)

pub returns-in_err-after-clause-bytes : goal.returns-in_err-after-clause-bytes
returns-in_err-after-clause-bytes g c = λ tells.
    let made : MakesByteRuns (g.S.Site.state c.args.site.now) (g.S.Site.state c.run.new.self) =
    one-made c.args.dir c.command_text.result.now c.in_ok-exit.exit _ _ c.note_exit.ensures (c.note_bytes.ensures.bytes tells) (c.note_bytes-2.ensures.bytes tells) (c.in_ok-exit.ensures.ran tells) in
    made-same (g.S.Site.state c.args.site.now) (g.S.Site.state c.run.new.self) (g.S.Site.state c.read_again.new.site) made (c.read_again.ensures.same tells)

pub returns-clause-bytes : goal.returns-clause-bytes
returns-clause-bytes g c = λ tells.
    let made : MakesByteRuns (g.S.Site.state c.args.site.now) (g.S.Site.state c.run.new.self) =
    one-made c.args.dir c.command_text.result.now c.in_ok-exit.exit _ _ c.note_exit.ensures (c.note_bytes.ensures.bytes tells) (c.note_bytes-2.ensures.bytes tells) (c.in_ok-exit.ensures.ran tells) in
    made-same (g.S.Site.state c.args.site.now) (g.S.Site.state c.run.new.self) (g.S.Site.state c.read_again.new.site) made (c.read_again.ensures.same tells)

-- ---- where none was made nothing is changed

pub returns-in_err-exit-clause-still : goal.returns-in_err-exit-clause-still
returns-in_err-exit-clause-still g c = λ tells none same. absurd (none (err_is _ SiteFault c.from_residual-in_err-exit.ensures.1))

pub returns-in_err-after-clause-still : goal.returns-in_err-after-clause-still
returns-in_err-after-clause-still g c = λ tells none same.
    absurd (no-more (g.S.Site.state c.args.site.now).runs _ (sym (c.in_ok-exit.ensures.ran tells) ∙ sym (ap (λ (s : SiteState). s.runs) (c.read_again.ensures.same tells)) ∙ same))

pub returns-clause-still : goal.returns-clause-still
returns-clause-still g c = λ tells none same.
    absurd (no-more (g.S.Site.state c.args.site.now).runs _ (sym (c.in_ok-exit.ensures.ran tells) ∙ sym (ap (λ (s : SiteState). s.runs) (c.read_again.ensures.same tells)) ∙ same))

-- ---- nothing but the run changes a directory

pub returns-in_err-exit-clause-only : goal.returns-in_err-exit-clause-only
returns-in_err-exit-clause-only g c = λ tells none. absurd (none (err_is _ SiteFault c.from_residual-in_err-exit.ensures.1))

pub returns-in_err-after-clause-only : goal.returns-in_err-after-clause-only
returns-in_err-after-clause-only g c = λ tells none.
    let old : SiteState = g.S.Site.state c.args.site.now in
    let ran : SiteState = g.S.Site.state c.run.new.self in
    by-same old.trees old ran (g.S.Site.state c.read_again.new.site) (by-one c.args.dir c.command_text.result.now c.in_ok-exit.exit old ran (c.in_ok-exit.ensures.ran tells)) (c.read_again.ensures.same tells)

pub returns-clause-only : goal.returns-clause-only
returns-clause-only g c = λ tells none.
    let old : SiteState = g.S.Site.state c.args.site.now in
    let ran : SiteState = g.S.Site.state c.run.new.self in
    by-same old.trees old ran (g.S.Site.state c.read_again.new.site) (by-one c.args.dir c.command_text.result.now c.in_ok-exit.exit old ran (c.in_ok-exit.ensures.ran tells)) (c.read_again.ensures.same tells)
