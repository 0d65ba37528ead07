use Rattle.std.proofs.Common.{◌∙◌, refl, sym, Ok}
use Rattle.std.proofs.lemmas.Result.{IfErr-weaker, IfOk-weaker}
use Rattle.ae_exec.specs.Endings.{refused}
use Rattle.ae_reporting.specs.Reports.{other_project}
use Rattle.ae_reporting.proofs.Stopped.{printing_fails, reading_fails, reports_read}
use Rattle.ae_reporting.proofs.answering.report_on.Goals as goal

pub returns-then-not-is_asked-clause-fails : goal.returns-then-not-is_asked-clause-fails
returns-then-not-is_asked-clause-fails g c = refused _ (λ tells. other_project c.args.state.now refl (sym c.is_asked.ensures ∙ c.if-not-is_asked.true))

pub returns-in-Ok-clause-printed : goal.returns-in-Ok-clause-printed
returns-in-Ok-clause-printed g c =
    IfOk-weaker c.print.result _ _
    (λ lines is. reports_read _ _ (g.S.Site.state c.args.site.now) _ (record { stands_so = refl; is_asked_for = sym c.is_asked.ensures ∙ c.if-not-is_asked.false }) _ _ c.in-Ok.ensures.bytes c.bytes-in-Ok.ensures.value (Ok lines) is)
    c.print.ensures.printed

pub returns-in-Ok-clause-fails : goal.returns-in-Ok-clause-fails
returns-in-Ok-clause-fails g c =
    IfErr-weaker c.print.result _ _
    (λ why is. printing_fails _ _ (g.S.Site.state c.args.site.now) _ (record { stands_so = refl; is_asked_for = sym c.is_asked.ensures ∙ c.if-not-is_asked.false }) _ _ c.in-Ok.ensures.bytes c.bytes-in-Ok.ensures.value _ why is)
    c.print.ensures.fails

pub returns-in-Err-clause-fails : goal.returns-in-Err-clause-fails
returns-in-Err-clause-fails g c = reading_fails _ _ (g.S.Site.state c.args.site.now) _ (record { stands_so = refl; is_asked_for = sym c.is_asked.ensures ∙ c.if-not-is_asked.false }) _ c.in-Err.why c.in-Err.ensures.fails
