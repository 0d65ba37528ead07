use Rattle.std.proofs.lemmas.Result.{IfErr-weaker}
use Rattle.ae_outside.specs.State.{reads}
use Rattle.ae_vault.specs.Disk.{DiskFailed}
use Rattle.ae_telling.specs.Telling.{IsOfCommand, use_of_sink}
use Rattle.ae_telling.proofs.Answered.{answer_outlasts}
use Rattle.ae_exec.specs.Devices.{SiteFailed}
use Rattle.ae_exec.specs.Opened.{MayBeUnopened}
use Rattle.ae_exec.proofs.Opened.{unopened_is}
use Rattle.ae_reporting.specs.Asked.{asked_by}
use Rattle.ae_reporting.proofs.Stopped.{of_command}
use Rattle.ae_reporting.proofs.Told.{done_so}
use Rattle.ae_reporting.proofs.telling.tell_report.Goals as goal

pub tell_answer-requires : goal.tell_answer-requires
tell_answer-requires g c = record { of_command = IfErr-weaker c.report-answer.result _ IsOfCommand (λ why is. of_command why is) c.report-answer.ensures.fails }

pub returns-clause-told : goal.returns-clause-told
returns-clause-told g c = record {
  answer = c.report-answer.result;
  printed = c.report-answer.ensures.printed;
  fails = c.report-answer.ensures.fails;
  only = c.report-answer.ensures.only;
  only_damaged = c.report-answer.ensures.only_damaged;
  told = c.tell_answer.ensures.told;
}

pub returns-clause-done : goal.returns-clause-done
returns-clause-done g c =
    done_so g.D.Disk.tells g.S.Site.tells (reads (g.D.Disk.state c.args.disk.now)) (g.S.Site.state c.args.site.now) (asked_by c.args.asked.now) (DiskFailed g.D.Disk c.args.disk.now c.report-answer.new.disk)
    (SiteFailed g.S.Site c.args.site.now c.report-answer.new.site)
    (use_of_sink g.O.Sink c.args.out.now c.tell_answer.new.out) (use_of_sink g.E.Sink c.args.err.now c.tell_answer.new.err) c.tell_answer.result (returns-clause-told g c)

pub returns-clause-opened : goal.returns-clause-opened
returns-clause-opened g c = λ tells unless. c.report-answer.ensures.opened tells (λ failed. unless
    (answer_outlasts MayBeUnopened tt tt (λ name. tt) unopened_is c.report-answer.result (use_of_sink g.O.Sink c.args.out.now c.tell_answer.new.out) (use_of_sink g.E.Sink c.args.err.now c.tell_answer.new.err) c.tell_answer.result c.tell_answer.ensures.told failed))
