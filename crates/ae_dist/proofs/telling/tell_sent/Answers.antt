use Rattle.std.specs.Prelude.{option_copied, List, ℕ}
use Rattle.ae_base.specs.declared.refusal.Refusal.{Refusal}
use Rattle.ae_outside.specs.Causes.{HasRisen}
use Rattle.ae_outside.specs.State.{reads}
use Rattle.ae_dist.specs.Answers.{DamagedSending, RefusesSending, Writes}
use Rattle.ae_exec.specs.Opened.{MayBeUnopened}
use Rattle.ae_exec.proofs.Opened.{unopened_is}
use Rattle.ae_telling.specs.Telling.{use_of_sink}
use Rattle.ae_telling.proofs.Answered.{answer_outlasts}
use Rattle.ae_dist.proofs.Answering.{fails_of_command, only_said}
use Rattle.ae_dist.proofs.Once.{writing_once}
use Rattle.ae_dist.proofs.telling.tell_sent.Goals as goal

pub tell_answer-requires : goal.tell_answer-requires
tell_answer-requires g c = record {
  of_command = fails_of_command (λ (text : List ℕ). g.D.Disk.tells → Writes (reads (g.D.Disk.state c.args.disk.now)) (option_copied c.args.project) c.args.change text)
      (λ (refusal : Refusal). g.D.Disk.tells → RefusesSending (reads (g.D.Disk.state c.args.disk.now)) (option_copied c.args.project) c.args.change refusal)
      (λ (name : List ℕ). g.D.Disk.tells → DamagedSending (reads (g.D.Disk.state c.args.disk.now)) (option_copied c.args.project) c.args.change name)
      (HasRisen (g.D.Disk.faults c.args.disk.now) (g.D.Disk.faults c.write_change-answer.new.disk)) c.write_change-answer.result c.write_change-answer.ensures.answer;
}

pub returns-clause-told : goal.returns-clause-told
returns-clause-told g c = record {
  answer = c.write_change-answer.result;
  caused = c.write_change-answer.ensures.answer;
  only = λ tells. only_said (Writes (reads (g.D.Disk.state c.args.disk.now)) (option_copied c.args.project) c.args.change) (RefusesSending (reads (g.D.Disk.state c.args.disk.now)) (option_copied c.args.project) c.args.change)
      (DamagedSending (reads (g.D.Disk.state c.args.disk.now)) (option_copied c.args.project) c.args.change) (writing_once (reads (g.D.Disk.state c.args.disk.now)) (option_copied c.args.project) c.args.change) g.D.Disk.tells
      (HasRisen (g.D.Disk.faults c.args.disk.now) (g.D.Disk.faults c.write_change-answer.new.disk)) tells c.write_change-answer.result c.write_change-answer.ensures.answer;
  is_told = c.tell_answer.ensures.told;
}

pub returns-clause-opened : goal.returns-clause-opened
returns-clause-opened g c = λ tells unless. c.write_change-answer.ensures.opened tells (λ failed. unless
    (answer_outlasts MayBeUnopened tt tt (λ name. tt) unopened_is c.write_change-answer.result (use_of_sink g.O.Sink c.args.out.now c.tell_answer.new.out) (use_of_sink g.E.Sink c.args.err.now c.tell_answer.new.err) c.tell_answer.result c.tell_answer.ensures.told failed))
