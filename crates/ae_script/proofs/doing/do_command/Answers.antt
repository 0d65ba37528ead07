use Rattle.std.proofs.Common.{◌∙◌}
use Rattle.ae_exec.proofs.Ended.{leaves-weaker}
use Rattle.ae_script.proofs.Told.{dirs_told, done_told, how_told, may_told, message_said, nothing_told, of_command, performs_told, reply_said}
use Rattle.ae_script.proofs.doing.do_command.Goals as goal

pub told_command-requires : goal.told_command-requires
told_command-requires g c = record { of_command = of_command _ _ _ c.perform-done.ensures.may_end }

pub returns-clause-done : goal.returns-clause-done
returns-clause-done g c = record {
  ends = may_told _ _ _ _ c.perform-done.ensures.may_end c.told_command.ensures.outcome;
  leaves = λ tells. leaves-weaker (g.D.Disk.state c.args.disk.now) (g.D.Disk.state c.perform-done.new.disk) _ _
      (λ nothing. nothing_told _ _ _ _ c.perform-done.ensures.may_end c.told_command.ensures.outcome nothing) (c.perform-done.ensures.disk tells);
  directories = λ seen. dirs_told _ (g.S.Site.state c.args.site.now) (g.S.Site.state c.perform-done.new.site) _ _ c.told_command.ensures.outcome (c.perform-done.ensures.directories seen);
  performs = λ tells seen. performs_told (g.D.Disk.state c.args.disk.now) (g.D.Disk.state c.perform-done.new.disk) _ _ _ (how_told _ _ _ _ c.perform-done.ensures.may_end c.told_command.ensures.outcome)
      (c.perform-done.ensures.disk tells).in_format (c.perform-done.ensures.performs tells seen);
  reply = λ done tells seen o bytes shows.
      c.told_command.ensures.text ∙ reply_said _ _ _ done ∙ c.perform-done.ensures.reply (done_told _ _ c.told_command.ensures.outcome done) tells seen o bytes shows;
  message = λ none. c.told_command.ensures.text ∙ message_said _ _ _ none;
  given = λ seen. record {
    formed = c.requires.formed;
    one = c.requires.one;
    user = c.bytes-name.ensures.user;
    moment = c.requires.moment;
    bytes = (c.perform-done.ensures.bytes seen).0;
    runs = c.perform-done.ensures.runs seen;
  };
}
