use Rattle.std.proofs.Common.{◌≡◌, ◌∙◌, sym, ap, subst, rules, Some, Err}
use Rattle.std.specs.Option.{option_copied}
use Rattle.ae_conf.specs.Answers.{IsAnswer}
use Rattle.ae_conf.specs.Config.{config, read_or_line}
use Rattle.ae_machine.specs.Commands.{GivesCommands, config_read}
use Rattle.ae_machine.proofs.CommandsRead.{gives-commands, read-good, read-bad}
use Rattle.ae_machine.proofs.commands.config_read.Goals as goal

pub returns-in-Ok-clause-read : goal.returns-in-Ok-clause-read
returns-in-Ok-clause-read c =
    let there : option_copied c.args.bytes ≡ Some c.bytes.result.now = search rules in
    read-good (config c.bytes.result.now) c.in-Ok.config c.in-Ok.ensures ∙ sym (ap config_read there)

pub returns-in-Ok-clause-commands : goal.returns-in-Ok-clause-commands
returns-in-Ok-clause-commands c = subst GivesCommands (sym (read-good (config c.bytes.result.now) c.in-Ok.config c.in-Ok.ensures)) (gives-commands (Some c.bytes.result.now))

pub returns-in-Err-Line-clause-read : goal.returns-in-Err-Line-clause-read
returns-in-Err-Line-clause-read c =
    let there : option_copied c.args.bytes ≡ Some c.bytes.result.now = search rules in
    read-bad (config c.bytes.result.now) c.in-Err-Line.line (subst (λ e. IsAnswer (read_or_line (config c.bytes.result.now)) (Err e)) c.in-Err-Line.field-0-is c.in-Err-Line.ensures) ∙ sym (ap config_read there)
