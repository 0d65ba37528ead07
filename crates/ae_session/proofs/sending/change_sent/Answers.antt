use Rattle.ae_session.proofs.CommandNames.{change_named}
use Rattle.ae_session.proofs.sending.change_sent.Goals as goal

pub unreachable-requires : goal.unreachable-requires
unreachable-requires c = change_named c.args.command.now c.requires.formed c.requires.sends c.in-None.is
