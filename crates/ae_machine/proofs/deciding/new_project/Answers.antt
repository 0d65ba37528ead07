-- A formed command of a new project has its name.
use Rattle.std.proofs.Common.{sym, ap, ◌∙◌, is_some}
use Rattle.ae_machine.proofs.Named.{new-has-name}
use Rattle.ae_machine.proofs.deciding.new_project.Goals as goal

pub unreachable-requires : goal.unreachable-requires
unreachable-requires c = let e = sym (ap is_some c.in_default.is) ∙ new-has-name c.args.command.now c.requires.formed c.requires.new in cc
