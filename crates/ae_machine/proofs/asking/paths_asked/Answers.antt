use Rattle.std.proofs.Common.{rules, ◌≡◌, ◌∙◌, Some, true}
use Rattle.ae_machine.specs.Call.{call_of, change_named}
use Rattle.ae_machine.specs.Fits.{reads_files}
use Rattle.ae_machine.proofs.AskedFor.{paths-asked}
use Rattle.ae_machine.proofs.asking.paths_asked.Goals as goal

pub returns-in_ok-paths_read-in-Some-change : goal.returns-in_ok-paths_read-in-Some-change
returns-in_ok-paths_read-in-Some-change c = λ who.
    let found : change_named c.args.state.now c.args.command.now.change ≡ Some c.in-Some-change.change.now = search rules in
    let reads : reads_files c.args.command.now.function ≡ true = search rules in
    c.in_ok-paths_read-in-Some-change.ensures.paths c.args.command.now who ∙ paths-asked (call_of c.args.state.now c.args.command.now who) c.in-Some-change.change.now found reads
