use Rattle.std.proofs.Common.{rules, ◌≡◌, ◌∙◌, sym, ap, Some}
use Rattle.ae_machine.specs.Call.{Call, call_of, change_named}
use Rattle.ae_machine.specs.Jobs.{dir_of_files}
use Rattle.ae_machine.proofs.asking.files_dir.Goals as goal

pub returns-in-Some : goal.returns-in-Some
returns-in-Some c = λ who.
    let call : Call = call_of c.args.state.now c.args.command.now who in
    let found : change_named c.args.state.now c.args.command.now.change ≡ Some c.in-Some.change.now = search rules in
    c.dir_of_change.ensures c.args.command.now who ∙ sym (ap (dir_of_files call) found)
