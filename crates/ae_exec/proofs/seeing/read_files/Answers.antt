use Rattle.std.proofs.Common.{◌∙◌, sym, []}
use Rattle.std.proofs.lemmas.Result.{IfOk-weaker}
use Rattle.ae_outside.specs.Site.{contents}
use Rattle.ae_machine.specs.Call.{call_of, change_named}
use Rattle.ae_exec.proofs.FirstSeen.{asked-reads, seen-there}
use Rattle.ae_exec.proofs.seeing.read_files.Goals as goal

pub returns-clause-asked : goal.returns-clause-asked
returns-clause-asked g c = λ failed.
    asked-reads (call_of c.args.state.now c.args.command.now []) (change_named c.args.state.now c.args.command.now.change) (λ none. c.scan.ensures.asked failed (c.in_ok-paths.ensures [] ∙ none))

pub returns-clause-rows : goal.returns-clause-rows
returns-clause-rows g c = IfOk-weaker c.scan.result _ _ (λ rows is tells.
    is tells ∙ (λ i. contents 4194304 ((g.S.Site.state c.args.site.now).trees (c.files_dir-dir.ensures [] i)) (c.in_ok-paths.ensures [] i))
    ∙ sym (seen-there (call_of c.args.state.now c.args.command.now []) (change_named c.args.state.now c.args.command.now.change) (g.S.Site.state c.args.site.now))) c.scan.ensures.rows
