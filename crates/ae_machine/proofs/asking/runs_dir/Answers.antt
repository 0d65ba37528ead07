use Rattle.std.proofs.Common.{◌∙◌, sym}
use Rattle.ae_machine.specs.Call.{Call, call_of, change_of}
use Rattle.ae_machine.proofs.AskedFor.{in-base, in-build, in-test, in-regression}
use Rattle.ae_machine.proofs.asking.runs_dir.Goals as goal

pub returns-in-BaselineTest : goal.returns-in-BaselineTest
returns-in-BaselineTest c = λ who.
    let call : Call = call_of c.args.state.now c.args.command.now who in
    c.base_dir.ensures who ∙ in-base call (change_of call) (sym c.kind_of.ensures ∙ c.in-BaselineTest.is)

pub returns-in-Build : goal.returns-in-Build
returns-in-Build c = λ who.
    let call : Call = call_of c.args.state.now c.args.command.now who in
    c.files_dir.ensures who ∙ in-build call (change_of call) (sym c.kind_of.ensures ∙ c.in-Build.is)

pub returns-in-Test : goal.returns-in-Test
returns-in-Test c = λ who.
    let call : Call = call_of c.args.state.now c.args.command.now who in
    c.files_dir-in-Test.ensures who ∙ in-test call (change_of call) (sym c.kind_of.ensures ∙ c.in-Test.is)

pub returns-in-RegressionTest : goal.returns-in-RegressionTest
returns-in-RegressionTest c = λ who.
    let call : Call = call_of c.args.state.now c.args.command.now who in
    c.files_dir-in-RegressionTest.ensures who ∙ in-regression call (change_of call) (sym c.kind_of.ensures ∙ c.in-RegressionTest.is)
