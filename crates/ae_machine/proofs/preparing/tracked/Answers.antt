use Rattle.std.proofs.Common.{rules, ◌≡◌, ◌∙◌, sym, ap, subst, map, Some, []}
use Rattle.ae_base.specs.Rows.{text_cmp}
use Rattle.ae_log.proofs.AppliedSteps.{if-ok}
use Rattle.ae_types.specs.Ordered.{itself}
use Rattle.ae_types.specs.Ordered as order
use Rattle.ae_types.specs.Trees.{baseline_of, last_delta, tree_path}
use Rattle.ae_files.proofs.TreesAscend.{tree-ascends}
use Rattle.ae_machine.specs.Call.{Call, Given, call_of, change_of, given_of}
use Rattle.ae_machine.specs.Sight.{only_tests, overlaid, with_bytes}
use Rattle.ae_machine.proofs.AskedFor.{based-asked, tracked-base, tracked-build, tracked-test, tracked-regression}
use Rattle.ae_machine.proofs.Picked.{keys-ascend}
use Rattle.ae_machine.proofs.SnapshotRows.{paths-ascend}
use Rattle.ae_machine.proofs.preparing.tracked.Goals as goal

pub with_tests-requires : goal.with_tests-requires
with_tests-requires c =
    let call : Call = call_of c.args.state.now c.args.command.now [] in
    let found : change_of call ≡ Some c.in-Some-change.change.now = search rules in
    let based = c.requires.paths [] ∙ sym (ap (map tree_path) (based-asked call c.in-Some-change.change.now found (sym c.kind_of.ensures ∙ c.in-BaselineTest.is))) in
    paths-ascend c.args.based (subst (order.Ascends text_cmp itself) (sym based) (keys-ascend tree_path (baseline_of c.args.state.now) (tree-ascends (last_delta c.args.state.now) c.args.state.now.files c.note_sound.ensures.sound.rows.ascend)))

pub returns-in-BaselineTest : goal.returns-in-BaselineTest
returns-in-BaselineTest c = λ places bytes who when is.
    let given : Given = given_of places c.args.state.now bytes c.args.command.now who when c.args.view.now in
    let change = c.in-Some-change.change.now in
    let found : change_of given.call ≡ Some change = search rules in
    let kind = sym c.kind_of.ensures ∙ c.in-BaselineTest.is in
    if-ok c.with_tests.result _ _ c.with_tests.ensures
    (ap (λ tree. overlaid tree (only_tests change c.in_ok-read.read)) (is ∙ sym (ap (with_bytes bytes) (based-asked given.call change found kind)))
    ∙ ap (λ rows. overlaid (with_bytes bytes (baseline_of c.args.state.now)) (only_tests change rows)) (c.in_ok-read.ensures c.args.command.now who)
    ∙ tracked-base given change found kind)

pub returns-in-Build : goal.returns-in-Build
returns-in-Build c = λ places bytes who when is.
    let given : Given = given_of places c.args.state.now bytes c.args.command.now who when c.args.view.now in
    let found : change_of given.call ≡ Some c.in-Some-change.change.now = search rules in
    c.in_ok-read.ensures c.args.command.now who
    ∙ tracked-build given c.in-Some-change.change.now found (sym c.kind_of.ensures ∙ c.in-Build.is)

pub returns-in-Test : goal.returns-in-Test
returns-in-Test c = λ places bytes who when is.
    let given : Given = given_of places c.args.state.now bytes c.args.command.now who when c.args.view.now in
    let found : change_of given.call ≡ Some c.in-Some-change.change.now = search rules in
    c.in_ok-read.ensures c.args.command.now who
    ∙ tracked-test given c.in-Some-change.change.now found (sym c.kind_of.ensures ∙ c.in-Test.is)

pub returns-in-RegressionTest : goal.returns-in-RegressionTest
returns-in-RegressionTest c = λ places bytes who when is.
    let given : Given = given_of places c.args.state.now bytes c.args.command.now who when c.args.view.now in
    let found : change_of given.call ≡ Some c.in-Some-change.change.now = search rules in
    c.in_ok-read.ensures c.args.command.now who
    ∙ tracked-regression given c.in-Some-change.change.now found (sym c.kind_of.ensures ∙ c.in-RegressionTest.is)
