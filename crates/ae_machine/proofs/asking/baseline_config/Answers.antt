use Rattle.std.proofs.Common.{rules, ◌≡◌, ◌∙◌, sym, ap, length, Some, None}
use Rattle.std.specs.Option.{option_and_then}
use Rattle.ae_log.proofs.AppliedSteps.{if-ok}
use Rattle.ae_types.specs.declared.project.Project.{Project}
use Rattle.ae_types.specs.Found.{row_in}
use Rattle.ae_types.specs.Trees.{tree_row, last_delta}
use Rattle.ae_machine.specs.Sight.{config_path}
use Rattle.ae_machine.proofs.Entries.{row-at-is}
use Rattle.ae_machine.proofs.asking.baseline_config.Goals as goal

pub returns-in_default : goal.returns-in_default
returns-in_default c =
    let none : row_in c.args.state.now.files config_path ≡ None = search rules in
    sym (row-at-is (last_delta c.args.state.now) c.args.state.now.files config_path c.project.ensures.sound.rows.ascend ∙ ap (option_and_then (tree_row (last_delta c.args.state.now))) none)

pub returns : goal.returns
returns c =
    let found : row_in c.args.state.now.files config_path ≡ Some c.in-Some.row.now = search rules in
    if-ok c.tree_row.result _ _ c.tree_row.ensures
    (ap (λ d. tree_row d c.in-Some.row.now) (c.len-delta.ensures ∙ ap (λ (project : Project). length project.deltas) c.project.ensures.project)
    ∙ sym (row-at-is (last_delta c.args.state.now) c.args.state.now.files config_path c.project.ensures.sound.rows.ascend ∙ ap (option_and_then (tree_row (last_delta c.args.state.now))) found))
