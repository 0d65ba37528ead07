use Rattle.std.proofs.Common.{◌≡◌, ◌∙◌, sym, ap, subst, map, Option, Some}
use Rattle.std.specs.Prelude.{IsSomeAnd, sum}
use Rattle.std.specs.Option.{option_and_then, option_or}
use Rattle.ae_base.specs.Rows.{text_cmp}
use Rattle.ae_base.specs.declared.refusal.Refusal.{Refusal}
use Rattle.ae_base.specs.declared.words.Ground.TheVariants.{Develop}
use Rattle.ae_base.specs.declared.words.Which.TheVariants.{FrozenBytes}
use Rattle.ae_evidence.specs.Digest.{digest}
use Rattle.ae_log.proofs.AppliedSteps.{if-ok}
use Rattle.ae_types.specs.declared.change.Change.{Change}
use Rattle.ae_types.specs.declared.change.ChangeFile.{ChangeFile}
use Rattle.ae_types.specs.Found.{change_at, file_path}
use Rattle.ae_types.specs.Ordered.{Ascends}
use Rattle.ae_types.specs.Runs.{missing}
use Rattle.ae_machine.specs.Call.{Given, change_of}
use Rattle.ae_machine.specs.Deciding.{given_to}
use Rattle.ae_machine.specs.Freezing.{change_is_small, develop_runs_count, size_of, versions_have_places}
use Rattle.ae_machine.specs.Permission.{within}
use Rattle.ae_machine.specs.Sight.{bytes_read, change_tree}
use Rattle.ae_machine.specs.Space.{placing}
use Rattle.ae_machine.specs.Versions.{files_refused}
use Rattle.ae_machine.proofs.Behind.{given-is}
use Rattle.ae_machine.proofs.EndAnswer.{by-files, by-room, by-tree, end-is, end-of, not-integrating, these, tree-why}
use Rattle.ae_machine.proofs.ending.answer_end.Goals as goal

pub returns-in-Some : goal.returns-in-Some
returns-in-Some c = λ bytes.
    let call = c.args.call.now in
    let given : Given = given_to placing call bytes c.args.now c.args.view.now in
    let change = c.args.change.now in
    let there : change_of given.call ≡ Some change = ap (option_and_then (change_at call.stands)) c.requires.names ∙ c.requires.named in
    let files : files_refused given ≡ c.in_ok-refusal.field-0 = ap files_refused (sym (given-is placing call _ _ bytes c.args.now c.args.view.now c.state-state.ensures c.command.ensures)) ∙ sym (c.in_ok-refusal.ensures placing bytes call.who c.args.now) in
    by-files (files_refused given) (change_is_small given change) (develop_runs_count given change) (versions_have_places given change) (these given (Some change)) c.in-Some.refusal
    (files ∙ c.in-Some.is)
    ∙ end-is given change c.requires.end there (not-integrating given change c.requires.end there c.requires.phase)

pub change_tree-requires : goal.change_tree-requires
change_tree-requires c = subst (Ascends text_cmp file_path) (sym c.as_slice.ensures) (c.note_sound.ensures.changes.good c.args.number c.args.change.now c.requires.named).files.ascend

pub returns-in-Some-2 : goal.returns-in-Some-2
returns-in-Some-2 c = λ bytes.
    let call = c.args.call.now in
    let given : Given = given_to placing call bytes c.args.now c.args.view.now in
    let change = c.args.change.now in
    let there : change_of given.call ≡ Some change = ap (option_and_then (change_at call.stands)) c.requires.names ∙ c.requires.named in
    let files : files_refused given ≡ c.in_ok-refusal.field-0 = ap files_refused (sym (given-is placing call _ _ bytes c.args.now c.args.view.now c.state-state.ensures c.command.ensures)) ∙ sym (c.in_ok-refusal.ensures placing bytes call.who c.args.now) in
    let read : c.in_ok-tree.tree ≡ change_tree given change = c.in_ok-tree.ensures ∙ ap (map (λ (file : ChangeFile). (file.path, bytes_read c.args.view.now file))) c.as_slice.ensures in
    let why : Option Refusal = c.in_ok-refusal-2.field-0 in
    let asks = subst (λ o. IsSomeAnd (change_at o c.args.number) (λ (other : Change). why ≡ option_or (within FrozenBytes 67108864 (sum (map size_of c.in_ok-tree.tree))) (missing o other Develop (digest c.in_ok-tree.tree)))) c.state-state.ensures c.in_ok-refusal-2.ensures in
    by-tree (files_refused given) (change_is_small given change) (develop_runs_count given change) (versions_have_places given change) (these given (Some change)) c.in-Some-2.refusal
    (files ∙ c.in_default.is)
    (tree-why given change c.in_ok-tree.tree why (change_at call.stands c.args.number) c.requires.named read asks ∙ c.in-Some-2.is)
    ∙ end-is given change c.requires.end there (not-integrating given change c.requires.end there c.requires.phase)

pub returns : goal.returns
returns c = λ bytes.
    let call = c.args.call.now in
    let given : Given = given_to placing call bytes c.args.now c.args.view.now in
    let change = c.args.change.now in
    let there : change_of given.call ≡ Some change = ap (option_and_then (change_at call.stands)) c.requires.names ∙ c.requires.named in
    let files : files_refused given ≡ c.in_ok-refusal.field-0 = ap files_refused (sym (given-is placing call _ _ bytes c.args.now c.args.view.now c.state-state.ensures c.command.ensures)) ∙ sym (c.in_ok-refusal.ensures placing bytes call.who c.args.now) in
    let read : c.in_ok-tree.tree ≡ change_tree given change = c.in_ok-tree.ensures ∙ ap (map (λ (file : ChangeFile). (file.path, bytes_read c.args.view.now file))) c.as_slice.ensures in
    let why : Option Refusal = c.in_ok-refusal-2.field-0 in
    let asks = subst (λ o. IsSomeAnd (change_at o c.args.number) (λ (other : Change). why ≡ option_or (within FrozenBytes 67108864 (sum (map size_of c.in_ok-tree.tree))) (missing o other Develop (digest c.in_ok-tree.tree)))) c.state-state.ensures c.in_ok-refusal-2.ensures in
    if-ok c.end_with.result _ _ c.end_with.ensures
    (end-of given change c.in_ok-tree.tree read
    ∙ by-room (files_refused given) (change_is_small given change) (develop_runs_count given change) (versions_have_places given change) (these given (Some change))
    (files ∙ c.in_default.is)
    (tree-why given change c.in_ok-tree.tree why (change_at call.stands c.args.number) c.requires.named read asks ∙ c.in_default-2.is)
    ∙ end-is given change c.requires.end there (not-integrating given change c.requires.end there c.requires.phase))
