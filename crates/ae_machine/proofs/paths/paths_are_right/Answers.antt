use Rattle.std.proofs.Common.{◌≡◌, ◌∙◌, ◌+◌, sym, ap, drop, get_or, None}
use Rattle.std.proofs.lemmas.List.{at_drop_more, drop_all}
use Rattle.std.proofs.lemmas.Result.{err_from_is_err_and}
use Rattle.ae_words.specs.declared.command.Command.{Command}
use Rattle.ae_machine.specs.Paths.{asked_of_path, files_then, first_path_refused, path_refused}
use Rattle.ae_machine.specs.PathClash.{asks_for_clashes}
use Rattle.ae_machine.proofs.Conditions.{or-pass, or-refuse, refuses-so}
use Rattle.ae_machine.proofs.paths.paths_are_right.Goals as goal

pub returns-in_err-step : goal.returns-in_err-step
returns-in_err-step c =
    let call = c.args.call.now in
    let files = c.loop-path.files.items in
    let paths = c.as_slice-path-items.result.now in
    let i = c.loop-path.path-index in
    let path = get_or paths i c.path-item.result in
    let p = err_from_is_err_and c.from_residual-in_err-step.result c.from_residual-in_err-step.ensures.1 in
    rw (p.1, p.2) (refuses-so _ _ _ (λ refusal is. sym c.loop-path.invariant.0
    ∙ at_drop_more (λ those. first_path_refused call those files) paths i c.path-item.result c.loop-path-test.true
    ∙ or-refuse (path_refused (asked_of_path call.command.function) call files path) (first_path_refused call (drop (i + 1) paths) (files_then call path files)) refusal
    (ap (path_refused (asked_of_path call.command.function) call files) (sym c.path-item.is) ∙ is)) c.in_err-step.ensures.answer)

pub returns : goal.returns
returns c =
    sym c.loop-path.invariant.0
    ∙ ap (λ those. first_path_refused c.args.call.now those c.loop-path.files.items) (drop_all c.loop-path.path-index c.as_slice-path-items.result.now c.loop-path-test.false)

pub loop-path-preserved : goal.loop-path-preserved
loop-path-preserved c =
    let call = c.args.call.now in
    let files = c.loop-path.files.items in
    let paths = c.as_slice-path-items.result.now in
    let i = c.loop-path.path-index in
    let path = get_or paths i c.path-item.result in
    let passed : path_refused (asked_of_path call.command.function) call files path ≡ None =
    ap (path_refused (asked_of_path call.command.function) call files) (sym c.path-item.is) ∙ c.in_ok-step.ensures.answer in (
      ap (first_path_refused call (drop (i + 1) paths)) (c.in_ok-step.ensures.files ∙ ap (λ at. files_then call at files) c.path-item.is)
          ∙ sym (or-pass (path_refused (asked_of_path call.command.function) call files path) (first_path_refused call (drop (i + 1) paths) (files_then call path files)) passed)
          ∙ sym (at_drop_more (λ those. first_path_refused call those files) paths i c.path-item.result c.loop-path-test.true)
          ∙ c.loop-path.invariant.0,
      c.in_ok-step.ensures.ascend,
      λ asks. c.in_ok-step.ensures.clear (ap (λ (command : Command). asks_for_clashes command.function) (sym c.command-in-loop-path.ensures) ∙ sym c.asks_for_clashes-known_clear.ensures ∙ asks),
    )
