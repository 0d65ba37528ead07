use Rattle.std.proofs.Common.{◌≡◌, ◌+◌, ◌∙◌, sym, ap, drop, get_or, Some, None}
use Rattle.std.proofs.lemmas.List.{at_drop_more}
use Rattle.ae_machine.specs.Freezing.{content_is_good, first_content_refused}
use Rattle.ae_machine.specs.Sight.{read_at}
use Rattle.ae_machine.proofs.Conditions.{or-pass, or-refuse}
use Rattle.ae_machine.proofs.reading.contents_refused.Goals as goal

pub returns-in-Some : goal.returns-in-Some
returns-in-Some c =
    let view = c.args.view.now in
    let paths = c.args.paths.now in
    let i = c.loop-path.path-index in
    let path = c.path-item.result in
    let refused : content_is_good (get_or paths i path) (read_at view (get_or paths i path)) ≡ Some c.in-Some.refusal =
    ap (λ at. content_is_good at (read_at view at)) (sym c.path-item.is) ∙ ap (λ seen. content_is_good path (read_at seen path)) (sym c.of-seen.ensures) ∙ sym c.in_ok-refusal.ensures ∙ c.in-Some.is in
    sym (c.loop-path.invariant ∙ at_drop_more (first_content_refused view) paths i path c.loop-path-test.true
    ∙ or-refuse (content_is_good (get_or paths i path) (read_at view (get_or paths i path))) (first_content_refused view (drop (i + 1) paths)) c.in-Some.refusal refused)

pub loop-path-preserved : goal.loop-path-preserved
loop-path-preserved c =
    let view = c.args.view.now in
    let paths = c.args.paths.now in
    let i = c.loop-path.path-index in
    let path = c.path-item.result in
    let passed : content_is_good (get_or paths i path) (read_at view (get_or paths i path)) ≡ None =
    ap (λ at. content_is_good at (read_at view at)) (sym c.path-item.is) ∙ ap (λ seen. content_is_good path (read_at seen path)) (sym c.of-seen.ensures) ∙ sym c.in_ok-refusal.ensures ∙ c.in_default.is in
    c.loop-path.invariant ∙ at_drop_more (first_content_refused view) paths i path c.loop-path-test.true
    ∙ or-pass (content_is_good (get_or paths i path) (read_at view (get_or paths i path))) (first_content_refused view (drop (i + 1) paths)) passed
