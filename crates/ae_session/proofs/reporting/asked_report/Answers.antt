use Rattle.std.proofs.Common.{◌≡◌, ◌∙◌, ◌∷◌, [], ℕ, List, length, slice_index_or, ap, arith, subst, sym}
use Rattle.ae_session.proofs.CommandNames.{path_named}
use Rattle.ae_session.proofs.reporting.asked_report.Goals as goal

pub bounds-paths-0 : goal.bounds-paths-0
bounds-paths-0 c =
    let one = path_named c.args.command.now c.requires.formed c.requires.reports in
    let long : length c.as_slice-paths.result.now ≡ 1 = ap length (c.as_slice-paths.ensures ∙ one.1) in
    omega (arith, long)

pub returns-clause-path : goal.returns-clause-path
returns-clause-path c =
    let one = path_named c.args.command.now c.requires.formed c.requires.reports in
    let here : c.index-paths-0.result ≡ one.0 =
    subst (λ (paths : List (List ℕ)). c.index-paths-0.result ≡ slice_index_or paths 0 c.index-paths-0.result) (c.as_slice-paths.ensures ∙ one.1) c.index-paths-0.is in
    one.1 ∙ ap (λ (path : List ℕ). path ∷ []) (sym here)
