use Rattle.std.proofs.Common.{◌≡◌, ◌+◌, List, [], ◌∷◌, ◌++◌, None, take, drop, sym, ◌∙◌, ap, subst}
use Rattle.std.proofs.lemmas.List.{take_more, drop_more, take-append-drop}
use Rattle.ae_types.specs.declared.project.DeltaRow.{DeltaRow}
use Rattle.ae_types.specs.declared.project.Project.{Project}
use Rattle.ae_audit.specs.declared.certificate.CertificateRow.{CertificateRow}
use Rattle.ae_audit.specs.Shown.{AreCertificates, FirstNotShown}
use Rattle.ae_audit.specs.Steps.{IsFound}
use Rattle.ae_audit.proofs.Ends.{certified-more, first-after}
use Rattle.ae_audit.proofs.certifying.certify.Goals as goal

pub returns-in-None : goal.returns-in-None
returns-in-None c =
    let items = c.as_slice-made-items.result.now in
    let all : items ≡ c.args.state.now.project.deltas = c.as_slice-made-items.ensures ∙ ap (λ (x : Project). x.deltas) c.project.ensures.project in
    let splits : take c.loop-made.made-index items ++ c.made-item.result ∷ drop (c.loop-made.made-index + 1) items ≡ items =
    sym (sym (take-append-drop c.loop-made.made-index items)
    ∙ ap (λ (rest : List DeltaRow). take c.loop-made.made-index items ++ rest) (drop_more items c.loop-made.made-index c.made-item.result c.loop-made-test.true ∙ ap (λ (x : DeltaRow). x ∷ drop (c.loop-made.made-index + 1) items) (sym c.made-item.is))) in
    let bad : IsFound c.args.state.now c.made-item.result None = subst (IsFound c.args.state.now c.made-item.result) c.in-None.is c.in_ok-row.ensures.row in
    subst (λ (deltas : List DeltaRow). FirstNotShown c.args.state.now deltas c.made-item.result.delta) (splits ∙ all)
    (first-after c.args.state.now (take c.loop-made.made-index items) c.loop-made.rows c.made-item.result (drop (c.loop-made.made-index + 1) items) c.loop-made.invariant bad)

pub loop-made-preserved : goal.loop-made-preserved
loop-made-preserved c =
    let items = c.as_slice-made-items.result.now in
    let more : take (c.loop-made.made-index + 1) items ≡ take c.loop-made.made-index items ++ c.made-item.result ∷ [] =
    take_more items c.loop-made.made-index c.made-item.result c.loop-made-test.true ∙ ap (λ (x : DeltaRow). take c.loop-made.made-index items ++ x ∷ []) (sym c.made-item.is) in
    subst (λ (deltas : List DeltaRow). AreCertificates c.args.state.now deltas c.push.new.self) (sym more)
    (subst (λ (rows : List CertificateRow). AreCertificates c.args.state.now (take c.loop-made.made-index items ++ c.made-item.result ∷ []) rows) (sym c.in_ok-push-in-Some.ensures.ok)
    (certified-more c.args.state.now (take c.loop-made.made-index items) c.loop-made.rows c.made-item.result c.in-Some.row c.loop-made.invariant (subst (IsFound c.args.state.now c.made-item.result) c.in-Some.is c.in_ok-row.ensures.row)))
