use Rattle.std.proofs.Common.{◌++◌, codes, ℕ, List, ap, ◌∙◌}
use Rattle.std.proofs.lemmas.Result.{on_ok_weaker}
use Rattle.ae_list.specs.Listings.{field, standing}
use Rattle.ae_list.proofs.Lines.{four_lines}
use Rattle.ae_base.proofs.Results.{on_ok_of_err}
use Rattle.ae_list.proofs.details.put_standing.Goals as goal

pub returns : goal.returns
unfolding standing
returns c =
    on_ok_weaker c.put_user-3.result
    (λ last. four_lines _ _ _ _ _ _ _ _ _
    (c.in_ok-put_field.ensures ∙ ap (λ (value : List ℕ). c.args.text.now.items ++ field (codes "phase") value) (c.as_bytes.ensures.value ∙ c.word.ensures))
    c.in_ok-put_user.ensures c.in_ok-put_user-2.ensures last)
    c.put_user-3.ensures

-- ---- where memory runs out

pub returns-in_err-put_field : goal.returns-in_err-put_field
returns-in_err-put_field c = on_ok_of_err c.from_residual.result _ _ c.from_residual.ensures.1

pub returns-in_err-put_user : goal.returns-in_err-put_user
returns-in_err-put_user c = on_ok_of_err c.from_residual-in_err-put_user.result _ _ c.from_residual-in_err-put_user.ensures.1

pub returns-in_err-put_user-2 : goal.returns-in_err-put_user-2
returns-in_err-put_user-2 c = on_ok_of_err c.from_residual-in_err-put_user-2.result _ _ c.from_residual-in_err-put_user-2.ensures.1
