use Rattle.std.proofs.Common.{◌++◌, ◌∷◌, [], ℕ, List, ap, ◌∙◌}
use Rattle.std.specs.Fmt.{decimal}
use Rattle.std.proofs.lemmas.Result.{on_ok_weaker}
use Rattle.ae_list.specs.Columns.{right}
use Rattle.ae_list.proofs.Lines.{with_last_apart}
use Rattle.ae_list.proofs.rows.DeltaRowLine.put.Goals as goal

pub returns : goal.returns
returns c =
    on_ok_weaker c.put_last.result
    (λ last. with_last_apart _ _ _ _ _ _ _ _ _ _
    (c.in_ok-put_number_column.ensures ∙ ap (λ (n : ℕ). c.args.text.now.items ++ right 4 (decimal n) ++ 32 ∷ []) (c.from.ensures ∙ c.number.ensures.value))
    (c.in_ok-put_number_column-2.ensures ∙ ap (λ (n : ℕ). c.put_number_column.new.text.items ++ right 4 (decimal n) ++ 32 ∷ []) (c.from-2.ensures ∙ c.number-2.ensures.value))
    c.in_ok-put_moment.ensures
    c.in_ok-put_blank.ensures
    (last ∙ ap (λ (t : List ℕ). c.put_blank.new.text.items ++ t ++ 10 ∷ []) c.bytes.ensures.value))
    c.put_last.ensures
