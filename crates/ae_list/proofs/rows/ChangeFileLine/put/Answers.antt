use Rattle.std.proofs.Common.{◌++◌, ◌∷◌, [], ℕ, List, ap, ◌∙◌}
use Rattle.std.specs.Fmt.{decimal}
use Rattle.std.proofs.lemmas.Result.{on_ok_weaker}
use Rattle.ae_list.specs.Columns.{left, right}
use Rattle.ae_list.proofs.Lines.{with_second_apart}
use Rattle.ae_list.proofs.rows.ChangeFileLine.put.Goals as goal

pub returns : goal.returns
returns c =
    on_ok_weaker c.put_last.result
    (λ last. with_second_apart _ _ _ _ _ _ _ _ _ _
    (c.in_ok-put_column.ensures ∙ ap (λ (t : List ℕ). c.args.text.now.items ++ t ++ 32 ∷ []) (c.as_bytes.ensures.value ∙ c.word.ensures))
    (c.in_ok-put_left.ensures ∙ ap (λ (t : List ℕ). c.put_column.new.text.items ++ left 6 t) (c.as_bytes-2.ensures.value ∙ c.word-2.ensures))
    c.in_ok-put_blank.ensures
    (c.in_ok-put_number_column.ensures ∙ ap (λ (n : ℕ). c.put_blank.new.text.items ++ right 4 (decimal n) ++ 32 ∷ []) c.from.ensures)
    (last ∙ ap (λ (t : List ℕ). c.put_number_column.new.text.items ++ t ++ 10 ∷ []) c.bytes.ensures.value))
    c.put_last.ensures
