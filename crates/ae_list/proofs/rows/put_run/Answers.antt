use Rattle.std.proofs.Common.{◌++◌, ◌∷◌, [], ℕ, List, ap, ◌∙◌}
use Rattle.std.specs.Fmt.{decimal}
use Rattle.std.proofs.lemmas.Result.{on_ok_weaker}
use Rattle.ae_list.specs.Listings.{run_columns}
use Rattle.ae_list.proofs.Lines.{with_third_apart}
use Rattle.ae_list.proofs.rows.put_run.Goals as goal

pub returns : goal.returns
unfolding run_columns
returns c =
    on_ok_weaker c.put_column-3.result
    (λ last. with_third_apart _ _ _ _ _ _ _ _ _ _
    (c.in_ok-put_column.ensures ∙ ap (λ (t : List ℕ). c.args.text.now.items ++ t ++ 32 ∷ []) (c.as_bytes.ensures.value ∙ c.word.ensures))
    (c.in_ok-put_column-2.ensures ∙ ap (λ (t : List ℕ). c.put_column.new.text.items ++ t ++ 32 ∷ []) (c.as_bytes-2.ensures.value ∙ c.word-2.ensures))
    (c.in_ok-put_number.ensures ∙ ap (λ (n : ℕ). c.put_column-2.new.text.items ++ decimal n) c.from.ensures)
    c.in_ok-put_blank.ensures
    (last ∙ ap (λ (t : List ℕ). c.put_blank.new.text.items ++ t ++ 32 ∷ []) (c.as_bytes-3.ensures.value ∙ c.clean_word.ensures)))
    c.put_column-3.ensures
