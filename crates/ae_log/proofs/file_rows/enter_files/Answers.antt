use Rattle.std.proofs.Common.{◌+◌, ◌∙◌, ◌∷◌, sym, ap, subst, drop}
use Rattle.std.proofs.lemmas.List.{drop_more}
use Rattle.ae_types.specs.Found.{row_path}
use Rattle.ae_types.proofs.Keys.{by_text}
use Rattle.ae_types.proofs.Ordered.{Ascends, put-ascends}
use Rattle.ae_log.specs.After.{all_entered}
use Rattle.ae_base.proofs.Results.{on_ok_of_err}
use Rattle.ae_log.proofs.file_rows.enter_files.Goals as goal

pub loop-file-preserved : goal.loop-file-preserved
loop-file-preserved c = record {
  left =
      ap (all_entered c.args.delta (drop (c.loop-file.file-index + 1) c.args.files.now)) c.in_ok-enter_file.ensures
      ∙ sym (ap (λ fs. all_entered c.args.delta fs c.loop-file.rows.items)
      (drop_more c.args.files.now c.loop-file.file-index c.file-item.result c.loop-file-test.true ∙ ap (λ f. f ∷ drop (c.loop-file.file-index + 1) c.args.files.now) (sym c.file-item.is)))
      ∙ c.loop-file.invariant.left;
  ascend = subst (λ rows. Ascends by_text row_path rows) (sym c.in_ok-enter_file.ensures) (put-ascends by_text row_path _ c.loop-file.rows.items c.loop-file.invariant.ascend);
}

-- ---- where memory runs out

pub returns-in_err-enter_file : goal.returns-in_err-enter_file
returns-in_err-enter_file c = on_ok_of_err c.from_residual.result _ _ c.from_residual.ensures.1
