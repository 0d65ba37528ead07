use Rattle.std.proofs.Common.{◌∙◌, ◌+◌, ap, drop, subst, sym, List, ℕ}
use Rattle.std.proofs.lemmas.List.{drop_more}
use Rattle.ae_types.specs.Ordered.{Ascends, itself, put_by}
use Rattle.ae_base.specs.Rows.{text_cmp}
use Rattle.ae_types.proofs.Keys.{by_text}
use Rattle.ae_machine.specs.Directories.{put_paths}
use Rattle.ae_types.proofs.Ordered.{put-ascends}
use Rattle.ae_exec.proofs.directories.paths_in_order.Goals as goal

pub loop-path-preserved : goal.loop-path-preserved
loop-path-preserved c = record {
  made = c.loop-path.invariant.made
      ∙ ap (λ (paths : List (List ℕ)). put_paths paths c.loop-path.ordered.items) (drop_more c.as_slice-path-items.result.now c.loop-path.path-index c.path-item.result c.loop-path-test.true)
      ∙ ap (λ (made : List (List ℕ)). put_paths (drop (c.loop-path.path-index + 1) c.as_slice-path-items.result.now) made)
      (ap (λ (path : List ℕ). put_by text_cmp itself path c.loop-path.ordered.items) (sym c.path-item.is ∙ sym c.in_ok-copy.ensures) ∙ sym c.in_ok-put_path.ensures);
  ascend = subst (λ (paths : List (List ℕ)). Ascends text_cmp itself paths) (sym c.in_ok-put_path.ensures) (put-ascends by_text itself c.in_ok-copy.field-0 c.loop-path.ordered.items c.loop-path.invariant.ascend);
}
