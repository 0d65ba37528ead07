use Rattle.std.proofs.Common.{sym, rules, List, ℕ}
use Rattle.std.proofs.lemmas.Fn.{always_returns_same}
use Rattle.ae_base.specs.Rows.{text_cmp}
use Rattle.ae_outside.specs.declared.dir.Content.{Content}
use Rattle.ae_types.proofs.Keys.{by_text}
use Rattle.ae_types.proofs.BinarySearch.{search-ok, search-err}
use Rattle.ae_types.proofs.Searched.{test-ascends}
use Rattle.ae_machine.specs.Fits.{path_of_row}
use Rattle.ae_machine.proofs.seen.row_in.Goals as goal

pub returns-in-Ok : goal.returns-in-Ok
returns-in-Ok c = sym (search-ok by_text path_of_row c.args.path.now c.args.rows.now c.in-Ok.at c.index-rows-at.result (test-ascends by_text path_of_row c.args.rows.now c.requires) c.in-Ok.ensures.bound
    (c.in-Ok.ensures.position (λ (y : List ℕ × Content). text_cmp (path_of_row y) c.args.path.now) (always_returns_same _ _ _ (λ a r f' called. search rules)))
    c.index-rows-at.is)

pub returns-in-Err : goal.returns-in-Err
returns-in-Err c = sym (search-err by_text path_of_row c.args.path.now c.args.rows.now c.in-Err.field-0 (test-ascends by_text path_of_row c.args.rows.now c.requires)
    (c.in-Err.ensures.position (λ (y : List ℕ × Content). text_cmp (path_of_row y) c.args.path.now) (always_returns_same _ _ _ (λ a r f' called. search rules))))
