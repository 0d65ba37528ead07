use Rattle.std.proofs.Common.{◌≡◌, ℕ, ◌+◌, ◌∙◌, List, ◌∷◌, length, drop, refl, sym, ap, subst}
use Rattle.std.specs.Prelude.{true, Option, Some, None, is_some, slice_get}
use Rattle.std.specs.List.{filter_map}
use Rattle.std.specs.Option.{option_map, option_and_then, unwrap_or}
use Rattle.std.proofs.lemmas.Option.{slice_get_read}
use Rattle.ae_types.specs.declared.file_table.FileRow.{FileRow}
use Rattle.ae_types.specs.declared.project.Project.{Project}
use Rattle.ae_types.specs.Trees.{TreeRow, tree_row, last_delta}
use Rattle.ae_report.specs.Rows.{Row, of_file, no_row}
use Rattle.ae_report.specs.Frames.{listed}
use Rattle.ae_report.proofs.Places.{filter-goes}
use Rattle.ae_report.proofs.rows.next_file.Goals as goal

some-mapped : (f : TreeRow → Row) (o : Option TreeRow) → is_some (option_map f o) ≡ is_some o
some-mapped f (Some x) = refl
some-mapped f None = refl

pub returns-then-stands-clause-goes : goal.returns-then-stands-clause-goes
returns-then-stands-clause-goes c =
    let at = c.loop-at.at in
    let files = c.files-rows.result.now in
    let delta = c.len-delta.result in
    let row = c.index-rows-at.result in
    let P : ℕ → List FileRow → Type 0 = λ d rs.
    filter_map (listed d) (drop c.args.from.at rs) ≡ unwrap_or (option_and_then (listed d) (slice_get rs at)) no_row ∷ filter_map (listed d) (drop (at + 1) rs) in
    let there : is_some (listed delta row) ≡ true = some-mapped (of_file (length row.past)) (tree_row delta row) ∙ sym c.stands.ensures ∙ c.if-stands.true in
    let step : P delta files = c.loop-at.invariant ∙ filter-goes (listed delta) files at row (slice_get_read files (length files) at row refl c.loop-at-test.true c.index-rows-at.is) there in
    let last : delta ≡ last_delta c.args.state.now = c.len-delta.ensures ∙ ap (λ (p : Project). length p.deltas) c.project.ensures.project in
    subst (λ d. P d c.args.state.now.files) last (subst (λ rs. P delta rs) c.files-rows.ensures step)
