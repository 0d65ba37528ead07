-- Where nothing is bad, the reader keeps all that is written.
use Rattle.std.proofs.Common.{◌≡◌, ℕ, suc, ◌∙◌, List, [], ◌∷◌, ◌++◌, refl, ap}
use Rattle.std.specs.Prelude.{Bool, true, false, Some, None, nat_le}
use Rattle.ae_rlang.specs.declared.operator.Kind.TheVariants as kind_is
use Rattle.ae_rlang.specs.Operator.{earlier, bad_where, is_other, is_wrong}
use Rattle.ae_rlang.specs.Report.{Meant, MeantCell, Deed, Deeds, no_deeds, deeds_of}
use Rattle.ae_rlang.specs.Report as report
use Rattle.ae_rlang.specs.Table.{table_named}
use Rattle.ae_rlang.specs.Written.{Expression, number, string, flag, named, field, timed, grouped, negated, operated, Cell, cell, right_cell, Cells, one, further, Test, no_test, where_test, Statement, title, columns, total, each, choice, choice_else, Statements, none, more}
use Rattle.ae_rlang.specs.Scope.{Scope, kind_in}
use Rattle.ae_rlang.specs.Meaning.{table_or_any, meant, meant_cell, meant_cells, meant_test, meant_statement, meant_body}
use Rattle.ae_rlang.specs.Bad.{max_level, bad_level, first_bad, bad_cell, bad_cells, bad_operand, bad_header, bad_test, scope_within, bad_statement, bad_body}
use Rattle.ae_rlang.specs.Kept.{kept_where, deeds_where, kept, kept_cell, kept_cells, kept_test, kept_statement, kept_body}
use Rattle.ae_rlang.proofs.NoneBad.{first-none, second-none, good}

-- what opens at this level isn't too deep
group-kept : (level o : ℕ) (e : Meant) → bad_level level o ≡ None → kept_where (nat_le max_level level) o e ≡ e
group-kept level o e is = ap (λ (b : Bool). kept_where b o e) (good (nat_le max_level level) o is)

block-kept : (level o : ℕ) (ds others : List Deed) → bad_level level o ≡ None → ds ≡ others → deeds_where (nat_le max_level level) ds ≡ others
block-kept level o ds others is same = ap (λ (b : Bool). deeds_where b ds) (good (nat_le max_level level) o is) ∙ same

kept-meant : (e : Expression) (scope : Scope) (level : ℕ) → first_bad scope level e ≡ None → kept scope.bound level e ≡ meant scope.bound e
kept-meant (number l n) scope level is = refl
kept-meant (string l s) scope level is = refl
kept-meant (flag l b) scope level is = refl
kept-meant (named l w) scope level is = refl
kept-meant (field l w d m f) scope level is = refl
kept-meant (timed l o e c) scope level is =
    let inside = earlier (bad_level level o) (first_bad scope (suc level) e) in
    let free = first-none inside (bad_where (is_other (kind_in scope e) kind_is.Number) l) is in
    ap (report.timed l)
    (group-kept level o (kept scope.bound (suc level) e) (first-none (bad_level level o) (first_bad scope (suc level) e) free)
    ∙ kept-meant e scope (suc level) (second-none (bad_level level o) (first_bad scope (suc level) e) free))
kept-meant (grouped o e c) scope level is =
    group-kept level o (kept scope.bound (suc level) e) (first-none (bad_level level o) (first_bad scope (suc level) e) is)
    ∙ kept-meant e scope (suc level) (second-none (bad_level level o) (first_bad scope (suc level) e) is)
kept-meant (negated l e) scope level is =
    ap (report.negated l) (kept-meant e scope level (first-none (first_bad scope level e) (bad_where (is_other (kind_in scope e) kind_is.Flag) l) is))
kept-meant (operated op l a b) scope level is =
    let sides = earlier (first_bad scope level a) (first_bad scope level b) in
    let free = first-none sides (bad_where (is_wrong op (kind_in scope a) (kind_in scope b)) l) is in
    let left : kept scope.bound level a ≡ meant scope.bound a = kept-meant a scope level (first-none (first_bad scope level a) (first_bad scope level b) free) in
    let right : kept scope.bound level b ≡ meant scope.bound b = kept-meant b scope level (second-none (first_bad scope level a) (first_bad scope level b) free) in
    λ i. report.operated l op (left i) (right i)

operand-meant : (e : Expression) (scope : Scope) (level : ℕ) (wrong : Bool) (l : ℕ) → bad_operand scope level e wrong l ≡ None → kept scope.bound level e ≡ meant scope.bound e
operand-meant e scope level wrong l is = kept-meant e scope level (first-none (first_bad scope level e) (bad_where wrong l) is)

cell-meant : (c : Cell) (scope : Scope) (level : ℕ) → bad_cell scope level c ≡ None → kept_cell scope.bound level c ≡ meant_cell scope.bound c
cell-meant (cell e c m w) scope level is = ap (λ (v : Meant). record { value = v; width = w; right = false }) (kept-meant e scope level is)
cell-meant (right_cell e c m w r) scope level is = ap (λ (v : Meant). record { value = v; width = w; right = true }) (kept-meant e scope level is)

cells-meant : (cs : Cells) (scope : Scope) (level : ℕ) → bad_cells scope level cs ≡ None → kept_cells scope.bound level cs ≡ meant_cells scope.bound cs
cells-meant (one c) scope level is = ap (λ (x : MeantCell). x ∷ []) (cell-meant c scope level is)
cells-meant (further cs k c) scope level is =
    let front = cells-meant cs scope level (first-none (bad_cells scope level cs) (bad_cell scope level c) is) in
    let last = cell-meant c scope level (second-none (bad_cells scope level cs) (bad_cell scope level c) is) in
    λ i. front i ++ last i ∷ []

test-meant : (h : Test) (scope : Scope) (level : ℕ) → bad_test scope level h ≡ None → kept_test scope.bound level h ≡ meant_test scope.bound h
test-meant no_test scope level is = refl
test-meant (where_test l e) scope level is = ap Some (operand-meant e scope level (is_other (kind_in scope e) kind_is.Flag) l is)

mutual
  statement-meant : (s : Statement) (scope : Scope) (level : ℕ) → bad_statement scope level s ≡ None → kept_statement scope.bound level s ≡ meant_statement scope.bound s
  statement-meant (title l m s c) scope level is = refl
  statement-meant (columns l cs c) scope level is = ap report.columns (cells-meant cs scope level is)
  statement-meant (total l m w q e c) scope level is = ap (report.add l w) (operand-meant e scope level (is_other (kind_in scope e) kind_is.Number) l is)
  statement-meant (each l m w i k t h o body c) scope level is =
      let within = scope_within w t scope in
      let head = earlier (bad_header scope l m w k t) (bad_test within level h) in
      let opened = earlier head (bad_level level o) in
      let free = first-none opened (bad_body within (suc level) body) is in
      let test = test-meant h within level (second-none (bad_header scope l m w k t) (bad_test within level h) (first-none head (bad_level level o) free)) in
      let inside = block-kept level o (kept_body within.bound (suc level) body) (meant_body within.bound body) (second-none head (bad_level level o) free)
      (body-meant body within (suc level) (second-none opened (bad_body within (suc level) body) is)) in
      λ i. report.each w (table_or_any (table_named t)) (test i) (deeds_of (inside i))
  statement-meant (choice l e o body c) scope level is =
      let wrong = is_other (kind_in scope e) kind_is.Flag in
      let opened = earlier (bad_operand scope level e wrong l) (bad_level level o) in
      let free = first-none opened (bad_body scope (suc level) body) is in
      let test = operand-meant e scope level wrong l (first-none (bad_operand scope level e wrong l) (bad_level level o) free) in
      let inside = block-kept level o (kept_body scope.bound (suc level) body) (meant_body scope.bound body) (second-none (bad_operand scope level e wrong l) (bad_level level o) free)
      (body-meant body scope (suc level) (second-none opened (bad_body scope (suc level) body) is)) in
      λ i. report.choose (test i) (deeds_of (inside i)) no_deeds
  statement-meant (choice_else l e o first c k p second q) scope level is =
      let wrong = is_other (kind_in scope e) kind_is.Flag in
      let opened = earlier (bad_operand scope level e wrong l) (bad_level level o) in
      let front = earlier opened (bad_body scope (suc level) first) in
      let again = earlier front (bad_level level p) in
      let free = first-none again (bad_body scope (suc level) second) is in
      let whole = first-none front (bad_level level p) free in
      let start = first-none opened (bad_body scope (suc level) first) whole in
      let test = operand-meant e scope level wrong l (first-none (bad_operand scope level e wrong l) (bad_level level o) start) in
      let one = block-kept level o (kept_body scope.bound (suc level) first) (meant_body scope.bound first) (second-none (bad_operand scope level e wrong l) (bad_level level o) start)
      (body-meant first scope (suc level) (second-none opened (bad_body scope (suc level) first) whole)) in
      let other = block-kept level p (kept_body scope.bound (suc level) second) (meant_body scope.bound second) (second-none front (bad_level level p) free)
      (body-meant second scope (suc level) (second-none again (bad_body scope (suc level) second) is)) in
      λ i. report.choose (test i) (deeds_of (one i)) (deeds_of (other i))

  pub body-meant : (ss : Statements) (scope : Scope) (level : ℕ) → bad_body scope level ss ≡ None → kept_body scope.bound level ss ≡ meant_body scope.bound ss
  body-meant none scope level is = refl
  body-meant (more ss s) scope level is =
      let front = body-meant ss scope level (first-none (bad_body scope level ss) (bad_statement scope level s) is) in
      let last = statement-meant s scope level (second-none (bad_body scope level ss) (bad_statement scope level s) is) in
      λ i. front i ++ last i ∷ []
