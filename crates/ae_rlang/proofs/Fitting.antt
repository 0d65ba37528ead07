-- In a report that is read each operand fits.
use Rattle.std.proofs.Common.{◌≡◌, ℕ, suc, ◌∙◌, List, [], ◌∷◌, ◌++◌, length, refl, sym, ap, subst}
use Rattle.std.specs.Prelude.{Bool, true, false, Option, Some, None, not, nat_le, is_some, ◌||◌}
use Rattle.std.specs.Str.{bytes_eq}
use Rattle.std.proofs.lemmas.Bool.{or_parts}
use Rattle.ae_rlang.specs.declared.operator.Operator.{Operator}
use Rattle.ae_rlang.specs.declared.operator.Operator.TheVariants.{Or, And, Equal, Unequal, Less, AtMost, Plus, Minus}
use Rattle.ae_rlang.specs.declared.operator.Kind.{Kind}
use Rattle.ae_rlang.specs.declared.operator.Kind.TheVariants as kind_is
use Rattle.ae_rlang.specs.declared.operand.Bound.{Bound}
use Rattle.ae_rlang.specs.declared.table.Table.{Table}
use Rattle.ae_rlang.specs.declared.table.RowField.{RowField}
use Rattle.ae_rlang.specs.Table.{table_named, field_in, field_kind}
use Rattle.ae_rlang.specs.Operator.{earlier, bad_where, is_other, is_wrong, same_kind}
use Rattle.ae_rlang.specs.Report.{MeantCell, Deed, Deeds, deeds_of}
use Rattle.ae_rlang.specs.Written.{Expression, number, string, flag, named, field, timed, grouped, negated, operated, Cell, cell, right_cell, Cells, one, further, Test, no_test, where_test, Statement, title, columns, total, each, choice, choice_else, Statements, none, more}
use Rattle.ae_rlang.specs.Scope.{Scope, is_among, table_bound, kind_in, kind_of_name, kind_of_field, kind_within}
use Rattle.ae_rlang.specs.Meaning.{field_or_any, field_within, table_or_any, bound_within, meant, meant_cell, meant_cells, meant_test, meant_statement, meant_body}
use Rattle.ae_rlang.specs.Bad.{max_fors, bad_level, bad_field, first_bad, bad_cell, bad_cells, bad_operand, bad_header, bad_test, scope_within, bad_statement, bad_body}
use Rattle.ae_rlang.specs.Reads.{IsGood, whole_scope}
use Rattle.ae_rlang.specs.Fits.{kind_of, Takes, no_names, with_name, HasField, Fits, FitsAs, CellsFit, TestFits, DeedFits, DeedsFit}
use Rattle.ae_rlang.proofs.NoneBad.{first-none, second-none, good}

-- ---- kinds

same-kinds : (a b : Kind) → same_kind a b ≡ true → a ≡ b
same-kinds kind_is.Number kind_is.Number is = refl
same-kinds kind_is.Number kind_is.Text is = cc
same-kinds kind_is.Number kind_is.Flag is = cc
same-kinds kind_is.Text kind_is.Number is = cc
same-kinds kind_is.Text kind_is.Text is = refl
same-kinds kind_is.Text kind_is.Flag is = cc
same-kinds kind_is.Flag kind_is.Number is = cc
same-kinds kind_is.Flag kind_is.Text is = cc
same-kinds kind_is.Flag kind_is.Flag is = refl

not-other : (b : Bool) → not b ≡ false → b ≡ true
not-other true is = refl
not-other false is = cc

-- a kind that is known, and not to be another
its-kind : (found : Option Kind) (kind wanted : Kind) → found ≡ Some kind → is_other found wanted ≡ false → kind ≡ wanted
its-kind found kind wanted known is =
    same-kinds kind wanted (not-other (same_kind kind wanted) (sym (ap (λ (k : Option Kind). is_other k wanted) known) ∙ is))

both-kinds : (left right : Option Kind) (a b wanted : Kind) → left ≡ Some a → right ≡ Some b → (is_other left wanted || is_other right wanted) ≡ false → (a ≡ wanted) × (b ≡ wanted)
both-kinds left right a b wanted l r is =
    let parts = or_parts (is_other left wanted) (is_other right wanted) is in
    (its-kind left a wanted l parts.0, its-kind right b wanted r parts.1)

takes : (op : Operator) (left right : Option Kind) (a b : Kind) → left ≡ Some a → right ≡ Some b → is_wrong op left right ≡ false → Takes op a b
takes Or left right a b l r is = both-kinds left right a b kind_is.Flag l r is
takes And left right a b l r is = both-kinds left right a b kind_is.Flag l r is
takes Equal left right a b l r is = its-kind left a b l (sym (ap (λ (k : Option Kind). is_wrong Equal left k) r) ∙ is)
takes Unequal left right a b l r is = its-kind left a b l (sym (ap (λ (k : Option Kind). is_wrong Unequal left k) r) ∙ is)
takes Less left right a b l r is = both-kinds left right a b kind_is.Number l r is
takes AtMost left right a b l r is = both-kinds left right a b kind_is.Number l r is
takes Plus left right a b l r is = both-kinds left right a b kind_is.Number l r is
takes Minus left right a b l r is = both-kinds left right a b kind_is.Number l r is

-- ---- names

-- a name in the scope, as the names that stand for rows
abbrev pub seen_table : Option Table → Option (Option Table)
seen_table None = None
seen_table (Some table) = Some (Some table)

-- the names that are bound are these
abbrev pub AreBound : List Bound → (List ℕ → Option Table) → Type 0
AreBound bound names = (w : List ℕ) → table_bound w bound ≡ seen_table (names w)

found-table : (table : Option Table) → not (is_some table) ≡ false → table ≡ Some (table_or_any table)
found-table (Some t) is = refl
found-table None is = cc

bound-more : (bound : List Bound) (names : List ℕ → Option Table) (w t : List ℕ) (table : Table) → table_named t ≡ Some table → AreBound bound names → AreBound (bound_within w t bound) (with_name w table names)
bound-more bound names w t table is are v = go (bytes_eq w v) refl
  where
    go : (b : Bool) → bytes_eq w v ≡ b → table_bound v (bound_within w t bound) ≡ seen_table (with_name w table names v)
    go true e = rw e (ap Some is)
    go false e = rw e (are v)

stands-for-none : (table : Option Table) → is_some (seen_table table) ≡ false → table ≡ None
stands-for-none None is = refl
stands-for-none (Some table) is = cc

-- ---- fields

some-field : (found : Option RowField) → not (is_some found) ≡ false → found ≡ Some (field_or_any found)
some-field (Some f) is = refl
some-field None is = cc

its-field-kind : (found : Option RowField) → not (is_some found) ≡ false → kind_of_field found ≡ Some (field_kind (field_or_any found))
its-field-kind (Some f) is = refl
its-field-kind None is = cc

-- a field that isn't bad
field-fits : (table : Option Table) (l m : ℕ) (f : List ℕ) → bad_field (seen_table table) l m f ≡ None
    → HasField table (field_or_any (field_within (seen_table table) f)) × (kind_within (seen_table table) f ≡ Some (field_kind (field_or_any (field_within (seen_table table) f))))
field-fits None l m f is = absurd (let no : Some l ≡ None = is in cc)
field-fits (Some table) l m f is =
    let known = good (not (is_some (field_in table f))) m is in
    ((f, some-field (field_in table f) known), its-field-kind (field_in table f) known)

-- ---- expressions

-- an expression fits, and its kind is known
abbrev Known : Scope → (List ℕ → Option Table) → Expression → Type 0
Known scope names e = Fits names (meant scope.bound e) × (kind_in scope e ≡ Some (kind_of (meant scope.bound e)))

fits : (e : Expression) (scope : Scope) (level : ℕ) (names : List ℕ → Option Table) → AreBound scope.bound names → first_bad scope level e ≡ None → Known scope names e
fits (number l n) scope level names are is = (tt, refl)
fits (string l s) scope level names are is = (tt, refl)
fits (flag l b) scope level names are is = (tt, refl)
fits (named l w) scope level names are is = (tt, ap kind_of_name (not-other (is_among w scope.totals) (good (not (is_among w scope.totals)) l is)))
fits (field l w d m f) scope level names are is =
    let P : Option (Option Table) → Type 0 = λ t. HasField (names w) (field_or_any (field_within t f)) × (kind_within t f ≡ Some (field_kind (field_or_any (field_within t f)))) in
    subst P (sym (are w)) (field-fits (names w) l m f (sym (ap (λ (t : Option (Option Table)). bad_field t l m f) (are w)) ∙ is))
fits (timed l o e c) scope level names are is =
    let wrong = is_other (kind_in scope e) kind_is.Number in
    let inside = earlier (bad_level level o) (first_bad scope (suc level) e) in
    let free = first-none inside (bad_where wrong l) is in
    let inner = fits e scope (suc level) names are (second-none (bad_level level o) (first_bad scope (suc level) e) free) in
    ((its-kind (kind_in scope e) (kind_of (meant scope.bound e)) kind_is.Number inner.1 (good wrong l (second-none inside (bad_where wrong l) is)), inner.0), refl)
fits (grouped o e c) scope level names are is = fits e scope (suc level) names are (second-none (bad_level level o) (first_bad scope (suc level) e) is)
fits (negated l e) scope level names are is =
    let wrong = is_other (kind_in scope e) kind_is.Flag in
    let inner = fits e scope level names are (first-none (first_bad scope level e) (bad_where wrong l) is) in
    ((its-kind (kind_in scope e) (kind_of (meant scope.bound e)) kind_is.Flag inner.1 (good wrong l (second-none (first_bad scope level e) (bad_where wrong l) is)), inner.0), refl)
fits (operated op l a b) scope level names are is =
    let wrong = is_wrong op (kind_in scope a) (kind_in scope b) in
    let sides = earlier (first_bad scope level a) (first_bad scope level b) in
    let free = first-none sides (bad_where wrong l) is in
    let left = fits a scope level names are (first-none (first_bad scope level a) (first_bad scope level b) free) in
    let right = fits b scope level names are (second-none (first_bad scope level a) (first_bad scope level b) free) in
    let both = takes op (kind_in scope a) (kind_in scope b) (kind_of (meant scope.bound a)) (kind_of (meant scope.bound b)) left.1 right.1 (good wrong l (second-none sides (bad_where wrong l) is)) in
    ((both, left.0, right.0), refl)

-- behind a word that takes this kind
operand-fits : (e : Expression) (kind : Kind) (scope : Scope) (level : ℕ) (names : List ℕ → Option Table) (l : ℕ) → AreBound scope.bound names
    → bad_operand scope level e (is_other (kind_in scope e) kind) l ≡ None → FitsAs names kind (meant scope.bound e)
operand-fits e kind scope level names l are is =
    let wrong = is_other (kind_in scope e) kind in
    let inner = fits e scope level names are (first-none (first_bad scope level e) (bad_where wrong l) is) in
    (its-kind (kind_in scope e) (kind_of (meant scope.bound e)) kind inner.1 (good wrong l (second-none (first_bad scope level e) (bad_where wrong l) is)), inner.0)

-- ---- cells

cell-fits : (c : Cell) (scope : Scope) (level : ℕ) (names : List ℕ → Option Table) → AreBound scope.bound names → bad_cell scope level c ≡ None → Fits names (meant_cell scope.bound c).value
cell-fits (cell e c m w) scope level names are is = (fits e scope level names are is).0
cell-fits (right_cell e c m w r) scope level names are is = (fits e scope level names are is).0

cells-more : (names : List ℕ → Option Table) (cs : List MeantCell) (c : MeantCell) → CellsFit names cs → Fits names c.value → CellsFit names (cs ++ c ∷ [])
cells-more names [] c h last = (last, tt)
cells-more names (x ∷ cs) c h last = (h.0, cells-more names cs c h.1 last)

cells-fit : (cs : Cells) (scope : Scope) (level : ℕ) (names : List ℕ → Option Table) → AreBound scope.bound names → bad_cells scope level cs ≡ None → CellsFit names (meant_cells scope.bound cs)
cells-fit (one c) scope level names are is = (cell-fits c scope level names are is, tt)
cells-fit (further cs k c) scope level names are is =
    cells-more names (meant_cells scope.bound cs) (meant_cell scope.bound c)
    (cells-fit cs scope level names are (first-none (bad_cells scope level cs) (bad_cell scope level c) is))
    (cell-fits c scope level names are (second-none (bad_cells scope level cs) (bad_cell scope level c) is))

-- ---- statements

test-fits : (h : Test) (scope : Scope) (level : ℕ) (names : List ℕ → Option Table) → AreBound scope.bound names → bad_test scope level h ≡ None → TestFits names (meant_test scope.bound h)
test-fits no_test scope level names are is = tt
test-fits (where_test l e) scope level names are is = operand-fits e kind_is.Flag scope level names l are is

deeds-more : (names : List ℕ → Option Table) (ds : List Deed) (d : Deed) → DeedsFit names (deeds_of ds) → DeedFits names d → DeedsFit names (deeds_of (ds ++ d ∷ []))
deeds-more names [] d h last = (last, tt)
deeds-more names (x ∷ ds) d h last = (h.0, deeds-more names ds d h.1 last)

-- the head of a `for`: its name is new, and its table is known
head-fits : (scope : Scope) (names : List ℕ → Option Table) (l m : ℕ) (w : List ℕ) (k : ℕ) (t : List ℕ) → AreBound scope.bound names → bad_header scope l m w k t ≡ None
    → (names w ≡ None) × (table_named t ≡ Some (table_or_any (table_named t)))
head-fits scope names l m w k t are is =
    let third = bad_where (nat_le max_fors (length scope.bound)) l in
    let known = is_among w scope.totals || is_some (table_bound w scope.bound) in
    let last = bad_where (not (is_some (table_named t))) k in
    let front = earlier third (bad_where known m) in
    let new = (or_parts (is_among w scope.totals) (is_some (table_bound w scope.bound)) (good known m (second-none third (bad_where known m) (first-none front last is)))).1 in
    (stands-for-none (names w) (sym (ap is_some (are w)) ∙ new), found-table (table_named t) (good (not (is_some (table_named t))) k (second-none front last is)))

mutual
  statement-fits : (s : Statement) (scope : Scope) (level : ℕ) (names : List ℕ → Option Table) → AreBound scope.bound names → bad_statement scope level s ≡ None → DeedFits names (meant_statement scope.bound s)
  statement-fits (title l m s c) scope level names are is = tt
  statement-fits (columns l cs c) scope level names are is = cells-fit cs scope level names are is
  statement-fits (total l m w q e c) scope level names are is = operand-fits e kind_is.Number scope level names l are is
  statement-fits (each l m w i k t h o body c) scope level names are is =
      let within = scope_within w t scope in
      let table = table_or_any (table_named t) in
      let head = earlier (bad_header scope l m w k t) (bad_test within level h) in
      let opened = earlier head (bad_level level o) in
      let free = first-none head (bad_level level o) (first-none opened (bad_body within (suc level) body) is) in
      let new = head-fits scope names l m w k t are (first-none (bad_header scope l m w k t) (bad_test within level h) free) in
      let inside = bound-more scope.bound names w t table new.1 are in (
        new.0,
        test-fits h within level (with_name w table names) inside (second-none (bad_header scope l m w k t) (bad_test within level h) free),
        body-fits body within (suc level) (with_name w table names) inside (second-none opened (bad_body within (suc level) body) is),
      )
  statement-fits (choice l e o body c) scope level names are is =
      let operand = bad_operand scope level e (is_other (kind_in scope e) kind_is.Flag) l in
      let opened = earlier operand (bad_level level o) in (
        operand-fits e kind_is.Flag scope level names l are (first-none operand (bad_level level o) (first-none opened (bad_body scope (suc level) body) is)),
        body-fits body scope (suc level) names are (second-none opened (bad_body scope (suc level) body) is),
        tt,
      )
  statement-fits (choice_else l e o first c k p second q) scope level names are is =
      let operand = bad_operand scope level e (is_other (kind_in scope e) kind_is.Flag) l in
      let opened = earlier operand (bad_level level o) in
      let front = earlier opened (bad_body scope (suc level) first) in
      let again = earlier front (bad_level level p) in
      let free = first-none front (bad_level level p) (first-none again (bad_body scope (suc level) second) is) in (
        operand-fits e kind_is.Flag scope level names l are (first-none operand (bad_level level o) (first-none opened (bad_body scope (suc level) first) free)),
        body-fits first scope (suc level) names are (second-none opened (bad_body scope (suc level) first) free),
        body-fits second scope (suc level) names are (second-none again (bad_body scope (suc level) second) is),
      )

  body-fits : (ss : Statements) (scope : Scope) (level : ℕ) (names : List ℕ → Option Table) → AreBound scope.bound names → bad_body scope level ss ≡ None → DeedsFit names (deeds_of (meant_body scope.bound ss))
  body-fits none scope level names are is = tt
  body-fits (more ss s) scope level names are is =
      deeds-more names (meant_body scope.bound ss) (meant_statement scope.bound s)
      (body-fits ss scope level names are (first-none (bad_body scope level ss) (bad_statement scope level s) is))
      (statement-fits s scope level names are (second-none (bad_body scope level ss) (bad_statement scope level s) is))

pub good-fits : (report : Deeds) → IsGood report → DeedsFit no_names report
good-fits d good =
    let report = good.1 in
    subst (λ (x : Deeds). DeedsFit no_names x) (sym report.4) (body-fits report.0 (whole_scope report.1) 0 no_names (λ w. refl) report.3)
