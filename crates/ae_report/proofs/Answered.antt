-- What a report that was read computes has operands of their kinds.
use Rattle.std.proofs.Common.{◌≡◌, ◌∙◌, inl, inr, ℕ, List, [], ◌∷◌, sym, subst}
use Rattle.std.specs.Prelude.{Option, Some, None}
use Rattle.std.proofs.lemmas.List.Elements.{All-contains}
use Rattle.ae_rlang.specs.declared.operator.Kind.{Kind}
use Rattle.ae_rlang.specs.declared.operator.Kind.TheVariants as kind_is
use Rattle.ae_rlang.specs.declared.table.Table.{Table}
use Rattle.ae_rlang.specs.Report.{Meant, operated, negated, number, text, flag, total, field, timed, MeantCell, Deed, Deeds, title, columns, add, each, choose, no_deeds, deed}
use Rattle.ae_rlang.specs.Reads.{IsGood}
use Rattle.ae_rlang.specs.Fits.{no_names, with_name, Fits, FitsAs, CellsFit, TestFits, DeedFits, DeedsFit}
use Rattle.ae_rlang.proofs.Fitting.{good-fits}
use Rattle.ae_types.specs.Observation.{Observation}
use Rattle.ae_report.specs.declared.total.Tally.{Tally}
use Rattle.ae_report.specs.Asked.{Asked, asked, AsksCell, AsksTest, Asks, AsksIn, OperandsFit, IsAnswered}
use Rattle.ae_report.specs.Kinds.{IsRowOf, AreRows}
use Rattle.ae_report.specs.Rows.{rows}
use Rattle.ae_report.specs.Values.{Binding, Known}
use Rattle.ae_report.proofs.Fitting.{values-fit, none-bound, bound-row, all-rows}

operands-fit : (e : Meant) (names : List ℕ → Option Table) (known : Known) → Fits names e → AreRows names known.bound → OperandsFit e known
operands-fit (operated line op left right) names known fits are = (
  fits.0,
  λ v is. values-fit left names known v fits.1 are is,
  λ v is. values-fit right names known v fits.2 are is,
  operands-fit left names known fits.1 are,
  operands-fit right names known fits.2 are,
)
operands-fit (negated line e) names known fits are = (λ v is. values-fit e names known v fits.1 are is ∙ fits.0, operands-fit e names known fits.1 are)
operands-fit (number line n) names known fits are = tt
operands-fit (text line s) names known fits are = tt
operands-fit (flag line b) names known fits are = tt
operands-fit (total line name) names known fits are = tt
operands-fit (field line name f) names known fits are = tt
operands-fit (timed line e) names known fits are = (λ v is. values-fit e names known v fits.1 are is ∙ fits.0, operands-fit e names known fits.1 are)

-- what is computed of any kind, and of one
any-answered : (e : Meant) (names : List ℕ → Option Table) (bound : List Binding) (a : Asked) (totals : List Tally) → Fits names e → AreRows names bound → a ≡ asked e None bound → IsAnswered a totals
any-answered e names bound a totals fits are is =
    subst (λ (x : Asked). IsAnswered x totals) (sym is) (operands-fit e names (record { bound = bound; totals = totals }) fits are, tt)

kind-answered : (e : Meant) (kind : Kind) (names : List ℕ → Option Table) (bound : List Binding) (a : Asked) (totals : List Tally) → FitsAs names kind e → AreRows names bound → a ≡ asked e (Some kind) bound
    → IsAnswered a totals
kind-answered e kind names bound a totals fits are is =
    let known : Known = record { bound = bound; totals = totals } in
    subst (λ (x : Asked). IsAnswered x totals) (sym is) (operands-fit e names known fits.1 are, λ v told. values-fit e names known v fits.1 are told ∙ fits.0)

cells-answered : (cells : List MeantCell) (names : List ℕ → Option Table) (bound : List Binding) (a : Asked) (totals : List Tally) → CellsFit names cells → AreRows names bound → AsksCell cells bound a
    → IsAnswered a totals
cells-answered [] names bound a totals fits are h = absurd h
cells-answered (cell ∷ cells) names bound a totals fits are (inl is) = any-answered cell.value names bound a totals fits.0 are is
cells-answered (cell ∷ cells) names bound a totals fits are (inr h) = cells-answered cells names bound a totals fits.1 are h

test-answered : (test : Option Meant) (names : List ℕ → Option Table) (bound : List Binding) (a : Asked) (totals : List Tally) → TestFits names test → AreRows names bound → AsksTest test bound a
    → IsAnswered a totals
test-answered None names bound a totals fits are h = absurd h
test-answered (Some test) names bound a totals fits are is = kind-answered test kind_is.Flag names bound a totals fits are is

mutual
  deed-answered : (d : Deed) (o : Observation) (names : List ℕ → Option Table) (bound : List Binding) (a : Asked) (totals : List Tally) → DeedFits names d → AreRows names bound → Asks d o bound a
      → IsAnswered a totals
  deed-answered (title s) o names bound a totals fits are h = absurd h
  deed-answered (columns cells) o names bound a totals fits are h = cells-answered cells names bound a totals fits are h
  deed-answered (add line name e) o names bound a totals fits are is = kind-answered e kind_is.Number names bound a totals fits are is
  deed-answered (each name table test body) o names bound a totals fits are (row, there, inl h) =
      test-answered test (with_name name table names) _ a totals fits.1
      (bound-row names bound name table row are fits.0 (All-contains (IsRowOf table) (rows o table) row (all-rows table o) there)) h
  deed-answered (each name table test body) o names bound a totals fits are (row, there, inr h) =
      deeds-answered body o (with_name name table names) _ a totals fits.2
      (bound-row names bound name table row are fits.0 (All-contains (IsRowOf table) (rows o table) row (all-rows table o) there)) h
  deed-answered (choose test first second) o names bound a totals fits are (inl h) = test-answered (Some test) names bound a totals fits.0 are h
  deed-answered (choose test first second) o names bound a totals fits are (inr (inl h)) = deeds-answered first o names bound a totals fits.1 are h
  deed-answered (choose test first second) o names bound a totals fits are (inr (inr h)) = deeds-answered second o names bound a totals fits.2 are h

  deeds-answered : (ds : Deeds) (o : Observation) (names : List ℕ → Option Table) (bound : List Binding) (a : Asked) (totals : List Tally) → DeedsFit names ds → AreRows names bound → AsksIn ds o bound a
      → IsAnswered a totals
  deeds-answered no_deeds o names bound a totals fits are h = absurd h
  deeds-answered (deed d ds) o names bound a totals fits are (inl h) = deed-answered d o names bound a totals fits.0 are h
  deeds-answered (deed d ds) o names bound a totals fits are (inr h) = deeds-answered ds o names bound a totals fits.1 are h

pub good-answered : (report : Deeds) → IsGood report → (o : Observation) (a : Asked) (totals : List Tally) → AsksIn report o [] a → IsAnswered a totals
good-answered report good o a totals h = deeds-answered report o no_names [] a totals (good-fits report good) none-bound h
