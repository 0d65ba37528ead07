-- In a report that is read at most two `for` stand in each other.
use Rattle.std.proofs.Common.{◌≡◌, ℕ, zero, suc, ◌+◌, ◌≤◌, ◌∙◌, List, [], ◌∷◌, ◌++◌, length, sym, ap, arith}
use Rattle.std.specs.Prelude.{true, false, None, nat_le, is_some, not, ◌||◌}
use Rattle.std.proofs.lemmas.Bool.{le-leb, false≢true}
use Rattle.ae_rlang.specs.Report.{Deed, Deeds, deeds_of}
use Rattle.ae_rlang.specs.Operator.{earlier, bad_where, is_other}
use Rattle.ae_rlang.specs.Written.{Statement, title, columns, total, each, choice, choice_else, Statements, none, more}
use Rattle.ae_rlang.specs.Scope.{Scope, is_among, table_bound, kind_in}
use Rattle.ae_rlang.specs.Table.{table_named}
use Rattle.ae_rlang.specs.declared.operator.Kind.TheVariants as kind_is
use Rattle.ae_rlang.specs.Meaning.{meant_statement, meant_body}
use Rattle.ae_rlang.specs.Bad.{max_fors, bad_statement, bad_body, bad_header, bad_test, bad_level, bad_operand, scope_within}
use Rattle.ae_rlang.specs.Reads.{IsGood, whole_scope}
use Rattle.ae_rlang.specs.Shape.{fors, fors_of}
use Rattle.ae_rlang.proofs.NoneBad.{first-none, second-none, good}

-- fewer than two are open
below-two : (n : ℕ) → nat_le 2 n ≡ false → n + 1 ≤ 2
below-two zero is = omega arith
below-two (suc zero) is = omega arith
below-two (suc (suc n)) is = absurd (let yes : nat_le 2 (suc (suc n)) ≡ true = le-leb 2 (suc (suc n)) (omega arith) in false≢true (sym is ∙ yes))

fors-more : (ds : List Deed) (d : Deed) (k : ℕ) → fors (deeds_of ds) + k ≤ 2 → fors_of d + k ≤ 2 → fors (deeds_of (ds ++ d ∷ [])) + k ≤ 2
fors-more [] d k h one = omega (arith, h, one)
fors-more (x ∷ ds) d k h one = let rest : fors (deeds_of (ds ++ d ∷ [])) + k ≤ 2 = fors-more ds d k (omega (arith, h)) one in omega (arith, h, rest)

mutual
  few-statement : (scope : Scope) (level : ℕ) (s : Statement) → length scope.bound ≤ 2 → bad_statement scope level s ≡ None → fors_of (meant_statement scope.bound s) + length scope.bound ≤ 2
  few-statement scope level (title l m s c) h is = omega (arith, h)
  few-statement scope level (columns l cs c) h is = omega (arith, h)
  few-statement scope level (total l m w q e c) h is = omega (arith, h)
  few-statement scope level (each l m w i k t hd o body c) h is =
      let within = scope_within w t scope in
      let header = bad_header scope l m w k t in
      let test = bad_test within level hd in
      let front = earlier (earlier header test) (bad_level level o) in
      let back = bad_body within (suc level) body in
      let third = bad_where (nat_le max_fors (length scope.bound)) l in
      let names = bad_where (is_among w scope.totals || is_some (table_bound w scope.bound)) m in
      let table = bad_where (not (is_some (table_named t))) k in
      let header_good : earlier (earlier third names) table ≡ None = first-none header test (first-none (earlier header test) (bad_level level o) (first-none front back is)) in
      let open_few : nat_le 2 (length scope.bound) ≡ false = good (nat_le 2 (length scope.bound)) l (first-none third names (first-none (earlier third names) table header_good)) in
      let room : length scope.bound + 1 ≤ 2 = below-two (length scope.bound) open_few in
      let inner : fors (deeds_of (meant_body within.bound body)) + suc (length scope.bound) ≤ 2 = few-body within (suc level) body (omega (arith, room)) (second-none front back is) in
      omega (arith, inner)
  few-statement scope level (choice l e o body c) h is =
      let operand = bad_operand scope level e (is_other (kind_in scope e) kind_is.Flag) l in
      let inner = few-body scope (suc level) body h (second-none (earlier operand (bad_level level o)) (bad_body scope (suc level) body) is) in
      omega (arith, h, inner)
  few-statement scope level (choice_else l e o first c k p second q) h is =
      let operand = bad_operand scope level e (is_other (kind_in scope e) kind_is.Flag) l in
      let one_bad = bad_body scope (suc level) first in
      let other_bad = bad_body scope (suc level) second in
      let front = earlier (earlier operand (bad_level level o)) one_bad in
      let one = few-body scope (suc level) first h (second-none (earlier operand (bad_level level o)) one_bad (first-none front (bad_level level p) (first-none (earlier front (bad_level level p)) other_bad is))) in
      let other = few-body scope (suc level) second h (second-none (earlier front (bad_level level p)) other_bad is) in
      omega (arith, one, other)

  few-body : (scope : Scope) (level : ℕ) (ss : Statements) → length scope.bound ≤ 2 → bad_body scope level ss ≡ None → fors (deeds_of (meant_body scope.bound ss)) + length scope.bound ≤ 2
  few-body scope level none h is = omega (arith, h)
  few-body scope level (more ss s) h is =
      fors-more (meant_body scope.bound ss) (meant_statement scope.bound s) (length scope.bound) (few-body scope level ss h (first-none (bad_body scope level ss) (bad_statement scope level s) is)) (few-statement scope level s h (second-none (bad_body scope level ss) (bad_statement scope level s) is))

pub few-fors : (d : Deeds) → IsGood d → fors d ≤ 2
few-fors d good =
    let report = good.1 in
    let few : fors (deeds_of (meant_body [] report.0)) + 0 ≤ 2 = few-body (whole_scope report.1) 0 report.0 (omega arith) report.3 in
    let same : fors d ≡ fors (deeds_of (meant_body [] report.0)) = ap fors report.4 in
    omega (arith, few, same)
