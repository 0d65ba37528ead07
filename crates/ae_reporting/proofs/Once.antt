-- What a report is answered, once this stands and is read.
use Rattle.std.proofs.Common.{◌≡◌, ◌∙◌, refl, sym, ap, subst, ℕ, true, false, List, Option, Some, None, Result, Ok, Err}
use Rattle.ae_base.specs.declared.refusal.Refusal.{Refusal}
use Rattle.ae_base.specs.declared.refusal.Refusal.TheVariants.{BadReport, ReportNumber}
use Rattle.ae_outside.specs.declared.dir.Content.{Content}
use Rattle.ae_outside.specs.declared.dir.Content.TheVariants.{Absent, Bytes, TooLong}
use Rattle.ae_types.specs.Observation.{Observation}
use Rattle.ae_rlang.specs.Report.{Deeds}
use Rattle.ae_rlang.specs.Reads.{IsReport}
use Rattle.ae_rlang.proofs.Refused.{never_both, one_line, one_report}
use Rattle.ae_report.specs.Out.{out}
use Rattle.ae_reporting.specs.Laws.{HasOneAnswer}
use Rattle.ae_reporting.specs.Reports.{Answer, Asked, IsFileRefused, IsThere, Prints, Reports, bad, is_asked, no_file, no_project, of_bytes, of_no_bytes, other_project, out_of_range, printed, too_long}

-- ---- bytes print one thing

module _ (o : Observation) (bytes : List ℕ) where
  same_out : (one other : Deeds) (x y : Result (List ℕ) ℕ) → IsReport bytes one → IsReport bytes other → out one o ≡ x → out other o ≡ y → x ≡ y
  same_out one other x y is was out_is out_was = sym out_is ∙ ap (λ (report : Deeds). out report o) (one_report bytes one other is was) ∙ out_was

  lines_same : (x y : List ℕ) → ◌≡◌ {A = Result (List ℕ) ℕ} (Ok x) (Ok y) → ◌≡◌ {A = Answer} (Ok x) (Ok y)
  lines_same x y same = let is : x ≡ y = cc in ap Ok is

  line_same : (x y : ℕ) → ◌≡◌ {A = Result (List ℕ) ℕ} (Err x) (Err y) → ◌≡◌ {A = Answer} (Err (ReportNumber x)) (Err (ReportNumber y))
  line_same x y same = let is : x ≡ y = cc in ap (λ (line : ℕ). Err (ReportNumber line)) is

  never_out : (x : List ℕ) (y : ℕ) → ◌≡◌ {A = Result (List ℕ) ℕ} (Ok x) (Err y) → ⊥
  never_out x y same = cc

  pub prints_once : (one other : Answer) → Prints o bytes one → Prints o bytes other → one ≡ other
  prints_once _ _ (printed r x is out_is) (printed s y was out_was) = lines_same x y (same_out r s (Ok x) (Ok y) is was out_is out_was)
  prints_once _ _ (printed r x is out_is) (out_of_range s y was out_was) = absurd (never_out x y (same_out r s (Ok x) (Err y) is was out_is out_was))
  prints_once _ _ (printed r x is out_is) (bad line wrong) = absurd (never_both bytes r line is wrong)
  prints_once _ _ (out_of_range r x is out_is) (printed s y was out_was) = absurd (never_out y x (same_out s r (Ok y) (Err x) was is out_was out_is))
  prints_once _ _ (out_of_range r x is out_is) (out_of_range s y was out_was) = line_same x y (same_out r s (Err x) (Err y) is was out_is out_was)
  prints_once _ _ (out_of_range r x is out_is) (bad line wrong) = absurd (never_both bytes r line is wrong)
  prints_once _ _ (bad line wrong) (printed s y was out_was) = absurd (never_both bytes s line was wrong)
  prints_once _ _ (bad line wrong) (out_of_range s y was out_was) = absurd (never_both bytes s line was wrong)
  prints_once _ _ (bad line wrong) (bad other worse) = ap (λ (n : ℕ). Err (BadReport n)) (one_line bytes line other wrong worse)

-- ---- so does a file

file_once : (path : List ℕ) (content : Content) (one other : Refusal) → IsFileRefused path content one → IsFileRefused path content other → one ≡ other
file_once path content _ _ (no_file is) (no_file was) = refl
file_once path content _ _ (no_file is) (too_long was) = absurd (let both : Absent ≡ TooLong = sym is ∙ was in cc)
file_once path content _ _ (too_long is) (no_file was) = absurd (let both : TooLong ≡ Absent = sym is ∙ was in cc)
file_once path content _ _ (too_long is) (too_long was) = refl

-- bytes that are read aren't refused before that
never_refused : (path : List ℕ) (content : Content) (refusal : Refusal) (bytes : List ℕ) → IsFileRefused path content refusal → content ≡ Bytes bytes → ⊥
never_refused path content _ bytes (no_file is) read = let both : Absent ≡ Bytes bytes = sym is ∙ read in cc
never_refused path content _ bytes (too_long is) read = let both : TooLong ≡ Bytes bytes = sym is ∙ read in cc

same_bytes : (content : Content) (x y : List ℕ) → content ≡ Bytes x → content ≡ Bytes y → y ≡ x
same_bytes content x y is was = let both : Bytes y ≡ Bytes x = sym was ∙ is in cc

-- ---- and a report of what stands

module _ (stands : Option Observation) (asked : Asked) where
  none_stands : (o : Observation) → stands ≡ None → stands ≡ Some o → ⊥
  none_stands o none some = let both : None ≡ Some o = sym none ∙ some in cc

  same_stands : (o p : Observation) → stands ≡ Some o → stands ≡ Some p → p ≡ o
  same_stands o p is was = let both : Some p ≡ Some o = sym was ∙ is in cc

  other_there : (o p : Observation) → stands ≡ Some o → is_asked asked o ≡ false → IsThere stands asked p → ⊥
  other_there o p is other there = let both : true ≡ false = sym there.is_asked_for ∙ ap (is_asked asked) (same_stands o p is there.stands_so) ∙ other in cc

  module _ (content : Content) where
    bytes_once : (o p : Observation) (x y : List ℕ) (one other : Answer) → IsThere stands asked o → IsThere stands asked p → content ≡ Bytes x → content ≡ Bytes y → Prints o x one → Prints p y other → one ≡ other
    bytes_once o p x y one other is was read reread first second =
        prints_once o x one other first
        (subst (λ (xs : List ℕ). Prints o xs other) (same_bytes content x y read reread) (subst (λ (q : Observation). Prints q y other) (same_stands o p is.stands_so was.stands_so) second))

    pub reports_once : (one other : Answer) → Reports stands asked content one → Reports stands asked content other → one ≡ other
    reports_once _ _ (no_project none) (no_project nothing) = refl
    reports_once _ _ (no_project none) (other_project p was other) = absurd (none_stands p none was)
    reports_once _ _ (no_project none) (of_no_bytes p refusal was why) = absurd (none_stands p none was.stands_so)
    reports_once _ _ (no_project none) (of_bytes p y answer was read prints) = absurd (none_stands p none was.stands_so)
    reports_once _ _ (other_project o is other) (no_project nothing) = absurd (none_stands o nothing is)
    reports_once _ _ (other_project o is other) (other_project p was differs) = refl
    reports_once _ _ (other_project o is other) (of_no_bytes p refusal was why) = absurd (other_there o p is other was)
    reports_once _ _ (other_project o is other) (of_bytes p y answer was read prints) = absurd (other_there o p is other was)
    reports_once _ _ (of_no_bytes o refusal is why) (no_project none) = absurd (none_stands o none is.stands_so)
    reports_once _ _ (of_no_bytes o refusal is why) (other_project p was other) = absurd (other_there p o was other is)
    reports_once _ _ (of_no_bytes o refusal is why) (of_no_bytes p other was because) = ap Err (file_once asked.path content refusal other why because)
    reports_once _ _ (of_no_bytes o refusal is why) (of_bytes p y answer was read prints) = absurd (never_refused asked.path content refusal y why read)
    reports_once _ _ (of_bytes o x answer is read prints) (no_project none) = absurd (none_stands o none is.stands_so)
    reports_once _ _ (of_bytes o x answer is read prints) (other_project p was other) = absurd (other_there p o was other is)
    reports_once _ _ (of_bytes o x answer is read prints) (of_no_bytes p refusal was why) = absurd (never_refused asked.path content refusal x why read)
    reports_once _ _ (of_bytes o x answer is read prints) (of_bytes p y other was reread more) = bytes_once o p x y answer other is was read reread prints more

pub has_one_answer : HasOneAnswer
has_one_answer stands asked content one other is was = reports_once stands asked content one other is was
