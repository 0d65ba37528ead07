-- Counting line ends piece by piece.
use Rattle.std.proofs.Common.{◌≡◌, ℕ, ◌+◌, ◌-◌, ◌≤◌, cond, eqb, arith, List, ◌++◌, take, drop, sym, ap, ◌∙◌}
use Rattle.std.proofs.Math.Seq.{take-add}
use Rattle.std.proofs.lemmas.List.Sums.{sum_by-append}
use Rattle.ae_text.specs.Grammar.{line_ends}

pub ends_join : (xs ys : List ℕ) → line_ends (xs ++ ys) ≡ line_ends xs + line_ends ys
ends_join xs ys = sum_by-append (λ b. cond (eqb b 10) 1 0) xs ys

-- before a place: those before an earlier place, and those between
pub ends_between : (bytes : List ℕ) (from to : ℕ) → from ≤ to → line_ends (take from bytes) + line_ends (take (to - from) (drop from bytes)) ≡ line_ends (take to bytes)
ends_between bytes from to le =
    let whole : from + (to - from) ≡ to = omega arith in
    sym (ends_join (take from bytes) (take (to - from) (drop from bytes))) ∙ ap line_ends (sym (take-add from (to - from) bytes)) ∙ ap (λ (n : ℕ). line_ends (take n bytes)) whole
