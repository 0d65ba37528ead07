-- What a `for` does, row by row.
use Rattle.std.proofs.Common.{◌≡◌, ℕ, suc, ◌+◌, ◌*◌, ◌≤◌, ◌∙◌, List, [], ◌∷◌, length, drop, refl, sym, ap, arith}
use Rattle.std.specs.Prelude.{Bool, Option, Some, None, Result, Ok, Err}
use Rattle.std.proofs.Math.Nat.{add-mul}
use Rattle.ae_report.specs.declared.error.RunReportError.{RunReportError}
use Rattle.ae_report.specs.declared.error.RunReportError.TheVariants.{Number, Memory}
use Rattle.ae_report.specs.Results.{and_then, and_map, Stops}
use Rattle.ae_report.specs.Rows.{Row}
use Rattle.ae_report.specs.Out.{Run, over_rows}
use Rattle.ae_report.specs.Frames.{next_of}

-- a row that is next
pub record IsNext (left : List Row) (test : Row → Result Bool ℕ) (row : Row) (passes : Bool) : Type 0 where
  pub first : left ≡ row ∷ drop 1 left
  pub tested : test row ≡ Ok passes

pub turned : (left : List Row) (test : Row → Result Bool ℕ) (row : Row) (passes : Bool) → next_of left test ≡ Ok (Some (row, passes)) → IsNext left test row passes
turned [] test row passes is = absurd (no is)
  where
    no : (let nothing : Result (Option (Row × Bool)) ℕ = Ok None in nothing ≡ Ok (Some (row, passes))) → ⊥
    no e = cc
turned (r ∷ more) test row passes is = go (test r) refl is
  where
    go : (t : Result Bool ℕ) → test r ≡ t → and_map {B = Option (Row × Bool)} (λ b. Some (r, b)) t ≡ Ok (Some (row, passes)) → IsNext (r ∷ more) test row passes
    go (Ok b) e told =
        let one : Row × Bool = (r, b) in let other : Row × Bool = (row, passes) in let pairs : one ≡ other = cc in
        let same : r ≡ row = ap (λ (p : Row × Bool). p.0) pairs in
        let value : b ≡ passes = ap (λ (p : Row × Bool). p.1) pairs in
        record { first = ap (λ (x : Row). x ∷ more) same; tested = ap test (sym same) ∙ e ∙ ap Ok value }
    go (Err line) e told = cc

pub none-left : (left : List Row) (test : Row → Result Bool ℕ) → next_of left test ≡ Ok None → left ≡ []
none-left [] test is = refl
none-left (r ∷ more) test is = go (test r) is
  where
    go : (t : Result Bool ℕ) → and_map {B = Option (Row × Bool)} (λ b. Some (r, b)) t ≡ Ok None → r ∷ more ≡ []
    go (Ok b) told = cc
    go (Err line) told = cc

-- a step of the loop
pub row-done : (body : Row → Run → Result Run ℕ) (left : List Row) (row : Row) (now next : Run) (whole : Result Run ℕ)
    → whole ≡ over_rows body left now → left ≡ row ∷ drop 1 left → body row now ≡ Ok next → whole ≡ over_rows body (drop 1 left) next
row-done body left row now next whole so_far first done =
    so_far ∙ ap (λ (rs : List Row). over_rows body rs now) first ∙ ap (λ (r : Result Run ℕ). and_then r (over_rows body (drop 1 left))) done

-- its end
pub rows-done : (body : Row → Run → Result Run ℕ) (left : List Row) (now : Run) (whole : Result Run ℕ) → whole ≡ over_rows body left now → left ≡ [] → whole ≡ Ok now
rows-done body left now whole so_far none = so_far ∙ ap (λ (rs : List Row). over_rows body rs now) none

-- a row that stops it
pub row-stops : (body : Row → Run → Result Run ℕ) (left : List Row) (row : Row) (now : Run) (whole : Result Run ℕ) (e : RunReportError)
    → whole ≡ over_rows body left now → left ≡ row ∷ drop 1 left → Stops (body row now) e → Stops whole e
row-stops body left row now whole (Number line) so_far first is =
    so_far ∙ ap (λ (rs : List Row). over_rows body rs now) first ∙ ap (λ (r : Result Run ℕ). and_then r (over_rows body (drop 1 left))) is
row-stops body left row now whole Memory so_far first is = tt

-- a test that stops it
pub test-stops : (body : Row → Run → Result Run ℕ) (test : Row → Result Bool ℕ) (left : List Row) (now : Run) (whole : Result Run ℕ) (e : RunReportError)
    → whole ≡ over_rows body left now → ((row : Row) (line : ℕ) → test row ≡ Err line → body row now ≡ Err line) → Stops (next_of left test) e → Stops whole e
test-stops body test left now whole Memory so_far through is = tt
test-stops body test [] now whole (Number line) so_far through is = absurd (no is)
  where
    no : (let nothing : Result (Option (Row × Bool)) ℕ = Ok None in nothing ≡ Err line) → ⊥
    no e = cc
test-stops body test (row ∷ more) now whole (Number line) so_far through is = go (test row) refl is
  where
    go : (t : Result Bool ℕ) → test row ≡ t → and_map {B = Option (Row × Bool)} (λ b. Some (row, b)) t ≡ Err line → whole ≡ Err line
    go (Ok b) e told = cc
    go (Err other) e told =
        let same : other ≡ line = cc in
        so_far ∙ ap (λ (r : Result Run ℕ). and_then r (over_rows body more)) (through row line (e ∙ ap Err same))

-- ---- the steps of the loop

-- with so many rows left, and a body that takes so many steps
abbrev pub loop_steps : ℕ → ℕ → ℕ
loop_steps rows body = rows + 1 + rows * body

pub row-costs : (left : List Row) (row : Row) (body now later start all : ℕ) → left ≡ row ∷ drop 1 left → now + loop_steps (length left) body ≤ start + all → later ≤ now + 1 + body
    → later + loop_steps (length (drop 1 left)) body ≤ start + all
row-costs left row body now later start all first before step =
    let n = length (drop 1 left) in
    let long : length left ≡ suc n = ap length first in
    let more : (n + 1) * body ≡ n * body + 1 * body = add-mul n 1 body in
    let many : length left * body ≡ (n + 1) * body = ap (λ (k : ℕ). k * body) (omega (arith, long)) in
    omega (arith, long, more, many, before, step)
