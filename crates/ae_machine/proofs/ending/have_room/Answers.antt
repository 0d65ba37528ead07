use Rattle.std.proofs.Common.{arith, ◌≡◌, ℕ, ◌+◌, ◌<◌, refl, Bool, true, false, map, take, length, get_or, nat_le, ap}
use Rattle.std.specs.Prelude.{sum}
use Rattle.std.proofs.lemmas.Bool.{leb-true}
use Rattle.std.proofs.lemmas.List.Sums.{sum-map, sum_by_more_le}
use Rattle.ae_base.specs.Rows.{Row, Rows}
use Rattle.ae_machine.specs.Freezing.{size_of}
use Rattle.ae_machine.proofs.ending.have_room.Goals as goal

-- the rows up to this one are more already
too-many : (rows : Rows) (i : ℕ) (row : Row) (left : ℕ) → i < length rows → row ≡ get_or rows i row → left + sum (map size_of (take i rows)) ≡ 67108864 → left < size_of row → false ≡ nat_le (sum (map size_of rows)) 67108864
too-many rows i row left lt is so_far more =
    let all = sum-map size_of rows in
    let those = sum-map size_of (take i rows) in
    let one = ap size_of is in
    let within = sum_by_more_le size_of rows i row lt in
    go (nat_le (sum (map size_of rows)) 67108864) (λ e. let le = leb-true (sum (map size_of rows)) 67108864 e in omega arith)
  where
    go : (b : Bool) → (b ≡ true → ⊥) → false ≡ b
    go true h = absurd (h refl)
    go false h = refl

pub returns-then-size-left : goal.returns-then-size-left
returns-then-size-left c = too-many c.args.rows.now c.loop-row.row-index c.row-item.result c.loop-row.left c.loop-row-test.true c.row-item.is c.loop-row.invariant (omega arith)
