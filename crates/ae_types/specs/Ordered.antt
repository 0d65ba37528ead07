-- Rows in the ascending order of their keys, and the row that a key finds.
use Rattle.std.specs.Prelude.{◌≡◌, Bool, true, ◌&&◌, List, [], ◌∷◌}
use Rattle.std.specs.Ordering.{is_lt}
use Rattle.std.specs.declared.cmp.Ordering.{Ordering}
use Rattle.std.specs.declared.cmp.Ordering.TheVariants.{Less}
use Rattle.std.specs.FinMap.Entries.{by_order}

-- the key is below those of all rows
abbrev pub Above : {K A : Type 0} → (K → K → Ordering) → (A → K) → K → List A → Type 0
Above cmp key k [] = Unit {0}
Above cmp key k (row ∷ rows) = (cmp k (key row) ≡ Less) × Above cmp key k rows

-- each key is below those of the rows after it
abbrev pub Ascends : {K A : Type 0} → (K → K → Ordering) → (A → K) → List A → Type 0
Ascends cmp key [] = Unit {0}
Ascends cmp key (row ∷ rows) = Above cmp key (key row) rows × Ascends cmp key rows

-- the test of it: from this key on, each key is below the next
abbrev pub ascends_from : {K A : Type 0} → (K → K → Ordering) → (A → K) → K → List A → Bool
ascends_from cmp key k [] = true
ascends_from cmp key k (row ∷ rows) = is_lt (cmp k (key row)) && ascends_from cmp key (key row) rows

-- the test of it: each key is below the next
abbrev pub ascends : {K A : Type 0} → (K → K → Ordering) → (A → K) → List A → Bool
ascends cmp key [] = true
ascends cmp key (row ∷ rows) = ascends_from cmp key (key row) rows

-- the rows with this one in the place of that of its key, or among the others in their order
abbrev pub put_by : {K A : Type 0} → (K → K → Ordering) → (A → K) → A → List A → List A
put_by cmp key row [] = row ∷ []
put_by cmp key row (first ∷ rows) = by_order (cmp (key row) (key first)) (row ∷ first ∷ rows) (row ∷ rows) (first ∷ put_by cmp key row rows)

-- a row that is its own key
abbrev pub itself : {A : Type 0} → A → A
itself row = row
