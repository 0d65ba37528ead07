-- Who reviewed a change, by its records.
use Rattle.std.specs.Prelude.{◌≡◌, ◌≢◌, ℕ, Bool, List, [], ◌∷◌, Option, Some, None}
use Rattle.std.specs.Str.{bytes_eq}
use Rattle.ae_base.specs.declared.words.What.{What}
use Rattle.ae_base.specs.declared.words.What.TheVariants.{DevelopEnd, ReviewPass}
use Rattle.ae_types.specs.declared.change.Change.{Change}
use Rattle.ae_types.specs.declared.change.HistoryRow.{HistoryRow}
use Rattle.ae_types.specs.Found.{there_and}
use Rattle.ae_audit.specs.declared.certificate.Mark.{Mark}
use Rattle.ae_audit.specs.declared.certificate.Mark.TheVariants.{Other, Developer, Nobody}

-- a pass says who passed the change, and an end of its development that nobody did
abbrev pub passer_after : What → List ℕ → Option (List ℕ) → Option (List ℕ)
passer_after ReviewPass who earlier = Some who
passer_after DevelopEnd who earlier = None
passer_after _ who earlier = earlier

abbrev pub passer_from : Option (List ℕ) → List HistoryRow → Option (List ℕ)
passer_from earlier [] = earlier
passer_from earlier (row ∷ rows) = passer_from (passer_after row.what row.who earlier) rows

-- who made the last pass of a review, where it stands after the last end of development; nobody where there is no such pass
abbrev pub passer_of : List HistoryRow → Option (List ℕ)
passer_of rows = passer_from None rows

-- the person is this user
abbrev pub is_user : Option (List ℕ) → List ℕ → Bool
is_user person user = there_and person (bytes_eq user)

-- The mark fits the change: its reviewer made the last pass after the last end of development, and isn't its developer, or is;
-- or it has neither a reviewer nor such a pass.
abbrev pub Fits : Change → Mark → Type 0
Fits change (Other user) = (change.reviewer ≡ Some user) × (passer_of change.history ≡ Some user) × (change.developer ≢ Some user)
Fits change (Developer user) = (change.reviewer ≡ Some user) × (passer_of change.history ≡ Some user) × (change.developer ≡ Some user)
Fits change Nobody = (change.reviewer ≡ None) × (passer_of change.history ≡ None)
