-- The first wrong place of a list of fields.
use Rattle.std.proofs.Common.{◌≡◌, ◌≤◌, ◌<◌, ℕ, ◌+◌, List, [], ◌∷◌, length, map, take, drop, ◌-◌, get_or, refl, sym, ap, ◌∙◌, subst, arith}
use Rattle.std.proofs.lemmas.List.{take_rest}
use Rattle.ae_text.specs.Tree.{Node}
use Rattle.ae_schema.specs.Records.{Named, named, Piece, field, end, pieces, Begins, IsWrongAt, BadAt, BadFirst, stop_behind}
use Rattle.ae_schema.specs.declared.fields.Stop.{Stop}
use Rattle.ae_schema.specs.declared.fields.Stop.TheVariants.{Bad, Memory}
use Rattle.ae_schema.specs.declared.fields.Then.{Then}

-- every record begins with no piece
pub begins_none : {A : Type 0} (Fits : A → Type 0) (fields_of : A → List Named) (x : A) → Fits x → Begins Fits fields_of []
begins_none Fits fields_of x fits = record { value = x; fits = fits; more = pieces (fields_of x); pieces_are = refl }

-- no values have no fields
named-none : (ks : List (List ℕ)) → named ks [] ≡ []
named-none [] = refl
named-none (k ∷ ks) = refl

-- the first piece is wrong, where no record begins with it
pub first_wrong : {A : Type 0} (Fits : A → Type 0) (fields_of : A → List Named) (x : A) → Fits x
    → (ms : List Named) (p : Piece) (rest : List Piece) → pieces ms ≡ p ∷ rest
    → ((y : A) (more : List Piece) → Fits y → pieces (fields_of y) ≡ p ∷ more → ⊥)
    → IsWrongAt Fits fields_of ms 0
first_wrong Fits fields_of x fits ms p rest are none = record {
  front = [];
  wrong = p;
  rest = rest;
  pieces_are = are;
  begins = begins_none Fits fields_of x fits;
  stops = λ b. none b.value b.more b.fits b.pieces_are;
  place = refl;
}

-- where no field is due, the first one is wrong
pub end_wrong : {A X : Type 0} (Fits : A → Type 0) (x : A) → Fits x → (ks : List (List ℕ)) (f : X → Named) (xs : List X) → 1 ≤ length xs
    → IsWrongAt Fits (λ (y : A). named ks []) (map f xs) 0
end_wrong Fits x fits ks f [] some = absurd (omega arith)
end_wrong Fits x fits ks f (m ∷ ms) some =
    first_wrong Fits (λ y. named ks []) x fits (map f (m ∷ ms)) (field (f m).0 (f m).1) (pieces (map f ms)) refl
    (λ y more _ e. let none : named ks [] ≡ [] = named-none ks in let at : pieces (named ks []) ≡ end ∷ [] = ap pieces none in cc)

-- where a field is due, the end is wrong
pub missing_wrong : {A B X : Type 0} (Fits : Then A B → Type 0) (x : Then A B) → Fits x → (ks : List (List ℕ)) → 1 ≤ length ks
    → (v : Then A B → Node) (vs : Then A B → List Node) (f : X → Named) (xs : List X) → length xs < 1
    → IsWrongAt Fits (λ (y : Then A B). named ks (v y ∷ vs y)) (map f xs) 0
missing_wrong Fits x fits [] some v vs f xs none = absurd (omega arith)
missing_wrong Fits x fits (k ∷ ks) some v vs f (m ∷ ms) none = absurd (omega arith)
missing_wrong Fits x fits (k ∷ ks) some v vs f [] none =
    first_wrong Fits (λ y. named (k ∷ ks) (v y ∷ vs y)) x fits [] end [] refl (λ y more _ e. cc)

-- where the first field is none that is due, it is wrong
pub first_field_wrong : {A B : Type 0} (FitsA : A → Type 0) (FitsB : B → Type 0) (x : Then A B) → FitsA x.first × FitsB x.rest
    → (spelled : A → Node) (values : B → List Node) (k : List ℕ) (ks : List (List ℕ)) (m : Named) (ms : List Named)
    → ((y : A) → FitsA y → (k, spelled y) ≡ m → ⊥)
    → IsWrongAt (λ (y : Then A B). FitsA y.first × FitsB y.rest) (λ (y : Then A B). named (k ∷ ks) (spelled y.first ∷ values y.rest)) (m ∷ ms) 0
first_field_wrong FitsA FitsB x fits spelled values k ks m ms none =
    first_wrong (λ y. FitsA y.first × FitsB y.rest) (λ y. named (k ∷ ks) (spelled y.first ∷ values y.rest)) x fits (m ∷ ms) (field m.0 m.1) (pieces ms) refl
    (λ y more f e. let one : k ≡ m.0 = cc in let other : spelled y.first ≡ m.1 = cc in none y.first f.0 (λ i. (one i, other i)))

-- a wrong place after a good field is one further
pub behind_wrong : {A B : Type 0} (FitsA : A → Type 0) (FitsB : B → Type 0) (spelled : A → Node) (values : B → List Node)
    → (k : List ℕ) (ks : List (List ℕ)) (x : A) → FitsA x → (m : Named) → (k, spelled x) ≡ m → (ms : List Named) (at : ℕ)
    → IsWrongAt FitsB (λ (z : B). named ks (values z)) ms at
    → IsWrongAt (λ (y : Then A B). FitsA y.first × FitsB y.rest) (λ (y : Then A B). named (k ∷ ks) (spelled y.first ∷ values y.rest)) (m ∷ ms) (at + 1)
behind_wrong FitsA FitsB spelled values k ks x fits m is ms at w =
    let key : k ≡ m.0 = ap (λ (n : Named). n.0) is in
    let value : spelled x ≡ m.1 = ap (λ (n : Named). n.1) is in
    record {
      front = field m.0 m.1 ∷ w.front;
      wrong = w.wrong;
      rest = w.rest;
      pieces_are = ap (λ (ps : List Piece). field m.0 m.1 ∷ ps) w.pieces_are;
      begins = record {
        value = record { first = x; rest = w.begins.value };
        fits = (fits, w.begins.fits);
        more = w.begins.more;
        pieces_are = let inner = w.begins.pieces_are in cc;
      };
      stops = λ b. w.stops (record { value = b.value.rest; fits = b.fits.1; more = b.more; pieces_are = let all = b.pieces_are in cc });
      place = omega (arith, w.place);
    }

-- ---- as the reader meets them

-- the reader's stop at the first field
pub first_stop : {A : Type 0} {Fits : A → Type 0} {fields_of : A → List Named} {ms : List Named} {Reason : Type 0} (stop : Stop)
    → BadFirst Reason stop → (Reason → IsWrongAt Fits fields_of ms 0) → BadAt Fits fields_of ms stop
first_stop {A} {Fits} {fields_of} {ms} (Bad at) (is, why) make =
    let P : ℕ → Type 0 = λ n. IsWrongAt Fits fields_of ms n in
    (omega arith, subst P (sym is) (make why))
first_stop Memory h make = tt

-- the first field is wrong, of the fields and names in slices
pub first_at : {A B X Y : Type 0} (FitsA : A → Type 0) (FitsB : B → Type 0) (x : Then A B) → FitsA x.first × FitsB x.rest
    → (spelled : A → Node) (values : B → List Node) (f : X → List ℕ) (ns : List X) (d : X) → 1 ≤ length ns
    → (h : Y → Named) (ys : List Y) (y : Y) → y ≡ get_or ys 0 y → 1 ≤ length ys
    → ((a : A) → FitsA a → (f (get_or ns 0 d), spelled a) ≡ h y → ⊥)
    → IsWrongAt (λ (z : Then A B). FitsA z.first × FitsB z.rest) (λ (z : Then A B). named (map f ns) (spelled z.first ∷ values z.rest)) (map h ys) 0
first_at FitsA FitsB x fits spelled values f [] d some h ys y is more none = absurd (omega arith)
first_at FitsA FitsB x fits spelled values f (n ∷ ns) d some h [] y is more none = absurd (omega arith)
first_at FitsA FitsB x fits spelled values f (n ∷ ns) d some h (m ∷ ms) y is more none =
    first_field_wrong FitsA FitsB x fits spelled values (f n) (map f ns) (h m) (map h ms) (λ a fit e. none a fit (e ∙ ap h (sym is)))

-- what a pattern leaves after the first element
rest_of : {X : Type 0} (x : X) (xs : List X) → take (length (x ∷ xs) - 1) (drop 1 (x ∷ xs)) ≡ xs
rest_of x xs = take_rest (x ∷ xs) 1

-- a wrong place after the first field, of the fields and names in slices
pub behind_at : {A B X Y : Type 0} (FitsA : A → Type 0) (FitsB : B → Type 0) (spelled : A → Node) (values : B → List Node)
    → (f : X → List ℕ) (ns : List X) (d : X) → 1 ≤ length ns → (h : Y → Named) (ys : List Y) (y : Y) → y ≡ get_or ys 0 y → 1 ≤ length ys
    → (a : A) → FitsA a → (f (get_or ns 0 d), spelled a) ≡ h y → (stop : Stop)
    → BadAt FitsB (λ (z : B). named (map f (take (length ns - 1) (drop 1 ns))) (values z)) (map h (take (length ys - 1) (drop 1 ys))) stop
    → BadAt (λ (z : Then A B). FitsA z.first × FitsB z.rest) (λ (z : Then A B). named (map f ns) (spelled z.first ∷ values z.rest)) (map h ys) (stop_behind stop)
behind_at FitsA FitsB spelled values f [] d some h ys y is more a fit e stop w = absurd (omega arith)
behind_at FitsA FitsB spelled values f (n ∷ ns) d some h [] y is more a fit e stop w = absurd (omega arith)
behind_at FitsA FitsB spelled values f (n ∷ ns) d some h (m ∷ ms) y is more a fit e Memory w = tt
behind_at {A} {B} {X} {Y} FitsA FitsB spelled values f (n ∷ ns) d some h (m ∷ ms) y is more a fit e (Bad at) w =
    let P : List X → List Y → Type 0 = λ ks fs. BadAt FitsB (λ (z : B). named (map f ks) (values z)) (map h fs) (Bad at) in
    let ready = subst (λ (fs : List Y). P ns fs) (rest_of m ms) (subst (λ (ks : List X). P ks (take (length (m ∷ ms) - 1) (drop 1 (m ∷ ms)))) (rest_of n ns) w) in
    (omega (arith, ready.0), behind_wrong FitsA FitsB spelled values (f n) (map f ns) a fit (h m) (e ∙ ap h is) (map h ms) at ready.1)
