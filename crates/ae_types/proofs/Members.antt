-- Members of lists, and lists no two of whose members are related.
use Rattle.std.proofs.Common.{◌≡◌, ◌⊎◌, inl, inr, refl, sym, ◌∙◌, ap, subst, List, [], ◌∷◌, ◌++◌, map, Option, Some, None, Bool, true, false, ◌&&◌, ◌||◌, not}
use Rattle.std.specs.Prelude.{flat_map}
use Rattle.std.specs.List.{list_any, list_all, filter_map, cons_option}
use Rattle.std.proofs.lemmas.Bool.{false≢true, and_parts, false_from_ne_true, not_from_false}
use Rattle.ae_types.specs.Versions.{no_two}
use Rattle.ae_types.proofs.Splits.{not-is}

abbrev pub In : {A : Type 0} → List A → A → Type 0
In [] x = ⊥
In (y ∷ ys) x = (y ≡ x) ⊎ In ys x

module _ {A : Type 0} where
  pub in-left : (xs ys : List A) (x : A) → In xs x → In (xs ++ ys) x
  in-left [] ys x h = absurd h
  in-left (z ∷ xs) ys x (inl e) = inl e
  in-left (z ∷ xs) ys x (inr h) = inr (in-left xs ys x h)

  pub in-right : (xs ys : List A) (x : A) → In ys x → In (xs ++ ys) x
  in-right [] ys x h = h
  in-right (z ∷ xs) ys x h = inr (in-right xs ys x h)

  pub in-either : (xs ys : List A) (x : A) → In (xs ++ ys) x → In xs x ⊎ In ys x
  in-either [] ys x h = inr h
  in-either (z ∷ xs) ys x (inl e) = inl (inl e)
  in-either (z ∷ xs) ys x (inr h) = go (in-either xs ys x h)
    where
      go : In xs x ⊎ In ys x → In (z ∷ xs) x ⊎ In ys x
      go (inl a) = inl (inr a)
      go (inr b) = inr b

  -- ---- tests of all and of any

  pub all-in : (t : A → Bool) (xs : List A) → list_all t xs ≡ true → (x : A) → In xs x → t x ≡ true
  all-in t [] e x h = absurd h
  all-in t (y ∷ ys) e x (inl is) = sym (ap t is) ∙ (and_parts (t y) (list_all t ys) e).0
  all-in t (y ∷ ys) e x (inr h) = all-in t ys (and_parts (t y) (list_all t ys) e).1 x h

  pub in-all : (t : A → Bool) (xs : List A) → ((x : A) → In xs x → t x ≡ true) → list_all t xs ≡ true
  in-all t [] h = refl
  in-all t (y ∷ ys) h = λ i. h y (inl refl) i && in-all t ys (λ x m. h x (inr m)) i

  pub any-in : (t : A → Bool) (xs : List A) → list_any t xs ≡ true → (x : A) × In xs x × (t x ≡ true)
  any-in t [] e = absurd (false≢true e)
  any-in t (y ∷ ys) e = go (t y) refl e (any-in t ys)
    where
      go : (b : Bool) → t y ≡ b → (b || list_any t ys) ≡ true → (list_any t ys ≡ true → (x : A) × In ys x × (t x ≡ true)) → (x : A) × In (y ∷ ys) x × (t x ≡ true)
      go true is e rest = (y, inl refl, is)
      go false is e rest = let r = rest e in (r.0, inr r.1, r.2)

  pub in-any : (t : A → Bool) (xs : List A) (x : A) → In xs x → t x ≡ true → list_any t xs ≡ true
  in-any t [] x h e = absurd h
  in-any t (y ∷ ys) x (inl is) e = ap (λ b. b || list_any t ys) (ap t is ∙ e)
  in-any t (y ∷ ys) x (inr h) e = ap (λ b. t y || b) (in-any t ys x h e) ∙ or-true (t y)
    where
      or-true : (b : Bool) → (b || true) ≡ true
      or-true true = refl
      or-true false = refl

-- ---- members of made lists

module _ {A B : Type 0} where
  pub in-map : (f : A → B) (xs : List A) (x : A) → In xs x → In (map f xs) (f x)
  in-map f [] x h = absurd h
  in-map f (y ∷ ys) x (inl e) = inl (ap f e)
  in-map f (y ∷ ys) x (inr h) = inr (in-map f ys x h)

  pub map-in : (f : A → B) (xs : List A) (b : B) → In (map f xs) b → (x : A) × In xs x × (f x ≡ b)
  map-in f [] b h = absurd h
  map-in f (y ∷ ys) b (inl e) = (y, inl refl, e)
  map-in f (y ∷ ys) b (inr h) = let r = map-in f ys b h in (r.0, inr r.1, r.2)

  pub in-flat : (f : A → List B) (xs : List A) (x : A) (b : B) → In xs x → In (f x) b → In (flat_map f xs) b
  in-flat f [] x b h m = absurd h
  in-flat f (y ∷ ys) x b (inl e) m = in-left (f y) (flat_map f ys) b (subst (λ z. In (f z) b) (sym e) m)
  in-flat f (y ∷ ys) x b (inr h) m = in-right (f y) (flat_map f ys) b (in-flat f ys x b h m)

  pub flat-in : (f : A → List B) (xs : List A) (b : B) → In (flat_map f xs) b → (x : A) × In xs x × In (f x) b
  flat-in f [] b h = absurd h
  flat-in f (y ∷ ys) b h = go (in-either (f y) (flat_map f ys) b h) (flat-in f ys b)
    where
      go : In (f y) b ⊎ In (flat_map f ys) b → (In (flat_map f ys) b → (x : A) × In ys x × In (f x) b) → (x : A) × In (y ∷ ys) x × In (f x) b
      go (inl m) rest = (y, inl refl, m)
      go (inr m) rest = let r = rest m in (r.0, inr r.1, r.2)

  pub in-some : (f : A → Option B) (xs : List A) (x : A) (b : B) → In xs x → f x ≡ Some b → In (filter_map f xs) b
  in-some f [] x b h e = absurd h
  in-some f (y ∷ ys) x b (inl is) e = subst (λ v. In (cons_option v (filter_map f ys)) b) (sym (ap f is ∙ e)) (inl refl)
  in-some f (y ∷ ys) x b (inr h) e = go (f y) (in-some f ys x b h e)
    where
      go : (v : Option B) → In (filter_map f ys) b → In (cons_option v (filter_map f ys)) b
      go (Some c) m = inr m
      go None m = m

  pub some-in : (f : A → Option B) (xs : List A) (b : B) → In (filter_map f xs) b → (x : A) × In xs x × (f x ≡ Some b)
  some-in f [] b h = absurd h
  some-in f (y ∷ ys) b h = go (f y) refl h (some-in f ys b)
    where
      go : (v : Option B) → f y ≡ v → In (cons_option v (filter_map f ys)) b → (In (filter_map f ys) b → (x : A) × In ys x × (f x ≡ Some b)) → (x : A) × In (y ∷ ys) x × (f x ≡ Some b)
      go (Some c) is (inl e) rest = (y, inl refl, is ∙ ap (λ d. Some d) e)
      go (Some c) is (inr m) rest = let r = rest m in (r.0, inr r.1, r.2)
      go None is m rest = let r = rest m in (r.0, inr r.1, r.2)

-- ---- no two are related

-- no member has the key of one before it
abbrev pub Distinct : {A K : Type 0} → (A → K) → List A → Type 0
Distinct key [] = Unit {0}
Distinct {A} key (x ∷ xs) = ((y : A) → In xs y → key x ≡ key y → ⊥) × Distinct key xs

module _ {A K : Type 0} (key : A → K) where
  pub distinct-append : (xs ys : List A) → Distinct key xs → Distinct key ys → ((x y : A) → In xs x → In ys y → key x ≡ key y → ⊥) → Distinct key (xs ++ ys)
  distinct-append [] ys a b h = b
  distinct-append (x ∷ xs) ys a b h = (λ y m e. go y (in-either xs ys y m) e, distinct-append xs ys a.1 b (λ z y m. h z y (inr m)))
    where
      go : (y : A) → In xs y ⊎ In ys y → key x ≡ key y → ⊥
      go y (inl m) e = a.0 y m e
      go y (inr m) e = h x y (inl refl) m e

module _ {A V : Type 0} (related : V → V → Bool) (both_ways : (v w : V) → related v w ≡ related w v) (f : A → V) where
  -- what is related is the same member
  pub no_two-apart : (xs : List A) → no_two related (map f xs) ≡ true → (a b : A) → In xs a → In xs b → related (f a) (f b) ≡ true → a ≡ b
  no_two-apart [] e a b h m r = absurd h
  no_two-apart (x ∷ xs) e a b h m r = go h m r (no_two-apart xs parts.1 a b)
    where
      parts : (not (list_any (related (f x)) (map f xs)) ≡ true) × (no_two related (map f xs) ≡ true)
      parts = and_parts (not (list_any (related (f x)) (map f xs))) (no_two related (map f xs)) e

      none : (c : A) → In xs c → related (f x) (f c) ≡ true → ⊥
      none c m is = not-is (list_any (related (f x)) (map f xs)) parts.0 (in-any (related (f x)) (map f xs) (f c) (in-map f xs c m) is)

      go : In (x ∷ xs) a → In (x ∷ xs) b → related (f a) (f b) ≡ true → (In xs a → In xs b → related (f a) (f b) ≡ true → a ≡ b) → a ≡ b
      go (inl e) (inl g) is rest = sym e ∙ g
      go (inl e) (inr m) is rest = absurd (none b m (ap (λ c. related (f c) (f b)) e ∙ is))
      go (inr h) (inl g) is rest = absurd (none a h (both_ways (f x) (f a) ∙ ap (λ c. related (f a) (f c)) g ∙ is))
      go (inr h) (inr m) is rest = rest h m is

  -- members whose keys differ, and of which those that are related have the same key
  pub apart-no_two : {K : Type 0} (key : A → K) (xs : List A) → Distinct key xs → ((a b : A) → In xs a → In xs b → related (f a) (f b) ≡ true → key a ≡ key b) → no_two related (map f xs) ≡ true
  apart-no_two key [] d h = refl
  apart-no_two key (x ∷ xs) d h = λ i. not_from_false _ (false_from_ne_true (list_any (related (f x)) (map f xs)) none) i && apart-no_two key xs d.1 (λ a b m n. h a b (inr m) (inr n)) i
    where
      none : list_any (related (f x)) (map f xs) ≡ true → ⊥
      none e = let r = any-in (related (f x)) (map f xs) e in
          let s = map-in f xs r.0 r.1 in
          d.0 s.0 s.1 (h x s.0 (inl refl) (inr s.1) (ap (related (f x)) s.2 ∙ r.2))
