-- Rows in the ascending order of their keys: two of them are the same where each key finds the same.
use Rattle.std.proofs.Common.{◌≡◌, refl, sym, ◌∙◌, ap, subst, List, [], ◌∷◌, map, Option, Some, None, Bool, true, false, cond, not}
use Rattle.std.specs.Prelude.{filter, is_some}
use Rattle.std.specs.Option.{option_map, option_and_then}
use Rattle.std.specs.List.{filter_map, cons_option, find}
use Rattle.std.specs.Ordering.{ordering_reverse}
use Rattle.std.specs.declared.cmp.Ordering.{Ordering}
use Rattle.std.specs.declared.cmp.Ordering.TheVariants.{Less, Equal, Greater}
use Rattle.std.specs.Cmp.{IsTotalOrder}
use Rattle.std.specs.FinMap.{IsAntisymmetric}
use Rattle.std.specs.FinMap.Entries.{by_order}
use Rattle.std.proofs.lemmas.Option.{same_Some}
use Rattle.ae_types.specs.Ordered.{put_by, itself}

-- an order of keys, and the test of their equality
pub record Order (K : Type 0) : Type 1 where
  pub cmp : K → K → Ordering
  pub total : IsTotalOrder cmp
  pub anti : IsAntisymmetric cmp
  pub same : K → K → Bool
  pub same_is : (j k : K) → same j k ≡ true → j ≡ k
  pub same_self : (k : K) → same k k ≡ true

pub none-some : {A : Type 0} {P : Type 0} (y : A) → None ≡ Some y → P
none-some y e = cc

module _ {K : Type 0} (o : Order K) where
  pub apart : (j k : K) → (j ≡ k → ⊥) → o.same j k ≡ false
  apart j k differ = go (o.same j k) refl
    where
      go : (b : Bool) → o.same j k ≡ b → b ≡ false
      go true e = absurd (differ (o.same_is j k e))
      go false e = refl

  pub less-other : (j k : K) → o.cmp j k ≡ Less → j ≡ k → ⊥
  less-other j k l e =
      let self : o.cmp j j ≡ Less = subst (λ r. o.cmp j r ≡ Less) (sym e) l in
      never (sym self ∙ o.total.antisymm j j ∙ ap ordering_reverse self)
    where
      never : Less ≡ Greater → ⊥
      never e = cc

  pub greater-less : (j k : K) → o.cmp j k ≡ Greater → o.cmp k j ≡ Less
  greater-less j k g = o.total.antisymm k j ∙ ap ordering_reverse g

  pub less-apart : (j k : K) → o.cmp j k ≡ Less → o.same j k ≡ false
  less-apart j k l = apart j k (less-other j k l)

  pub greater-apart : (j k : K) → o.cmp j k ≡ Greater → o.same j k ≡ false
  greater-apart j k g = apart j k (λ e. less-other k j (greater-less j k g) (sym e))

  abbrev pub member : K → List K → Bool
  member k ks = is_some (find (λ j. o.same k j) ks)

  -- ---- rows

  module _ {A : Type 0} (key : A → K) where
    -- the row that a key finds
    abbrev pub at : K → List A → Option A
    at k rows = find (λ r. o.same k (key r)) rows

    abbrev pub Above : K → List A → Type 0
    Above k rows = Rattle.ae_types.specs.Ordered.Above o.cmp key k rows

    abbrev pub Ascends : List A → Type 0
    Ascends rows = Rattle.ae_types.specs.Ordered.Ascends o.cmp key rows

    pub above-above : (j k : K) (rows : List A) → o.cmp j k ≡ Less → Above k rows → Above j rows
    above-above j k [] l a = tt
    above-above j k (r ∷ rows) l a = (o.total.trans j k (key r) l a.0, above-above j k rows l a.1)

    pub at-above : (k : K) (rows : List A) → Above k rows → at k rows ≡ None
    at-above k [] a = refl
    at-above k (r ∷ rows) a = ap (λ b. cond b (Some r) (at k rows)) (less-apart k (key r) a.0) ∙ at-above k rows a.1

    pub at-first : (r : A) (rows : List A) → at (key r) (r ∷ rows) ≡ Some r
    at-first r rows = ap (λ b. cond b (Some r) (at (key r) rows)) (o.same_self (key r))

    -- the rows are what the keys find
    pub ascending-is : (xs ys : List A) → Ascends xs → Ascends ys → ((k : K) → at k xs ≡ at k ys) → xs ≡ ys
    ascending-is [] [] a b all = refl
    ascending-is [] (y ∷ ys) a b all = none-some y (all (key y) ∙ at-first y ys)
    ascending-is (x ∷ xs) [] a b all = none-some x (sym (all (key x)) ∙ at-first x xs)
    ascending-is (x ∷ xs) (y ∷ ys) a b all = go (o.cmp (key x) (key y)) refl (ascending-is xs ys a.1 b.1)
      where
        tails : key x ≡ key y → (k : K) → at k xs ≡ at k ys
        tails e k = cases (o.same k (key x)) refl
          where
            cases : (t : Bool) → o.same k (key x) ≡ t → at k xs ≡ at k ys
            cases true is = let kx : k ≡ key x = o.same_is k (key x) is in
                at-above k xs (subst (λ j. Above j xs) (sym kx) a.0) ∙ sym (at-above k ys (subst (λ j. Above j ys) (sym (kx ∙ e)) b.0))
            cases false is = ap (λ t. cond t (Some x) (at k xs)) (sym is) ∙ all k ∙ ap (λ t. cond t (Some y) (at k ys)) (ap (o.same k) (sym e) ∙ is)

        go : (c : Ordering) → o.cmp (key x) (key y) ≡ c → (((k : K) → at k xs ≡ at k ys) → xs ≡ ys) → x ∷ xs ≡ y ∷ ys
        go Less l rest = none-some x (sym (at-above (key x) (y ∷ ys) (l, above-above (key x) (key y) ys l b.0)) ∙ sym (all (key x)) ∙ at-first x xs)
        go Greater g rest = let l : o.cmp (key y) (key x) ≡ Less = greater-less (key x) (key y) g in none-some y (sym (at-above (key y) (x ∷ xs) (l, above-above (key y) (key x) xs l a.0)) ∙ all (key y) ∙ at-first y ys)
        go Equal e rest = let same_key : key x ≡ key y = o.anti (key x) (key y) e in
            ap (λ r. r ∷ xs) (same_Some x y (sym (at-first x xs) ∙ all (key x) ∙ ap (λ k. at k (y ∷ ys)) same_key ∙ at-first y ys)) ∙ ap (λ rows. y ∷ rows) (rest (tails same_key))

    -- ---- one more row

    abbrev pub put : A → List A → List A
    put a rows = put_by o.cmp key a rows

    pub at-put : (k : K) (a : A) (rows : List A) → at k (put a rows) ≡ cond (o.same k (key a)) (Some a) (at k rows)
    at-put k a [] = refl
    at-put k a (r ∷ rows) = go (o.cmp (key a) (key r)) refl (at-put k a rows)
      where
        shadowed : (b : Bool) → cond b (Some a) (at k rows) ≡ cond b (Some a) (cond b (Some r) (at k rows))
        shadowed true = refl
        shadowed false = refl

        swapped : (b c : Bool) → (b ≡ true → c ≡ false) → cond b (Some r) (cond c (Some a) (at k rows)) ≡ cond c (Some a) (cond b (Some r) (at k rows))
        swapped true c not_both = ap (λ d. cond d (Some a) (Some r)) (sym (not_both refl)) ∙ refl
        swapped false c not_both = refl

        go : (x : Ordering) → o.cmp (key a) (key r) ≡ x → at k (put a rows) ≡ cond (o.same k (key a)) (Some a) (at k rows)
            → at k (by_order x (a ∷ r ∷ rows) (a ∷ rows) (r ∷ put a rows)) ≡ cond (o.same k (key a)) (Some a) (at k (r ∷ rows))
        go Less e rest = refl
        go Equal e rest = shadowed (o.same k (key a)) ∙ ap (λ j. cond (o.same k (key a)) (Some a) (cond (o.same k j) (Some r) (at k rows))) (o.anti (key a) (key r) e)
        go Greater e rest = ap (cond (o.same k (key r)) (Some r)) rest ∙ swapped (o.same k (key r)) (o.same k (key a)) (λ is. apart k (key a) (λ ka. less-other (key r) (key a) (greater-less (key a) (key r) e) (sym (o.same_is k (key r) is) ∙ ka)))

    above-put : (k : K) (a : A) (rows : List A) → o.cmp k (key a) ≡ Less → Above k rows → Above k (put a rows)
    above-put k a [] l h = (l, tt)
    above-put k a (r ∷ rows) l h = go (o.cmp (key a) (key r)) (above-put k a rows l h.1)
      where
        go : (x : Ordering) → Above k (put a rows) → Above k (by_order x (a ∷ r ∷ rows) (a ∷ rows) (r ∷ put a rows))
        go Less rest = (l, (h.0, h.1))
        go Equal rest = (l, h.1)
        go Greater rest = (h.0, rest)

    pub put-ascends : (a : A) (rows : List A) → Ascends rows → Ascends (put a rows)
    put-ascends a [] h = (tt, tt)
    put-ascends a (r ∷ rows) h = go (o.cmp (key a) (key r)) refl (put-ascends a rows h.1)
      where
        go : (x : Ordering) → o.cmp (key a) (key r) ≡ x → Ascends (put a rows) → Ascends (by_order x (a ∷ r ∷ rows) (a ∷ rows) (r ∷ put a rows))
        go Less e rest = ((e, above-above (key a) (key r) rows e h.0), h)
        go Equal e rest = (subst (λ k. Above k rows) (sym (o.anti (key a) (key r) e)) h.0, h.1)
        go Greater e rest = (above-put (key r) a rows (greater-less (key a) (key r) e) h.0, rest)

    -- ---- rows left out

    abbrev pub if_so : (A → Bool) → Option A → Option A
    if_so t (Some r) = cond (t r) (Some r) None
    if_so t None = None

    pub at-filter : (t : A → Bool) (k : K) (rows : List A) → Ascends rows → at k (filter t rows) ≡ if_so t (at k rows)
    at-filter t k [] h = refl
    at-filter t k (r ∷ rows) h = go (t r) refl (o.same k (key r)) refl (at-filter t k rows h.1)
      where
        go : (b : Bool) → t r ≡ b → (c : Bool) → o.same k (key r) ≡ c → at k (filter t rows) ≡ if_so t (at k rows) → at k (cond b (r ∷ filter t rows) (filter t rows)) ≡ if_so t (cond c (Some r) (at k rows))
        go true e true is rest = ap (λ c. cond c (Some r) (at k (filter t rows))) is ∙ ap (λ b. cond b (Some r) None) (sym e)
        go true e false is rest = ap (λ c. cond c (Some r) (at k (filter t rows))) is ∙ rest
        go false e true is rest = rest ∙ ap (if_so t) (at-above k rows (subst (λ j. Above j rows) (sym (o.same_is k (key r) is)) h.0)) ∙ ap (λ b. cond b (Some r) None) (sym e)
        go false e false is rest = rest

    above-filter : (t : A → Bool) (k : K) (rows : List A) → Above k rows → Above k (filter t rows)
    above-filter t k [] h = tt
    above-filter t k (r ∷ rows) h = go (t r) (above-filter t k rows h.1)
      where
        go : (b : Bool) → Above k (filter t rows) → Above k (cond b (r ∷ filter t rows) (filter t rows))
        go true rest = (h.0, rest)
        go false rest = rest

    pub filter-ascends : (t : A → Bool) (rows : List A) → Ascends rows → Ascends (filter t rows)
    filter-ascends t [] h = tt
    filter-ascends t (r ∷ rows) h = go (t r) (filter-ascends t rows h.1)
      where
        go : (b : Bool) → Ascends (filter t rows) → Ascends (cond b (r ∷ filter t rows) (filter t rows))
        go true rest = (above-filter t (key r) rows h.0, rest)
        go false rest = rest

    -- ---- rows changed at their places

    pub at-map : (h : A → A) → ((r : A) → key (h r) ≡ key r) → (k : K) (rows : List A) → at k (map h rows) ≡ option_map h (at k rows)
    at-map h keeps k [] = refl
    at-map h keeps k (r ∷ rows) = go (o.same k (key r)) refl (at-map h keeps k rows)
      where
        go : (b : Bool) → o.same k (key r) ≡ b → at k (map h rows) ≡ option_map h (at k rows) → cond (o.same k (key (h r))) (Some (h r)) (at k (map h rows)) ≡ option_map h (cond b (Some r) (at k rows))
        go true e rest = ap (λ j. cond (o.same k j) (Some (h r)) (at k (map h rows))) (keeps r) ∙ ap (λ b. cond b (Some (h r)) (at k (map h rows))) e
        go false e rest = ap (λ j. cond (o.same k j) (Some (h r)) (at k (map h rows))) (keeps r) ∙ ap (λ b. cond b (Some (h r)) (at k (map h rows))) e ∙ rest

    above-map : (h : A → A) → ((r : A) → key (h r) ≡ key r) → (k : K) (rows : List A) → Above k rows → Above k (map h rows)
    above-map h keeps k [] a = tt
    above-map h keeps k (r ∷ rows) a = (ap (o.cmp k) (keeps r) ∙ a.0, above-map h keeps k rows a.1)

    pub map-ascends : (h : A → A) → ((r : A) → key (h r) ≡ key r) → (rows : List A) → Ascends rows → Ascends (map h rows)
    map-ascends h keeps [] a = tt
    map-ascends h keeps (r ∷ rows) a = (subst (λ k. Above k (map h rows)) (sym (keeps r)) (above-map h keeps (key r) rows a.0), map-ascends h keeps rows a.1)

-- ---- rows that a function gives of ascending keys

abbrev pub KeysAscend : {K : Type 0} → Order K → List K → Type 0
KeysAscend o ks = Ascends o itself ks

module _ {K : Type 0} (o : Order K) {A : Type 0} (key : A → K) (f : K → Option A) (own : (k : K) (r : A) → f k ≡ Some r → key r ≡ k) where
  -- what a key finds, where only these have rows
  abbrev pub if_member : List K → K → Option A
  if_member ks k = cond (member o k ks) (f k) None

  pub at-filter_map : (k : K) (ks : List K) → at o key k (filter_map f ks) ≡ if_member ks k
  at-filter_map k [] = refl
  at-filter_map k (j ∷ js) = go (f j) refl (o.same k j) refl (at-filter_map k js)
    where
      idle : f j ≡ None → k ≡ j → (b : Bool) → cond b (f k) None ≡ f k
      idle e is true = refl
      idle e is false = sym e ∙ ap f (sym is)

      go : (x : Option A) → f j ≡ x → (b : Bool) → o.same k j ≡ b → at o key k (filter_map f js) ≡ cond (member o k js) (f k) None
          → at o key k (cons_option x (filter_map f js)) ≡ cond (is_some (cond b (Some j) (find (λ i. o.same k i) js))) (f k) None
      go (Some r) e true is rest = ap (λ i. cond (o.same k i) (Some r) (at o key k (filter_map f js))) (own j r e) ∙ ap (λ b. cond b (Some r) (at o key k (filter_map f js))) is ∙ sym e ∙ ap f (sym (o.same_is k j is))
      go (Some r) e false is rest = ap (λ i. cond (o.same k i) (Some r) (at o key k (filter_map f js))) (own j r e) ∙ ap (λ b. cond b (Some r) (at o key k (filter_map f js))) is ∙ rest
      go None e true is rest = rest ∙ idle e (o.same_is k j is) (member o k js)
      go None e false is rest = rest

  above-filter_map : (k : K) (ks : List K) → Above o itself k ks → Above o key k (filter_map f ks)
  above-filter_map k [] h = tt
  above-filter_map k (j ∷ js) h = go (f j) refl (above-filter_map k js h.1)
    where
      go : (x : Option A) → f j ≡ x → Above o key k (filter_map f js) → Above o key k (cons_option x (filter_map f js))
      go (Some r) e rest = (ap (o.cmp k) (own j r e) ∙ h.0, rest)
      go None e rest = rest

  pub filter_map-ascends : (ks : List K) → KeysAscend o ks → Ascends o key (filter_map f ks)
  filter_map-ascends [] h = tt
  filter_map-ascends (j ∷ js) h = go (f j) refl (filter_map-ascends js h.1)
    where
      go : (x : Option A) → f j ≡ x → Ascends o key (filter_map f js) → Ascends o key (cons_option x (filter_map f js))
      go (Some r) e rest = (subst (λ i. Above o key i (filter_map f js)) (sym (own j r e)) (above-filter_map j js h.0), rest)
      go None e rest = rest

  -- the rows are those that the keys find
  pub listed-is : (ks : List K) (rows : List A) → KeysAscend o ks → Ascends o key rows → ((k : K) → if_member ks k ≡ at o key k rows) → filter_map f ks ≡ rows
  listed-is ks rows h a all = ascending-is o key (filter_map f ks) rows (filter_map-ascends ks h) a (λ k. at-filter_map k ks ∙ all k)

  pub if_member-is : (ks : List K) → ((k : K) → member o k ks ≡ false → f k ≡ None) → (k : K) → if_member ks k ≡ f k
  if_member-is ks none k = go (member o k ks) refl
    where
      go : (b : Bool) → member o k ks ≡ b → cond b (f k) None ≡ f k
      go true e = refl
      go false e = sym (none k e)

  -- where no other key has a row, a key finds its own
  pub at-listed : (ks : List K) → ((k : K) → member o k ks ≡ false → f k ≡ None) → (k : K) → at o key k (filter_map f ks) ≡ f k
  at-listed ks none k = at-filter_map k ks ∙ if_member-is ks none k

-- keys with one more
abbrev pub with_key : {K : Type 0} → Order K → K → List K → List K
with_key o k ks = put_by o.cmp itself k ks

pub member-with_key : {K : Type 0} (o : Order K) (k p : K) (ks : List K) → member o k (with_key o p ks) ≡ cond (o.same k p) true (member o k ks)
member-with_key o k p ks = ap (λ x. is_some x) (at-put o itself k p ks) ∙ go (o.same k p)
  where
    go : (b : Bool) → is_some (cond b (Some p) (find (λ j. o.same k j) ks)) ≡ cond b true (member o k ks)
    go true = refl
    go false = refl

module _ {K : Type 0} (o : Order K) {A : Type 0} (key : A → K) (f g : K → Option A) (own : (k : K) (r : A) → f k ≡ Some r → key r ≡ k) (own_g : (k : K) (r : A) → g k ≡ Some r → key r ≡ k) where
  -- one row is new, or another one
  pub listed-put : (p : K) (a : A) (ks js : List K) → KeysAscend o ks → KeysAscend o js → ((k : K) → member o k js ≡ cond (o.same k p) true (member o k ks)) → g p ≡ Some a → ((q : K) → (q ≡ p → ⊥) → g q ≡ f q)
      → filter_map g js ≡ put o key a (filter_map f ks)
  listed-put p a ks js hk hj members gives others = listed-is o key g own_g js _ hj (put-ascends o key a _ (filter_map-ascends o key f own ks hk)) (λ k.
      ap (λ b. cond b (g k) None) (members k) ∙ go k (o.same k p) refl ∙ sym (at-put o key k a (filter_map f ks) ∙ ap (λ j. cond (o.same k j) (Some a) (at o key k (filter_map f ks))) (own_g p a gives) ∙ ap (cond (o.same k p) (Some a)) (at-filter_map o key f own k ks)))
    where
      go : (k : K) (b : Bool) → o.same k p ≡ b → cond (cond b true (member o k ks)) (g k) None ≡ cond b (Some a) (cond (member o k ks) (f k) None)
      go k true e = ap g (o.same_is k p e) ∙ gives
      go k false e = ap (λ x. cond (member o k ks) x None) (others k (λ is. never (sym e ∙ ap (λ j. o.same j p) is ∙ o.same_self p)))
        where
          never : false ≡ true → ⊥
          never e = cc

  -- one row is gone
  pub listed-without : (p : K) (ks : List K) → KeysAscend o ks → g p ≡ None → ((q : K) → (q ≡ p → ⊥) → g q ≡ f q) → filter_map g ks ≡ filter (λ r. not (o.same p (key r))) (filter_map f ks)
  listed-without p ks h gone others = listed-is o key g own_g ks _ h (filter-ascends o key _ _ (filter_map-ascends o key f own ks h)) (λ k.
      go k (o.same p k) refl (f k) refl (member o k ks) ∙ sym (at-filter o key (λ r. not (o.same p (key r))) k (filter_map f ks) (filter_map-ascends o key f own ks h) ∙ ap (if_so o key (λ r. not (o.same p (key r)))) (at-filter_map o key f own k ks)))
    where
      t : A → Bool
      t r = not (o.same p (key r))

      at_k : (k : K) (b : Bool) → o.same p k ≡ b → (r : A) → f k ≡ Some r → not (o.same p (key r)) ≡ not b
      at_k k b e r is = ap (λ j. not (o.same p j)) (own k r is) ∙ ap not e

      go : (k : K) (b : Bool) → o.same p k ≡ b → (x : Option A) → f k ≡ x → (m : Bool) → cond m (g k) None ≡ if_so o key (λ r. not (o.same p (key r))) (cond m (f k) None)
      go k b e x is false = refl
      go k true e (Some r) is true = ap g (sym (o.same_is p k e)) ∙ gone ∙ ap (λ c. cond c (Some r) None) (sym (at_k k true e r is)) ∙ ap (if_so o key (λ r. not (o.same p (key r)))) (sym is)
      go k true e None is true = ap g (sym (o.same_is p k e)) ∙ gone ∙ ap (if_so o key (λ r. not (o.same p (key r)))) (sym is)
      go k false e (Some r) is true = others k (differ k e) ∙ is ∙ ap (λ c. cond c (Some r) None) (sym (at_k k false e r is)) ∙ ap (if_so o key (λ r. not (o.same p (key r)))) (sym is)
        where
          differ : (k : K) → o.same p k ≡ false → k ≡ p → ⊥
          differ k e is = never (sym e ∙ ap (o.same p) is ∙ o.same_self p)
            where
              never : false ≡ true → ⊥
              never e = cc
      go k false e None is true = others k (differ k e) ∙ is ∙ ap (if_so o key (λ r. not (o.same p (key r)))) (sym is)
        where
          differ : (k : K) → o.same p k ≡ false → k ≡ p → ⊥
          differ k e is = never (sym e ∙ ap (o.same p) is ∙ o.same_self p)
            where
              never : false ≡ true → ⊥
              never e = cc

-- more keys, that have no rows
pub listed-more : {K : Type 0} (o : Order K) {A : Type 0} (key : A → K) (f : K → Option A) (own : (k : K) (r : A) → f k ≡ Some r → key r ≡ k) (ks js : List K) → KeysAscend o ks → KeysAscend o js
    → ((k : K) → member o k ks ≡ false → f k ≡ None) → ((k : K) → member o k js ≡ false → f k ≡ None) → filter_map f js ≡ filter_map f ks
listed-more o key f own ks js hk hj none none_more = listed-is o key f own js _ hj (filter_map-ascends o key f own ks hk) (λ k. if_member-is o key f own js none_more k ∙ sym (at-listed o key f own ks none k))

-- what is found above a key is of a greater key
pub above-at : {K : Type 0} (o : Order K) {A : Type 0} (key : A → K) (j k : K) (rows : List A) (r : A) → Above o key j rows → at o key k rows ≡ Some r → o.cmp j k ≡ Less
above-at o key j k [] r h e = none-some r e
above-at o key j k (q ∷ rows) r h e = go (o.same k (key q)) refl e (above-at o key j k rows r h.1)
  where
    go : (b : Bool) → o.same k (key q) ≡ b → cond b (Some q) (at o key k rows) ≡ Some r → (at o key k rows ≡ Some r → o.cmp j k ≡ Less) → o.cmp j k ≡ Less
    go true is f rest = ap (o.cmp j) (o.same_is k (key q) is) ∙ h.0
    go false is f rest = rest f

-- ---- rows that a function gives of rows, at their keys

module _ {K : Type 0} (o : Order K) {A B : Type 0} (key : A → K) (key_of : B → K) (f : A → Option B) (own : (a : A) (b : B) → f a ≡ Some b → key_of b ≡ key a) where
  pub at-rows : (k : K) (rows : List A) → Ascends o key rows → at o key_of k (filter_map f rows) ≡ option_and_then f (at o key k rows)
  at-rows k [] h = refl
  at-rows k (r ∷ rows) h = go (f r) refl (o.same k (key r)) refl (at-rows k rows h.1)
    where
      go : (x : Option B) → f r ≡ x → (b : Bool) → o.same k (key r) ≡ b → at o key_of k (filter_map f rows) ≡ option_and_then f (at o key k rows)
          → at o key_of k (cons_option x (filter_map f rows)) ≡ option_and_then f (cond b (Some r) (at o key k rows))
      go (Some y) e true is rest = ap (λ i. cond (o.same k i) (Some y) (at o key_of k (filter_map f rows))) (own r y e) ∙ ap (λ b. cond b (Some y) (at o key_of k (filter_map f rows))) is ∙ sym e
      go (Some y) e false is rest = ap (λ i. cond (o.same k i) (Some y) (at o key_of k (filter_map f rows))) (own r y e) ∙ ap (λ b. cond b (Some y) (at o key_of k (filter_map f rows))) is ∙ rest
      go None e true is rest = rest ∙ ap (option_and_then f) (at-above o key k rows (subst (λ j. Above o key j rows) (sym (o.same_is k (key r) is)) h.0)) ∙ sym e
      go None e false is rest = rest

  above-rows : (k : K) (rows : List A) → Above o key k rows → Above o key_of k (filter_map f rows)
  above-rows k [] h = tt
  above-rows k (r ∷ rows) h = go (f r) refl (above-rows k rows h.1)
    where
      go : (x : Option B) → f r ≡ x → Above o key_of k (filter_map f rows) → Above o key_of k (cons_option x (filter_map f rows))
      go (Some y) e rest = (ap (o.cmp k) (own r y e) ∙ h.0, rest)
      go None e rest = rest

  pub rows-ascend : (rows : List A) → Ascends o key rows → Ascends o key_of (filter_map f rows)
  rows-ascend [] h = tt
  rows-ascend (r ∷ rows) h = go (f r) refl (rows-ascend rows h.1)
    where
      go : (x : Option B) → f r ≡ x → Ascends o key_of (filter_map f rows) → Ascends o key_of (cons_option x (filter_map f rows))
      go (Some y) e rest = (subst (λ i. Above o key_of i (filter_map f rows)) (sym (own r y e)) (above-rows (key r) rows h.0), rest)
      go None e rest = rest

-- what is found is of the key
pub found-key : {K : Type 0} (o : Order K) {A : Type 0} (key : A → K) (k : K) (rows : List A) (r : A) → at o key k rows ≡ Some r → key r ≡ k
found-key o key k [] r e = none-some r e
found-key o key k (q ∷ rows) r e = go (o.same k (key q)) refl e (found-key o key k rows r)
  where
    go : (b : Bool) → o.same k (key q) ≡ b → cond b (Some q) (at o key k rows) ≡ Some r → (at o key k rows ≡ Some r → key r ≡ k) → key r ≡ k
    go true is f rest = ap key (sym (same_Some q r f)) ∙ sym (o.same_is k (key q) is)
    go false is f rest = rest f
