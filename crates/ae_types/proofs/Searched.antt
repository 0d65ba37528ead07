-- Tests of ascending rows say the same of each row and of what each key finds.
use Rattle.std.proofs.Common.{◌≡◌, inl, inr, ◌<◌, ◌≤◌, refl, sym, ◌∙◌, ap, subst, List, [], ◌∷◌, Some, Bool, true, false, cond, ◌&&◌, arith}
use Rattle.std.specs.Prelude.{filter, length, is_some}
use Rattle.std.specs.List.{find, list_all}
use Rattle.std.specs.Ordering.{is_lt}
use Rattle.std.specs.declared.cmp.Ordering.{Ordering}
use Rattle.std.specs.declared.cmp.Ordering.TheVariants.{Less, Equal, Greater}
use Rattle.std.proofs.lemmas.Option.{same_Some}
use Rattle.std.proofs.lemmas.Bool.{false≢true, and_parts}
use Rattle.ae_types.specs.Ordered.{ascends, ascends_from}
use Rattle.ae_types.proofs.Members.{In, in-all}
use Rattle.ae_types.proofs.Ordered.{Order, at, Above, Ascends, above-above, above-at, at-first, apart, less-other, none-some}

pub is_less : (x : Ordering) → is_lt x ≡ true → x ≡ Less
is_less Less e = refl
is_less Equal e = cc
is_less Greater e = cc

module _ {K : Type 0} (o : Order K) {A : Type 0} (key : A → K) where
  -- ---- ascending

  from-above : (k : K) (rows : List A) → ascends_from o.cmp key k rows ≡ true → Above o key k rows × Ascends o key rows
  from-above k [] e = (tt, tt)
  from-above k (r ∷ rows) e =
      let a = and_parts (is_lt (o.cmp k (key r))) (ascends_from o.cmp key (key r) rows) e in
      let b = from-above (key r) rows a.1 in
      let l = is_less (o.cmp k (key r)) a.0 in
      ((l, above-above o key k (key r) rows l b.0), b)

  above-from : (k : K) (rows : List A) → Above o key k rows → Ascends o key rows → ascends_from o.cmp key k rows ≡ true
  above-from k [] h a = refl
  above-from k (r ∷ rows) h a = ap (λ x. is_lt x && ascends_from o.cmp key (key r) rows) h.0 ∙ above-from (key r) rows a.0 a.1

  pub test-ascends : (rows : List A) → ascends o.cmp key rows ≡ true → Ascends o key rows
  test-ascends [] e = tt
  test-ascends (r ∷ rows) e = from-above (key r) rows e

  pub ascends-test : (rows : List A) → Ascends o key rows → ascends o.cmp key rows ≡ true
  ascends-test [] a = refl
  ascends-test (r ∷ rows) a = above-from (key r) rows a.0 a.1

  -- ---- a row, and what its key finds

  pub at-skip : (x : A) (xs : List A) (k : K) (r : A) → Above o key (key x) xs → at o key k xs ≡ Some r → at o key k (x ∷ xs) ≡ Some r
  at-skip x xs k r a e = ap (λ b. cond b (Some x) (at o key k xs)) (apart o k (key x) (λ is. less-other o (key x) k (above-at o key (key x) k xs r a e) (sym is))) ∙ e

  pub found-in : (xs : List A) (k : K) (r : A) → at o key k xs ≡ Some r → In xs r
  found-in [] k r e = none-some r e
  found-in (x ∷ xs) k r e = go (o.same k (key x)) e (found-in xs k r)
    where
      go : (b : Bool) → cond b (Some x) (at o key k xs) ≡ Some r → (at o key k xs ≡ Some r → In xs r) → In (x ∷ xs) r
      go true e rest = inl (same_Some x r e)
      go false e rest = inr (rest e)

  pub in-found : (xs : List A) → Ascends o key xs → (r : A) → In xs r → at o key (key r) xs ≡ Some r
  in-found [] a r h = absurd h
  in-found (x ∷ xs) a r (inl e) = subst (λ s. at o key (key s) (x ∷ xs) ≡ Some s) e (at-first o key x xs)
  in-found (x ∷ xs) a r (inr h) = at-skip x xs (key r) r a.0 (in-found xs a.1 r h)

  -- ---- tests of all rows

  pub all-found : (t : A → Bool) (xs : List A) → list_all t xs ≡ true → (k : K) (r : A) → at o key k xs ≡ Some r → t r ≡ true
  all-found t xs h k r e = Rattle.ae_types.proofs.Members.all-in t xs h r (found-in xs k r e)

  pub found-all : (t : A → Bool) (xs : List A) → Ascends o key xs → ((k : K) (r : A) → at o key k xs ≡ Some r → t r ≡ true) → list_all t xs ≡ true
  found-all t xs a h = in-all t xs (λ r m. h (key r) r (in-found xs a r m))

  -- ---- how many rows pass a test

  none-counted : (t : A → Bool) (xs : List A) → length (filter t xs) ≡ 0 → (r : A) → In xs r → t r ≡ true → ⊥
  none-counted t [] n r h is = h
  none-counted t (x ∷ xs) n r h is = go (t x) refl n h (λ m. none-counted t xs m r)
    where
      go : (b : Bool) → t x ≡ b → length (cond b (x ∷ filter t xs) (filter t xs)) ≡ 0 → In (x ∷ xs) r → (length (filter t xs) ≡ 0 → In xs r → t r ≡ true → ⊥) → ⊥
      go true e m h rest = absurd (omega (arith, m))
      go false e m (inl here) rest = absurd (false≢true (sym e ∙ ap t here ∙ is))
      go false e m (inr later) rest = rest m later is

  counted-none : (t : A → Bool) (xs : List A) → ((r : A) → In xs r → t r ≡ true → ⊥) → length (filter t xs) ≡ 0
  counted-none t [] h = refl
  counted-none t (x ∷ xs) h = go (t x) refl (counted-none t xs (λ r m. h r (inr m)))
    where
      go : (b : Bool) → t x ≡ b → length (filter t xs) ≡ 0 → length (cond b (x ∷ filter t xs) (filter t xs)) ≡ 0
      go true e rest = absurd (h x (inl refl) e)
      go false e rest = rest

  -- at most one passes: two that pass are the same
  pub few-one : (t : A → Bool) (xs : List A) → length (filter t xs) ≤ 1 → (r s : A) → In xs r → In xs s → t r ≡ true → t s ≡ true → r ≡ s
  few-one t [] n r s h m a b = absurd h
  few-one t (x ∷ xs) n r s h m a b = go (t x) refl n h m (λ less. few-one t xs less r s)
    where
      go : (c : Bool) → t x ≡ c → length (cond c (x ∷ filter t xs) (filter t xs)) ≤ 1 → In (x ∷ xs) r → In (x ∷ xs) s → (length (filter t xs) ≤ 1 → In xs r → In xs s → t r ≡ true → t s ≡ true → r ≡ s) → r ≡ s
      go true e less (inl i) (inl j) rest = sym i ∙ j
      go true e less (inl i) (inr j) rest = absurd (none-counted t xs (omega (arith, less)) s j b)
      go true e less (inr i) (inl j) rest = absurd (none-counted t xs (omega (arith, less)) r i a)
      go true e less (inr i) (inr j) rest = absurd (none-counted t xs (omega (arith, less)) r i a)
      go false e less (inl i) j rest = absurd (false≢true (sym e ∙ ap t i ∙ a))
      go false e less (inr i) (inl j) rest = absurd (false≢true (sym e ∙ ap t j ∙ b))
      go false e less (inr i) (inr j) rest = rest less i j a b

  pub one-few : (t : A → Bool) (xs : List A) → Ascends o key xs → ((r s : A) → In xs r → In xs s → t r ≡ true → t s ≡ true → key r ≡ key s) → length (filter t xs) ≤ 1
  one-few t [] a h = omega arith
  one-few t (x ∷ xs) a h = go (t x) refl (one-few t xs a.1 (λ r s m n. h r s (inr m) (inr n)))
    where
      later : t x ≡ true → (r : A) → In xs r → t r ≡ true → ⊥
      later e r m is = less-other o (key x) (key r) (above-at o key (key x) (key r) xs r a.0 (in-found xs a.1 r m)) (h x r (inl refl) (inr m) e is)

      go : (b : Bool) → t x ≡ b → length (filter t xs) ≤ 1 → length (cond b (x ∷ filter t xs) (filter t xs)) ≤ 1
      go true e rest = let none = counted-none t xs (later e) in omega (arith, none)
      go false e rest = rest

  -- some pass where the first that does is found
  pub some-counted : (t : A → Bool) (xs : List A) → 0 < length (filter t xs) → is_some (find t xs) ≡ true
  some-counted t [] n = absurd (omega (arith, n))
  some-counted t (x ∷ xs) n = go (t x) n (some-counted t xs)
    where
      go : (b : Bool) → 0 < length (cond b (x ∷ filter t xs) (filter t xs)) → (0 < length (filter t xs) → is_some (find t xs) ≡ true) → is_some (cond b (Some x) (find t xs)) ≡ true
      go true m rest = refl
      go false m rest = rest m

  pub counted-some : (t : A → Bool) (xs : List A) → is_some (find t xs) ≡ true → 0 < length (filter t xs)
  counted-some t [] e = absurd (false≢true e)
  counted-some t (x ∷ xs) e = go (t x) e (counted-some t xs)
    where
      go : (b : Bool) → is_some (cond b (Some x) (find t xs)) ≡ true → (is_some (find t xs) ≡ true → 0 < length (filter t xs)) → 0 < length (cond b (x ∷ filter t xs) (filter t xs))
      go true e rest = omega arith
      go false e rest = rest e
