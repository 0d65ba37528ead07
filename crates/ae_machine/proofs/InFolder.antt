-- The paths that lie in a folder stand together among ascending ones, and a walk over them finds what a look at all would.
use Rattle.std.specs.Prelude.{◌≡◌, ℕ, zero, suc, Bool, true, false, ◌&&◌, ◌||◌, List, [], ◌∷◌, ◌++◌, length}
use Rattle.std.proofs.Common.{refl, sym, ap, ◌∙◌, if◌then◌else◌, get_or, drop, ◌<◌, ◌≤◌, arith}
use Rattle.std.specs.List.{list_any}
use Rattle.std.specs.List.Sorted.{IsPartitionPoint, IsPartitionedBy}
use Rattle.std.specs.FinMap.{nat_cmp-IsAntisymmetric}
use Rattle.std.specs.Ordering.{is_eq, is_lt, nat_cmp, ordering_reverse, ordering_then}
use Rattle.std.specs.Cmp.{nat_cmp_is}
use Rattle.std.specs.declared.cmp.Ordering.{Ordering}
use Rattle.std.specs.declared.cmp.Ordering.TheVariants.{Less, Equal, Greater}
use Rattle.ae_types.proofs.Searched.{is_less}
use Rattle.ae_base.specs.Names.{IsFolderOf}
use Rattle.ae_base.specs.Rows.{text_cmp}
use Rattle.ae_types.proofs.Keys.{by_number, by_text}
use Rattle.ae_types.proofs.Ordered.{Above, Ascends}
use Rattle.ae_machine.specs.PathClash.{any_in_folder, from_folder, place_to}

-- ---- what lies in a folder

pub place-rest : (folder rest : List ℕ) → place_to folder (folder ++ rest) ≡ place_to [] rest
place-rest [] rest = refl
place-rest (a ∷ folder) rest = ap (λ r. ordering_then r (place_to folder (folder ++ rest))) (sym (nat_cmp_is a a Equal refl)) ∙ place-rest folder rest

-- a path that doesn't begin with the folder stands to those in it as it does to the folder
pub place-other : (folder path : List ℕ) → ((rest : List ℕ) → path ≡ folder ++ rest → ⊥) → place_to folder path ≡ text_cmp path folder
place-other [] path none = absurd (none path refl)
place-other (a ∷ folder) [] none = refl
place-other (a ∷ folder) (b ∷ path) none = go (nat_cmp b a) refl (place-other folder path)
  where
    go : (r : Ordering) → nat_cmp b a ≡ r → (((rest : List ℕ) → path ≡ folder ++ rest → ⊥) → place_to folder path ≡ text_cmp path folder)
        → ordering_then (nat_cmp b a) (place_to folder path) ≡ ordering_then (nat_cmp b a) (text_cmp path folder)
    go Less is rest = ap (λ r. ordering_then r (place_to folder path)) is ∙ sym (ap (λ r. ordering_then r (text_cmp path folder)) is)
    go Equal is rest = ap (ordering_then (nat_cmp b a)) (rest (λ more e. none more (λ i. nat_cmp-IsAntisymmetric b a is i ∷ e i)))
    go Greater is rest = ap (λ r. ordering_then r (place_to folder path)) is ∙ sym (ap (λ r. ordering_then r (text_cmp path folder)) is)

pub folder-place : (folder path : List ℕ) → IsFolderOf folder path → place_to folder path ≡ Equal
folder-place folder path on = ap (place_to folder) on.1 ∙ place-rest folder (47 ∷ on.0)

pub place-folder : (folder path : List ℕ) → place_to folder path ≡ Equal → IsFolderOf folder path
place-folder [] [] e = cc
place-folder [] (b ∷ bs) e = (bs, ap (λ c. c ∷ bs) (nat_cmp-IsAntisymmetric b 47 e))
place-folder (a ∷ folder) [] e = cc
place-folder (a ∷ folder) (b ∷ path) e = go (nat_cmp b a) refl e (place-folder folder path)
  where
    go : (r : Ordering) → nat_cmp b a ≡ r → ordering_then r (place_to folder path) ≡ Equal → (place_to folder path ≡ Equal → IsFolderOf folder path) → IsFolderOf (a ∷ folder) (b ∷ path)
    go Less is e rest = cc
    go Equal is e rest = let on = rest e in (on.0, λ i. nat_cmp-IsAntisymmetric b a is i ∷ on.1 i)
    go Greater is e rest = cc

-- ---- what is below another path

below-trans : (a b c : ℕ) → nat_cmp a b ≡ Less → nat_cmp b c ≡ Less → nat_cmp a c ≡ Less
below-trans a b c l m = by_number.total.trans a b c l m

above-is : (a b : ℕ) → nat_cmp a b ≡ Less → nat_cmp b a ≡ Greater
above-is a b l = by_number.total.antisymm b a ∙ ap ordering_reverse l

below-is : (a b : ℕ) → nat_cmp a b ≡ Greater → nat_cmp b a ≡ Less
below-is a b g = by_number.total.antisymm b a ∙ ap ordering_reverse g

-- one below a path before the folder's stands before them too
pub less-before : (folder x y : List ℕ) → text_cmp x y ≡ Less → place_to folder y ≡ Less → place_to folder x ≡ Less
less-before [] [] y l p = refl
less-before [] (b ∷ x) [] l p = cc
less-before [] (b ∷ x) (c ∷ y) l p = go (nat_cmp b c) refl l
  where
    go : (r : Ordering) → nat_cmp b c ≡ r → ordering_then r (text_cmp x y) ≡ Less → nat_cmp b 47 ≡ Less
    go Less is l = below-trans b c 47 is p
    go Equal is l = ap (λ n. nat_cmp n 47) (nat_cmp-IsAntisymmetric b c is) ∙ p
    go Greater is l = cc
less-before (a ∷ folder) [] y l p = refl
less-before (a ∷ folder) (b ∷ x) [] l p = cc
less-before (a ∷ folder) (b ∷ x) (c ∷ y) l p = go (nat_cmp b c) refl l (nat_cmp c a) refl p (less-before folder x y)
  where
    so : (r : Ordering) → nat_cmp b a ≡ r → ordering_then r (place_to folder x) ≡ Less → ordering_then (nat_cmp b a) (place_to folder x) ≡ Less
    so r is e = ap (λ r. ordering_then r (place_to folder x)) is ∙ e

    go : (r : Ordering) → nat_cmp b c ≡ r → ordering_then r (text_cmp x y) ≡ Less → (q : Ordering) → nat_cmp c a ≡ q → ordering_then q (place_to folder y) ≡ Less
        → (text_cmp x y ≡ Less → place_to folder y ≡ Less → place_to folder x ≡ Less) → ordering_then (nat_cmp b a) (place_to folder x) ≡ Less
    go Less is l Less e p rest = so Less (below-trans b c a is e) refl
    go Less is l Equal e p rest = so Less (ap (nat_cmp b) (sym (nat_cmp-IsAntisymmetric c a e)) ∙ is) refl
    go Equal is l Less e p rest = so Less (ap (λ n. nat_cmp n a) (nat_cmp-IsAntisymmetric b c is) ∙ e) refl
    go Equal is l Equal e p rest = so Equal (ap (λ n. nat_cmp n a) (nat_cmp-IsAntisymmetric b c is) ∙ e) (rest l p)
    go r is l Greater e p rest = cc
    go Greater is l q e p rest = cc

-- one above a path after the folder's stands after them too
pub less-behind : (folder x y : List ℕ) → text_cmp x y ≡ Less → place_to folder x ≡ Greater → place_to folder y ≡ Greater
less-behind [] [] y l p = cc
less-behind [] (b ∷ x) [] l p = cc
less-behind [] (b ∷ x) (c ∷ y) l p = go (nat_cmp b c) refl l
  where
    go : (r : Ordering) → nat_cmp b c ≡ r → ordering_then r (text_cmp x y) ≡ Less → nat_cmp c 47 ≡ Greater
    go Less is l = above-is 47 c (below-trans 47 b c (below-is b 47 p) is)
    go Equal is l = ap (λ n. nat_cmp n 47) (sym (nat_cmp-IsAntisymmetric b c is)) ∙ p
    go Greater is l = cc
less-behind (a ∷ folder) [] y l p = cc
less-behind (a ∷ folder) (b ∷ x) [] l p = cc
less-behind (a ∷ folder) (b ∷ x) (c ∷ y) l p = go (nat_cmp b c) refl l (nat_cmp b a) refl p (less-behind folder x y)
  where
    so : (r : Ordering) → nat_cmp c a ≡ r → ordering_then r (place_to folder y) ≡ Greater → ordering_then (nat_cmp c a) (place_to folder y) ≡ Greater
    so r is e = ap (λ r. ordering_then r (place_to folder y)) is ∙ e

    go : (r : Ordering) → nat_cmp b c ≡ r → ordering_then r (text_cmp x y) ≡ Less → (q : Ordering) → nat_cmp b a ≡ q → ordering_then q (place_to folder x) ≡ Greater
        → (text_cmp x y ≡ Less → place_to folder x ≡ Greater → place_to folder y ≡ Greater) → ordering_then (nat_cmp c a) (place_to folder y) ≡ Greater
    go Less is l Greater e p rest = so Greater (above-is a c (below-trans a b c (below-is b a e) is)) refl
    go Less is l Equal e p rest = so Greater (above-is a c (ap (λ n. nat_cmp n c) (sym (nat_cmp-IsAntisymmetric b a e)) ∙ is)) refl
    go Equal is l Greater e p rest = so Greater (ap (λ n. nat_cmp n a) (sym (nat_cmp-IsAntisymmetric b c is)) ∙ e) refl
    go Equal is l Equal e p rest = so Equal (ap (λ n. nat_cmp n a) (sym (nat_cmp-IsAntisymmetric b c is)) ∙ e) (rest l p)
    go r is l Less e p rest = cc
    go Greater is l q e p rest = cc

-- ---- ascending rows

module _ {A : Type 0} (key : A → List ℕ) (folder : List ℕ) where
  abbrev before : A → Bool
  before row = is_lt (place_to folder (key row))

  above-get : (k : List ℕ) (rows : List A) → Above by_text key k rows → (j : ℕ) (d : A) → j < length rows → text_cmp k (key (get_or rows j d)) ≡ Less
  above-get k [] a j d h = absurd (omega (arith, h))
  above-get k (row ∷ rows) a zero d h = a.0
  above-get k (row ∷ rows) a (suc j) d h = above-get k rows a.1 j d (omega (arith, h))

  -- those before the folder's come first
  pub partitioned : (rows : List A) → Ascends by_text key rows → IsPartitionedBy before rows
  partitioned [] a i j d low high e = absurd (omega (arith, high))
  partitioned (row ∷ rows) a zero zero d low high e = e
  partitioned (row ∷ rows) a zero (suc j) d low high e = ap is_lt (less-before folder (key row) (key (get_or rows j d)) (above-get (key row) rows a.0 j d (omega (arith, high))) (is_less (place_to folder (key (get_or rows j d))) e))
  partitioned (row ∷ rows) a (suc i) zero d low high e = absurd (omega (arith, low))
  partitioned (row ∷ rows) a (suc i) (suc j) d low high e = partitioned rows a.1 i j d (omega (arith, low)) (omega (arith, high)) e

  -- the rows after the place that divides them
  pub parted-from : (rows : List A) (at : ℕ) → at ≤ length rows → IsPartitionPoint (λ row. before row ≡ true) (λ row. before row ≡ false) rows at → drop at rows ≡ from_folder key folder rows
  parted-from [] zero h p = refl
  parted-from [] (suc at) h p = absurd (omega (arith, h))
  parted-from (row ∷ rows) zero h p = sym (ap (λ b. if b then from_folder key folder rows else row ∷ rows) (p.1 0 row (omega arith) (omega arith)))
  parted-from (row ∷ rows) (suc at) h p =
      parted-from rows at (omega (arith, h)) (λ k d low high. p.0 (suc k) d (omega (arith, low)) (omega (arith, high)), λ k d low high. p.1 (suc k) d (omega (arith, low)) (omega (arith, high)))
      ∙ sym (ap (λ b. if b then from_folder key folder rows else row ∷ rows) (p.0 0 row (omega arith) (omega arith)))

module _ {A : Type 0} (key : A → List ℕ) (test : A → Bool) (folder : List ℕ) where
  abbrev pub inside : A → Bool
  inside row = is_eq (place_to folder (key row)) && test row

  -- above a path after the folder's none lies in it
  none-behind : (k : List ℕ) (rows : List A) → place_to folder k ≡ Greater → Above by_text key k rows → list_any inside rows ≡ false
  none-behind k [] g a = refl
  none-behind k (row ∷ rows) g a = ap (λ r. (is_eq r && test row) || list_any inside rows) (less-behind folder k (key row) a.0 g) ∙ none-behind k rows g a.1

  -- the first row doesn't stand before the folder's
  abbrev Starts : List A → Type 0
  Starts [] = Unit {0}
  Starts (row ∷ rows) = place_to folder (key row) ≡ Less → ⊥

  starts-next : (row : A) (rows : List A) → Above by_text key (key row) rows → (place_to folder (key row) ≡ Less → ⊥) → Starts rows
  starts-next row [] a none = tt
  starts-next row (next ∷ rows) a none = λ e. none (less-before folder (key row) (key next) a.0 e)

  walked : (rows : List A) → Ascends by_text key rows → Starts rows → any_in_folder key test folder rows ≡ list_any inside rows
  walked [] a starts = refl
  walked (row ∷ rows) a starts = go (place_to folder (key row)) refl (walked rows a.1 (starts-next row rows a.0 starts))
    where
      go : (r : Ordering) → place_to folder (key row) ≡ r → any_in_folder key test folder rows ≡ list_any inside rows
          → (is_eq (place_to folder (key row)) && (test row || any_in_folder key test folder rows)) ≡ ((is_eq (place_to folder (key row)) && test row) || list_any inside rows)
      go Less is rest = absurd (starts is)
      go Equal is rest = ap (λ r. is_eq r && (test row || any_in_folder key test folder rows)) is ∙ ap (λ b. test row || b) rest ∙ sym (ap (λ r. (is_eq r && test row) || list_any inside rows) is)
      go Greater is rest = ap (λ r. is_eq r && (test row || any_in_folder key test folder rows)) is ∙ sym (none-behind (key row) rows is a.0) ∙ sym (ap (λ r. (is_eq r && test row) || list_any inside rows) is)

  -- a walk from the folder's first row on finds what a look at all rows would
  pub folder-any : (rows : List A) → Ascends by_text key rows → any_in_folder key test folder (from_folder key folder rows) ≡ list_any inside rows
  folder-any [] a = refl
  folder-any (row ∷ rows) a = go (place_to folder (key row)) refl (folder-any rows a.1)
    where
      from : (b : Bool) → is_lt (place_to folder (key row)) ≡ b → any_in_folder key test folder (if is_lt (place_to folder (key row)) then from_folder key folder rows else row ∷ rows) ≡ any_in_folder key test folder (if b then from_folder key folder rows else row ∷ rows)
      from b is = ap (λ c. any_in_folder key test folder (if c then from_folder key folder rows else row ∷ rows)) is

      go : (r : Ordering) → place_to folder (key row) ≡ r → any_in_folder key test folder (from_folder key folder rows) ≡ list_any inside rows
          → any_in_folder key test folder (if is_lt (place_to folder (key row)) then from_folder key folder rows else row ∷ rows) ≡ list_any inside (row ∷ rows)
      go Less is rest = from true (ap is_lt is) ∙ rest ∙ sym (ap (λ r. (is_eq r && test row) || list_any inside rows) is)
      go Equal is rest = from false (ap is_lt is) ∙ walked (row ∷ rows) a (λ e. cc (sym is ∙ e))
      go Greater is rest = from false (ap is_lt is) ∙ walked (row ∷ rows) a (λ e. cc (sym is ∙ e))
