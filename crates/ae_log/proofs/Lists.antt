-- Lists that are made from others element by element.
use Rattle.std.proofs.Common.{◌≡◌, refl, ◌∙◌, ap, List, [], ◌∷◌, map, Option, Some, None, Bool, true, false, cond}
use Rattle.std.specs.Prelude.{filter}
use Rattle.std.specs.List.{filter_map, cons_option, find}
use Rattle.std.specs.Option.{option_map}

-- what two functions give of an option, where the one is the other followed by a third
pub option_map-step : {A B : Type 0} (f g : A → B) (h : B → B) → ((a : A) → f a ≡ h (g a)) → (o : Option A) → option_map f o ≡ option_map h (option_map g o)
option_map-step f g h same (Some a) = ap (λ x. Some x) (same a)
option_map-step f g h same None = refl

pub cond-same : {A : Type 0} (b : Bool) (x : A) → cond b x x ≡ x
cond-same true x = refl
cond-same false x = refl

pub filter_map-none : {A B : Type 0} (f : A → Option B) → ((a : A) → f a ≡ None) → (xs : List A) → filter_map f xs ≡ []
filter_map-none f none [] = refl
filter_map-none f none (x ∷ xs) = ap (λ o. cons_option o (filter_map f xs)) (none x) ∙ filter_map-none f none xs

pub filter_map-same : {A B : Type 0} (f g : A → Option B) → ((a : A) → f a ≡ g a) → (xs : List A) → filter_map f xs ≡ filter_map g xs
filter_map-same f g same [] = refl
filter_map-same f g same (x ∷ xs) = ap (λ o. cons_option o (filter_map f xs)) (same x) ∙ ap (cons_option (g x)) (filter_map-same f g same xs)

pub filter-same : {A : Type 0} (f g : A → Bool) → ((a : A) → f a ≡ g a) → (xs : List A) → filter f xs ≡ filter g xs
filter-same f g same [] = refl
filter-same f g same (x ∷ xs) = ap (λ b. cond b (x ∷ filter f xs) (filter f xs)) (same x) ∙ ap (λ ys. cond (g x) (x ∷ ys) ys) (filter-same f g same xs)

pub filter-none : {A : Type 0} (f : A → Bool) → ((a : A) → f a ≡ false) → (xs : List A) → filter f xs ≡ []
filter-none f none [] = refl
filter-none f none (x ∷ xs) = ap (λ b. cond b (x ∷ filter f xs) (filter f xs)) (none x) ∙ filter-none f none xs

-- an element where it passes a test
abbrev pub if_passes : {A : Type 0} → (A → Bool) → A → Option A
if_passes t x = cond (t x) (Some x) None

pub filter-filter_map : {A : Type 0} (t : A → Bool) (xs : List A) → filter t xs ≡ filter_map (if_passes t) xs
filter-filter_map t [] = refl
filter-filter_map t (x ∷ xs) = ap (λ ys. cond (t x) (x ∷ ys) ys) (filter-filter_map t xs) ∙ go (t x)
  where
    go : (b : Bool) → cond b (x ∷ filter_map (if_passes t) xs) (filter_map (if_passes t) xs) ≡ cons_option (cond b (Some x) None) (filter_map (if_passes t) xs)
    go true = refl
    go false = refl

map-cons_option : {B C : Type 0} (h : B → C) (o : Option B) (ys : List B) → cons_option (option_map h o) (map h ys) ≡ map h (cons_option o ys)
map-cons_option h (Some y) ys = refl
map-cons_option h None ys = refl

-- what each element gives is changed by h
pub filter_map-step : {A B C : Type 0} (f : A → Option C) (g : A → Option B) (h : B → C) → ((a : A) → f a ≡ option_map h (g a)) → (xs : List A) → filter_map f xs ≡ map h (filter_map g xs)
filter_map-step f g h same [] = refl
filter_map-step f g h same (x ∷ xs) =
    ap (λ o. cons_option o (filter_map f xs)) (same x) ∙ ap (cons_option (option_map h (g x))) (filter_map-step f g h same xs) ∙ map-cons_option h (g x) (filter_map g xs)

pub find-same : {A : Type 0} (f g : A → Bool) → ((a : A) → f a ≡ g a) → (xs : List A) → find f xs ≡ find g xs
find-same f g same [] = refl
find-same f g same (x ∷ xs) = ap (λ b. cond b (Some x) (find f xs)) (same x) ∙ ap (cond (g x) (Some x)) (find-same f g same xs)

pub find-none : {A : Type 0} (t : A → Bool) → ((a : A) → t a ≡ false) → (xs : List A) → find t xs ≡ None
find-none t none [] = refl
find-none t none (x ∷ xs) = ap (λ b. cond b (Some x) (find t xs)) (none x) ∙ find-none t none xs

-- what a function gives where it gives none of those that a test finds
pub filter_map-filter : {A B : Type 0} (f g : A → Option B) (t : B → Bool) → ((a : A) (y : B) → f a ≡ Some y → g a ≡ cond (t y) (Some y) None) → ((a : A) → f a ≡ None → g a ≡ None) → (xs : List A) → filter_map g xs ≡ filter t (filter_map f xs)
filter_map-filter f g t some none [] = refl
filter_map-filter {A = A} {B = B} f g t some none (x ∷ xs) = go (f x) refl (filter_map-filter f g t some none xs)
  where
    left : (b : Bool) (y : B) → cons_option (cond b (Some y) None) (filter t (filter_map f xs)) ≡ cond b (y ∷ filter t (filter_map f xs)) (filter t (filter_map f xs))
    left true y = refl
    left false y = refl

    go : (o : Option B) → f x ≡ o → filter_map g xs ≡ filter t (filter_map f xs) → cons_option (g x) (filter_map g xs) ≡ filter t (cons_option o (filter_map f xs))
    go (Some y) e rest = ap (cons_option (g x)) rest ∙ ap (λ o. cons_option o (filter t (filter_map f xs))) (some x y e) ∙ left (t y) y
    go None e rest = ap (cons_option (g x)) rest ∙ ap (λ o. cons_option o (filter t (filter_map f xs))) (none x e)
