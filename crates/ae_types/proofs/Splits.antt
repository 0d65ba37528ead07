-- What follows from tests of several parts, and from tests of what is found.
use Rattle.std.proofs.Common.{◌≡◌, refl, sym, ◌∙◌, ap, Option, Some, None, Bool, true, false, ◌&&◌, ◌||◌, not}
use Rattle.std.specs.Prelude.{is_some, IfSome, IsSomeAnd}
use Rattle.std.proofs.lemmas.Bool.{false≢true, and_parts}
use Rattle.ae_types.proofs.Ordered.{none-some}
use Rattle.ae_types.specs.Found.{there_and, if_there}
use Rattle.ae_types.specs.Rules.{same_bool}

-- ---- several parts

pub and3 : (a b c : Bool) → (a && b && c) ≡ true → (a ≡ true) × (b ≡ true) × (c ≡ true)
and3 a b c e = let x = and_parts (a && b) c e in let y = and_parts a b x.0 in (y.0, y.1, x.1)

pub and4 : (a b c d : Bool) → (a && b && c && d) ≡ true → (a ≡ true) × (b ≡ true) × (c ≡ true) × (d ≡ true)
and4 a b c d e = let x = and_parts (a && b && c) d e in let y = and3 a b c x.0 in (y.0, y.1, y.2, x.1)

pub and6 : (a b c d e f : Bool) → (a && b && c && d && e && f) ≡ true → (a ≡ true) × (b ≡ true) × (c ≡ true) × (d ≡ true) × (e ≡ true) × (f ≡ true)
and6 a b c d e f h = let x = and3 (a && b && c && d) e f h in let y = and4 a b c d x.0 in (y.0, y.1, y.2, y.3, x.1, x.2)

pub and7 : (a b c d e f g : Bool) → (a && b && c && d && e && f && g) ≡ true → (a ≡ true) × (b ≡ true) × (c ≡ true) × (d ≡ true) × (e ≡ true) × (f ≡ true) × (g ≡ true)
and7 a b c d e f g h = let x = and4 (a && b && c && d) e f g h in let y = and4 a b c d x.0 in (y.0, y.1, y.2, y.3, x.1, x.2, x.3)

pub where-so : (b c : Bool) → (not b || c) ≡ true → b ≡ true → c ≡ true
where-so true c e is = e
where-so false c e is = absurd (false≢true is)

pub so-where : (b c : Bool) → (b ≡ true → c ≡ true) → (not b || c) ≡ true
so-where true c h = h refl
so-where false c h = refl

pub not-is : (b : Bool) → not b ≡ true → b ≡ true → ⊥
not-is true e is = absurd (false≢true e)
not-is false e is = absurd (false≢true is)

pub same-is : (a b : Bool) → same_bool a b ≡ true → a ≡ b
same-is true b e = sym e
same-is false true e = cc
same-is false false e = refl

pub is-same : (a b : Bool) → a ≡ b → same_bool a b ≡ true
is-same true b e = sym e
is-same false true e = cc
is-same false false e = refl

-- ---- numbers

-- ---- what is found

pub there-found : {A : Type 0} (v : Option A) (t : A → Bool) → there_and v t ≡ true → (x : A) × (v ≡ Some x) × (t x ≡ true)
there-found (Some x) t e = (x, refl, e)
there-found None t e = absurd (false≢true e)

pub found-there : {A : Type 0} (v : Option A) (t : A → Bool) (x : A) → v ≡ Some x → t x ≡ true → there_and v t ≡ true
found-there v t x is e = ap (λ w. there_and w t) is ∙ e

pub if-found : {A : Type 0} (v : Option A) (t : A → Bool) → if_there v t ≡ true → (x : A) → v ≡ Some x → t x ≡ true
if-found v t e x is = sym (ap (λ w. if_there w t) is) ∙ e

pub found-if : {A : Type 0} (v : Option A) (t : A → Bool) → ((x : A) → v ≡ Some x → t x ≡ true) → if_there v t ≡ true
found-if (Some x) t h = h x refl
found-if None t h = refl

pub some-found : {A : Type 0} (v : Option A) → is_some v ≡ true → (x : A) × (v ≡ Some x)
some-found (Some x) e = (x, refl)
some-found None e = absurd (false≢true e)

pub found-some : {A : Type 0} (v : Option A) (x : A) → v ≡ Some x → is_some v ≡ true
found-some v x is = ap (λ w. is_some w) is

pub to-if : {A : Type 0} (P : A → Type 0) (v : Option A) → ((x : A) → v ≡ Some x → P x) → IfSome v P
to-if P (Some x) h = h x refl
to-if P None h = tt

pub from-if : {A : Type 0} (P : A → Type 0) (v : Option A) → IfSome v P → (x : A) → v ≡ Some x → P x
from-if P (Some y) h x is = Rattle.std.proofs.Common.subst P (Rattle.std.proofs.lemmas.Option.same_Some y x is) h
from-if P None h x is = none-some x is

pub to-is : {A : Type 0} (P : A → Type 0) (v : Option A) (x : A) → v ≡ Some x → P x → IsSomeAnd v P
to-is P v x is h = Rattle.std.proofs.Common.subst (λ w. IsSomeAnd w P) (sym is) h

pub from-is : {A : Type 0} (P : A → Type 0) (v : Option A) → IsSomeAnd v P → (x : A) × (v ≡ Some x) × P x
from-is P (Some x) h = (x, refl, h)
from-is P None h = absurd h

-- tests that imply each other are the same
pub same-true : (s t : Bool) → (s ≡ true → t ≡ true) → (t ≡ true → s ≡ true) → s ≡ t
same-true true t f g = sym (f refl)
same-true false true f g = g refl
same-true false false f g = refl
