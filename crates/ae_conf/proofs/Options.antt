-- Options that say the same.
use Rattle.std.proofs.Common.{◌≡◌, ◌↔◌, Option, Some, None, refl, sym}

-- two that are a value under the same condition are equal
pub same_option : {A : Type 0} (Is : A → Type 0) (o p : Option A) → ((x : A) → (o ≡ Some x) ↔ Is x) → ((x : A) → (p ≡ Some x) ↔ Is x) → o ≡ p
same_option Is (Some x) p f g = sym ((g x).1 ((f x).0 refl))
same_option Is None (Some y) f g = (f y).1 ((g y).0 refl)
same_option Is None None f g = refl
