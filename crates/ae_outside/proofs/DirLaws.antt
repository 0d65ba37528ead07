-- The test whether two directories are one.
use Rattle.std.specs.Prelude.{◌≡◌, ◌≢◌, true, false, refl}
use Rattle.std.proofs.Common.{inl, inr, sym, ap}
use Rattle.std.proofs.lemmas.Bool.Decides.{Decides-eqb}
use Rattle.ae_outside.specs.Dirs.{dir_eq}
use Rattle.ae_outside.specs.TreeLaws.{bool_cases}
use Rattle.ae_outside.specs.declared.dir.Dir.{Dir}
use Rattle.ae_outside.specs.declared.dir.Dir.TheVariants.{Here, Develop, Integrate, Base}

pub dir_eq_same : (a b : Dir) → dir_eq a b ≡ true → a ≡ b
dir_eq_same Here Here h = refl
dir_eq_same (Develop n) (Develop m) h = ap Develop ((Decides-eqb n m).0 h)
dir_eq_same (Integrate n) (Integrate m) h = ap Integrate ((Decides-eqb n m).0 h)
dir_eq_same (Base n) (Base m) h = ap Base ((Decides-eqb n m).0 h)
dir_eq_same Here (Develop m) h = cc
dir_eq_same Here (Integrate m) h = cc
dir_eq_same Here (Base m) h = cc
dir_eq_same (Develop n) Here h = cc
dir_eq_same (Develop n) (Integrate m) h = cc
dir_eq_same (Develop n) (Base m) h = cc
dir_eq_same (Integrate n) Here h = cc
dir_eq_same (Integrate n) (Develop m) h = cc
dir_eq_same (Integrate n) (Base m) h = cc
dir_eq_same (Base n) Here h = cc
dir_eq_same (Base n) (Develop m) h = cc
dir_eq_same (Base n) (Integrate m) h = cc

pub dir_eq_refl : (a : Dir) → dir_eq a a ≡ true
dir_eq_refl Here = refl
dir_eq_refl (Develop n) = (Decides-eqb n n).1 refl
dir_eq_refl (Integrate n) = (Decides-eqb n n).1 refl
dir_eq_refl (Base n) = (Decides-eqb n n).1 refl

pub dir_differs : (a b : Dir) → b ≢ a → dir_eq a b ≡ false
dir_differs a b differ = elim (bool_cases (dir_eq a b)) [ inl same ↦ absurd (differ (sym (dir_eq_same a b same))) | inr is ↦ is ]
