-- Whether two directories are one.
use Rattle.std.specs.Prelude.{Bool, true, false, nat_eq}
use Rattle.ae_outside.specs.declared.dir.Dir.{Dir}
use Rattle.ae_outside.specs.declared.dir.Dir.TheVariants.{Here, Develop, Integrate, Base}

abbrev pub dir_eq : Dir → Dir → Bool
dir_eq Here Here = true
dir_eq (Develop n) (Develop m) = nat_eq n m
dir_eq (Integrate n) (Integrate m) = nat_eq n m
dir_eq (Base n) (Base m) = nat_eq n m
dir_eq _ _ = false
