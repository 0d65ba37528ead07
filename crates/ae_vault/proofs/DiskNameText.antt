-- A disk's name is a text.
use Rattle.std.proofs.Common.{◌≡◌, ℕ, zero, suc, List, [], ◌∷◌, true, arith}
use Rattle.std.specs.Str.{IsAscii, IsUtf8}
use Rattle.std.proofs.lemmas.Str.{IsUtf8-from_ascii}
use Rattle.std.proofs.lemmas.Bool.Decides.{nat_tests}
use Rattle.ae_base.proofs.Ascii.{name_small}
use Rattle.ae_outside.specs.DiskNames.{IsDiskName, all_name_bytes}

all_small : (name : List ℕ) → all_name_bytes name ≡ true → IsAscii name
all_small [] is i = omega arith
all_small (b ∷ name) is zero = name_small b (grind (arith, nat_tests))
all_small (b ∷ name) is (suc i) = all_small name (grind (arith, nat_tests)) i

pub utf8_name : (name : List ℕ) → IsDiskName name → IsUtf8 name
utf8_name name is = IsUtf8-from_ascii name (all_small name (grind (arith, nat_tests)))
