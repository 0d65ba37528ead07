-- A test of a version.
use Rattle.std.specs.Prelude.{ℕ, Bool, nat_lt}
use Rattle.ae_types.specs.declared.version.VersionRef.{VersionRef}

abbrev pub number_is_below : ℕ → VersionRef → Bool
number_is_below next version = nat_lt version.number next
