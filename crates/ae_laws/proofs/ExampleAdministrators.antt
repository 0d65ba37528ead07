-- The examples of settings and roles, by computing.
use Rattle.std.proofs.Common.{refl, ap}
use Rattle.std.specs.Prelude.{List, [], ◌∷◌, Bool, true, false}
use Rattle.std.proofs.lemmas.Bool.{false≢true}
use Rattle.ae_log.specs.declared.event.Event.{Event}
use Rattle.ae_laws.specs.Administrators.{AreByAdministrators}
use Rattle.ae_laws.specs.Examples.{first_baseline, gave_up, made_twice, removed_later, role_by_developer, settings_by_developer}

pub first-set : AreByAdministrators first_baseline
first-set = (tt, (tt, (tt, (tt, (tt, (tt, (tt, (tt, (tt, (tt, (tt, (tt, (refl, (refl, (refl, (refl, (refl, tt)))))))))))))))))

pub given-up : AreByAdministrators gave_up
given-up = (refl, (refl, (refl, (refl, (refl, tt)))))

pub role-taken : AreByAdministrators role_by_developer → ⊥
role-taken p = absurd (false≢true p.0)

pub settings-taken : AreByAdministrators settings_by_developer → ⊥
settings-taken p = absurd (false≢true p.0)

pub removed-later : AreByAdministrators removed_later → ⊥
removed-later p = absurd (false≢true p.0)

pub made-twice : AreByAdministrators made_twice → ⊥
made-twice p = absurd (false≢true (ap is_empty p.0))
  where
    is_empty : List Event → Bool
    is_empty [] = true
    is_empty (event ∷ log) = false
