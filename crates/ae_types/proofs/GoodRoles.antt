-- A role of a project stays good where a user is added or dropped who isn't refused.
use Rattle.std.proofs.Common.{◌≡◌, ℕ, ◌<◌, refl, sym, ◌∙◌, List, [], ◌∷◌, ◌++◌, Some, None, Bool, true, false, cond, ◌&&◌, not, arith, length-append}
use Rattle.std.specs.Prelude.{length, nat_le}
use Rattle.std.specs.List.{list_any, IsDistinct, AllByRecursion}
use Rattle.std.specs.Str.{bytes_eq}
use Rattle.std.proofs.lemmas.Bool.{leb-false, or_parts}
use Rattle.std.proofs.lemmas.Cmp.{nat_list_eq_equiv}
use Rattle.std.proofs.lemmas.Map.Made.{length-remove_key}
use Rattle.ae_types.specs.Users.{AllDiffer, without}
use Rattle.ae_base.specs.declared.words.Role.{Role}
use Rattle.ae_base.specs.declared.words.Which.TheVariants.{RoleUsers}
use Rattle.ae_base.specs.declared.refusal.Refusal.TheVariants.{UserThere, UserNotThere, LastAdministrator, Limit}
use Rattle.ae_types.specs.Roles.{has_user, is_administrators, refuses_adding, refuses_dropping}
use Rattle.ae_types.specs.Sound.{IsGoodRole}

-- ---- users that differ

-- a user that is none of the others
apart-all : (user : List ℕ) (us : List (List ℕ)) → AllByRecursion (λ y. bytes_eq user y ≡ false) us → (v : List ℕ) → bytes_eq user v ≡ false → AllByRecursion (λ y. bytes_eq user y ≡ false) (us ++ v ∷ [])
apart-all user [] h v e = (e, tt)
apart-all user (u ∷ us) h v e = (h.0, apart-all user us h.1 v e)

added-differ : (users : List (List ℕ)) (user : List ℕ) → AllDiffer users → list_any (bytes_eq user) users ≡ false → AllDiffer (users ++ user ∷ [])
unfolding IsDistinct
added-differ [] user d e = (tt, tt)
added-differ (u ∷ us) user d e = let a = or_parts (bytes_eq user u) (list_any (bytes_eq user) us) e in (apart-all u us d.0 user (nat_list_eq_equiv.symm u user ∙ a.0), added-differ us user d.1 a.1)

fewer-apart : (P : List ℕ → Type 0) (user : List ℕ) (us : List (List ℕ)) → AllByRecursion P us → AllByRecursion P (without user us)
fewer-apart P user [] h = tt
fewer-apart P user (u ∷ us) h = go (bytes_eq user u) (fewer-apart P user us h.1)
  where
    go : (b : Bool) → AllByRecursion P (without user us) → AllByRecursion P (cond b us (u ∷ without user us))
    go true rest = h.1
    go false rest = (h.0, rest)

dropped-differ : (users : List (List ℕ)) (user : List ℕ) → AllDiffer users → AllDiffer (without user users)
unfolding IsDistinct
dropped-differ [] user d = tt
dropped-differ (u ∷ us) user d = go (bytes_eq user u) (dropped-differ us user d.1)
  where
    go : (b : Bool) → AllDiffer (without user us) → AllDiffer (cond b us (u ∷ without user us))
    go true rest = d.1
    go false rest = (fewer-apart (λ y. bytes_eq u y ≡ false) user us d.0, rest)

-- ---- who may be added or dropped

pub record MayAdd (users : List (List ℕ)) (user : List ℕ) : Type 0 where
  pub fresh : list_any (bytes_eq user) users ≡ false
  pub few : length users < 256

may-add : (users : List (List ℕ)) (user : List ℕ) → refuses_adding users user ≡ None → MayAdd users user
may-add users user e = go (has_user users user) refl (nat_le 256 (length users)) refl e
  where
    go : (b : Bool) → has_user users user ≡ b → (d : Bool) → nat_le 256 (length users) ≡ d → cond b (Some (UserThere user)) (cond d (Some (Limit RoleUsers 256)) None) ≡ None → MayAdd users user
    go true is d few e = cc
    go false is true few e = cc
    go false is false few e = record { fresh = is; few = leb-false 256 (length users) few }

pub record MayDrop (role : Role) (users : List (List ℕ)) (user : List ℕ) : Type 0 where
  pub there : list_any (bytes_eq user) users ≡ true
  pub others : is_administrators role ≡ true → 1 < length users

pub may-drop : (role : Role) (users : List (List ℕ)) (user : List ℕ) → refuses_dropping role users user ≡ None → MayDrop role users user
may-drop role users user e = go (has_user users user) refl (is_administrators role) refl (nat_le (length users) 1) refl e
  where
    never : {P : Type 0} → false ≡ true → P
    never e = cc

    go : (b : Bool) → has_user users user ≡ b → (d : Bool) → is_administrators role ≡ d → (f : Bool) → nat_le (length users) 1 ≡ f
        → cond (not b) (Some (UserNotThere user)) (cond (d && f) (Some LastAdministrator) None) ≡ None → MayDrop role users user
    go false is d a f l e = cc
    go true is true a true l e = cc
    go true is true a false l e = record { there = is; others = λ _. leb-false (length users) 1 l }
    go true is false a f l e = record { there = is; others = λ b. never (sym a ∙ b) }

pub added-good : (users : List (List ℕ)) (user : List ℕ) → IsGoodRole users → refuses_adding users user ≡ None → IsGoodRole (users ++ user ∷ [])
added-good users user good e = let m = may-add users user e in record { differ = added-differ users user good.differ m.fresh; few = omega (arith, length-append users (user ∷ []), m.few) }

pub dropped-good : (role : Role) (users : List (List ℕ)) (user : List ℕ) → IsGoodRole users → refuses_dropping role users user ≡ None → IsGoodRole (without user users)
dropped-good role users user good e =
    let m = may-drop role users user e in
    record { differ = dropped-differ users user good.differ; few = omega (arith, length-remove_key (bytes_eq user) users m.there, good.few) }
