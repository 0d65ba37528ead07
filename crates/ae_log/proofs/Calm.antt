-- Events after which no change is integrated or completed that wasn't: what the rules ask of candidates stays too.
use Rattle.std.proofs.Common.{◌≡◌, ℕ, refl, sym, ◌∙◌, ap, subst, List, map, Some, true, ◌||◌}
use Rattle.std.specs.Prelude.{length}
use Rattle.std.proofs.lemmas.Bool.{or_right}
use Rattle.ae_types.specs.declared.change.Change.{Change}
use Rattle.ae_types.specs.Observation.{Observation}
use Rattle.ae_types.specs.Found.{change_in}
use Rattle.ae_types.specs.Phases.{is_integrating, is_completed}
use Rattle.ae_types.specs.Clashes.{NoneClash}
use Rattle.ae_types.specs.Trees.{tree_at, overlaid, paths_of}
use Rattle.ae_types.specs.Sound.{Sound, IsIntegrating, EachChange}
use Rattle.ae_log.specs.After.{where_number}
use Rattle.ae_log.proofs.Steady.{Steady, related}
use Rattle.ae_log.proofs.OneChange.{Keeps}

pub record Calm (x y : Change) : Type 0 where
  pub integrating : is_integrating y.phase ≡ is_integrating x.phase
  pub completed : is_completed y.phase ≡ is_completed x.phase
  pub files : (is_integrating x.phase || is_completed x.phase) ≡ true → y.files ≡ x.files

pub calm-self : (x : Change) → Calm x x
calm-self x = record { integrating = refl; completed = refl; files = λ _. refl }

pub steady-of : (x y : Change) → Calm x y → Steady x y
steady-of x y calm = record { completed = calm.completed; files = λ e. calm.files (or_right (is_integrating x.phase) (is_completed x.phase) e) }

module _ (o : Observation) (s : Sound o) (c : ℕ) (h : Change → Change) (keeps : Keeps h) (x : Change) (at_c : change_in o.changes c ≡ Some x) (calm : Calm x (h x)) where
  abbrev pub later : List Change
  later = map (where_number c h) o.changes

  before : (n : ℕ) (y : Change) → change_in later n ≡ Some y → (z : Change) × (change_in o.changes n ≡ Some z) × Calm z y
  before = related Calm calm-self o.changes c h keeps x at_c calm

  pub calm-integrating : IsIntegrating (length o.project.deltas) later
  calm-integrating = record {
    one = λ m n y z ey ez iy iz. let b = before m y ey in let d = before n z ez in s.integrating.one m n b.0 d.0 b.1 d.1 (sym b.2.integrating ∙ iy) (sym d.2.integrating ∙ iz);
    room = λ n y e i. let b = before n y e in s.integrating.room n b.0 b.1 (sym b.2.integrating ∙ i);
  }

  pub calm-candidate : EachChange later (λ n y. is_integrating y.phase ≡ true → NoneClash (paths_of (overlaid (tree_at (length o.project.deltas) o.files) y)))
  calm-candidate n y e i =
      let b = before n y e in
      let iz : is_integrating b.0.phase ≡ true = sym b.2.integrating ∙ i in
      subst (λ fs. NoneClash (paths_of (overlaid (tree_at (length o.project.deltas) o.files) (record y { files = fs })))) (sym (b.2.files (ap (λ v. v || is_completed b.0.phase) iz))) (s.candidate n b.0 b.1 iz)
