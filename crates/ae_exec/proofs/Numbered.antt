-- What stands after a log has the record of each change that there is.
use Rattle.std.specs.Prelude.{◌≡◌, ℕ, cond, List, [], ◌∷◌, map, Option, Some, None, is_some, filter}
use Rattle.std.specs.List.{filter_map, cons_option}
use Rattle.std.specs.Option.{option_map}
use Rattle.std.proofs.Common.{refl, ap, subst}
use Rattle.ae_types.specs.declared.change.Change.{Change}
use Rattle.ae_types.specs.declared.change.ChangeAttributes.{ChangeAttributes}
use Rattle.ae_types.specs.declared.project.Attributes.{Attributes}
use Rattle.ae_types.specs.Found.{number_of_change}
use Rattle.ae_types.specs.Observation.{Observation}
use Rattle.ae_log.specs.Log.{Log, course}
use Rattle.ae_log.specs.Observed.{observation, observation_with, change, change_with}
use Rattle.ae_log.specs.Settings.{attributes, change_attributes, change_numbers, is_there}
use Rattle.ae_exec.specs.Next.{IsComplete}

module _ (log : Log) where
  -- one number more
  with-one : (n : ℕ) (given : Option ChangeAttributes) (numbers : List ℕ) (changes : List Change) → numbers ≡ map number_of_change changes
      → cond (is_some given) (n ∷ numbers) numbers ≡ map number_of_change (cons_option (option_map (change_with n (course log n)) given) changes)
  with-one n (Some given) numbers changes is = ap (λ (rest : List ℕ). n ∷ rest) is
  with-one n None numbers changes is = is

  each-numbered : (numbers : List ℕ) → filter (λ n. is_there (course log n)) numbers ≡ map number_of_change (filter_map (λ n. change n (course log n)) numbers)
  each-numbered [] = refl
  each-numbered (n ∷ numbers) = with-one n (change_attributes (course log n)) _ _ (each-numbered numbers)

  complete-by : (given : Option Attributes) (o : Observation) → option_map (observation_with log) given ≡ Some o → IsComplete o
  complete-by (Some given) o is = let same : observation_with log given ≡ o = cc in subst IsComplete same (each-numbered change_numbers)
  complete-by None o is = cc

  pub complete : (o : Observation) → observation log ≡ Some o → IsComplete o
  complete o is = complete-by (attributes log) o is
