-- The numbers of changes, the paths of a log and of a course, and what its runs were of, all ascend.
use Rattle.std.proofs.Common.{◌≡◌, ℕ, zero, suc, ◌+◌, ◌<◌, ◌≤◌, refl, sym, ◌∙◌, ap, List, [], ◌∷◌, Bool, true, false, cond, nat_eq, arith, Some}
use Rattle.std.specs.Prelude.{is_some}
use Rattle.std.specs.List.{find}
use Rattle.ae_types.specs.Ordered.{itself}
use Rattle.ae_types.specs.Runs.{RunKey}
use Rattle.ae_types.proofs.Ordered.{KeysAscend, Above, member, put-ascends}
use Rattle.ae_types.proofs.Keys.{by_text, by_number, by_run, less}
use Rattle.ae_log.specs.declared.event.EventKind.{EventKind}
use Rattle.ae_log.specs.declared.event.EventKind.TheVariants as on
use Rattle.ae_log.specs.Log.{Log, Course}
use Rattle.ae_log.specs.Settings.{upward, change_numbers}
use Rattle.ae_log.specs.Files.{paths, course_paths, paths_after}
use Rattle.ae_log.specs.Runs.{run_keys, run_keys_after, key_of_run}
use Rattle.ae_log.specs.Applies.{IsChangeNumber}

-- ---- the numbers of changes

upward-above : (k n count : ℕ) → k < n → Above by_number itself k (upward n count)
upward-above k n zero h = tt
upward-above k n (suc count) h = (less k n h, upward-above k (n + 1) count (omega (arith, h)))

upward-ascends : (n count : ℕ) → KeysAscend by_number (upward n count)
upward-ascends n zero = tt
upward-ascends n (suc count) = (upward-above n (n + 1) count (omega arith), upward-ascends (n + 1) count)

pub change_numbers-ascend : KeysAscend by_number change_numbers
unfolding change_numbers
change_numbers-ascend = upward-ascends 10 1990

in-upward : (k n count : ℕ) → n ≤ k → k < n + count → member by_number k (upward n count) ≡ true
in-upward k n zero low high = absurd (omega (arith, low, high))
in-upward k n (suc count) low high = go (nat_eq k n) refl (in-upward k (n + 1) count)
  where
    never : false ≡ true → ⊥
    never e = cc

    differ : nat_eq k n ≡ false → k ≡ n → ⊥
    differ e is = never (sym e ∙ ap (λ j. nat_eq j n) is ∙ by_number.same_self n)

    go : (b : Bool) → nat_eq k n ≡ b → (n + 1 ≤ k → k < n + 1 + count → member by_number k (upward (n + 1) count) ≡ true) → is_some (cond b (Some n) (find (λ j. nat_eq k j) (upward (n + 1) count))) ≡ true
    go true e rest = refl
    go false e rest = let d = differ e in rest (omega (arith, low, d)) (omega (arith, high))

pub is-change_number : (number : ℕ) → IsChangeNumber number → member by_number number change_numbers ≡ true
unfolding change_numbers
is-change_number number is = in-upward number 10 1990 is.0 (omega (arith, is.1))

-- ---- paths

paths_after-ascend : (kind : EventKind) (ps : List (List ℕ)) → KeysAscend by_text ps → KeysAscend by_text (paths_after kind ps)
paths_after-ascend (on.File path action usage origin) ps h = put-ascends by_text itself path ps h
paths_after-ascend kind ps h = h

pub paths-ascend : (log : Log) → KeysAscend by_text (paths log)
paths-ascend [] = tt
paths-ascend (e ∷ log) = paths_after-ascend e.what (paths log) (paths-ascend log)

pub course_paths-ascend : (ss : Course) → KeysAscend by_text (course_paths ss)
course_paths-ascend [] = tt
course_paths-ascend (s ∷ ss) = paths_after-ascend s.event.what (course_paths ss) (course_paths-ascend ss)

-- ---- runs

run_keys_after-ascend : (kind : EventKind) (keys : List RunKey) → KeysAscend by_run keys → KeysAscend by_run (run_keys_after kind keys)
run_keys_after-ascend (on.Run run) keys h = put-ascends by_run itself (key_of_run run) keys h
run_keys_after-ascend kind keys h = h

pub run_keys-ascend : (ss : Course) → KeysAscend by_run (run_keys ss)
run_keys-ascend [] = tt
run_keys-ascend (s ∷ ss) = run_keys_after-ascend s.event.what (run_keys ss) (run_keys-ascend ss)
