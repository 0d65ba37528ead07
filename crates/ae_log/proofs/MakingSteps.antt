-- What stands after a change is made, after it is taken away, and after its settings are changed.
use Rattle.std.proofs.Common.{◌≡◌, ℕ, refl, sym, ◌∙◌, ap, List, ◌∷◌, Option, Some, None, Bool, true, false, cond, nat_eq, eqb-true, ◌&&◌, not}
use Rattle.std.specs.Prelude.{is_some, filter}
use Rattle.std.specs.List.{filter_map, find}
use Rattle.std.specs.Option.{option_map}
use Rattle.std.proofs.lemmas.Bool.{and_right}
use Rattle.std.proofs.lemmas.Option.{same_Some}
use Rattle.ae_types.specs.declared.project.Attributes.{Attributes}
use Rattle.ae_types.specs.declared.change.ChangeAttributes.{ChangeAttributes}
use Rattle.ae_types.specs.Observation.{Observation}
use Rattle.ae_types.specs.Ordered.{itself}
use Rattle.ae_types.specs.Found.{number_of_change, has_number}
use Rattle.ae_types.specs.Phases.{holds_locks}
use Rattle.ae_types.proofs.Keys.{by_number}
use Rattle.ae_types.proofs.Ordered.{member, at-filter_map, listed-put, listed-without, none-some}
use Rattle.ae_log.specs.declared.event.EventKind.{EventKind}
use Rattle.ae_log.specs.declared.event.EventKind.TheVariants as on
use Rattle.ae_log.specs.Log.{Log, course}
use Rattle.ae_log.specs.Phases.{phase_of}
use Rattle.ae_log.specs.Settings.{is_there, change_attributes, change_numbers, numbers}
use Rattle.ae_log.specs.Files.{file, paths, next_version}
use Rattle.ae_log.specs.Baseline.{holds}
use Rattle.ae_log.specs.Observed.{observation, observation_with, change, change_with}
use Rattle.ae_log.specs.Applies.{IsChangeNumber}
use Rattle.ae_log.specs.After.{after, new_change, change_after}
use Rattle.ae_log.specs.Maker.{Maker}
use Rattle.ae_log.proofs.Lists.{filter_map-same, filter-filter_map, if_passes}
use Rattle.ae_log.proofs.Ascending.{change_numbers-ascend, is-change_number}
use Rattle.ae_log.proofs.Listed.{own_change}
use Rattle.ae_log.proofs.ChangeSteps.{Finds, awaits-is}
use Rattle.ae_log.proofs.Steps.{of_change, happens, same-parts, its-fact, other-fact, changes-step, numbers-stay, locks-stay, stands-after}

-- ---- numbers that are there

abbrev pub there_at : Log → ℕ → Option ℕ
there_at log n = if_passes (λ number. is_there (course log number)) n

own_number : (log : Log) (n r : ℕ) → there_at log n ≡ Some r → itself r ≡ n
own_number log n r e = go (is_there (course log n)) e
  where
    go : (b : Bool) → cond b (Some n) None ≡ Some r → r ≡ n
    go true e = sym (same_Some n r e)
    go false e = none-some r e

-- a number that is there already
among : (c : ℕ) → member by_number c change_numbers ≡ true → (k : ℕ) → member by_number k change_numbers ≡ cond (nat_eq k c) true (member by_number k change_numbers)
among c is k = go (nat_eq k c) refl
  where
    go : (b : Bool) → nat_eq k c ≡ b → member by_number k change_numbers ≡ cond b true (member by_number k change_numbers)
    go true e = ap (λ (j : ℕ). member by_number j change_numbers) (eqb-true k c e) ∙ is
    go false e = refl

other-there : (log : Log) (maker : Maker) (c : ℕ) (kind : EventKind) (q : ℕ) → (q ≡ c → ⊥) → there_at (of_change maker c kind ∷ log) q ≡ there_at log q
other-there log maker c kind q apart = ap (λ b. cond b (Some q) None) (other-fact is_there log maker c kind q apart)

-- a number that isn't among those that are there is that of a change that isn't
absent : (log : Log) (c : ℕ) → member by_number c change_numbers ≡ true → has_number (numbers log) c ≡ false → is_there (course log c) ≡ false
absent log c is e = go (is_there (course log c)) refl (sym (ap (λ x. is_some x) (ap (find (λ j. nat_eq c j)) (filter-filter_map (λ number. is_there (course log number)) change_numbers) ∙ at-filter_map by_number itself (there_at log) (own_number log) c change_numbers ∙ ap (λ b. cond b (there_at log c) None) is)) ∙ e)
  where
    go : (b : Bool) → is_there (course log c) ≡ b → is_some (cond (is_there (course log c)) (Some c) None) ≡ false → b ≡ false
    go true is e = sym (ap (λ b. is_some (cond b (Some c) None)) is) ∙ e
    go false is e = refl

absent-holds : (log : Log) (c : ℕ) → is_there (course log c) ≡ false → (p : List ℕ) (n : ℕ) → nat_eq c n ≡ true → false ≡ holds p (course log n)
absent-holds log c none p n e = sym (ap (λ (m : ℕ). holds p (course log m)) (sym (eqb-true c n e)) ∙ ap (λ b. b && is_some (file (course log c) p) && holds_locks (phase_of (course log c))) none ∙ out (is_some (file (course log c) p)) (holds_locks (phase_of (course log c))))
  where
    out : (a b : Bool) → (false && a && b) ≡ false
    out a b = refl

-- ---- a change is made

with-new : (log : Log) (maker : Maker) (c : ℕ) (a : ChangeAttributes) (b : Attributes) → member by_number c change_numbers ≡ true → is_there (course log c) ≡ false
    → observation_with (of_change maker c (on.New a) ∷ log) b ≡ after (observation_with log b) (of_change maker c (on.New a))
with-new log maker c a b is none = same-parts _ _ refl
    (filter-filter_map _ change_numbers
    ∙ listed-put by_number itself (there_at log) (there_at (of_change maker c (on.New a) ∷ log)) (own_number log) (own_number (of_change maker c (on.New a) ∷ log)) c c change_numbers change_numbers change_numbers-ascend change_numbers-ascend (among c is)
    (ap (λ b. cond b (Some c) None) (its-fact is_there log maker c (on.New a))) (other-there log maker c (on.New a))
    ∙ ap (λ ns. Rattle.ae_types.specs.Ordered.put_by Rattle.std.specs.Ordering.nat_cmp itself c ns) (sym (filter-filter_map (λ number. is_there (course log number)) change_numbers)))
    refl
    (filter_map-same _ _ (locks-stay log maker c (on.New a) (absent-holds log c none)) (paths log))
    (listed-put by_number number_of_change (λ n. change n (course log n)) (λ n. change n (course (of_change maker c (on.New a) ∷ log) n)) (own_change log) (own_change (of_change maker c (on.New a) ∷ log))
    c (new_change maker c a) change_numbers change_numbers change_numbers-ascend change_numbers-ascend (among c is)
    (its-fact (change c) log maker c (on.New a)) (λ q apart. other-fact (change q) log maker c (on.New a) q apart))

-- ---- a change is taken away

with-new_undo : (log : Log) (maker : Maker) (c : ℕ) (b : Attributes) → holds_locks (phase_of (course log c)) ≡ false
    → observation_with (of_change maker c on.NewUndo ∷ log) b ≡ after (observation_with log b) (of_change maker c on.NewUndo)
with-new_undo log maker c b none = same-parts _ _ refl
    (filter-filter_map _ change_numbers
    ∙ listed-without by_number itself (there_at log) (there_at (of_change maker c on.NewUndo ∷ log)) (own_number log) (own_number (of_change maker c on.NewUndo ∷ log)) c change_numbers change_numbers-ascend
    (ap (λ b. cond b (Some c) None) (its-fact is_there log maker c on.NewUndo)) (other-there log maker c on.NewUndo)
    ∙ ap (filter (λ other. not (nat_eq c other))) (sym (filter-filter_map (λ number. is_there (course log number)) change_numbers)))
    refl
    (filter_map-same _ _ (locks-stay log maker c on.NewUndo (λ p n e. sym (and_right (is_there (course log n) && is_some (file (course log n) p)) _ (ap (λ (m : ℕ). holds_locks (phase_of (course log m))) (sym (eqb-true c n e)) ∙ none)))) (paths log))
    (listed-without by_number number_of_change (λ n. change n (course log n)) (λ n. change n (course (of_change maker c on.NewUndo ∷ log) n)) (own_change log) (own_change (of_change maker c on.NewUndo ∷ log))
    c change_numbers change_numbers-ascend (its-fact (change c) log maker c on.NewUndo) (λ q apart. other-fact (change q) log maker c on.NewUndo q apart))

-- ---- its settings

with-change_attributes : (log : Log) (maker : Maker) (c : ℕ) (a : ChangeAttributes) (b : Attributes) → is_there (course log c) ≡ true
    → observation_with (of_change maker c (on.ChangeAttributes a) ∷ log) b ≡ after (observation_with log b) (of_change maker c (on.ChangeAttributes a))
with-change_attributes log maker c a b there = same-parts _ _ refl
    (numbers-stay log maker c (on.ChangeAttributes a) (λ n e. sym (here n e)))
    refl
    (filter_map-same _ _ (locks-stay log maker c (on.ChangeAttributes a) (λ p n e. ap (λ b. b && is_some (file (course log n) p) && holds_locks (phase_of (course log n))) (sym (here n e)))) (paths log))
    (changes-step log maker c (on.ChangeAttributes a) (change_after (next_version log) (of_change maker c (on.ChangeAttributes a))) (λ s ss. refl) (λ n e. moved n (change_attributes (course log n)) (here n e)))
  where
    here : (n : ℕ) → nat_eq c n ≡ true → is_there (course log n) ≡ true
    here n e = ap (λ (m : ℕ). is_there (course log m)) (sym (eqb-true c n e)) ∙ there

    moved : (n : ℕ) (o : Option ChangeAttributes) → is_some o ≡ true
        → Some (change_with n (happens log maker c (on.ChangeAttributes a) ∷ course log n) a) ≡ option_map (change_after (next_version log) (of_change maker c (on.ChangeAttributes a))) (option_map (change_with n (course log n)) o)
    moved n (Some x) e = refl
    moved n None e = cc

-- ---- what each finds suffices

pub after-new : (log : Log) (maker : Maker) (c : ℕ) (a : ChangeAttributes) (o : Observation) → observation log ≡ Some o → IsChangeNumber c → has_number o.numbers c ≡ false → observation (of_change maker c (on.New a) ∷ log) ≡ Some (after o (of_change maker c (on.New a)))
after-new log maker c a o stood is fresh = stands-after log (of_change maker c (on.New a)) o refl stood (λ b stands.
    with-new log maker c a b (is-change_number c is) (absent log c (is-change_number c is) (ap (λ (q : Observation). has_number q.numbers c) stands ∙ fresh)))

pub undo-found : (log : Log) (o : Observation) (maker : Maker) (c : ℕ) (b : Attributes) → Finds log o b c on.NewUndo → observation_with (of_change maker c on.NewUndo ∷ log) b ≡ after (observation_with log b) (of_change maker c on.NewUndo)
undo-found log o maker c b f = with-new_undo log maker c b (ap holds_locks (awaits-is _ f.comes))

pub settings-found : (log : Log) (o : Observation) (maker : Maker) (c : ℕ) (a : ChangeAttributes) (b : Attributes) → Finds log o b c (on.ChangeAttributes a)
    → observation_with (of_change maker c (on.ChangeAttributes a) ∷ log) b ≡ after (observation_with log b) (of_change maker c (on.ChangeAttributes a))
settings-found log o maker c a b f = with-change_attributes log maker c a b (ap (λ (v : Option ChangeAttributes). is_some v) f.is_of.has)
