-- The files at a delta, of what stands after a log, are those of the log.
use Rattle.std.proofs.Common.{◌≡◌, ℕ, refl, sym, ◌∙◌, ap, List, [], ◌∷◌, map, Option, Some, None, Bool, true, false, cond}
use Rattle.std.specs.Prelude.{nat_le}
use Rattle.std.specs.List.{filter_map, cons_option}
use Rattle.std.specs.Option.{option_map, option_and_then}
use Rattle.ae_types.specs.declared.project.Attributes.{Attributes}
use Rattle.ae_types.specs.declared.version.VersionRef.{VersionRef}
use Rattle.ae_types.specs.Observation.{Observation}
use Rattle.ae_types.specs.Trees.{tree_of, tree_row, entry_row, unless_later, last_up_to}
use Rattle.ae_types.specs.Frozen.{Version, ref_of}
use Rattle.ae_log.specs.Log.{Log}
use Rattle.ae_log.specs.Files.{paths}
use Rattle.ae_log.specs.Baseline.{Entry, past, tree, tree_file, tree_file_of, entry_file, last_up_to as last_entry}
use Rattle.ae_log.specs.Observed.{observation_with, file_row, file_version, tree_row_of}
use Rattle.ae_log.specs.Laws.{TreesStand}
use Rattle.ae_log.proofs.Lists.{filter_map-step}
use Rattle.ae_log.proofs.Steps.{attributes-of}

filter_map-twice : {A B C : Type 0} (f : A → Option B) (g : B → Option C) (xs : List A) → filter_map g (filter_map f xs) ≡ filter_map (λ x. option_and_then g (f x)) xs
filter_map-twice {B = B} f g [] = refl
filter_map-twice {B = B} f g (x ∷ xs) = go (f x) (filter_map-twice f g xs)
  where
    go : (o : Option B) → filter_map g (filter_map f xs) ≡ filter_map (λ x. option_and_then g (f x)) xs → filter_map g (cons_option o (filter_map f xs)) ≡ cons_option (option_and_then g o) (filter_map (λ x. option_and_then g (f x)) xs)
    go (Some y) r = ap (cons_option (g y)) r
    go None r = r

last-versions : (n : ℕ) (xs : List Entry) → last_up_to n (map file_version xs) ≡ option_map file_version (last_entry n xs)
last-versions n [] = refl
last-versions n (x ∷ xs) = go (nat_le x.delta n) (last-versions n xs)
  where
    put : (v : Option Entry) → unless_later (file_version x) (option_map file_version v) ≡ option_map file_version (unless_later x v)
    put (Some y) = refl
    put None = refl

    go : (b : Bool) → last_up_to n (map file_version xs) ≡ option_map file_version (last_entry n xs)
        → cond b (unless_later (file_version x) (last_up_to n (map file_version xs))) (last_up_to n (map file_version xs)) ≡ option_map file_version (cond b (unless_later x (last_entry n xs)) (last_entry n xs))
    go true r = ap (unless_later (file_version x)) r ∙ put (last_entry n xs)
    go false r = r

row-stands : (n : ℕ) (p : List ℕ) (xs : List Entry) → option_and_then (tree_row n) (file_row p xs) ≡ option_map tree_row_of (option_and_then (entry_file p) (last_entry n xs))
row-stands n p [] = refl
row-stands n p (x ∷ xs) = ap (option_and_then (entry_row p)) (last-versions n (x ∷ xs)) ∙ of (last_entry n (x ∷ xs))
  where
    in_version : (y : Entry) (v : Option Version) → option_map (λ (v : VersionRef). record { path = p; usage = y.usage; version = v }) (option_map ref_of v) ≡ option_map tree_row_of (option_map (tree_file_of p y.usage) v)
    in_version y (Some v) = refl
    in_version y None = refl

    of : (y : Option Entry) → option_and_then (entry_row p) (option_map file_version y) ≡ option_map tree_row_of (option_and_then (entry_file p) y)
    of (Some y) = in_version y y.version
    of None = refl

tree-stands : (log : Log) (a : Attributes) (n : ℕ) → tree_of (observation_with log a) n ≡ map tree_row_of (tree log n)
tree-stands log a n = filter_map-twice (λ p. file_row p (past log p)) (tree_row n) (paths log)
    ∙ filter_map-step (λ p. option_and_then (tree_row n) (file_row p (past log p))) (tree_file log n) tree_row_of (λ p. row-stands n p (past log p)) (paths log)

pub trees-stand : TreesStand
trees-stand log o n stood = let w = attributes-of log o stood in ap (λ (q : Observation). tree_of q n) (sym w.2) ∙ tree-stands log w.0 n
