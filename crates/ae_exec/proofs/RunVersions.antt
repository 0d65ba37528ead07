-- The versions that a command with runs reads stand.
use Rattle.std.specs.Prelude.{◌≡◌, ◌⊎◌, ℕ, Bool, true, false, not, if◌then◌else◌, List, [], ◌∷◌, ◌++◌, filter, Option, Some, None, flat_map, filter_map}
use Rattle.std.specs.List.{cons_option}
use Rattle.std.specs.Option.{option_map_or, option_map}
use Rattle.std.specs.FinMap.Entries.{by_order}
use Rattle.std.specs.declared.cmp.Ordering.{Ordering}
use Rattle.std.specs.declared.cmp.Ordering.TheVariants as ordering
use Rattle.std.proofs.Common.{refl, sym, ap, subst, ◌∙◌, inl, inr}
use Rattle.ae_base.specs.declared.words.Kind.{Kind}
use Rattle.ae_base.specs.declared.words.Kind.TheVariants as kind
use Rattle.ae_outside.specs.Image.{Image}
use Rattle.ae_types.specs.declared.change.Change.{Change}
use Rattle.ae_types.specs.declared.change.ChangeFile.{ChangeFile}
use Rattle.ae_types.specs.declared.version.VersionRef.{VersionRef}
use Rattle.ae_types.specs.Found.{has_file, number_of_change, change_at}
use Rattle.ae_types.specs.Observation.{Observation}
use Rattle.ae_types.specs.Ordered.{put_by}
use Rattle.ae_types.specs.Phases.{is_integrating}
use Rattle.ae_types.specs.Trees.{TreeRow, baseline_of, candidate_of, frozen_row, last_delta, put_rows, tree_path}
use Rattle.ae_base.specs.Rows.{text_cmp}
use Rattle.ae_types.specs.Versions.{live}
use Rattle.ae_types.proofs.Keys.{by_number}
use Rattle.ae_types.proofs.Members.{In, in-either, in-flat, in-map, in-right, in-some, map-in, some-in}
use Rattle.ae_types.proofs.Searched.{found-in}
use Rattle.ae_words.specs.declared.command.Command.{Command}
use Rattle.ae_words.specs.declared.table.Function.{Function}
use Rattle.ae_words.specs.declared.table.Function.TheVariants as function
use Rattle.ae_machine.specs.Call.{Call, call_of, change_named}
use Rattle.ae_machine.specs.Fits.{makes_runs}
use Rattle.ae_machine.specs.Runs.{kind_of}
use Rattle.ae_files.specs.InTree.{row_at}
use Rattle.ae_machine.specs.Sight.{config_below, config_path, has_config}
use Rattle.ae_machine.specs.Versions.{config_version, rows_based, rows_compared, rows_refreshed, rows_under, versions_asked, versions_of_change, versions_of_runs}
use Rattle.ae_machine.proofs.Lists.{filter-in}
use Rattle.std.specs.Prelude.{All}
use Rattle.std.proofs.lemmas.List.{append-nil}
use Rattle.std.proofs.lemmas.List.Elements.{All-cons, All-nil}
use Rattle.ae_exec.specs.Bytes.{HaveBytes, bytes_at, row_version, rows_at}
use Rattle.ae_machine.specs.Sight.{with_bytes}
use Rattle.ae_exec.specs.Reading.{candidate_named, compared_for, AreKept, IsInside, asked_of, reads_of, versions_by, versions_for_answer, versions_for_runs, versions_of}
use Rattle.ae_exec.proofs.Baseline.{baseline-lives}
use Rattle.ae_types.specs.Sound.{Sound}
use Rattle.ae_exec.proofs.PathRows.{kept-lives, reads-found, row-kept}
use Rattle.ae_exec.proofs.Shown.{list-in, live-in}

abbrev pub Lives : Observation → TreeRow → Type 0
Lives o row = In (live o.files o.changes) row.version

-- ---- the baseline's rows

pub base-row : (o : Observation) (row : TreeRow) → In (baseline_of o) row → Lives o row
base-row o row there = baseline-lives o row.version (in-map row_version (baseline_of o) row there)

-- ---- the candidate's rows

-- a row that stands after one is put is that, or stood before
put-in : (row : TreeRow) (rows : List TreeRow) (x : TreeRow) → In (put_by text_cmp tree_path row rows) x → (row ≡ x) ⊎ In rows x
put-in row [] x (inl is) = inl is
put-in row [] x (inr h) = absurd h
put-in row (first ∷ rows) x h = go (text_cmp (tree_path row) (tree_path first)) h (put-in row rows x)
  where
    go : (order : Ordering) → In (by_order order (row ∷ first ∷ rows) (row ∷ rows) (first ∷ put_by text_cmp tree_path row rows)) x
        → (In (put_by text_cmp tree_path row rows) x → (row ≡ x) ⊎ In rows x) → (row ≡ x) ⊎ In (first ∷ rows) x
    go ordering.Less (inl is) rest = inl is
    go ordering.Less (inr m) rest = inr m
    go ordering.Equal (inl is) rest = inl is
    go ordering.Equal (inr m) rest = inr (inr m)
    go ordering.Greater (inl is) rest = inr (inl is)
    go ordering.Greater (inr m) rest = later (rest m)
      where
        later : (row ≡ x) ⊎ In rows x → (row ≡ x) ⊎ In (first ∷ rows) x
        later (inl is) = inl is
        later (inr m) = inr (inr m)

pub puts-in : (more rows : List TreeRow) (x : TreeRow) → In (put_rows more rows) x → In more x ⊎ In rows x
puts-in [] rows x h = inr h
puts-in (row ∷ more) rows x h = go (puts-in more (put_by text_cmp tree_path row rows) x h)
  where
    of-put : (row ≡ x) ⊎ In rows x → In (row ∷ more) x ⊎ In rows x
    of-put (inl is) = inl (inl is)
    of-put (inr m) = inr m

    go : In more x ⊎ In (put_by text_cmp tree_path row rows) x → In (row ∷ more) x ⊎ In rows x
    go (inl m) = inl (inr m)
    go (inr m) = of-put (put-in row rows x m)

pub frozen-is : (file : ChangeFile) (row : TreeRow) → frozen_row file ≡ Some row → file.frozen ≡ Some row.version
frozen-is file row is = go file.frozen is
  where
    go : (v : Option VersionRef) → option_map (λ version. record { path = file.path; usage = file.usage; version = version }) v ≡ Some row → v ≡ Some row.version
    go (Some version) e = let same : version ≡ row.version = cc in ap Some same
    go None e = cc

frozen-lives : (o : Observation) (change : Change) → In o.changes change → (row : TreeRow) → In (filter_map frozen_row change.files) row → Lives o row
frozen-lives o change there row h =
    let from = some-in frozen_row change.files row h in
    in-right (flat_map (λ (r : _). filter_map (λ (entry : _). entry.version) r.past) o.files) (flat_map (λ (change : Change). filter_map (λ (file : ChangeFile). file.frozen) change.files) o.changes) row.version
    (in-flat (λ (change : Change). filter_map (λ (file : ChangeFile). file.frozen) change.files) o.changes change row.version there
    (in-some (λ (file : ChangeFile). file.frozen) change.files from.0 row.version from.1 (frozen-is from.0 row from.2)))

candidate-row : (o : Observation) (change : Change) → In o.changes change → (row : TreeRow) → In (candidate_of o change) row → Lives o row
candidate-row o change there row h = go (puts-in (filter_map frozen_row change.files) (filter (λ (row : TreeRow). not (has_file change row.path)) (baseline_of o)) row h)
  where
    go : In (filter_map frozen_row change.files) row ⊎ In (filter (λ (row : TreeRow). not (has_file change row.path)) (baseline_of o)) row → Lives o row
    go (inl m) = frozen-lives o change there row m
    go (inr m) = base-row o row (filter-in (λ (row : TreeRow). not (has_file change row.path)) (baseline_of o) row m).0

-- ---- the rows that a command reads

pub named-in : (o : Observation) (number : Option ℕ) (change : Change) → change_named o number ≡ Some change → In o.changes change
named-in o (Some number) change is = found-in by_number number_of_change o.changes number change is
named-in o None change is = cc

config-row : (o : Observation) (row : Option TreeRow) → row_at (baseline_of o) config_path ≡ row → (x : TreeRow) → In (cons_option row []) x → Lives o x
config-row o (Some r) is x (inl same) = subst (λ (y : TreeRow). Lives o y) same (kept-lives o r.version (row-kept o (last_delta o) config_path r is))
config-row o (Some r) is x (inr h) = absurd h
config-row o None is x h = absurd h

module _ (o : Observation) (command : Command) where
  abbrev call : Call
  call = call_of o command []

  of-change : (change : Change) → In o.changes change → (x : TreeRow) → In (versions_of_change call change) x → Lives o x
  of-change change there x h = go (is_integrating change.phase) h
    where
      below : (has : Bool) → In (cons_option (if has then None else row_at (baseline_of o) config_path) []) x → Lives o x
      below true m = absurd m
      below false m = config-row o (row_at (baseline_of o) config_path) refl x m

      go : (b : Bool) → In (if b then candidate_of o change else cons_option (if b then None else if has_config change then None else row_at (baseline_of o) config_path) []) x → Lives o x
      go true m = candidate-row o change there x m
      go false m = below (has_config change) m

  for-answer : (x : TreeRow) → In (versions_asked call) x → Lives o x
  for-answer x h = go (makes_runs command.function) (change_named o command.change) refl h
    where
      go : (b : Bool) (c : Option Change) → change_named o command.change ≡ c → In (if b then versions_of_runs call c else []) x → Lives o x
      go true (Some change) is m = of-change change (named-in o command.change change is) x m
      go true None is m = absurd m
      go false c is m = absurd m

  refreshed-row : (c : Option Change) (x : TreeRow) → In (rows_refreshed call c) x → Lives o x
  refreshed-row (Some change) x h = go (is_integrating change.phase) h
    where
      go : (b : Bool) → In (if b then [] else filter (λ (row : TreeRow). not (has_file change row.path)) (baseline_of o)) x → Lives o x
      go true m = absurd m
      go false m = base-row o x (filter-in (λ (row : TreeRow). not (has_file change row.path)) (baseline_of o) x m).0
  refreshed-row None x h = absurd h

  based-row : (c : Option Change) (x : TreeRow) → In (rows_based call c) x → Lives o x
  based-row (Some change) x h = go (kind_of command.function command) h
    where
      go : (k : Kind) → In (rows_under k call) x → Lives o x
      go kind.BaselineTest m = base-row o x m
      go kind.Build m = absurd m
      go kind.Test m = absurd m
      go kind.RegressionTest m = absurd m
  based-row None x h = absurd h

  of-rows : (rows : List TreeRow) → ((x : TreeRow) → In rows x → Lives o x) → (version : VersionRef) → In (versions_of rows) version → In (live o.files o.changes) version
  of-rows rows each version h =
      let r = map-in row_version rows version h in
      subst (λ (v : VersionRef). In (live o.files o.changes) v) r.2 (each r.0 r.1)

  pub runs-live : (version : VersionRef) → In (versions_for_answer command o ++ versions_for_runs command o) version → In (live o.files o.changes) version
  runs-live version h = go (in-either (versions_for_answer command o) (versions_for_runs command o) version h)
    where
      refreshed : List VersionRef
      refreshed = versions_of (rows_refreshed call (change_named o command.change))

      based : List VersionRef
      based = versions_of (rows_based call (change_named o command.change))

      puts : In refreshed version ⊎ In based version → In (live o.files o.changes) version
      puts (inl m) = of-rows (rows_refreshed call (change_named o command.change)) (refreshed-row (change_named o command.change)) version m
      puts (inr m) = of-rows (rows_based call (change_named o command.change)) (based-row (change_named o command.change)) version m

      go : In (versions_for_answer command o) version ⊎ In (versions_for_runs command o) version → In (live o.files o.changes) version
      go (inl m) = of-rows (versions_asked call) for-answer version m
      go (inr m) = puts (in-either refreshed based version m)

-- ---- the baseline's aegis.conf

pub config-lives : (o : Observation) (command : Command) (row : TreeRow) → config_version (call_of o command []) (change_named o command.change) ≡ Some row → Lives o row
config-lives o command row is = go (change_named o command.change) is
  where
    under : (change : Change) (has : Bool) → (if has then None else row_at (baseline_of o) config_path) ≡ Some row → Lives o row
    under change true e = cc
    under change false e = kept-lives o row.version (row-kept o (last_delta o) config_path row e)

    below : (change : Change) (b : Bool) → (if b then None else if has_config change then None else row_at (baseline_of o) config_path) ≡ Some row → Lives o row
    below change true e = cc
    below change false e = under change (has_config change) e

    by : (change : Change) (b : Bool) → (if b then config_below (call_of o command []) change else None) ≡ Some row → Lives o row
    by change true e = below change (is_integrating change.phase) e
    by change false e = cc

    go : (c : Option Change) → config_version (call_of o command []) c ≡ Some row → Lives o row
    go (Some change) e = by change (makes_runs command.function) e
    go None e = cc

pub config-inside : (o : Observation) (command : Command) (row : TreeRow) → Sound o → config_version (call_of o command []) (change_named o command.change) ≡ Some row → IsInside row.version
config-inside o command row s is = let p = live-in o s row.version (config-lives o command row is) in s.versions.inside p.0 row.version p.1

-- the answer depends on the versions that are compared, and on it
pub answer-both : (o : Observation) (command : Command) → makes_runs command.function ≡ true
    → versions_of (compared_for command o) ++ versions_of (cons_option (config_version (call_of o command []) (change_named o command.change)) []) ≡ versions_for_answer command o
answer-both o command makes = go (change_named o command.change) ∙ sym (ap (λ (b : Bool). versions_of (if b then versions_of_runs (call_of o command []) (change_named o command.change) else [])) makes)
  where
    by : (change : Change) (b : Bool) → versions_of (if b then candidate_of o change else []) ++ versions_of (cons_option (if b then None else if has_config change then None else row_at (baseline_of o) config_path) [])
        ≡ versions_of (if b then candidate_of o change else cons_option (if b then None else if has_config change then None else row_at (baseline_of o) config_path) [])
    by change true = append-nil (versions_of (candidate_of o change))
    by change false = refl

    go : (c : Option Change) → versions_of (rows_compared (call_of o command []) c) ++ versions_of (cons_option (config_version (call_of o command []) c) []) ≡ versions_of (versions_of_runs (call_of o command []) c)
    go (Some change) =
        ap (λ (b : Bool). versions_of (rows_compared (call_of o command []) (Some change)) ++ versions_of (cons_option (if b then config_below (call_of o command []) change else None) [])) makes
        ∙ by change (is_integrating change.phase)
    go None = refl

-- ---- so they end in the region

all-inside : (o : Observation) → Sound o → (rows : List TreeRow) → ((x : TreeRow) → In rows x → Lives o x) → All (λ (row : TreeRow). IsInside row.version) rows
all-inside o s [] each = All-nil (λ (row : TreeRow). IsInside row.version)
all-inside o s (row ∷ rows) each =
    let p = live-in o s row.version (each row (inl refl)) in
    All-cons (λ (row : TreeRow). IsInside row.version) row rows (s.versions.inside p.0 row.version p.1) (all-inside o s rows (λ x there. each x (inr there)))

pub refreshed-inside : (o : Observation) → Sound o → (command : Command) → All (λ (row : TreeRow). IsInside row.version) (rows_refreshed (call_of o command []) (change_named o command.change))
refreshed-inside o s command = all-inside o s (rows_refreshed (call_of o command []) (change_named o command.change)) (refreshed-row o command (change_named o command.change))

pub based-inside : (o : Observation) → Sound o → (command : Command) → All (λ (row : TreeRow). IsInside row.version) (rows_based (call_of o command []) (change_named o command.change))
based-inside o s command = all-inside o s (rows_based (call_of o command []) (change_named o command.change)) (based-row o command (change_named o command.change))

compared-row : (o : Observation) (command : Command) (x : TreeRow) → In (compared_for command o) x → Lives o x
compared-row o command x h = go (change_named o command.change) refl h
  where
    by : (change : Change) → change_named o command.change ≡ Some change → (b : Bool) → In (if b then candidate_of o change else []) x → Lives o x
    by change is true m = candidate-row o change (named-in o command.change change is) x m
    by change is false m = absurd m

    go : (c : Option Change) → change_named o command.change ≡ c → In (rows_compared (call_of o command []) c) x → Lives o x
    go (Some change) is m = by change is (is_integrating change.phase) m
    go None is m = absurd m

pub compared-inside : (o : Observation) → Sound o → (command : Command) → All (λ (row : TreeRow). IsInside row.version) (compared_for command o)
compared-inside o s command = all-inside o s (compared_for command o) (compared-row o command)

pub candidate-inside : (o : Observation) → Sound o → (number : ℕ) (change : Change) → change_at o number ≡ Some change → All (λ (row : TreeRow). IsInside row.version) (candidate_of o change)
candidate-inside o s number change there = all-inside o s (candidate_of o change) (candidate-row o change (named-in o (Some number) change there))

-- and have the bytes that are kept
rows-have : (o : Observation) (files : Option Image) (bytes : ℕ → List ℕ) → HaveBytes files (Some o) bytes → (rows : List TreeRow) → ((x : TreeRow) → In rows x → Lives o x) → rows_at files rows ≡ with_bytes bytes rows
rows-have o files bytes have [] each = refl
rows-have o files bytes have (row ∷ rows) each =
    let kept : bytes row.version.number ≡ bytes_at files row.version = have row.version (list-in (live o.files o.changes) row.version (each row (inl refl))) in
    λ i. (row.path, Some (sym kept i)) ∷ rows-have o files bytes have rows (λ x there. each x (inr there)) i

pub refreshed-have : (o : Observation) (files : Option Image) (bytes : ℕ → List ℕ) → HaveBytes files (Some o) bytes → (command : Command)
    → rows_at files (rows_refreshed (call_of o command []) (change_named o command.change)) ≡ with_bytes bytes (rows_refreshed (call_of o command []) (change_named o command.change))
refreshed-have o files bytes have command = rows-have o files bytes have (rows_refreshed (call_of o command []) (change_named o command.change)) (refreshed-row o command (change_named o command.change))

pub based-have : (o : Observation) (files : Option Image) (bytes : ℕ → List ℕ) → HaveBytes files (Some o) bytes → (command : Command)
    → rows_at files (rows_based (call_of o command []) (change_named o command.change)) ≡ with_bytes bytes (rows_based (call_of o command []) (change_named o command.change))
based-have o files bytes have command = rows-have o files bytes have (rows_based (call_of o command []) (change_named o command.change)) (based-row o command (change_named o command.change))

pub compared-have : (o : Observation) (files : Option Image) (bytes : ℕ → List ℕ) → HaveBytes files (Some o) bytes → (command : Command)
    → rows_at files (compared_for command o) ≡ with_bytes bytes (compared_for command o)
compared-have o files bytes have command = rows-have o files bytes have (compared_for command o) (compared-row o command)

pub candidate-have : (o : Observation) (files : Option Image) (bytes : ℕ → List ℕ) → HaveBytes files (Some o) bytes → (number : ℕ) (change : Change) → change_at o number ≡ Some change
    → rows_at files (candidate_of o change) ≡ with_bytes bytes (candidate_of o change)
candidate-have o files bytes have number change there = rows-have o files bytes have (candidate_of o change) (candidate-row o change (named-in o (Some number) change there))

-- those of the candidate of the change that is named stand
pub candidate-live : (o : Observation) (command : Command) (version : VersionRef) → In (versions_of (candidate_named command o)) version → In (live o.files o.changes) version
candidate-live o command version h = go (change_named o command.change) refl h
  where
    go : (c : Option Change) → change_named o command.change ≡ c → In (versions_of (option_map_or (candidate_of o) c [])) version → In (live o.files o.changes) version
    go (Some change) is m = of-rows o command (candidate_of o change) (candidate-row o change (named-in o command.change change is)) version m
    go None is m = absurd m

-- ---- what an answer depends on is read first

pub front-kept : (files : Option Image) (xs ys : List VersionRef) → AreKept files (xs ++ ys) → AreKept files xs
front-kept files [] ys kept = tt
front-kept files (v ∷ xs) ys kept = (kept.0, front-kept files xs ys kept.1)

pub both-kept : (files : Option Image) (xs ys : List VersionRef) → AreKept files xs → AreKept files ys → AreKept files (xs ++ ys)
both-kept files [] ys one other = other
both-kept files (v ∷ xs) ys one other = (one.0, both-kept files xs ys one.1 other)

pub runs-read : (f : Function) (command : Command) (o : Observation) → makes_runs f ≡ true → versions_by f command o ≡ versions_for_answer command o ++ versions_for_runs command o
runs-read function.Build command o is = refl
runs-read _ command o is = cc

-- of a command without runs the answer depends on none
quiet-none : (command : Command) (o : Observation) → makes_runs command.function ≡ false → versions_for_answer command o ≡ []
quiet-none command o none = ap (λ (b : Bool). versions_of (if b then versions_of_runs (call_of o command []) (change_named o command.change) else [])) none

pub quiet-asked : (files : Option Image) (command : Command) (o : Option Observation) → makes_runs command.function ≡ false → AreKept files (asked_of command o)
quiet-asked files command (Some o) none = subst (AreKept files) (sym (quiet-none command o none)) tt
quiet-asked files command None none = tt

changeless : (command : Command) (o : Observation) → change_named o command.change ≡ None → versions_for_answer command o ≡ []
changeless command o none = ap (λ (c : Option Change). versions_of (if makes_runs command.function then versions_of_runs (call_of o command []) c else [])) none ∙ go (makes_runs command.function)
  where
    go : (b : Bool) → versions_of (if b then versions_of_runs (call_of o command []) None else []) ≡ []
    go true = refl
    go false = refl

pub asked-kept : (files : Option Image) (command : Command) (o : Option Observation) → AreKept files (reads_of command o) → AreKept files (asked_of command o)
asked-kept files command None kept = tt
asked-kept files command (Some o) kept = go (change_named o command.change) refl
  where
    found : (change : Change) → change_named o command.change ≡ Some change → (b : Bool) → makes_runs command.function ≡ b → AreKept files (versions_for_answer command o)
    found change is true makes = front-kept files (versions_for_answer command o) (versions_for_runs command o) (subst (AreKept files) (reads-found command o change is ∙ runs-read command.function command o makes) kept)
    found change is false makes = quiet-asked files command (Some o) makes

    go : (c : Option Change) → change_named o command.change ≡ c → AreKept files (versions_for_answer command o)
    go (Some change) is = found change is (makes_runs command.function) refl
    go None none = subst (AreKept files) (sym (changeless command o none)) tt
