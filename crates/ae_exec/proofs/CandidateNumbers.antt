-- No two files of a candidate have versions of one number, so the bytes that were read of them are those of their numbers.
use Rattle.std.specs.Prelude.{◌≡◌, ◌⊎◌, ℕ, Bool, true, false, not, nat_eq, nat_le, if◌then◌else◌, List, [], ◌∷◌, map, filter, filter_map, Option, Some, None, IsSome}
use Rattle.std.specs.Option.{option_and_then, option_map}
use Rattle.std.proofs.Common.{refl, sym, ap, ◌∙◌, inl, inr}
use Rattle.std.proofs.lemmas.List.Elements.{All-head, All-tail}
use Rattle.std.proofs.lemmas.Bool.{false≢true}
use Rattle.ae_files.proofs.Laid.{puts-ascend}
use Rattle.ae_base.specs.Rows.{Row, Rows, paths_of, text_cmp}
use Rattle.ae_types.specs.declared.change.Change.{Change}
use Rattle.ae_types.specs.declared.change.ChangeFile.{ChangeFile}
use Rattle.ae_types.specs.declared.file_table.FileRow.{FileRow}
use Rattle.ae_types.specs.declared.file_table.FileVersion.{FileVersion}
use Rattle.ae_types.specs.declared.version.VersionRef.{VersionRef}
use Rattle.ae_types.specs.Found.{change_in, entry_delta, entry_in, file_in, file_path, has_file, row_in, row_path}
use Rattle.ae_types.specs.Observation.{Observation}
use Rattle.ae_types.specs.Ordered.{Above, Ascends}
use Rattle.ae_types.specs.Phases.{is_integrating}
use Rattle.ae_types.specs.Sound.{Sound}
use Rattle.ae_types.specs.Trees.{TreeRow, baseline_of, candidate_of, entry_row, frozen_row, last_delta, last_up_to, tree_path, tree_row, unless_later}
use Rattle.ae_types.specs.Versions.{Place, in_change, in_table, version_at}
use Rattle.ae_types.proofs.Keys.{by_number, by_text}
use Rattle.ae_types.proofs.Members.{In, some-in}
use Rattle.ae_types.proofs.Ordered.{above-at, filter-ascends, less-other, rows-ascend}
use Rattle.ae_types.proofs.Searched.{in-found}
use Rattle.ae_log.proofs.PassedTree.{frozen_own, tree_own}
use Rattle.ae_words.specs.declared.command.Command.{Command}
use Rattle.ae_machine.specs.Call.{call_of, change_named}
use Rattle.ae_machine.specs.Sight.{with_bytes}
use Rattle.ae_machine.specs.Versions.{rows_compared}
use Rattle.ae_machine.proofs.Lists.{filter-in}
use Rattle.ae_exec.specs.Bytes.{AreThere}
use Rattle.ae_exec.specs.Reading.{compared_for}
use Rattle.ae_exec.proofs.RunVersions.{frozen-is, puts-in}

-- ---- each file stands at a place of its own path

abbrev path_of : Place → List ℕ
path_of (in_table path delta) = path
path_of (in_change number path) = path

record StandsAt (o : Observation) (row : TreeRow) : Type 0 where
  pub place : Place
  pub found : version_at o.files o.changes place ≡ Some row.version
  pub own_path : path_of place ≡ row.path

-- the last entry up to a delta is one of the past
pub last-in : (delta : ℕ) (past : List FileVersion) (entry : FileVersion) → last_up_to delta past ≡ Some entry → In past entry
last-in delta [] entry is = cc
last-in delta (x ∷ past) entry is = go (nat_le x.delta delta) (last_up_to delta past) is (last-in delta past entry)
  where
    go : (b : Bool) (last : Option FileVersion) → (if b then unless_later x last else last) ≡ Some entry → (last ≡ Some entry → In past entry) → In (x ∷ past) entry
    go true (Some later) e rest = inr (rest e)
    go true None e rest = let same : x ≡ entry = cc in inl same
    go false last e rest = inr (rest e)

entry-version : (path : List ℕ) (entry : FileVersion) (row : TreeRow) → entry_row path entry ≡ Some row → entry.version ≡ Some row.version
entry-version path entry row is = go entry.version is
  where
    go : (v : Option VersionRef) → option_map (λ version. record { path = path; usage = entry.usage; version = version }) v ≡ Some row → v ≡ Some row.version
    go (Some version) e = let same : version ≡ row.version = cc in ap Some same
    go None e = cc

module _ (o : Observation) (s : Sound o) where
  base-stands : (row : TreeRow) → In (baseline_of o) row → StandsAt o row
  base-stands row there = go (last_up_to (last_delta o) file.past) refl from.2
    where
      from : (file : FileRow) × In o.files file × (tree_row (last_delta o) file ≡ Some row)
      from = some-in (tree_row (last_delta o)) o.files row there

      file : FileRow
      file = from.0

      found : row_in o.files file.path ≡ Some file
      found = in-found by_text row_path o.files s.rows.ascend file from.1

      go : (last : Option FileVersion) → last_up_to (last_delta o) file.past ≡ last → option_and_then (entry_row file.path) last ≡ Some row → StandsAt o row
      go (Some entry) last is =
          let at : entry_in file.past entry.delta ≡ Some entry = in-found by_number entry_delta file.past ((s.rows.good file.path file found).ascends) entry (last-in (last_delta o) file.past entry last) in
          record {
            place = in_table file.path entry.delta;
            found =
                ap (λ (r : Option FileRow). option_and_then (λ (row : FileRow). option_and_then (λ (entry : FileVersion). entry.version) (entry_in row.past entry.delta)) r) found
                ∙ ap (λ (e : Option FileVersion). option_and_then (λ (entry : FileVersion). entry.version) e) at
                ∙ entry-version file.path entry row is;
            own_path = sym (tree_own (last_delta o) file row from.2);
          }
      go None last is = cc

  module _ (number : ℕ) (change : Change) (named : change_in o.changes number ≡ Some change) where
    ascend : Ascends text_cmp file_path change.files
    ascend = (s.changes.good number change named).files.ascend

    rows-up : Ascends text_cmp tree_path (candidate_of o change)
    rows-up = puts-ascend (filter_map frozen_row change.files) (filter (λ (row : TreeRow). not (has_file change row.path)) (baseline_of o))
        (filter-ascends by_text tree_path (λ (row : TreeRow). not (has_file change row.path)) (baseline_of o) (rows-ascend by_text row_path tree_path (tree_row (last_delta o)) (tree_own (last_delta o)) o.files s.rows.ascend))

    frozen-stands : (row : TreeRow) → In (filter_map frozen_row change.files) row → StandsAt o row
    frozen-stands row there =
        let from = some-in frozen_row change.files row there in
        record {
          place = in_change number from.0.path;
          found =
              ap (λ (c : Option Change). option_and_then (λ (change : Change). option_and_then (λ (file : ChangeFile). file.frozen) (file_in change.files from.0.path)) c) named
              ∙ ap (λ (f : Option ChangeFile). option_and_then (λ (file : ChangeFile). file.frozen) f) (in-found by_text file_path change.files ascend from.0 from.1)
              ∙ frozen-is from.0 row from.2;
          own_path = sym (frozen_own from.0 row from.2);
        }

    candidate-stands : (row : TreeRow) → In (candidate_of o change) row → StandsAt o row
    candidate-stands row there = go (puts-in (filter_map frozen_row change.files) (filter (λ (row : TreeRow). not (has_file change row.path)) (baseline_of o)) row there)
      where
        go : In (filter_map frozen_row change.files) row ⊎ In (filter (λ (row : TreeRow). not (has_file change row.path)) (baseline_of o)) row → StandsAt o row
        go (inl m) = frozen-stands row m
        go (inr m) = base-stands row (filter-in (λ (row : TreeRow). not (has_file change row.path)) (baseline_of o) row m).0

  -- so files of one number have one path
  one-path : (row other : TreeRow) → StandsAt o row → StandsAt o other → row.version.number ≡ other.version.number → row.path ≡ other.path
  one-path row other one two same = sym one.own_path ∙ ap path_of (s.versions.apart one.place two.place row.version other.version one.found two.found same) ∙ two.own_path

-- ---- the bytes of a number

abbrev NumbersDiffer : List TreeRow → Type 0
NumbersDiffer rows = (row other : TreeRow) → In rows row → In rows other → row.version.number ≡ other.version.number → row.path ≡ other.path

-- the bytes of this number, and of all others those that they have
abbrev with_number : ℕ → List ℕ → (ℕ → List ℕ) → ℕ → List ℕ
with_number number bytes others n = if nat_eq n number then bytes else others n

same-number : (number : ℕ) (bytes : List ℕ) (others : ℕ → List ℕ) → with_number number bytes others number ≡ bytes
same-number number bytes others = ap (λ (b : Bool). if b then bytes else others number) (by_number.same_self number)

other-number : (number n : ℕ) (bytes : List ℕ) (others : ℕ → List ℕ) → (n ≡ number → ⊥) → with_number number bytes others n ≡ others n
other-number number n bytes others differ = go (nat_eq n number) refl
  where
    go : (b : Bool) → nat_eq n number ≡ b → (if b then bytes else others n) ≡ others n
    go true is = absurd (differ (by_number.same_is n number is))
    go false is = refl

others-same : (number : ℕ) (bytes : List ℕ) (others : ℕ → List ℕ) (rows : List TreeRow) → ((row : TreeRow) → In rows row → row.version.number ≡ number → ⊥) → with_bytes others rows ≡ with_bytes (with_number number bytes others) rows
others-same number bytes others [] differ = refl
others-same number bytes others (row ∷ rows) differ = λ i.
    (row.path, Some (sym (other-number number row.version.number bytes others (differ row (inl refl))) i)) ∷ others-same number bytes others rows (λ other there. differ other (inr there)) i

one-more : (row : TreeRow) (rows : List TreeRow) → Above text_cmp tree_path row.path rows → Ascends text_cmp tree_path rows → NumbersDiffer (row ∷ rows) → (file : Row) (files : Rows) → file.0 ≡ row.path → IsSome file.1
    → (bytes : ℕ → List ℕ) × (files ≡ with_bytes bytes rows) → (bytes : ℕ → List ℕ) × (file ∷ files ≡ with_bytes bytes (row ∷ rows))
one-more row rows above up differ file files first some rest = go file.1 refl some
  where
    apart : (other : TreeRow) → In rows other → other.version.number ≡ row.version.number → ⊥
    apart other there same =
        less-other by_text row.path other.path (above-at by_text tree_path row.path other.path rows other above (in-found by_text tree_path rows up other there))
        (differ row other (inl refl) (inr there) (sym same))

    go : (content : Option (List ℕ)) → file.1 ≡ content → IsSome content → (bytes : ℕ → List ℕ) × (file ∷ files ≡ with_bytes bytes (row ∷ rows))
    go (Some bytes) is has = (
      with_number row.version.number bytes rest.0,
      λ i. (first i, (is ∙ ap Some (sym (same-number row.version.number bytes rest.0))) i) ∷ (rest.1 ∙ others-same row.version.number bytes rest.0 rows apart) i,
    )
    go None is has = absurd (false≢true has)

bytes-of-rows : (rows : List TreeRow) → Ascends text_cmp tree_path rows → NumbersDiffer rows → (files : Rows) → paths_of files ≡ map tree_path rows → AreThere files → (bytes : ℕ → List ℕ) × (files ≡ with_bytes bytes rows)
bytes-of-rows [] up differ [] paths there = ((λ number. []), refl)
bytes-of-rows [] up differ (file ∷ files) paths there = cc
bytes-of-rows (row ∷ rows) up differ [] paths there = cc
bytes-of-rows (row ∷ rows) up differ (file ∷ files) paths there =
    let first : file.0 ≡ row.path = cc in
    let later : paths_of files ≡ map tree_path rows = cc in
    one-more row rows up.0 up.1 differ file files first (All-head (λ (f : Row). IsSome f.1) file files there)
    (bytes-of-rows rows up.1 (λ one two in_one in_two. differ one two (inr in_one) (inr in_two)) files later (All-tail (λ (f : Row). IsSome f.1) file files there))

-- ---- so are those of the files that are compared

pub compared-bytes : (o : Observation) → Sound o → (command : Command) (files : Rows) → paths_of files ≡ map tree_path (compared_for command o) → AreThere files
    → (bytes : ℕ → List ℕ) × (files ≡ with_bytes bytes (compared_for command o))
compared-bytes o s command files paths there = go command.change (change_named o command.change) refl paths
  where
    of-change : (number : ℕ) (change : Change) → change_in o.changes number ≡ Some change → paths_of files ≡ map tree_path (candidate_of o change) → (bytes : ℕ → List ℕ) × (files ≡ with_bytes bytes (candidate_of o change))
    of-change number change named are =
        bytes-of-rows (candidate_of o change) (rows-up o s number change named)
        (λ row other one two. one-path o s row other (candidate-stands o s number change named row one) (candidate-stands o s number change named other two)) files are there

    by : (number : Option ℕ) (change : Change) → change_named o number ≡ Some change → (b : Bool) → paths_of files ≡ map tree_path (if b then candidate_of o change else [])
        → (bytes : ℕ → List ℕ) × (files ≡ with_bytes bytes (if b then candidate_of o change else []))
    by (Some number) change named true are = of-change number change named are
    by None change named true are = cc
    by number change named false are = bytes-of-rows [] tt (λ row other one. absurd one) files are there

    go : (number : Option ℕ) (c : Option Change) → change_named o number ≡ c → paths_of files ≡ map tree_path (rows_compared (call_of o command []) c)
        → (bytes : ℕ → List ℕ) × (files ≡ with_bytes bytes (rows_compared (call_of o command []) c))
    go number (Some change) named are = by number change named (is_integrating change.phase) are
    go number None named are = bytes-of-rows [] tt (λ row other one. absurd one) files are there
