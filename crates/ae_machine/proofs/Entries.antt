-- The entries of a file's past, and its row at a delta.
use Rattle.std.specs.Prelude.{◌≡◌, ℕ, ◌+◌, ◌<◌, Bool, true, false, if◌then◌else◌, List, [], ◌∷◌, ◌++◌, take, filter, length, Option, Some, None, is_some, nat_le}
use Rattle.std.specs.Option.{option_map, option_and_then}
use Rattle.std.proofs.Common.{refl, sym, ap, ◌∙◌, cond, arith}
use Rattle.std.proofs.Math.ListN.{get_or}
use Rattle.std.proofs.lemmas.List.{take_more}
use Rattle.ae_log.proofs.PassedTree.{tree_own}
use Rattle.ae_base.specs.declared.words.Usage.{Usage}
use Rattle.ae_types.specs.declared.file_table.FileRow.{FileRow}
use Rattle.ae_types.specs.declared.file_table.FileVersion.{FileVersion}
use Rattle.ae_types.specs.declared.version.VersionRef.{VersionRef}
use Rattle.ae_types.specs.Found.{row_path, row_in}
use Rattle.ae_types.specs.Observation.{Observation}
use Rattle.ae_types.specs.Ordered.{Ascends}
use Rattle.ae_types.specs.Sound.{Sound}
use Rattle.ae_types.specs.Trees.{tree_path, entry_row, last_up_to, tree_at, tree_of, tree_row}
use Rattle.ae_base.specs.Rows.{text_cmp}
use Rattle.ae_types.proofs.Keys.{by_text}
use Rattle.ae_types.proofs.Ordered.{at-rows}
use Rattle.ae_evidence.specs.Needs.{usage_of}
use Rattle.ae_files.specs.InTree.{row_at}

-- ---- one entry more

-- how many pass a test
pub passed-push : (t : FileVersion → Bool) (past : List FileVersion) (entry : FileVersion) → length (filter t (past ++ entry ∷ [])) ≡ (if t entry then length (filter t past) + 1 else length (filter t past))
passed-push t [] entry = go (t entry)
  where
    go : (b : Bool) → length (cond b (entry ∷ []) []) ≡ (if b then 1 else 0)
    go true = refl
    go false = refl
passed-push t (x ∷ past) entry = go (t x) (t entry) (passed-push t past entry)
  where
    go : (a b : Bool) → length (filter t (past ++ entry ∷ [])) ≡ (if b then length (filter t past) + 1 else length (filter t past))
        → length (cond a (x ∷ filter t (past ++ entry ∷ [])) (filter t (past ++ entry ∷ []))) ≡ (if b then length (cond a (x ∷ filter t past) (filter t past)) + 1 else length (cond a (x ∷ filter t past) (filter t past)))
    go true true e = omega (arith, e)
    go true false e = omega (arith, e)
    go false true e = e
    go false false e = e

pub count-more : (past : List FileVersion) (i : ℕ) (entry : FileVersion) (delta old new : ℕ) (b : Bool) → i < length past → entry ≡ get_or past i entry → old ≡ length (filter (λ (e : FileVersion). nat_le e.delta delta) (take i past))
    → nat_le entry.delta delta ≡ b → new ≡ (if b then old + 1 else old) → new ≡ length (filter (λ (e : FileVersion). nat_le e.delta delta) (take (i + 1) past))
count-more past i entry delta old new b below is so_far test made =
    let more : take (i + 1) past ≡ take i past ++ entry ∷ [] = take_more past i entry below ∙ ap (λ (e : FileVersion). take i past ++ e ∷ []) (sym is) in
    made ∙ sym (ap (λ (l : List FileVersion). length (filter (λ (e : FileVersion). nat_le e.delta delta) l)) more ∙ passed-push (λ (e : FileVersion). nat_le e.delta delta) (take i past) entry ∙ (λ j. if test j then sym so_far j + 1 else sym so_far j))

-- ---- a path's row at a delta

pub row-at-is : (delta : ℕ) (rows : List FileRow) (path : List ℕ) → Ascends text_cmp row_path rows → row_at (tree_at delta rows) path ≡ option_and_then (tree_row delta) (row_in rows path)
row-at-is delta rows path a = at-rows by_text row_path tree_path (tree_row delta) (tree_own delta) path rows a

abbrev pub usage_by : Option FileVersion → Option Usage
usage_by (Some entry) = if is_some entry.version then Some entry.usage else None
usage_by None = None

-- the usage of a path's row
pub usage-is : (o : Observation) (delta : ℕ) (path : List ℕ) → Sound o → option_map usage_of (row_at (tree_of o delta) path) ≡ option_and_then (λ (row : FileRow). usage_by (last_up_to delta row.past)) (row_in o.files path)
usage-is o delta path s = ap (option_map usage_of) (row-at-is delta o.files path s.rows.ascend) ∙ go (row_in o.files path)
  where
    of_version : (p : List ℕ) (usage : Usage) (v : Option VersionRef) → option_map usage_of (option_map (λ (version : VersionRef). record { path = p; usage = usage; version = version }) v) ≡ (if is_some v then Some usage else None)
    of_version p usage (Some v) = refl
    of_version p usage None = refl

    of_entry : (p : List ℕ) (last : Option FileVersion) → option_map usage_of (option_and_then (entry_row p) last) ≡ usage_by last
    of_entry p (Some entry) = of_version p entry.usage entry.version
    of_entry p None = refl

    go : (row : Option FileRow) → option_map usage_of (option_and_then (tree_row delta) row) ≡ option_and_then (λ (row : FileRow). usage_by (last_up_to delta row.past)) row
    go (Some row) = of_entry row.path (last_up_to delta row.past)
    go None = refl
