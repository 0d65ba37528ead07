-- The files of a change that have been frozen have no more bytes together than the tree that froze them.
use Rattle.std.proofs.lemmas.List.Sums.{sum_by-cons}
use Rattle.std.proofs.Common.{◌≡◌, inl, inr, ℕ, ◌+◌, ◌≤◌, refl, sym, ◌∙◌, ap, subst, List, [], ◌∷◌, map, Option, Some, None, Bool, true, false, cond, length, arith}
use Rattle.std.specs.Prelude.{sum}
use Rattle.std.specs.Option.{option_map_or}
use Rattle.std.specs.Str.{bytes_eq}
use Rattle.ae_base.specs.Rows.{Rows}
use Rattle.ae_types.specs.declared.change.ChangeFile.{ChangeFile}
use Rattle.ae_types.specs.Found.{file_path}
use Rattle.ae_types.specs.Frozen.{Version, first_place, frozen_file, numbered, other_places, version_of}
use Rattle.ae_types.proofs.Keys.{by_text}
use Rattle.ae_types.proofs.Members.{In}
use Rattle.ae_types.proofs.Ordered.{Above, Ascends, apart, less-other}
use Rattle.ae_log.specs.declared.event.EventKind.{EventKind}
use Rattle.ae_log.specs.declared.event.EventKind.TheVariants as on
use Rattle.ae_log.specs.Files.{frozen, frozen_by, frozen_in, frozen_mark, next_version}
use Rattle.ae_log.specs.Log.{Happened, Course, makes, standing}
use Rattle.ae_machine.specs.Freezing.{size_of}
use Rattle.ae_types.specs.Found.{change_at}
use Rattle.ae_machine.proofs.Came.{AllCame, Came, found-by, standing-came, there-is}

-- what each path of these files counts, together
abbrev pub total : (List ℕ → ℕ) → List ChangeFile → ℕ
total count [] = 0
total count (file ∷ files) = count file.path + total count files

pub total-same : (one other : List ℕ → ℕ) (files : List ChangeFile) → ((file : ChangeFile) → In files file → one file.path ≡ other file.path) → total one files ≡ total other files
total-same one other [] same = refl
total-same one other (file ∷ files) same = ap (λ n. n + total one files) (same file (inl refl)) ∙ ap (λ n. other file.path + n) (total-same one other files (λ f m. same f (inr m)))

total-none : (files : List ChangeFile) → total (λ path. 0) files ≡ 0
total-none [] = refl
total-none (file ∷ files) = let rest = total-none files in omega (arith, rest)

-- one path alone counts otherwise
abbrev but : List ℕ → ℕ → (List ℕ → ℕ) → List ℕ → ℕ
but path size count other = cond (bytes_eq other path) size (count other)

but-above : (path : List ℕ) (size : ℕ) (count : List ℕ → ℕ) (files : List ChangeFile) → Above by_text file_path path files → total (but path size count) files ≡ total count files
but-above path size count [] above = refl
but-above path size count (file ∷ files) above =
    ap (λ b. cond b size (count file.path) + total (but path size count) files) (apart by_text file.path path (λ is. less-other by_text path file.path above.0 (sym is)))
    ∙ ap (λ n. count file.path + n) (but-above path size count files above.1)

-- in ascending files a path is there once
but-once : (path : List ℕ) (size : ℕ) (count : List ℕ → ℕ) (files : List ChangeFile) → Ascends by_text file_path files → total (but path size count) files ≤ size + total count files
but-once path size count [] up = omega arith
but-once path size count (file ∷ files) up = go (bytes_eq file.path path) refl (but-once path size count files up.1)
  where
    go : (b : Bool) → bytes_eq file.path path ≡ b → total (but path size count) files ≤ size + total count files → cond b size (count file.path) + total (but path size count) files ≤ size + (count file.path + total count files)
    go true is rest = let same = but-above path size count files (subst (λ (p : List ℕ). Above by_text file_path p files) (by_text.same_is file.path path is) up.0) in omega (arith, same)
    go false is rest = omega (arith, rest)

-- the size that a tree has of a path
abbrev size_in : Rows → List ℕ → ℕ
size_in [] path = 0
size_in (row ∷ rows) path = cond (bytes_eq path row.0) (size_of row) (size_in rows path)

total-tree : (tree : Rows) (files : List ChangeFile) → Ascends by_text file_path files → total (size_in tree) files ≤ sum (map size_of tree)
total-tree [] files up = let none = total-none files in omega (arith, none)
total-tree (row ∷ rows) files up =
    let both : sum (map size_of (row ∷ rows)) ≡ size_of row + sum (map size_of rows) = sum_by-cons (λ n. n) (size_of row) (map size_of rows) in
    let once = but-once row.0 (size_of row) (size_in rows) files up in
    let rest = total-tree rows files up in
    omega (arith, both, once, rest)

-- ---- what is frozen

abbrev pub bytes_of : Option Version → ℕ
bytes_of version = option_map_or (λ (version : Version). length version.bytes) version 0

frozen-size : (next : ℕ) (tree : Rows) (places : List ℕ) (path : List ℕ) → bytes_of (version_of (frozen_file (numbered next tree places) path)) ≡ size_in tree path
frozen-size next [] places path = refl
frozen-size next ((p, None) ∷ rows) places path = go (bytes_eq path p) (frozen-size next rows places path)
  where
    go : (b : Bool) → bytes_of (version_of (frozen_file (numbered next rows places) path)) ≡ size_in rows path
        → bytes_of (version_of (cond b (Some (record { path = p; version = None })) (frozen_file (numbered next rows places) path))) ≡ cond b 0 (size_in rows path)
    go true rest = refl
    go false rest = rest
frozen-size next ((p, Some bytes) ∷ rows) places path = go (bytes_eq path p) (frozen-size (next + 1) rows (other_places places) path)
  where
    go : (b : Bool) → bytes_of (version_of (frozen_file (numbered (next + 1) rows (other_places places)) path)) ≡ size_in rows path
        → bytes_of (version_of (cond b (Some (record { path = p; version = Some (record { number = next; at = first_place places; bytes = bytes }) })) (frozen_file (numbered (next + 1) rows (other_places places)) path))) ≡ cond b (length bytes) (size_in rows path)
    go true rest = refl
    go false rest = rest

-- the bytes that the change has frozen of a path
abbrev pub frozen_bytes : Course → List ℕ → ℕ
frozen_bytes course path = bytes_of (version_of (frozen_file (frozen course) path))

ended-small : (n : ℕ) (ended : Happened) (kind : EventKind) → Came n ended → ended.event.what ≡ kind → frozen_mark kind ≡ makes → (files : List ChangeFile) → Ascends by_text file_path files
    → total (λ path. bytes_of (version_of (frozen_file (frozen_in ended.before kind) path))) files ≤ 67108864
ended-small n ended (on.End tree to places) came is mark files up =
    let f = found-by n ended (on.End tree to places) came is (λ o h. there-is _ (change_at o n) h) in
    let few = f.said.2 in
    let most = total-tree tree files up in
    let same = total-same (λ path. bytes_of (version_of (frozen_file (numbered (next_version ended.before) tree places) path))) (size_in tree) files (λ file m. frozen-size (next_version ended.before) tree places file.path) in
    omega (arith, few, most, same)
ended-small n ended kind came is mark files up = cc

pub frozen-small : (n : ℕ) (ss : Course) → AllCame n ss → (files : List ChangeFile) → Ascends by_text file_path files → total (frozen_bytes ss) files ≤ 67108864
frozen-small n ss all files up = go (standing frozen_mark ss) refl
  where
    go : (v : Option Happened) → standing frozen_mark ss ≡ v → total (λ path. bytes_of (version_of (frozen_file (frozen_by v) path))) files ≤ 67108864
    go (Some ended) is = let made = standing-came n frozen_mark ss all ended is in ended-small n ended ended.event.what made.came refl made.makes files up
    go None is = let none = total-none files in omega (arith, none)
