-- What the row of a tree gives the file that stands at its place in the change.
use Rattle.std.proofs.Common.{◌≡◌, ℕ, zero, suc, ◌+◌, ◌<◌, ◌≤◌, refl, sym, ◌∙◌, ap, subst, List, [], ◌∷◌, ◌++◌, map, slice_set, Option, Some, None, Bool, true, false, cond, get_or, take, drop, add-zero, arith, length-append}
use Rattle.std.proofs.lemmas.List.{take_more, length-map}
use Rattle.std.proofs.lemmas.List.Edits.{map_over_more}
use Rattle.std.proofs.lemmas.List.Elements.{filter_map-append}
use mir.Val.{bool_byte}
use Rattle.std.specs.Prelude.{length, is_some, is_none}
use Rattle.std.specs.List.{filter_map}
use Rattle.std.specs.Option.{option_map}
use Rattle.std.specs.Str.{bytes_eq}
use Rattle.std.specs.declared.cmp.Ordering.TheVariants.{Less}
use Rattle.ae_base.specs.Limits.{most_file_bytes}
use Rattle.ae_base.specs.Rows.{Row, Rows, text_cmp}
use Rattle.ae_base.specs.declared.words.Action.TheVariants as action
use Rattle.ae_base.specs.declared.words.Usage.TheVariants as usage
use Rattle.ae_types.specs.declared.change.ChangeFile.{ChangeFile}
use Rattle.ae_types.specs.declared.version.VersionRef.{VersionRef}
use Rattle.ae_types.specs.Found.{file_in, file_path}
use Rattle.ae_types.specs.Phases.{is_remove}
use Rattle.ae_types.specs.Sound.{FitsLength}
use Rattle.ae_types.proofs.Keys.{by_text}
use Rattle.ae_types.proofs.Ordered.{Ascends, apart, at-map, less-other, none-some}
use Rattle.ae_types.proofs.Searched.{in-found}
use Rattle.ae_types.proofs.BinarySearch.{place-in}
use Rattle.ae_types.specs.Frozen.{Version, numbered, present, frozen_file, version_of, first_place, other_places, ref_of}
use Rattle.ae_log.specs.After.{frozen_as, new_file}
use Rattle.ae_log.specs.Applies.{tree_shape, files_shape, CanFreeze}
use Rattle.ae_types.proofs.Numbered.{frozen_at, new_version, version_at}
use Rattle.ae_log.proofs.Placing.{above-get}

-- the version that a row makes, of this number, at the first of these places
abbrev pub version_made : ℕ → List ℕ → Option (List ℕ) → Option Version
version_made n places (Some bytes) = Some (new_version n places bytes)
version_made n places None = None

first_path : List (List ℕ × Bool) → List ℕ
first_path [] = []
first_path (row ∷ rows) = row.0

others : List (List ℕ × Bool) → List (List ℕ × Bool)
others [] = []
others (row ∷ rows) = rows

same-first : (p : List ℕ) (b : Bool) (rows : List (List ℕ × Bool)) (f : ChangeFile) (fs : List ChangeFile) → (p, b) ∷ rows ≡ files_shape (f ∷ fs) → p ≡ f.path
unfolding first_path
same-first p b rows f fs e = ap first_path e

same-others : (p : List ℕ) (b : Bool) (rows : List (List ℕ × Bool)) (f : ChangeFile) (fs : List ChangeFile) → (p, b) ∷ rows ≡ files_shape (f ∷ fs) → rows ≡ files_shape fs
unfolding others
same-others p b rows f fs e = ap others e

hit : (p q : List ℕ) → p ≡ q → bytes_eq q p ≡ true
hit p q e = ap (bytes_eq q) e ∙ by_text.same_self q

miss : (p q r : List ℕ) → p ≡ q → text_cmp q r ≡ Less → bytes_eq r p ≡ false
miss p q r e less = apart by_text r p (λ is. less-other by_text q r less (sym (is ∙ e)))

drop-nothing : (m : ℕ) → drop {A = ℕ} m [] ≡ []
drop-nothing zero = refl
drop-nothing (suc m) = refl

dropped : (m : ℕ) (places : List ℕ) → drop m (other_places places) ≡ drop (suc m) places
dropped m [] = drop-nothing m
dropped m (place ∷ places) = refl

-- the file at a place of the change gets the version that the row there makes
pub at-place : (n : ℕ) (tree : Rows) (places : List ℕ) (files : List ChangeFile) (i : ℕ) (d : ChangeFile) (r : Row) → tree_shape tree ≡ files_shape files → Ascends by_text file_path files → i < length files
    → version_at n tree places (file_path (get_or files i d)) ≡ version_made (n + length (present (take i tree))) (drop (length (present (take i tree))) places) (get_or tree i r).1
at-place n tree places [] i d r shape a h = absurd (omega (arith, h))
at-place n [] places (f ∷ fs) i d r shape a h = cc
at-place n ((p, None) ∷ rows) places (f ∷ fs) zero d r shape a h =
    ap (λ b. version_of (cond b (Some (frozen_at p None)) (frozen_file (numbered n rows places) f.path))) (hit p f.path (same-first p true (tree_shape rows) f fs shape))
at-place n ((p, Some bytes) ∷ rows) places (f ∷ fs) zero d r shape a h =
    ap (λ b. version_of (cond b (Some (frozen_at p (Some (new_version n places bytes)))) (frozen_file (numbered (n + 1) rows (other_places places)) f.path))) (hit p f.path (same-first p false (tree_shape rows) f fs shape))
    ∙ sym (ap (λ m. Some (new_version m places bytes)) (add-zero n))
at-place n ((p, None) ∷ rows) places (f ∷ fs) (suc i) d r shape a h =
    let inside : i < length fs = omega (arith, h) in
    ap (λ b. version_of (cond b (Some (frozen_at p None)) (frozen_file (numbered n rows places) (file_path (get_or fs i d)))))
    (miss p f.path (file_path (get_or fs i d)) (same-first p true (tree_shape rows) f fs shape) (above-get by_text file_path f.path fs a.0 i d inside))
    ∙ at-place n rows places fs i d r (same-others p true (tree_shape rows) f fs shape) a.1 inside
at-place n ((p, Some bytes) ∷ rows) places (f ∷ fs) (suc i) d r shape a h =
    let inside : i < length fs = omega (arith, h) in
    let m = length (present (take i rows)) in
    ap (λ b. version_of (cond b (Some (frozen_at p (Some (new_version n places bytes)))) (frozen_file (numbered (n + 1) rows (other_places places)) (file_path (get_or fs i d)))))
    (miss p f.path (file_path (get_or fs i d)) (same-first p false (tree_shape rows) f fs shape) (above-get by_text file_path f.path fs a.0 i d inside))
    ∙ at-place (n + 1) rows (other_places places) fs i d r (same-others p false (tree_shape rows) f fs shape) a.1 inside
    ∙ ap (λ k. version_made k (drop m (other_places places)) (get_or rows i r).1) (counted n m)
    ∙ ap (λ ps. version_made (n + suc m) ps (get_or rows i r).1) (dropped m places)
  where
    counted : (n m : ℕ) → (n + 1) + m ≡ n + suc m
    counted n m = omega arith

-- ---- how many are made

one-more : (bytes : Option (List ℕ)) → length (filter_map (λ (row : Row). row.1) (([], bytes) ∷ [])) ≡ bool_byte (is_some bytes)
one-more (Some bytes) = refl
one-more None = refl

pub made-more : (tree : Rows) (i : ℕ) (r : Row) → i < length tree → length (present (take (i + 1) tree)) ≡ length (present (take i tree)) + bool_byte (is_some (get_or tree i r).1)
made-more tree i r h =
    ap (λ rows. length (present rows)) (take_more tree i r h)
    ∙ ap length (filter_map-append (λ (row : Row). row.1) (take i tree) (get_or tree i r ∷ []))
    ∙ length-append (present (take i tree)) (present (get_or tree i r ∷ []))
    ∙ ap (λ n. length (present (take i tree)) + n) (one-more (get_or tree i r).1)

pub byte-few : (b : Bool) → bool_byte b ≤ 1
byte-few true = omega arith
byte-few false = omega arith

pub made-few : (tree : Rows) (i : ℕ) → length (present (take i tree)) ≤ i
made-few tree zero = omega arith
made-few [] (suc i) = omega arith
made-few ((p, None) ∷ rows) (suc i) = let r = made-few rows i in omega (arith, r)
made-few ((p, Some bytes) ∷ rows) (suc i) = let r = made-few rows i in omega (arith, r)

-- a place is left for a file that isn't removed
pub made-within : (tree : Rows) (i : ℕ) (r : Row) (bytes : List ℕ) → i < length tree → (get_or tree i r).1 ≡ Some bytes → length (present (take i tree)) < length (present tree)
made-within [] i r bytes h e = absurd (omega (arith, h))
made-within ((p, None) ∷ rows) zero r bytes h e = none-some bytes e
made-within ((p, Some other) ∷ rows) zero r bytes h e = omega arith
made-within ((p, None) ∷ rows) (suc i) r bytes h e = let w = made-within rows i r bytes (omega (arith, h)) e in omega (arith, w)
made-within ((p, Some other) ∷ rows) (suc i) r bytes h e = let w = made-within rows i r bytes (omega (arith, h)) e in omega (arith, w)

pub as-many : (tree : Rows) (files : List ChangeFile) → tree_shape tree ≡ files_shape files → length tree ≡ length files
as-many tree files shape = sym (length-map tree (λ (row : Row). (row.0, is_none row.1))) ∙ ap length shape ∙ length-map files (λ (file : ChangeFile). (file.path, is_remove file.action))

place-first : (m : ℕ) (places : List ℕ) (d : ℕ) → m < length places → first_place (drop m places) ≡ get_or places m d
place-first m [] d h = absurd (omega (arith, h))
place-first zero (place ∷ places) d h = refl
place-first (suc m) (place ∷ places) d h = place-first m places d (omega (arith, h))

-- ---- a file frozen

module _ (n : ℕ) (tree : Rows) (places : List ℕ) (files : List ChangeFile) (can : CanFreeze n tree places files) (i : ℕ) (d : ChangeFile) (r : Row) (inside : i < length files) (m : ℕ) (counted : m ≡ length (present (take i tree))) where
  made : version_at n tree places (file_path (get_or files i d)) ≡ version_made (n + m) (drop m places) (get_or tree i r).1
  made = at-place n tree places files i d r can.shape can.ascend inside ∙ ap (λ k. version_made (n + k) (drop k places) (get_or tree i r).1) (sym counted)

  -- its version is at most so long
  pub short-enough : (bytes : List ℕ) → (get_or tree i r).1 ≡ Some bytes → length bytes ≤ most_file_bytes
  short-enough bytes e =
      let f = get_or files i d in
      let here : file_in (map (frozen_as n tree places) files) f.path ≡ Some (frozen_as n tree places f) = at-map by_text file_path (frozen_as n tree places) (λ g. refl) f.path files ∙ ap (option_map (frozen_as n tree places)) (in-found by_text file_path files can.ascend f (place-in files i d inside)) in
      subst (λ v. FitsLength (option_map ref_of v)) (made ∙ ap (version_made (n + m) (drop m places)) e) (can.lengths f.path (frozen_as n tree places f) here)

  pub frozen-present : (bytes : List ℕ) → (get_or tree i r).1 ≡ Some bytes → m < length places → Some (ref_of (record { number = n + m; at = get_or places m 0; bytes = bytes })) ≡ option_map ref_of (version_at n tree places (file_path (get_or files i d)))
  frozen-present bytes e left =
      ap (λ (a : ℕ). Some (ref_of (record { number = n + m; at = a; bytes = bytes }))) (sym (place-first m places 0 left))
      ∙ sym (ap (option_map ref_of) (made ∙ ap (version_made (n + m) (drop m places)) e))

  pub frozen-removed : (get_or tree i r).1 ≡ None → None ≡ option_map ref_of (version_at n tree places (file_path (get_or files i d)))
  frozen-removed e = sym (ap (option_map ref_of) (made ∙ ap (version_made (n + m) (drop m places)) e))

-- the file at a place is as it was until it is reached
kept : {A : Type 0} (h : A → A) (xs : List A) (i : ℕ) (d : A) → i < length xs → get_or (map h (take i xs) ++ drop i xs) i d ≡ get_or xs i d
kept h [] i d l = absurd (omega (arith, l))
kept h (x ∷ xs) zero d l = refl
kept h (x ∷ xs) (suc i) d l = kept h xs i d (omega (arith, l))

-- one more file is frozen
pub frozen-more : (n : ℕ) (tree : Rows) (places : List ℕ) (files ys : List ChangeFile) (i : ℕ) (f : ChangeFile) (v : Option VersionRef) → i < length files → ys ≡ map (frozen_as n tree places) (take i files) ++ drop i files → f ≡ get_or ys i f
    → v ≡ option_map ref_of (version_at n tree places (file_path (get_or files i f))) → slice_set ys i (record f { frozen = v }) ≡ map (frozen_as n tree places) (take (i + 1) files) ++ drop (i + 1) files
frozen-more n tree places files ys i f v inside so_far is made =
    let old : get_or files i f ≡ f = sym (is ∙ ap (λ fs. get_or fs i f) so_far ∙ kept (frozen_as n tree places) files i f inside) in
    ap (λ w. slice_set ys i (record f { frozen = w })) (made ∙ ap (λ (g : ChangeFile). option_map ref_of (version_at n tree places g.path)) old)
    ∙ map_over_more (frozen_as n tree places) files ys i f inside so_far is

-- ---- any file

pub no_file : ChangeFile
no_file = new_file [] action.Create usage.Test 0
