-- What one more event does to the versions.
use Rattle.std.proofs.Common.{◌≡◌, ◌⊎◌, inl, inr, ℕ, suc, ◌+◌, ◌-◌, ◌*◌, ◌/◌, ◌%◌, ◌<◌, ◌≤◌, ◌^◌, Bool, true, false, cond, ◌&&◌, ◌||◌, ◌==◌, List, [], ◌∷◌, ◌++◌, length, get_or, Option, Some, None, refl, sym, ◌∙◌, ap, subst, arith, length-append}
use Rattle.std.specs.Prelude.{IfSome, IsSomeAnd, Contains, nat_lt, nat_le}
use Rattle.std.specs.List.{list_all}
use Rattle.std.specs.Option.{option_map, option_to_list}
use Rattle.std.specs.Str.{bytes_eq}
use Rattle.std.proofs.lemmas.Bool.{cases_lt, lt-ltb}
use Rattle.std.proofs.lemmas.Bool.Decides.{nat_tests}
use Rattle.std.proofs.lemmas.List.{get_or-append-add}
use Rattle.std.proofs.lemmas.Option.{unwrap_or-slice_get, same_Some}
use Rattle.std.proofs.Math.ListN.{get_or-append}
use Rattle.sha2.specs.Sha256.{sha256}
use Rattle.ae_base.specs.Rows.{Rows}
use Rattle.ae_base.specs.declared.words.Phase.{Phase}
use Rattle.ae_types.specs.declared.change.Change.{Change}
use Rattle.ae_types.specs.declared.change.ChangeFile.{ChangeFile}
use Rattle.ae_types.specs.declared.project.Attributes.{Attributes}
use Rattle.ae_types.specs.declared.version.VersionRef.{VersionRef}
use Rattle.ae_types.specs.Observation.{Observation}
use Rattle.ae_types.specs.Found.{change_at, file_path}
use Rattle.ae_types.specs.Sound.{Sound}
use Rattle.ae_types.specs.Versions.{Place, version_at, meet}
use Rattle.ae_types.proofs.Keys.{by_text}
use Rattle.ae_types.proofs.Ordered.{Ascends, Above, none-some}
use Rattle.ae_vault.specs.declared.piece.Piece.{Piece}
use Rattle.ae_vault.specs.Pieces.{IsIn, IsCovered, is_piece, are_apart, none_meet, are_pieces}
use Rattle.ae_log.specs.declared.event.Event.{Event}
use Rattle.ae_log.specs.declared.event.EventKind.{EventKind}
use Rattle.ae_log.specs.declared.event.EventKind.TheVariants as on
use Rattle.ae_log.specs.After.{after}
use Rattle.ae_log.specs.Applies.{Applies, AppliesBy, Suits, comes_in, tree_shape, files_shape}
use Rattle.ae_log.specs.Files.{versions, version_bytes, next_version}
use Rattle.ae_log.specs.Log.{Log}
use Rattle.ae_log.specs.Observed.{observation, observation_with}
use Rattle.ae_log.proofs.Following.{follows}
use Rattle.ae_types.proofs.Numbered.{within, new_version, frozen_at}
use Rattle.ae_types.specs.Frozen.{AreInSpace, made_version, Version, present, ref_of, version_of, frozen_file, numbered, first_place, other_places}
use Rattle.ae_history.specs.Packed.{AreOf}
use Rattle.ae_places.specs.Placing.{units_of}
use Rattle.ae_history.specs.Placing.{padded, piece_at, pieces_at}
use Rattle.ae_exec.specs.Stands.{version_in}
use Rattle.ae_exec.specs.Carried.{pieces_by, IsApart, Stood, IsPut}
use Rattle.ae_exec.specs.Made.{IsMade, VersionsAreMade, FollowsVersions, VersionsFollow}
use Rattle.ae_exec.proofs.Bytes.{length-padded}
use Rattle.ae_exec.proofs.Came.{Came, stood, made, MadeBy, comes}
use Rattle.ae_exec.proofs.TreeVersions.{bytes-at, piece-in, row_path, other-path, piece-of}

-- ---- bytes by number

bytes-is : (log : Log) (n : ℕ) → version_bytes log n ≡ get_or (versions log) (n - 1) []
bytes-is log n = unwrap_or-slice_get (versions log) (n - 1) []

-- what was made stays
stays : (kind : EventKind) (log : Log) (event : Event) → event.what ≡ kind → (n : ℕ) → 1 ≤ n → n ≤ length (versions log) → (version_bytes (event ∷ log) n ≡ version_bytes log n) × (length (versions log) ≤ length (versions (event ∷ log)))
stays (on.End tree to places) log event is n first last =
    let all : versions (event ∷ log) ≡ versions log ++ present tree = ap (λ (kind : EventKind). Rattle.ae_log.specs.Files.versions_after kind (versions log)) is in (
      bytes-is (event ∷ log) n ∙ ap (λ (l : List (List ℕ)). get_or l (n - 1) []) all ∙ get_or-append (versions log) (present tree) [] (n - 1) (omega (arith, first, last)) ∙ sym (bytes-is log n),
      omega (arith, ap length all, length-append (versions log) (present tree)),
    )
stays kind log event is n first last =
    let all : versions (event ∷ log) ≡ versions log = ap (λ (kind : EventKind). Rattle.ae_log.specs.Files.versions_after kind (versions log)) is in (
      bytes-is (event ∷ log) n ∙ ap (λ (l : List (List ℕ)). get_or l (n - 1) []) all ∙ sym (bytes-is log n),
      omega (arith, ap length all),
    )

-- ---- the number of the next version

next-is : (log : Log) (o : Observation) → observation log ≡ Some o → o.project.next_version ≡ next_version log
next-is log o e = go (Rattle.ae_log.specs.Settings.attributes log) e
  where
    go : (a : Option Attributes) → option_map (observation_with log) a ≡ Some o → o.project.next_version ≡ next_version log
    go (Some a) e = sym (ap (λ (p : Observation). p.project.next_version) (same_Some (observation_with log a) o e))
    go None e = none-some o e

-- ---- the tree's paths ascend, as the change's files do

abbrev shape_path : List ℕ × Bool → List ℕ
shape_path row = row.0

above-shape : (q : List ℕ) (files : List ChangeFile) → Above by_text file_path q files → Above by_text shape_path q (files_shape files)
above-shape q [] above = tt
above-shape q (file ∷ files) above = (above.0, above-shape q files above.1)

shape-up : (files : List ChangeFile) → Ascends by_text file_path files → Ascends by_text shape_path (files_shape files)
shape-up [] up = tt
shape-up (file ∷ files) up = (above-shape file.path files up.0, shape-up files up.1)

above-tree : (q : List ℕ) (tree : Rows) → Above by_text shape_path q (tree_shape tree) → Above by_text row_path q tree
above-tree q [] above = tt
above-tree q (row ∷ tree) above = (above.0, above-tree q tree above.1)

tree-up : (tree : Rows) → Ascends by_text shape_path (tree_shape tree) → Ascends by_text row_path tree
tree-up [] up = tt
tree-up (row ∷ tree) up = (above-tree row.0 tree up.0, tree-up tree up.1)

-- ---- pieces

covered-in : (pieces : List Piece) (k : ℕ) → IsCovered pieces k → (p : Piece) × Contains pieces p × IsIn p k
covered-in [] k none = absurd none
covered-in (p ∷ pieces) k (inl here) = (p, (0, omega arith, refl), here)
covered-in (p ∷ pieces) k (inr more) = let rest = covered-in pieces k more in (rest.0, (suc rest.1.0, omega (arith, rest.1.1), rest.1.2), rest.2)

record Parts (at : ℕ) (bytes : List ℕ) (p : Piece) : Type 0 where
  at_is : p.at ≡ 64 * at
  length_is : length p.bytes ≡ 64 * units_of bytes
  some : 0 < length bytes

parts : (at : ℕ) (bytes : List ℕ) (p : Piece) → piece_at at bytes ≡ Some p → Parts at bytes p
parts at [] p e = none-some p e
parts at (b ∷ bytes) p e =
    let same : record { at = 64 * at; bytes = padded (b ∷ bytes) } ≡ p = same_Some _ p e in
    record {
      at_is = sym (ap (λ (q : Piece). q.at) same);
      length_is = sym (ap (λ (q : Piece). length q.bytes) same) ∙ length-padded (b ∷ bytes);
      some = omega arith;
    }

-- versions that have a place in common meet
meets : (wat wlen vat vlen k : ℕ) → 0 < wlen → 64 * wat ≤ k → k < 64 * (wat + (wlen + 63) / 64) → 64 * vat ≤ k → k < 64 * (vat + (vlen + 63) / 64)
    → (nat_lt 0 wlen && nat_lt 0 vlen && nat_lt wat (vat + (vlen + 63) / 64) && nat_lt vat (wat + (wlen + 63) / 64)) ≡ true
meets wat wlen vat vlen k some low high from till =
    let has : 0 < vlen = omega arith in
    let one : wat < vat + (vlen + 63) / 64 = omega arith in
    let two : vat < wat + (wlen + 63) / 64 = omega arith in
    λ i. lt-ltb 0 wlen some i && lt-ltb 0 vlen has i && lt-ltb wat (vat + (vlen + 63) / 64) one i && lt-ltb vat (wat + (wlen + 63) / 64) two i

-- ---- the end of a development

module _ (o : Observation) (tree : Rows) (places : List ℕ) (up : Ascends by_text row_path tree) (space : AreInSpace o tree places) where
  abbrev next : ℕ
  next = o.project.next_version

  made-at : (path : List ℕ) (w : Version) → Rattle.ae_types.proofs.Numbered.version_at next tree places path ≡ Some w → made_version next tree places path ≡ Some (ref_of w)
  made-at path w e = ap (option_map ref_of) e

  end-apart : (q : Place) (v : VersionRef) → version_at o.files o.changes q ≡ Some v → IsApart (pieces_at places (present tree)) v
  end-apart q v there k covered from till =
      let one = covered-in (pieces_at places (present tree)) k covered in
      let of = piece-of next tree places up one.0 one.1 in
      let p = parts of.version.at of.version.bytes one.0 of.is in
      space.free of.path q (ref_of of.version) v (made-at of.path of.version of.at_path) there
      (meets of.version.at (length of.version.bytes) v.at v.length k p.some (omega (arith, p.at_is, one.2.0)) (omega (arith, p.at_is, p.length_is, one.2.1)) from till)

  good-piece : (p : Piece) → Contains (pieces_at places (present tree)) p → is_piece p ≡ true
  good-piece p in_pieces =
      let of = piece-of next tree places up p in_pieces in
      let q = parts of.version.at of.version.bytes p of.is in
      let inside = space.inside of.path (ref_of of.version) (made-at of.path of.version of.at_path) (lt-ltb 0 (length of.version.bytes) q.some) in
      test p.at (length p.bytes) of.version.at (length of.version.bytes) q.at_is q.length_is q.some inside
    where
      test : (at len place size : ℕ) → at ≡ 64 * place → len ≡ 64 * ((size + 63) / 64) → 0 < size → place + (size + 63) / 64 ≤ 16777216
          → (nat_le 1 len && ((at % 64 == 0) && ((len % 64 == 0) && nat_le (at + len) (2 ^ 30)))) ≡ true
      test at len place size at_is len_is some inside =
          let one : 1 ≤ len = omega (arith, len_is, some) in
          let two : at % 64 ≡ 0 = omega (arith, at_is) in
          let three : len % 64 ≡ 0 = omega (arith, len_is) in
          let four : at + len ≤ 2 ^ 30 = omega (arith, at_is, len_is, inside) in
          grind (arith, nat_tests, one, two, three, four)

all-from : {A : Type 0} (t : A → Bool) (xs : List A) → ((x : A) → Contains xs x → t x ≡ true) → list_all t xs ≡ true
all-from t [] each = refl
all-from t (x ∷ xs) each = λ i. each x (0, omega arith, refl) i && all-from t xs (λ y m. each y (suc m.0, omega (arith, m.1), m.2)) i

-- no two of a tree's versions share a unit
abbrev Apart : ℕ → Rows → List ℕ → Type 0
Apart n rows places = (path other : List ℕ) (one two : Version) → Rattle.ae_types.proofs.Numbered.version_at n rows places path ≡ Some one → Rattle.ae_types.proofs.Numbered.version_at n rows places other ≡ Some two → meet (ref_of one) (ref_of two) ≡ true → path ≡ other

-- what is so of the rest of a tree
rest-none : (n : ℕ) (q : List ℕ) (rows : Rows) (places : List ℕ) → Above by_text row_path q rows → Apart n ((q, None) ∷ rows) places → Apart n rows places
rest-none n q rows places above apart path other one two at_path at_other m = apart path other one two (there path one at_path) (there other two at_other) m
  where
    there : (p : List ℕ) (v : Version) → Rattle.ae_types.proofs.Numbered.version_at n rows places p ≡ Some v → Rattle.ae_types.proofs.Numbered.version_at n ((q, None) ∷ rows) places p ≡ Some v
    there p v e = ap (λ (b : Bool). version_of (cond b (Some (frozen_at q None)) (frozen_file (numbered n rows places) p))) (other-path n rows places q above p v e) ∙ e

first-version : ℕ → List ℕ → List ℕ → Version
first-version n places bytes = new_version n places bytes

rest-some : (n : ℕ) (q bytes : List ℕ) (rows : Rows) (places : List ℕ) → Above by_text row_path q rows → (p : List ℕ) (v : Version) → Rattle.ae_types.proofs.Numbered.version_at (n + 1) rows (other_places places) p ≡ Some v → Rattle.ae_types.proofs.Numbered.version_at n ((q, Some bytes) ∷ rows) places p ≡ Some v
rest-some n q bytes rows places above p v e =
    ap (λ (b : Bool). version_of (cond b (Some (frozen_at q (Some (new_version n places bytes)))) (frozen_file (numbered (n + 1) rows (other_places places)) p))) (other-path (n + 1) rows (other_places places) q above p v e) ∙ e

first-at : (n : ℕ) (q bytes : List ℕ) (rows : Rows) (places : List ℕ) → Rattle.ae_types.proofs.Numbered.version_at n ((q, Some bytes) ∷ rows) places q ≡ Some (new_version n places bytes)
first-at n q bytes rows places = ap (λ (b : Bool). version_of (cond b (Some (frozen_at q (Some (new_version n places bytes)))) (frozen_file (numbered (n + 1) rows (other_places places)) q))) (by_text.same_self q)

-- versions that share no unit have pieces that don't meet
pieces-apart : (one two : Version) (p r : Piece) → piece_at one.at one.bytes ≡ Some p → piece_at two.at two.bytes ≡ Some r → (meet (ref_of one) (ref_of two) ≡ true → ⊥) → are_apart p r ≡ true
pieces-apart one two p r is_p is_r differ =
    let a = parts one.at one.bytes p is_p in
    let b = parts two.at two.bytes r is_r in
    go p.at (length p.bytes) r.at (length r.bytes) one.at (length one.bytes) two.at (length two.bytes) a.at_is a.length_is a.some b.at_is b.length_is b.some differ
  where
    go : (pa pl ra rl oa ol ta tl : ℕ) → pa ≡ 64 * oa → pl ≡ 64 * ((ol + 63) / 64) → 0 < ol → ra ≡ 64 * ta → rl ≡ 64 * ((tl + 63) / 64) → 0 < tl
        → ((nat_lt 0 ol && nat_lt 0 tl && nat_lt oa (ta + (tl + 63) / 64) && nat_lt ta (oa + (ol + 63) / 64)) ≡ true → ⊥) → (nat_le (pa + pl) ra || nat_le (ra + rl) pa) ≡ true
    go pa pl ra rl oa ol ta tl pa_is pl_is some ra_is rl_is more differ = elim (cases_lt oa (ta + (tl + 63) / 64)) [
      | inl low ↦ elim (cases_lt ta (oa + (ol + 63) / 64)) [
        | inl high ↦ absurd (differ (λ i. lt-ltb 0 ol some i && lt-ltb 0 tl more i && lt-ltb oa (ta + (tl + 63) / 64) low i && lt-ltb ta (oa + (ol + 63) / 64) high i))
        | inr behind ↦ let le : pa + pl ≤ ra = omega (arith, pa_is, pl_is, ra_is, behind) in grind (arith, nat_tests, le)
      ]
      | inr before ↦ let le : ra + rl ≤ pa = omega (arith, pa_is, ra_is, rl_is, before) in grind (arith, nat_tests, le)
    ]

-- of a tree whose versions share no unit no two pieces meet
no-pieces-meet : (n : ℕ) (tree : Rows) (places : List ℕ) → Ascends by_text row_path tree → Apart n tree places → none_meet (pieces_at places (present tree)) ≡ true
no-pieces-meet n [] places up apart = refl
no-pieces-meet n ((q, None) ∷ rows) places up apart = no-pieces-meet n rows places up.1 (rest-none n q rows places up.0 apart)
no-pieces-meet n ((q, Some bytes) ∷ rows) places up apart =
    more (piece_at (first_place places) bytes) refl
    (no-pieces-meet (n + 1) rows (other_places places) up.1
    (λ path other one two at_path at_other m. apart path other one two (rest-some n q bytes rows places up.0 path one at_path) (rest-some n q bytes rows places up.0 other two at_other) m))
  where
    differs : (p : List ℕ) (v : Version) → Rattle.ae_types.proofs.Numbered.version_at (n + 1) rows (other_places places) p ≡ Some v → q ≡ p → ⊥
    differs p v e same = let no : true ≡ false = sym (by_text.same_self q) ∙ ap (λ (l : List ℕ). bytes_eq l q) same ∙ other-path (n + 1) rows (other_places places) q up.0 p v e in cc

    more : (first : Option Piece) → piece_at (first_place places) bytes ≡ first → none_meet (pieces_at (other_places places) (present rows)) ≡ true → none_meet (option_to_list first ++ pieces_at (other_places places) (present rows)) ≡ true
    more None is rest = rest
    more (Some p) is rest = λ i. all-from (are_apart p) (pieces_at (other_places places) (present rows)) (λ r in_rest.
        let of = piece-of (n + 1) rows (other_places places) up.1 r in_rest in
        pieces-apart (new_version n places bytes) of.version p r is of.is
        (λ m. differs of.path of.version of.at_path (apart q of.path (new_version n places bytes) of.version (first-at n q bytes rows places) (rest-some n q bytes rows places up.0 of.path of.version of.at_path) m))) i && rest i

end-pieces : (o : Observation) (tree : Rows) (places : List ℕ) → Ascends by_text row_path tree → AreInSpace o tree places → are_pieces (pieces_at places (present tree)) ≡ true
end-pieces o tree places up space = λ i. all-from is_piece (pieces_at places (present tree)) (good-piece o tree places up space) i
    && no-pieces-meet o.project.next_version tree places up (λ path other one two at_path at_other m. space.apart path other (ref_of one) (ref_of two) (ap (option_map ref_of) at_path) (ap (option_map ref_of) at_other) m) i

-- ---- the versions that an End makes

module _ (log : Log) (event : Event) (tree : Rows) (to : Phase) (places : List ℕ) (is : event.what ≡ on.End tree to places) where
  all-versions : versions (event ∷ log) ≡ versions log ++ present tree
  all-versions = ap (λ (kind : EventKind). Rattle.ae_log.specs.Files.versions_after kind (versions log)) is

  new-bytes : (path : List ℕ) (w : Version) → Rattle.ae_types.proofs.Numbered.version_at (next_version log) tree places path ≡ Some w → version_bytes (event ∷ log) w.number ≡ w.bytes
  new-bytes path w e =
      let low = (within (next_version log) tree places path w e).low in
      let place : w.number - 1 ≡ length (versions log) + (w.number - next_version log) = omega (arith, low) in
      bytes-is (event ∷ log) w.number ∙ ap (λ (l : List (List ℕ)). get_or l (w.number - 1) []) all-versions
      ∙ ap (λ (k : ℕ). get_or (versions log ++ present tree) k []) place
      ∙ get_or-append-add (versions log) (present tree) (w.number - next_version log) []
      ∙ bytes-at (next_version log) tree places path w e

  record New (v : VersionRef) : Type 0 where
    put : IsPut (pieces_at places (present tree)) v (version_bytes (event ∷ log) v.number)
    made : IsMade (event ∷ log) v

  new : (path : List ℕ) (v : VersionRef) → made_version (next_version log) tree places path ≡ Some v → New v
  new path v e = go (Rattle.ae_types.proofs.Numbered.version_at (next_version log) tree places path) refl e
    where
      go : (w : Option Version) → Rattle.ae_types.proofs.Numbered.version_at (next_version log) tree places path ≡ w → option_map ref_of w ≡ Some v → New v
      go (Some w) at_path e =
          let same : ref_of w ≡ v = same_Some (ref_of w) v e in
          let numbers = within (next_version log) tree places path w at_path in
          let bytes : w.bytes ≡ version_bytes (event ∷ log) w.number = sym (new-bytes path w at_path) in
          let last : w.number ≤ length (versions (event ∷ log)) = omega (arith, numbers.high, ap length all-versions, length-append (versions log) (present tree)) in
          subst New same (record {
            put = record {
              length_is = ap length (sym bytes);
              piece = subst (λ (l : List ℕ). IfSome (piece_at w.at l) (λ piece. Contains (pieces_at places (present tree)) piece)) bytes (piece-in (next_version log) tree places path w at_path);
            };
            made = record {
              first = omega (arith, numbers.low);
              last = last;
              kept = record { length_is = ap length (sym bytes); digest_is = ap sha256 (sym bytes) };
            };
          })
      go None at_path e = none-some v e

-- ---- each event

made-stays : (log : Log) (event : Event) (v : VersionRef) → IsMade log v → IsMade (event ∷ log) v
made-stays log event v was =
    let s = stays event.what log event refl v.number was.first was.last in
    record { first = was.first; last = omega (arith, was.last, s.1); kept = subst (λ (l : List ℕ). AreOf v l) (sym s.0) was.kept }

-- a change whose development ends: its tree ascends, and there is room
record Ending (o : Observation) (tree : Rows) (places : List ℕ) : Type 0 where
  up : Ascends by_text row_path tree
  space : AreInSpace o tree places

ending : (o : Observation) (c : Option ℕ) (tree : Rows) (to : Phase) (places : List ℕ) → Sound o → AppliesBy o c (on.End tree to places) → Ending o tree places
ending o None tree to places s m = absurd m
ending o (Some c) tree to places s m = go (change_at o c) refl m
  where
    go : (x : Option Change) → change_at o c ≡ x → IsSomeAnd x (λ (change : Change). (comes_in (on.End tree to places) change.phase ≡ true) × Suits o change (on.End tree to places)) → Ending o tree places
    go (Some x) at_c m = record {
      up = tree-up tree (subst (λ (shape : List (List ℕ × Bool)). Ascends by_text shape_path shape) (sym m.1.fits.shape) (shape-up x.files (s.changes.good c x at_c).files.ascend));
      space = m.1.space;
    }
    go None at_c m = absurd m

-- the pieces of an event that may come are pieces of the region
pub end-pieces-good : (o : Observation) → Sound o → (event : Event) → Applies o event → are_pieces (pieces_by event.what) ≡ true
end-pieces-good o s event m = go event.what m.comes
  where
    go : (kind : EventKind) → AppliesBy o event.change kind → are_pieces (pieces_by kind) ≡ true
    go (on.End tree to places) applies = let end = ending o event.change tree to places s applies in end-pieces o tree places end.up end.space
    go kind applies = refl

module _ (log : Log) (event : Event) (o : Observation) (stands : observation log ≡ Some o) (s : Sound o) (m : Applies o event) (all-made : VersionsAreMade log) where
  there-before : (place : Place) (v : VersionRef) → version_at o.files o.changes place ≡ Some v → version_in (observation log) place ≡ Some v
  there-before place v e = ap (λ (x : Option Observation). version_in x place) stands ∙ e

  there-after : (place : Place) (v : VersionRef) → version_in (observation (event ∷ log)) place ≡ Some v → version_at (after o event).files (after o event).changes place ≡ Some v
  there-after place v e = ap (λ (x : Option Observation). version_in x place) (sym (follows log event o stands s m)) ∙ e

  -- where a version comes from, and that it was made
  record From (v : VersionRef) : Type 0 where
    carried : Stood log (event ∷ log) v ⊎ IsPut (pieces_by event.what) v (version_bytes (event ∷ log) v.number)
    was_made : IsMade (event ∷ log) v

  from-old : (from : Place) (v : VersionRef) → version_at o.files o.changes from ≡ Some v → From v
  from-old from v e =
      let there = there-before from v e in
      let old = all-made from v there in
      record { carried = inl (record { place = from; there = there; same = (stays event.what log event refl v.number old.first old.last).0 }); was_made = made-stays log event v old }

  from-new : (kind : EventKind) → event.what ≡ kind → (v : VersionRef) → MadeBy o kind v → From v
  from-new (on.End tree to places) is v (path, e) =
      let n = new log event tree to places is path v (ap (λ (k : ℕ). made_version k tree places path) (sym (next-is log o stands)) ∙ e) in
      record { carried = inr (subst (λ (kind : EventKind). IsPut (pieces_by kind) v (version_bytes (event ∷ log) v.number)) (sym is) n.put); was_made = n.made }
  from-new kind is v none = absurd none

  from : (v : VersionRef) → Came o (MadeBy o event.what) v → From v
  from v (stood place e) = from-old place v e
  from v (made by) = from-new event.what refl v by

  apart-by : (kind : EventKind) → AppliesBy o event.change kind → (place : Place) (v : VersionRef) → version_at o.files o.changes place ≡ Some v → IsApart (pieces_by kind) v
  apart-by (on.End tree to places) applies place v e = let end = ending o event.change tree to places s applies in end-apart o tree places end.up end.space place v e
  apart-by kind applies place v e = λ k covered low high. covered

  there-is : (place : Place) (v : VersionRef) → version_in (observation log) place ≡ Some v → version_at o.files o.changes place ≡ Some v
  there-is place v e = ap (λ (x : Option Observation). version_in x place) (sym stands) ∙ e

  follow : FollowsVersions log event
  follow = record {
    carries = record {
      apart = λ place v e. apart-by event.what m.comes place v (there-is place v e);
      each = λ place v e. (from v (comes o event s m.comes place v (there-after place v e))).carried;
    };
    made = λ place v e. (from v (comes o event s m.comes place v (there-after place v e))).was_made;
    pieces = end-pieces-good o s event m;
  }

pub versions-follow : VersionsFollow
versions-follow log event o stands s m all-made = follow log event o stands s m all-made
