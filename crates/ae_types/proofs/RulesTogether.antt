-- The tests of the project and of the file table beside the changes, and their facts say the same.
use Rattle.std.proofs.Common.{◌≡◌, inl, inr, ℕ, ◌<◌, ◌≤◌, refl, sym, ◌∙◌, ap, subst, List, [], ◌∷◌, map, Option, Some, None, Bool, true, false, ◌&&◌, ◌||◌, not, nat_eq, eqb-true, arith}
use Rattle.std.specs.Prelude.{length, is_some, nat_le, nat_lt, IsSomeAnd}
use Rattle.std.specs.List.{list_all, find}
use Rattle.std.specs.Option.{option_map}
use Rattle.std.proofs.lemmas.Option.{same_Some}
use Rattle.std.proofs.lemmas.Bool.{false≢true, and_parts, leb-true, le-leb, ltb-true, lt-ltb}
use Rattle.ae_types.specs.declared.change.Change.{Change}
use Rattle.ae_types.specs.declared.change.ChangeFile.{ChangeFile}
use Rattle.ae_types.specs.declared.file_table.FileRow.{FileRow}
use Rattle.ae_types.specs.declared.file_table.FileVersion.{FileVersion}
use Rattle.ae_types.specs.declared.file_table.Lock.{Lock}
use Rattle.ae_types.specs.declared.project.DeltaRow.{DeltaRow}
use Rattle.ae_types.specs.declared.version.VersionRef.{VersionRef}
use Rattle.ae_types.specs.Phases.{is_integrating, is_completed, holds_locks, is_remove}
use Rattle.ae_types.specs.Found.{number_of_change, file_path, row_path, entry_delta, lock_path, number_of_delta, change_in, file_in, row_in, entry_in, lock_in, delta_in, delta_of, has_number, has_file, there_and, if_there}
use Rattle.ae_types.specs.Trees.{tree_at, overlaid, paths_of}
use Rattle.ae_types.specs.Clashes.{none_clash, NoneClash}
use Rattle.ae_types.specs.Versions.{Place, version_at, live, has_units, end_of, meet, same_number, no_two}
use Rattle.ae_types.specs.Rules.{integrating, integration_fits, delta_has_change, naming, change_has_delta, deltas_fit, is_in_region, versions_fit, file_is_entered, delta_is_entered, entry_has_file, entries_fit, lock_has_file, files_have_locks, locks_fit, candidate_fits, same_bool}
use Rattle.ae_types.specs.Sound.{EachChange, IsIntegrating, AreDeltas, AreVersions, IsDelta, AreLocks}
use Rattle.ae_types.proofs.Keys.{by_text, by_number}
use Rattle.ae_types.proofs.Clashing.{clash-facts, facts-clash}
use Rattle.ae_types.proofs.Members.{In, all-in, in-all, in-map, map-in, no_two-apart, apart-no_two}
use Rattle.ae_types.proofs.Ordered.{Ascends, none-some, found-key}
use Rattle.ae_types.proofs.Placed.{stand_place, stand_version, stands, stands-live, InOrder, stands-found, found-stands, stands-distinct}
use Rattle.ae_types.proofs.Searched.{found-in, in-found, all-found, found-all, few-one, one-few, some-counted, counted-some}
use Rattle.ae_types.proofs.Splits.{and4, where-so, so-where, same-is, is-same, there-found, found-there, if-found, found-if, some-found, found-some, to-if, from-if, to-is, from-is}

-- ---- integration

abbrev integrates : Change → Bool
integrates change = is_integrating change.phase

no-one : (xs : List Change) (n : ℕ) → (nat_eq (length (integrating xs)) 0 || nat_lt n 1990) ≡ true → (x : Change) → In xs x → is_integrating x.phase ≡ true → n < 1990
no-one xs n e x m is = go (nat_eq (length (integrating xs)) 0) refl e
  where
    some : 0 < length (integrating xs)
    some = counted-some by_number number_of_change integrates xs (there xs m)
      where
        there : (xs : List Change) → In xs x → is_some (find integrates xs) ≡ true
        there [] m = absurd m
        there (y ∷ ys) m = cases (integrates y) refl m (there ys)
          where
            cases : (b : Bool) → integrates y ≡ b → In (y ∷ ys) x → (In ys x → is_some (find integrates ys) ≡ true) → is_some (Rattle.std.proofs.Common.cond b (Some y) (find integrates ys)) ≡ true
            cases true e m rest = refl
            cases false e (inl here) rest = absurd (false≢true (sym e ∙ ap integrates here ∙ is))
            cases false e (inr later) rest = rest later

    go : (b : Bool) → nat_eq (length (integrating xs)) 0 ≡ b → (b || nat_lt n 1990) ≡ true → n < 1990
    go true none e = absurd (omega (arith, some, eqb-true (length (integrating xs)) 0 none))
    go false none e = ltb-true n 1990 e

pub integrating-facts : (deltas : ℕ) (changes : List Change) → integration_fits deltas changes ≡ true → IsIntegrating deltas changes
integrating-facts n xs e =
    let a = and_parts (nat_le (length (integrating xs)) 1) (nat_eq (length (integrating xs)) 0 || nat_lt n 1990) e in
    record {
      one = λ m k x y fx fy ix iy.
          let same = few-one by_number number_of_change integrates xs (leb-true (length (integrating xs)) 1 a.0) x y (found-in by_number number_of_change xs m x fx) (found-in by_number number_of_change xs k y fy) ix iy in
          sym (found-key by_number number_of_change m xs x fx) ∙ ap number_of_change same ∙ found-key by_number number_of_change k xs y fy;
      room = λ k x found is. no-one xs n a.1 x (found-in by_number number_of_change xs k x found) is;
    }

pub facts-integrating : (deltas : ℕ) (changes : List Change) → Ascends by_number number_of_change changes → IsIntegrating deltas changes → integration_fits deltas changes ≡ true
facts-integrating n xs up g = λ i. le-leb (length (integrating xs)) 1 one i && room (find integrates xs) refl i
  where
    one : length (integrating xs) ≤ 1
    one = one-few by_number number_of_change integrates xs up (λ x y m k ix iy. g.one x.number y.number x y (in-found by_number number_of_change xs up x m) (in-found by_number number_of_change xs up y k) ix iy)

    none : (xs : List Change) → find integrates xs ≡ None → length (integrating xs) ≡ 0
    none [] e = refl
    none (x ∷ xs) e = go (integrates x) e (none xs)
      where
        go : (b : Bool) → Rattle.std.proofs.Common.cond b (Some x) (find integrates xs) ≡ None → (find integrates xs ≡ None → length (integrating xs) ≡ 0) → length (Rattle.std.proofs.Common.cond b (x ∷ integrating xs) (integrating xs)) ≡ 0
        go true e rest = some-none x e
          where
            some-none : (x : Change) → Some x ≡ None → length (x ∷ integrating xs) ≡ 0
            some-none x e = cc
        go false e rest = rest e

    first : (xs : List Change) (x : Change) → find integrates xs ≡ Some x → In xs x × (is_integrating x.phase ≡ true)
    first [] x e = none-some x e
    first (y ∷ ys) x e = go (integrates y) refl e (first ys x)
      where
        go : (b : Bool) → integrates y ≡ b → Rattle.std.proofs.Common.cond b (Some y) (find integrates ys) ≡ Some x → (find integrates ys ≡ Some x → In ys x × (is_integrating x.phase ≡ true)) → In (y ∷ ys) x × (is_integrating x.phase ≡ true)
        go true is e rest = (inl (same_Some y x e), sym (ap integrates (same_Some y x e)) ∙ is)
        go false is e rest = let r = rest e in (inr r.0, r.1)

    or-true : (b : Bool) → (b || true) ≡ true
    or-true true = refl
    or-true false = refl

    room : (v : Option Change) → find integrates xs ≡ v → (nat_eq (length (integrating xs)) 0 || nat_lt n 1990) ≡ true
    room None e = ap (λ k. nat_eq k 0 || nat_lt n 1990) (none xs e)
    room (Some x) e = let f = first xs x e in ap (λ b. nat_eq (length (integrating xs)) 0 || b) (lt-ltb n 1990 (g.room x.number x (in-found by_number number_of_change xs up x f.0) f.1)) ∙ or-true (nat_eq (length (integrating xs)) 0)

-- ---- deltas

abbrev names : Change → DeltaRow → Bool
names change delta = nat_eq change.number delta.change

pub deltas-facts : (deltas : List DeltaRow) (numbers : List ℕ) (changes : List Change) → deltas_fit deltas numbers changes ≡ true → AreDeltas deltas numbers changes
deltas-facts ds ns xs e = record {
  numbered = λ n d found. (delta n d found).0;
  completed = λ n d found. to-if (λ (x : Change). is_completed x.phase ≡ true) (change_in xs d.change) (if-found (change_in xs d.change) (λ x. is_completed x.phase) (delta n d found).1);
  once = λ m n d f fd ff same loaded.
      let x = some-found (change_in xs d.change) loaded in
      let key = found-key by_number number_of_change d.change xs x.0 x.1 in
      let t = (change d.change x.0 x.1).0 in
      let is = few-one by_number number_of_delta (names x.0) ds (leb-true (length (naming ds x.0)) 1 t) d f (found-in by_number number_of_delta ds m d fd) (found-in by_number number_of_delta ds n f ff)
      (ap (λ k. nat_eq k d.change) key ∙ by_number.same_self d.change) (ap (λ k. nat_eq k f.change) (key ∙ same) ∙ by_number.same_self f.change) in
      sym (found-key by_number number_of_delta m ds d fd) ∙ ap number_of_delta is ∙ found-key by_number number_of_delta n ds f ff;
  named = λ n x found done. ap (λ k. is_some (delta_of ds k)) (sym (found-key by_number number_of_change n xs x found))
      ∙ some-counted by_number number_of_delta (names x) ds (ltb-true 0 (length (naming ds x)) (where-so (is_completed x.phase) (nat_lt 0 (length (naming ds x))) (change n x found).1 done));
}
  where
    a : (list_all (delta_has_change ns xs) ds ≡ true) × (list_all (change_has_delta ds) xs ≡ true)
    a = and_parts (list_all (delta_has_change ns xs) ds) (list_all (change_has_delta ds) xs) e

    delta : (n : ℕ) (d : DeltaRow) → delta_in ds n ≡ Some d → (has_number ns d.change ≡ true) × (if_there (change_in xs d.change) (λ x. is_completed x.phase) ≡ true)
    delta n d found = and_parts (has_number ns d.change) (if_there (change_in xs d.change) (λ x. is_completed x.phase)) (all-found by_number number_of_delta (delta_has_change ns xs) ds a.0 n d found)

    change : (n : ℕ) (x : Change) → change_in xs n ≡ Some x → (nat_le (length (naming ds x)) 1 ≡ true) × ((not (is_completed x.phase) || nat_lt 0 (length (naming ds x))) ≡ true)
    change n x found = and_parts (nat_le (length (naming ds x)) 1) (not (is_completed x.phase) || nat_lt 0 (length (naming ds x))) (all-found by_number number_of_change (change_has_delta ds) xs a.1 n x found)

pub facts-deltas : (deltas : List DeltaRow) (numbers : List ℕ) (changes : List Change) → Ascends by_number number_of_delta deltas → Ascends by_number number_of_change changes → AreDeltas deltas numbers changes → deltas_fit deltas numbers changes ≡ true
facts-deltas ds ns xs up upward g = λ i. delta i && change i
  where
    delta : list_all (delta_has_change ns xs) ds ≡ true
    delta = found-all by_number number_of_delta (delta_has_change ns xs) ds up (λ n d found i. g.numbered n d found i
        && found-if (change_in xs d.change) (λ x. is_completed x.phase) (λ x is. from-if (λ (x : Change). is_completed x.phase ≡ true) (change_in xs d.change) (g.completed n d found) x is) i)

    one : (n : ℕ) (x : Change) → change_in xs n ≡ Some x → length (naming ds x) ≤ 1
    one n x found = one-few by_number number_of_delta (names x) ds up (λ d f m k nd nf.
        let c = sym (eqb-true x.number d.change nd) in
        g.once d.delta f.delta d f (in-found by_number number_of_delta ds up d m) (in-found by_number number_of_delta ds up f k) (c ∙ eqb-true x.number f.change nf)
        (found-some (change_in xs d.change) x (ap (change_in xs) (c ∙ found-key by_number number_of_change n xs x found) ∙ found)))

    change : list_all (change_has_delta ds) xs ≡ true
    change = found-all by_number number_of_change (change_has_delta ds) xs upward (λ n x found i. le-leb (length (naming ds x)) 1 (one n x found) i
        && so-where (is_completed x.phase) (nat_lt 0 (length (naming ds x))) (λ done. lt-ltb 0 (length (naming ds x)) (counted-some by_number number_of_delta (names x) ds
        (ap (λ k. is_some (delta_of ds k)) (found-key by_number number_of_change n xs x found) ∙ g.named n x found done))) i)

-- ---- versions

abbrev number_below : ℕ → VersionRef → Bool
number_below next version = nat_lt version.number next

pub same_number-swaps : (v w : VersionRef) → same_number v w ≡ same_number w v
same_number-swaps v w = Rattle.std.proofs.lemmas.Cmp.nat_eq_equiv.symm v.number w.number

swap-first : (a b : Bool) → (a && b) ≡ (b && a)
swap-first true true = refl
swap-first true false = refl
swap-first false true = refl
swap-first false false = refl

swap-last : (a c d : Bool) → (a && c && d) ≡ (a && d && c)
swap-last true c d = swap-first c d
swap-last false c d = refl

pub meet-swaps : (v w : VersionRef) → meet v w ≡ meet w v
meet-swaps v w = ap (λ a. a && nat_lt v.at (end_of w) && nat_lt w.at (end_of v)) (swap-first (has_units v) (has_units w)) ∙ swap-last (has_units w && has_units v) (nat_lt v.at (end_of w)) (nat_lt w.at (end_of v))

module _ (rows : List FileRow) (changes : List Change) (order : InOrder rows changes) where
  each-place : (t : VersionRef → Bool) → list_all t (live rows changes) ≡ true → (p : Place) (v : VersionRef) → version_at rows changes p ≡ Some v → t v ≡ true
  each-place t e p v found = all-in t (live rows changes) e v (subst (λ vs. In vs v) (stands-live rows changes) (in-map stand_version (stands rows changes) (p, v) (found-stands rows changes p v found)))

  place-each : (t : VersionRef → Bool) → ((p : Place) (v : VersionRef) → version_at rows changes p ≡ Some v → t v ≡ true) → list_all t (live rows changes) ≡ true
  place-each t h = in-all t (live rows changes) (λ v m.
      let s = map-in stand_version (stands rows changes) v (subst (λ vs. In vs v) (sym (stands-live rows changes)) m) in
      h s.0.0 v (stands-found rows changes order s.0 s.1 ∙ ap (λ (w : VersionRef). Some w) s.2))

  two-places : (related : VersionRef → VersionRef → Bool) → ((v w : VersionRef) → related v w ≡ related w v) → no_two related (live rows changes) ≡ true
      → (p q : Place) (v w : VersionRef) → version_at rows changes p ≡ Some v → version_at rows changes q ≡ Some w → related v w ≡ true → p ≡ q
  two-places related swaps e p q v w fv fw is = ap stand_place (no_two-apart related swaps stand_version (stands rows changes) (ap (no_two related) (stands-live rows changes) ∙ e) (p, v) (q, w) (found-stands rows changes p v fv) (found-stands rows changes q w fw) is)

  places-two : (related : VersionRef → VersionRef → Bool) → ((v w : VersionRef) → related v w ≡ related w v)
      → ((p q : Place) (v w : VersionRef) → version_at rows changes p ≡ Some v → version_at rows changes q ≡ Some w → related v w ≡ true → p ≡ q) → no_two related (live rows changes) ≡ true
  places-two related swaps h = ap (no_two related) (sym (stands-live rows changes)) ∙ apart-no_two related swaps stand_version stand_place (stands rows changes) (stands-distinct rows changes order)
      (λ s t m n is. h s.0 t.0 s.1 t.1 (stands-found rows changes order s m) (stands-found rows changes order t n) is)

  pub versions-facts : (next : ℕ) → versions_fit next (live rows changes) ≡ true → AreVersions next rows changes
  versions-facts next e =
      let a = and4 (list_all (number_below next) (live rows changes)) (no_two same_number (live rows changes)) (list_all is_in_region (live rows changes)) (no_two meet (live rows changes)) e in
      record {
        below = λ p v found. ltb-true v.number next (each-place (number_below next) a.0 p v found);
        apart = λ p q v w fv fw is. two-places same_number same_number-swaps a.1 p q v w fv fw (ap (nat_eq v.number) (sym is) ∙ by_number.same_self v.number);
        inside = λ p v found has. leb-true (end_of v) 16777216 (where-so (has_units v) (nat_le (end_of v) 16777216) (each-place is_in_region a.2 p v found) has);
        unshared = λ p q v w fv fw is. two-places meet meet-swaps a.3 p q v w fv fw is;
      }

  pub facts-versions : (next : ℕ) → AreVersions next rows changes → versions_fit next (live rows changes) ≡ true
  facts-versions next g = λ i. place-each (number_below next) (λ p v found. lt-ltb v.number next (g.below p v found)) i
      && places-two same_number same_number-swaps (λ p q v w fv fw is. g.apart p q v w fv fw (eqb-true v.number w.number is)) i
      && place-each is_in_region (λ p v found. so-where (has_units v) (nat_le (end_of v) 16777216) (λ has. le-leb (end_of v) 16777216 (g.inside p v found has))) i
      && places-two meet meet-swaps (λ p q v w fv fw is. g.unshared p q v w fv fw is) i

-- ---- the entries of deltas

abbrev fits_action : ChangeFile → FileVersion → Bool
fits_action file entry = same_bool (is_some entry.version) (not (is_remove file.action))

abbrev AreEntries : List DeltaRow → List FileRow → List Change → Type 0
AreEntries deltas rows changes = (n : ℕ) (delta : DeltaRow) → delta_in deltas n ≡ Some delta → (change : Change) → change_in changes delta.change ≡ Some change → IsDelta rows n change

abbrev is_entry : ChangeFile → FileVersion → Type 0
is_entry file entry = is_some entry.version ≡ not (is_remove file.action)

pub entries-facts : (deltas : List DeltaRow) (rows : List FileRow) (changes : List Change) → entries_fit deltas rows changes ≡ true → AreEntries deltas rows changes
entries-facts ds rows xs e n d found x loaded = record {
  entered = λ p f ff.
      let t = there-found (row_in rows f.path) (λ row. there_and (entry_in row.past d.delta) (fits_action f)) (all-found by_text file_path (file_is_entered rows d.delta) x.files (if-found (change_in xs d.change) (λ x. list_all (file_is_entered rows d.delta) x.files) (all-found by_number number_of_delta (delta_is_entered rows xs) ds a.0 n d found) x loaded) p f ff) in
      let y = there-found (entry_in t.0.past d.delta) (fits_action f) t.2 in
      to-is (λ (row : FileRow). IsSomeAnd (entry_in row.past n) (is_entry f)) (row_in rows p) t.0 (ap (row_in rows) (sym (found-key by_text file_path p x.files f ff)) ∙ t.1)
      (to-is (is_entry f) (entry_in t.0.past n) y.0 (ap (entry_in t.0.past) (sym (found-key by_number number_of_delta n ds d found)) ∙ y.1) (same-is (is_some y.0.version) (not (is_remove f.action)) y.2));
  no_other = λ p r y fr fy.
      let t = all-found by_number entry_delta (entry_has_file ds xs r.path) r.past (all-found by_text row_path (λ (row : FileRow). list_all (entry_has_file ds xs row.path) row.past) rows a.1 p r fr) n y fy in
      let there = if-found (delta_in ds y.delta) (λ delta. if_there (change_in xs delta.change) (λ change. has_file change r.path)) t d (ap (delta_in ds) (found-key by_number entry_delta n r.past y fy) ∙ found) in
      ap (has_file x) (sym (found-key by_text row_path p rows r fr)) ∙ if-found (change_in xs d.change) (λ change. has_file change r.path) there x loaded;
}
  where
    a : (list_all (delta_is_entered rows xs) ds ≡ true) × (list_all (λ (row : FileRow). list_all (entry_has_file ds xs row.path) row.past) rows ≡ true)
    a = and_parts (list_all (delta_is_entered rows xs) ds) (list_all (λ (row : FileRow). list_all (entry_has_file ds xs row.path) row.past) rows) e

pub facts-entries : (deltas : List DeltaRow) (rows : List FileRow) (changes : List Change) → Ascends by_number number_of_delta deltas
    → Ascends by_text row_path rows → ((p : List ℕ) (r : FileRow) → row_in rows p ≡ Some r → Ascends by_number entry_delta r.past)
    → ((n : ℕ) (x : Change) → change_in changes n ≡ Some x → Ascends by_text file_path x.files) → AreEntries deltas rows changes → entries_fit deltas rows changes ≡ true
facts-entries ds rows xs up rise pasts files g = λ i.
    found-all by_number number_of_delta (delta_is_entered rows xs) ds up (λ n d found. found-if (change_in xs d.change) (λ x. list_all (file_is_entered rows d.delta) x.files) (λ x loaded.
    found-all by_text file_path (file_is_entered rows d.delta) x.files (files d.change x loaded) (λ p f ff. entered n d found x loaded p f ff))) i
    && found-all by_text row_path (λ (row : FileRow). list_all (entry_has_file ds xs row.path) row.past) rows rise (λ p r fr.
    found-all by_number entry_delta (entry_has_file ds xs r.path) r.past (pasts p r fr) (λ n y fy.
    found-if (delta_in ds y.delta) (λ delta. if_there (change_in xs delta.change) (λ change. has_file change r.path)) (λ d fd.
    found-if (change_in xs d.change) (λ change. has_file change r.path) (λ x loaded.
    ap (has_file x) (found-key by_text row_path p rows r fr)
    ∙ (g n d (ap (delta_in ds) (sym (found-key by_number entry_delta n r.past y fy)) ∙ fd) x loaded).no_other p r y fr fy)))) i
  where
    entered : (n : ℕ) (d : DeltaRow) → delta_in ds n ≡ Some d → (x : Change) → change_in xs d.change ≡ Some x → (p : List ℕ) (f : ChangeFile) → file_in x.files p ≡ Some f → file_is_entered rows d.delta f ≡ true
    entered n d found x loaded p f ff =
        let r = from-is (λ (row : FileRow). IsSomeAnd (entry_in row.past n) (is_entry f)) (row_in rows p) ((g n d found x loaded).entered p f ff) in
        let y = from-is (is_entry f) (entry_in r.0.past n) r.2 in
        found-there (row_in rows f.path) (λ row. there_and (entry_in row.past d.delta) (fits_action f)) r.0 (ap (row_in rows) (found-key by_text file_path p x.files f ff) ∙ r.1)
        (found-there (entry_in r.0.past d.delta) (fits_action f) y.0 (ap (entry_in r.0.past) (found-key by_number number_of_delta n ds d found) ∙ y.1) (is-same (is_some y.0.version) (not (is_remove f.action)) y.2))

-- ---- locks

abbrev holds : List ℕ → Change → Bool
holds path change = holds_locks change.phase && has_file change path

abbrev Holds : List ℕ → Change → Type 0
Holds path change = (holds_locks change.phase ≡ true) × (has_file change path ≡ true)

abbrev lock_change : Lock → ℕ
lock_change lock = lock.change

abbrev of_change : Change → Lock → Bool
of_change change lock = nat_eq lock.change change.number

abbrev has_lock : List Lock → Change → ChangeFile → Bool
has_lock locks change file = there_and (lock_in locks file.path) (of_change change)

pub locks-facts : (numbers : List ℕ) (locks : List Lock) (changes : List Change) → Ascends by_text lock_path locks → locks_fit numbers locks changes ≡ true → AreLocks numbers locks changes
locks-facts ns ls xs up e = record {
  ascend = up;
  numbered = λ p l found. (lock p l found).0;
  held = λ p l found. to-if (Holds p) (change_in xs l.change) (λ x is.
      let b = and_parts (holds_locks x.phase) (has_file x l.path) (if-found (change_in xs l.change) (holds l.path) (lock p l found).1 x is) in
      (b.0, ap (has_file x) (sym (found-key by_text lock_path p ls l found)) ∙ b.1));
  taken = λ n x found holding p has.
      let f = some-found (file_in x.files p) has in
      let t = all-found by_text file_path (has_lock ls x) x.files (where-so (holds_locks x.phase) (list_all (has_lock ls x) x.files) (all-found by_number number_of_change (files_have_locks ls) xs a.1 n x found) holding) p f.0 f.1 in
      let l = there-found (lock_in ls f.0.path) (of_change x) t in
      ap (λ q. option_map lock_change (lock_in ls q)) (sym (found-key by_text file_path p x.files f.0 f.1)) ∙ ap (option_map lock_change) l.1
      ∙ ap (λ (m : ℕ). Some m) (eqb-true l.0.change x.number l.2 ∙ found-key by_number number_of_change n xs x found);
}
  where
    a : (list_all (lock_has_file ns xs) ls ≡ true) × (list_all (files_have_locks ls) xs ≡ true)
    a = and_parts (list_all (lock_has_file ns xs) ls) (list_all (files_have_locks ls) xs) e

    lock : (p : List ℕ) (l : Lock) → lock_in ls p ≡ Some l → (has_number ns l.change ≡ true) × (if_there (change_in xs l.change) (holds l.path) ≡ true)
    lock p l found = and_parts (has_number ns l.change) (if_there (change_in xs l.change) (holds l.path)) (all-found by_text lock_path (lock_has_file ns xs) ls a.0 p l found)

pub facts-locks : (numbers : List ℕ) (locks : List Lock) (changes : List Change) → Ascends by_number number_of_change changes
    → ((n : ℕ) (x : Change) → change_in changes n ≡ Some x → Ascends by_text file_path x.files) → AreLocks numbers locks changes → locks_fit numbers locks changes ≡ true
facts-locks ns ls xs up files g = λ i. found-all by_text lock_path (lock_has_file ns xs) ls g.ascend (λ p l found j. g.numbered p l found j
    && found-if (change_in xs l.change) (holds l.path) (λ x is.
    let b = from-if (Holds p) (change_in xs l.change) (g.held p l found) x is in
    λ k. b.0 k && (ap (has_file x) (found-key by_text lock_path p ls l found) ∙ b.1) k) j) i
    && found-all by_number number_of_change (files_have_locks ls) xs up (λ n x found. so-where (holds_locks x.phase) (list_all (has_lock ls x) x.files) (λ holding.
    found-all by_text file_path (has_lock ls x) x.files (files n x found) (λ p f ff. taken n x found holding p f ff))) i
  where
    taken : (n : ℕ) (x : Change) → change_in xs n ≡ Some x → holds_locks x.phase ≡ true → (p : List ℕ) (f : ChangeFile) → file_in x.files p ≡ Some f → has_lock ls x f ≡ true
    taken n x found holding p f ff = go (lock_in ls p) refl (g.taken n x found holding p (found-some (file_in x.files p) f ff))
      where
        go : (v : Option Lock) → lock_in ls p ≡ v → option_map lock_change v ≡ Some n → has_lock ls x f ≡ true
        go (Some l) is e = found-there (lock_in ls f.path) (of_change x) l (ap (lock_in ls) (found-key by_text file_path p x.files f ff) ∙ is)
            (ap (λ (m : ℕ). nat_eq m x.number) (same_Some l.change n e ∙ sym (found-key by_number number_of_change n xs x found)) ∙ by_number.same_self x.number)
        go None is e = none-some n e

-- ---- the candidate

abbrev candidate_paths : ℕ → List FileRow → Change → List (List ℕ)
candidate_paths deltas rows change = paths_of (overlaid (tree_at deltas rows) change)

pub candidate-facts : (deltas : ℕ) (rows : List FileRow) (changes : List Change) → list_all (candidate_fits deltas rows) changes ≡ true → EachChange changes (λ n x. is_integrating x.phase ≡ true → NoneClash (candidate_paths deltas rows x))
candidate-facts n rows xs e k x found is = clash-facts (candidate_paths n rows x) (where-so (is_integrating x.phase) (none_clash (candidate_paths n rows x)) (all-found by_number number_of_change (candidate_fits n rows) xs e k x found) is)

pub facts-candidate : (deltas : ℕ) (rows : List FileRow) (changes : List Change) → Ascends by_number number_of_change changes → EachChange changes (λ n x. is_integrating x.phase ≡ true → NoneClash (candidate_paths deltas rows x)) → list_all (candidate_fits deltas rows) changes ≡ true
facts-candidate n rows xs up h = found-all by_number number_of_change (candidate_fits n rows) xs up (λ k x found. so-where (is_integrating x.phase) (none_clash (candidate_paths n rows x)) (λ is. facts-clash (candidate_paths n rows x) (h k x found is)))
