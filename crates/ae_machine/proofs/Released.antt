-- The files of a baseline, back to the integrations that made them.
use Rattle.std.proofs.Common.{◌≡◌, ℕ, ◌+◌, ◌<◌, ◌≤◌, refl, sym, ◌∙◌, ap, subst, List, [], ◌∷◌, ◌++◌, map, Option, Some, None, Bool, true, false, cond, length, length-append, nat_eq, arith}
use Rattle.std.specs.Prelude.{IsSomeAnd, nat_le}
use Rattle.std.specs.List.{filter_map}
use Rattle.std.specs.Option.{option_map, option_and_then}
use Rattle.std.proofs.lemmas.Option.{same_Some}
use Rattle.ae_types.specs.declared.file_table.FileRow.{FileRow}
use Rattle.ae_types.specs.declared.project.DeltaRow.{DeltaRow}
use Rattle.ae_types.specs.Found.{delta_in, row_in, row_path}
use Rattle.ae_types.specs.Observation.{Observation}
use Rattle.ae_types.specs.Trees.{unless_later, last_up_to as last_version}
use Rattle.ae_types.proofs.Keys.{by_number, by_text}
use Rattle.ae_types.proofs.Ordered.{at-listed, none-some}
use Rattle.ae_types.specs.Frozen.{Version, frozen_file, version_of, ref_of}
use Rattle.ae_log.specs.declared.event.EventKind.{EventKind}
use Rattle.ae_log.specs.declared.event.EventKind.TheVariants as on
use Rattle.ae_log.specs.Baseline.{Entry, TreeFile, deltas, deltas_after, past, with_entry, last_up_to, entry_file, tree_file, tree_file_of, baseline, candidate}
use Rattle.ae_log.specs.Files.{FileFact, file, frozen, paths}
use Rattle.ae_log.specs.Log.{Log, Happened, course}
use Rattle.ae_log.specs.Observed.{observation, observation_with, change, file_row, file_version}
use Rattle.ae_log.specs.Maker.{Maker, event_by, maker_of}
use Rattle.ae_log.proofs.Listed.{own_row, unlisted-past}
use Rattle.ae_log.proofs.Steps.{of_change, happens, differ, attributes-of}
use Rattle.ae_machine.specs.Evident.{EvidentAt, Evident}
use Rattle.ae_machine.specs.Provenance.{IsProvided, ProvidedAt, Provenance}
use Rattle.ae_machine.specs.Released.{file_of, pass_of, delta_row, CameBy, last_entry, IsReleased, LegalIsReleased}
use Rattle.ae_machine.proofs.CandidateStands.{tree_file-own, at-baseline}
use Rattle.ae_machine.proofs.Evident.{legal-evident}
use Rattle.ae_machine.proofs.LegalRightly.{legal-provided}
use Rattle.ae_machine.proofs.PassedBaseline.{past-there, last-more, last-new}
use Rattle.ae_machine.proofs.StoredVersions.{last-in, made-version}

-- ---- the new baseline

some-and : {A : Type 0} (P : A → Type 0) (v : Option A) → IsSomeAnd v P → (a : A) × P a
some-and P (Some a) h = (a, h)
some-and P None h = absurd h

-- is the candidate, where the integration is provided for
passed-is : (log : Log) (maker : Maker) (n : ℕ) → ProvidedAt log (of_change maker n on.IPass) (Some n) on.IPass → baseline (of_change maker n on.IPass ∷ log) ≡ candidate log n
passed-is log maker n h =
    let o = some-and (λ o. IsSomeAnd (change n (course log n)) (IsProvided log (of_change maker n on.IPass) n o)) (observation log) h in
    let x = some-and (IsProvided log (of_change maker n on.IPass) n o.0) (change n (course log n)) o.1 in
    let provided = x.1 in
    provided.baseline

-- ---- the rows of deltas

found-first : (d : ℕ) (xs ys : List DeltaRow) (r : DeltaRow) → delta_in xs d ≡ Some r → delta_in (xs ++ ys) d ≡ Some r
found-first d [] ys r e = none-some r e
found-first d (x ∷ xs) ys r e = go (nat_eq d x.delta) e (found-first d xs ys r)
  where
    go : (b : Bool) → cond b (Some x) (delta_in xs d) ≡ Some r → (delta_in xs d ≡ Some r → delta_in (xs ++ ys) d ≡ Some r) → cond b (Some x) (delta_in (xs ++ ys) d) ≡ Some r
    go true e rest = e
    go false e rest = rest e

found-last : (d : ℕ) (xs : List DeltaRow) (r : DeltaRow) → delta_in xs d ≡ None → delta_in (xs ++ r ∷ []) d ≡ cond (nat_eq d r.delta) (Some r) None
found-last d [] r e = refl
found-last d (x ∷ xs) r e = go (nat_eq d x.delta) e (found-last d xs r)
  where
    go : (b : Bool) → cond b (Some x) (delta_in xs d) ≡ None → (delta_in xs d ≡ None → delta_in (xs ++ r ∷ []) d ≡ cond (nat_eq d r.delta) (Some r) None)
        → cond b (Some x) (delta_in (xs ++ r ∷ []) d) ≡ cond (nat_eq d r.delta) (Some r) None
    go true e rest = none-some x (sym e)
    go false e rest = rest e

-- none has a number above their count
none-above : (log : Log) (d : ℕ) → length (deltas log) < d → delta_in (deltas log) d ≡ None
none-above [] d low = refl
none-above (event ∷ log) d low = go event.change event.what low (none-above log d)
  where
    go : (c : Option ℕ) (kind : EventKind) → length (deltas_after event (deltas log) c kind) < d → (length (deltas log) < d → delta_in (deltas log) d ≡ None) → delta_in (deltas_after event (deltas log) c kind) d ≡ None
    go (Some n) on.IPass low rest =
        let row : DeltaRow = record { delta = length (deltas log) + 1; change = n; when = event.when; who = event.who } in
        let longer = length-append (deltas log) (row ∷ []) in
        found-last d (deltas log) row (rest (omega (arith, low, longer)))
        ∙ ap (λ (b : Bool). cond b (Some row) None) (differ d (length (deltas log) + 1) (λ same. omega (arith, same, low, longer)))
    go (Some n) kind low rest = rest low
    go None kind low rest = rest low

-- ---- back to the integration

record IsTraced (log : Log) (entry : Entry) (file : TreeFile) : Type 0 where
  pub number : ℕ
  pub pass : Happened
  pub delta : delta_in (deltas log) entry.delta ≡ Some (delta_row entry.delta number pass.event)
  pub passed : pass_of log entry.delta ≡ Some pass
  pub came : CameBy file entry.delta number pass

module _ (log : Log) (maker : Maker) (n : ℕ) (provided : ProvidedAt log (of_change maker n on.IPass) (Some n) on.IPass) (evident : EvidentAt log (Some n) on.IPass)
    (p : List ℕ) (entry : Entry) (t : TreeFile) (is : entry_file p entry ≡ Some t) where
  abbrev last : ℕ
  last = length (deltas log)

  abbrev pass : Happened
  pass = happens log maker n on.IPass

  abbrev row : DeltaRow
  row = delta_row (last + 1) n pass.event

  longer : length (deltas (pass.event ∷ log)) ≡ last + 1
  longer = length-append (deltas log) (row ∷ [])

  -- by this one
  by-this : last_up_to (length (deltas (pass.event ∷ log))) (past (pass.event ∷ log) p) ≡ Some entry → last + 1 ≡ entry.delta → IsTraced (pass.event ∷ log) entry t
  by-this e made =
      let found : tree_file (pass.event ∷ log) (length (deltas (pass.event ∷ log))) p ≡ Some t = ap (option_and_then (entry_file p)) e ∙ is in
      let own = tree_file-own (pass.event ∷ log) (length (deltas (pass.event ∷ log))) p t found in
      record {
        number = n;
        pass = pass;
        delta = subst (λ (d : ℕ). delta_in (deltas log ++ row ∷ []) d ≡ Some (delta_row d n pass.event)) made
            (found-last (last + 1) (deltas log) row (none-above log (last + 1) (omega arith)) ∙ ap (λ (b : Bool). cond b (Some row) None) (by_number.same_self (last + 1)));
        passed = ap (λ (b : Bool). cond b (Some pass) (pass_of log entry.delta)) (ap (λ (d : ℕ). nat_eq d (last + 1)) (sym made) ∙ by_number.same_self (last + 1));
        came = record {
          what = refl;
          change = refl;
          made = made;
          in_candidate = ap (file_of (candidate log n)) own ∙ ap (λ (files : List TreeFile). file_of files p) (sym (passed-is log maker n provided)) ∙ at-baseline (pass.event ∷ log) p ∙ found;
          provided = provided;
          evident = evident;
        };
      }

  -- or by an earlier one
  by-earlier : entry.delta ≤ last → IsTraced log entry t → IsTraced (pass.event ∷ log) entry t
  by-earlier low r = record {
    number = r.number;
    pass = r.pass;
    delta = found-first entry.delta (deltas log) (row ∷ []) (delta_row entry.delta r.number r.pass.event) r.delta;
    passed = ap (λ (b : Bool). cond b (Some pass) (pass_of log entry.delta)) (differ entry.delta (last + 1) (λ same. omega (arith, same, low))) ∙ r.passed;
    came = r.came;
  }

  passed-came : last_up_to (length (deltas (pass.event ∷ log))) (past (pass.event ∷ log) p) ≡ Some entry → (last_up_to last (past log p) ≡ Some entry → IsTraced log entry t) → IsTraced (pass.event ∷ log) entry t
  passed-came e rest = go (file (course log n) p) (ap (λ (d : ℕ). last_up_to d (past (pass.event ∷ log) p)) (sym longer) ∙ e)
    where
      go : (f : Option FileFact) → last_up_to (last + 1) (with_entry (last + 1) (frozen_file (frozen (course log n)) p) f (past log p)) ≡ Some entry → IsTraced (pass.event ∷ log) entry t
      go (Some f) new =
          let made : Entry = record { delta = last + 1; usage = f.usage; version = version_of (frozen_file (frozen (course log n)) p) } in
          by-this e (ap (λ (x : Entry). x.delta) (same_Some made entry (sym (last-new (last + 1) (past log p) made refl) ∙ new)))
      go None old =
          let e = sym (last-more last (past log p) (past-there log p)) ∙ old in
          by-earlier (past-there log p entry (last-in last (past log p) entry e)) (rest e)

step : (log : Log) (maker : Maker) (c : Option ℕ) (kind : EventKind) → ProvidedAt log (event_by maker c kind) c kind → EvidentAt log c kind
    → (p : List ℕ) (entry : Entry) (t : TreeFile) → entry_file p entry ≡ Some t
    → last_up_to (length (deltas (event_by maker c kind ∷ log))) (past (event_by maker c kind ∷ log) p) ≡ Some entry
    → (last_up_to (length (deltas log)) (past log p) ≡ Some entry → IsTraced log entry t) → IsTraced (event_by maker c kind ∷ log) entry t
step log maker (Some n) on.IPass provided evident p entry t is e rest = passed-came log maker n provided evident p entry t is e rest
step log maker (Some n) kind provided evident p entry t is e rest = let r = rest e in record { number = r.number; pass = r.pass; delta = r.delta; passed = r.passed; came = r.came }
step log maker None kind provided evident p entry t is e rest = let r = rest e in record { number = r.number; pass = r.pass; delta = r.delta; passed = r.passed; came = r.came }

traced : (log : Log) → Provenance log → Evident log → (p : List ℕ) (entry : Entry) (t : TreeFile) → entry_file p entry ≡ Some t → last_up_to (length (deltas log)) (past log p) ≡ Some entry → IsTraced log entry t
traced [] provided evident p entry t is e = none-some entry e
traced (event ∷ log) provided evident p entry t is e =
    step log (maker_of event) event.change event.what provided.0 evident.0 p entry t is e (traced log provided.1 evident.1 p entry t is)

-- ---- the row of the file table

last-versions : (n : ℕ) (xs : List Entry) → last_version n (map file_version xs) ≡ option_map file_version (last_up_to n xs)
last-versions n [] = refl
last-versions n (x ∷ xs) = go (nat_le x.delta n) (last-versions n xs)
  where
    put : (v : Option Entry) → unless_later (file_version x) (option_map file_version v) ≡ option_map file_version (unless_later x v)
    put (Some y) = refl
    put None = refl

    go : (b : Bool) → last_version n (map file_version xs) ≡ option_map file_version (last_up_to n xs)
        → cond b (unless_later (file_version x) (last_version n (map file_version xs))) (last_version n (map file_version xs)) ≡ option_map file_version (cond b (unless_later x (last_up_to n xs)) (last_up_to n xs))
    go true r = ap (unless_later (file_version x)) r ∙ put (last_up_to n xs)
    go false r = r

row-last : (n : ℕ) (p : List ℕ) (xs : List Entry) (entry : Entry) → last_up_to n xs ≡ Some entry → option_and_then (λ (row : FileRow). last_version n row.past) (file_row p xs) ≡ Some (file_version entry)
row-last n p [] entry e = none-some entry e
row-last n p (x ∷ xs) entry e = last-versions n (x ∷ xs) ∙ ap (option_map file_version) e

row-found : (log : Log) (p : List ℕ) → row_in (filter_map (λ path. file_row path (past log path)) (paths log)) p ≡ file_row p (past log p)
row-found log p = at-listed by_text row_path (λ path. file_row path (past log path)) (own_row log) (paths log) (λ path out. ap (file_row path) (unlisted-past log path out)) p

made-usage : (p : List ℕ) (entry : Entry) (v : Option Version) (t : TreeFile) → option_map (tree_file_of p entry.usage) v ≡ Some t → entry.usage ≡ t.usage
made-usage p entry (Some v) t e = ap (λ (u : TreeFile). u.usage) (same_Some (tree_file_of p entry.usage v) t e)
made-usage p entry None t e = none-some t e

-- ---- the whole

pub released : (log : Log) (o : Observation) (path : List ℕ) (t : TreeFile) → Provenance log → Evident log → observation log ≡ Some o → file_of (baseline log) path ≡ Some t → IsReleased log o t
released log o path t provided evident stood there = go (last_up_to (length (deltas log)) (past log path)) refl found
  where
    found : tree_file log (length (deltas log)) path ≡ Some t
    found = sym (at-baseline log path) ∙ there

    of : (entry : Entry) → last_up_to (length (deltas log)) (past log path) ≡ Some entry → entry_file path entry ≡ Some t → IsReleased log o t
    of entry e is =
        let c = traced log provided evident path entry t is e in
        let w = attributes-of log o stood in
        let own = tree_file-own log (length (deltas log)) path t found in
        record {
          entry = file_version entry;
          number = c.number;
          pass = c.pass;
          last = subst (λ (q : Observation). last_entry q t.path ≡ Some (file_version entry)) w.2 (subst (λ (p : List ℕ). last_entry (observation_with log w.0) p ≡ Some (file_version entry)) (sym own)
              (ap (option_and_then (λ (row : FileRow). last_version (length (deltas log)) row.past)) (row-found log path) ∙ row-last (length (deltas log)) path (past log path) entry e));
          usage = made-usage path entry entry.version t is;
          version = ap (option_map ref_of) (made-version path entry.usage entry.version t is);
          delta = subst (λ (q : Observation). delta_in q.project.deltas entry.delta ≡ Some (delta_row entry.delta c.number c.pass.event)) w.2 c.delta;
          passed = c.passed;
          came = c.came;
        }

    go : (v : Option Entry) → last_up_to (length (deltas log)) (past log path) ≡ v → option_and_then (entry_file path) v ≡ Some t → IsReleased log o t
    go (Some entry) e is = of entry e is
    go None e is = none-some t is

pub legal-released : LegalIsReleased
legal-released log o path t legal stood there = released log o path t (legal-provided log legal) (legal-evident log legal) stood there
