-- Entries of which those of one name were taken out are in order, and name the others as before.
use Rattle.std.proofs.Common.{◌≡◌, inl, inr, ℕ, ◌≤◌, refl, sym, ◌∙◌, ap, Bool, true, false, cond, ◌&&◌, not, if◌then◌else◌, List, [], ◌∷◌, length, Option, Some, None, unwrap_or, arith}
use Rattle.std.specs.Prelude.{filter}
use Rattle.std.specs.List.{list_all}
use Rattle.std.specs.Str.{bytes_eq}
use Rattle.std.proofs.lemmas.Bool.{and_parts, cases_Bool, false≢true}
use Rattle.std.proofs.lemmas.List.Filters.{length-filter_both}
use Rattle.std.proofs.lemmas.Slice.Eq.{bytes_eq-Decides}
use Rattle.ae_vault.specs.declared.entry.Entry.{Entry}
use Rattle.ae_vault.specs.Pieces.{pack}
use Rattle.ae_vault.specs.Vault.{all_entry_names, content_of, is_entry_name, names_ascend, or_else}
use Rattle.ae_types.proofs.Keys.{by_text}
use Rattle.ae_types.proofs.Ordered.{filter-ascends}
use Rattle.ae_store.specs.Batching.{AreOrdered}
use Rattle.ae_store.specs.Migrating.{is_other}
use Rattle.ae_store.proofs.BatchEntries.{ascends_of, entry_name, test_of}

all_left : (test t : Entry → Bool) (es : List Entry) → list_all test es ≡ true → list_all test (filter t es) ≡ true
all_left test t [] h = refl
all_left test t (e ∷ es) h = let p = and_parts (test e) (list_all test es) h in go (t e) p.0 (all_left test t es p.1)
  where
    go : (b : Bool) → test e ≡ true → list_all test (filter t es) ≡ true → list_all test (cond b (e ∷ filter t es) (filter t es)) ≡ true
    go true is rest = λ i. is i && rest i
    go false is rest = rest

few_left : (t : Entry → Bool) (es : List Entry) → length (filter t es) ≤ length es
few_left t es = let both = length-filter_both t (λ e. not (t e)) (λ e. refl) es in omega (arith, both)

-- they are in order, as all were
pub ordered_left : (t : Entry → Bool) (es : List Entry) → AreOrdered es → AreOrdered (filter t es)
ordered_left t es o =
    let names = and_parts (all_entry_names es) (names_ascend es) o.names in
    let few = few_left t es in
    record {
      names = λ i. all_left (λ (e : Entry). is_entry_name e.name) t es names.0 i && test_of (filter t es) (filter-ascends by_text entry_name t es (ascends_of es names.1)) i;
      no_pack = all_left (λ (e : Entry). not (bytes_eq e.name pack)) t es o.no_pack;
      few = omega (arith, few, o.few);
    }

-- the name has no entry any more, and every other the one that it had
pub content_left : (name : List ℕ) (es : List Entry) (other : List ℕ) → content_of (filter (is_other name) es) other ≡ (if bytes_eq other name then None else content_of es other)
content_left name [] other = go (bytes_eq other name)
  where
    go : (b : Bool) → ◌≡◌ {A = Option (List ℕ)} None (if b then None else None)
    go true = refl
    go false = refl
content_left name (e ∷ es) other = go (bytes_eq e.name name) refl (bytes_eq other name) refl (content_left name es other)
  where
    given : Option (List ℕ)
    given = if bytes_eq e.name other then Some (unwrap_or e.bytes []) else None

    -- an entry of the name isn't one of another
    apart : bytes_eq e.name name ≡ true → bytes_eq other name ≡ false → given ≡ None
    apart is differ = elim (cases_Bool (bytes_eq e.name other)) [
      | inl same ↦ absurd (false≢true (sym differ ∙ (bytes_eq-Decides other name).1 (sym ((bytes_eq-Decides e.name other).0 same) ∙ (bytes_eq-Decides e.name name).0 is)))
      | inr isnt ↦ ap (λ (b : Bool). if b then Some (unwrap_or e.bytes []) else None) isnt
    ]

    -- and one of another name isn't one of it
    other_apart : bytes_eq e.name name ≡ false → bytes_eq other name ≡ true → given ≡ None
    other_apart isnt same = elim (cases_Bool (bytes_eq e.name other)) [
      | inl is ↦ absurd (false≢true (sym isnt ∙ (bytes_eq-Decides e.name name).1 ((bytes_eq-Decides e.name other).0 is ∙ (bytes_eq-Decides other name).0 same)))
      | inr differ ↦ ap (λ (b : Bool). if b then Some (unwrap_or e.bytes []) else None) differ
    ]

    last : (v : Option (List ℕ)) → or_else v None ≡ v
    last (Some v) = refl
    last None = refl

    go : (b : Bool) → bytes_eq e.name name ≡ b → (d : Bool) → bytes_eq other name ≡ d → content_of (filter (is_other name) es) other ≡ (if d then None else content_of es other)
        → content_of (cond (not b) (e ∷ filter (is_other name) es) (filter (is_other name) es)) other ≡ (if d then None else or_else (content_of es other) given)
    go true is true same rest = rest
    go true is false differ rest = rest ∙ sym (last (content_of es other)) ∙ ap (or_else (content_of es other)) (sym (apart is differ))
    go false isnt true same rest = ap (λ v. or_else v given) rest ∙ other_apart isnt same
    go false isnt false differ rest = ap (λ v. or_else v given) rest
