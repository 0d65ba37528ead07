-- One more file is looked at.
use Rattle.std.proofs.Common.{◌≡◌, inl, inr, ℕ, refl, sym, ◌∙◌, ap, Bool, if◌then◌else◌, List, Option, Some, None}
use Rattle.std.specs.Str.{bytes_eq}
use Rattle.std.proofs.lemmas.Slice.Eq.{bytes_eq-Decides}
use Rattle.std.proofs.lemmas.Bool.{cases_Bool}
use Rattle.ae_vault.proofs.Files.{option_cases}
use Rattle.ae_vault.specs.declared.entry.Entry.{Entry}
use Rattle.ae_vault.specs.Vault.{content_of, or_else}
use Rattle.ae_types.specs.Observation.{Observation}
use Rattle.ae_store.specs.Changed.{text_of, text_in, change_of, entry_for}
use Rattle.ae_store.specs.Batching.{AreOrdered, AreRight, IsDone, KeepsDone}

abbrev Contents : Type 0
Contents = List ℕ → Option (List ℕ)

-- the content after a file is looked at
abbrev Goes : Contents → Contents → Contents → List ℕ → Type 0
Goes wanted before after file = (name : List ℕ) → after name ≡ or_else (before name) (if bytes_eq file name then wanted file else None)

right_after : (wanted before after : Contents) (file : List ℕ) → Goes wanted before after file → ((name bytes : List ℕ) → before name ≡ Some bytes → wanted name ≡ Some bytes)
    → (name bytes : List ℕ) → after name ≡ Some bytes → wanted name ≡ Some bytes
right_after wanted before after file goes right name bytes e = elim (option_cases (before name)) [
  | inr some ↦
      let there : after name ≡ Some some.0 = goes name ∙ ap (λ (o : Option (List ℕ)). or_else o (if bytes_eq file name then wanted file else None)) some.1 in
      right name bytes (some.1 ∙ sym there ∙ e)
  | inl none ↦
      let there : after name ≡ (if bytes_eq file name then wanted file else None) = goes name ∙ ap (λ (o : Option (List ℕ)). or_else o (if bytes_eq file name then wanted file else None)) none in
      elim (cases_Bool (bytes_eq file name)) [
        | inl is ↦
            let same : file ≡ name = (bytes_eq-Decides file name).0 is in
            ap wanted (sym same) ∙ sym (ap (λ (b : Bool). if b then wanted file else None) is) ∙ sym there ∙ e
        | inr isnt ↦
            let nothing : after name ≡ None = there ∙ ap (λ (b : Bool). if b then wanted file else None) isnt in
            cc
      ]
]

done_after : (wanted before after : Contents) (file : List ℕ) → Goes wanted before after file → ((name bytes : List ℕ) → before name ≡ Some bytes → wanted name ≡ Some bytes) → after file ≡ wanted file
done_after wanted before after file goes right = elim (option_cases (before file)) [
  | inr some ↦ goes file ∙ ap (λ (o : Option (List ℕ)). or_else o (if bytes_eq file file then wanted file else None)) some.1 ∙ sym (right file some.0 some.1)
  | inl none ↦ goes file ∙ ap (λ (o : Option (List ℕ)). or_else o (if bytes_eq file file then wanted file else None)) none ∙ ap (λ (b : Bool). if b then wanted file else None) ((bytes_eq-Decides file file).1 refl)
]

kept_after : (wanted before after : Contents) (file : List ℕ) → Goes wanted before after file → (name : List ℕ) → before name ≡ wanted name → after name ≡ wanted name
kept_after wanted before after file goes name done = elim (option_cases (wanted name)) [
  | inr some ↦ goes name ∙ ap (λ (o : Option (List ℕ)). or_else o (if bytes_eq file name then wanted file else None)) (done ∙ some.1) ∙ sym some.1
  | inl none ↦ goes name ∙ ap (λ (o : Option (List ℕ)). or_else o (if bytes_eq file name then wanted file else None)) (done ∙ none) ∙ elim (cases_Bool (bytes_eq file name)) [
    | inl is ↦ ap (λ (b : Bool). if b then wanted file else None) is ∙ ap wanted ((bytes_eq-Decides file name).0 is)
    | inr isnt ↦ ap (λ (b : Bool). if b then wanted file else None) isnt ∙ sym none
  ]
]

-- what a step puts, of the two texts
abbrev pub Puts : List Entry → List Entry → List ℕ → List ℕ → List ℕ → Type 0
Puts before after file told new = (name : List ℕ) → content_of after name ≡ or_else (content_of before name) (if bytes_eq file name then change_of told new else None)

module _ (old : Option Observation) (new : Observation) (before after : List Entry) (name file told text : List ℕ) (is_name : name ≡ file) (is_old : told ≡ text_of old file) (is_new : text ≡ text_in new file) where
  goes_of : Puts before after name told text → Goes (entry_for old new) (content_of before) (content_of after) file
  goes_of puts other =
      puts other ∙ ap (λ (n : List ℕ). or_else (content_of before other) (if bytes_eq n other then change_of told text else None)) is_name
      ∙ ap (λ (t : List ℕ). or_else (content_of before other) (if bytes_eq file other then change_of t text else None)) is_old
      ∙ ap (λ (t : List ℕ). or_else (content_of before other) (if bytes_eq file other then change_of (text_of old file) t else None)) is_new

  pub step_right : AreRight old new before → Puts before after name told text → AreOrdered after → AreRight old new after
  step_right r puts ordered = record { ordered = ordered; right = right_after (entry_for old new) (content_of before) (content_of after) file (goes_of puts) r.right }

  pub step_done : AreRight old new before → Puts before after name told text → AreOrdered after → IsDone old new after file
  step_done r puts ordered = done_after (entry_for old new) (content_of before) (content_of after) file (goes_of puts) r.right

  pub step_kept : Puts before after name told text → AreOrdered after → KeepsDone old new before after
  step_kept puts ordered = kept_after (entry_for old new) (content_of before) (content_of after) file (goes_of puts)
