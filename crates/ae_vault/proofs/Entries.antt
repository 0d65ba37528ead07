-- Entries put one after another.
use Rattle.std.proofs.Common.{◌≡◌, ◌≢◌, inl, inr, ℕ, zero, suc, ◌+◌, ◌<◌, Bool, true, if◌then◌else◌, List, [], ◌∷◌, ◌++◌, length, get_or, take, Option, Some, None, unwrap_or, refl, sym, ◌∙◌, ap, subst, arith}
use Rattle.std.specs.Str.{bytes_eq}
use Rattle.std.proofs.lemmas.Slice.Eq.{bytes_eq-Decides}
use Rattle.std.proofs.lemmas.Bool.Decides.{nat_tests}
use Rattle.std.proofs.lemmas.List.{take_more}
use Rattle.std.proofs.lemmas.Bool.{cases_Bool}
use Rattle.ae_outside.specs.DiskNames.{IsDiskName, is_disk_name}
use Rattle.ae_outside.specs.Image.{Image, SameElsewhere}
use Rattle.ae_outside.specs.State.{DiskState, reads, MayLeave, GoesOn, IsStable}
use Rattle.ae_outside.specs.Time.{goes_on_then, goes_on_weaker}
use Rattle.ae_vault.specs.declared.entry.Entry.{Entry}
use Rattle.ae_vault.specs.Vault.{content_of, or_else, all_entry_names}
use Rattle.ae_vault.specs.Commit.{SameOutside, HasEntries}
use Rattle.ae_vault.proofs.Files.{option_cases}

abbrev one : Entry → List ℕ → Option (List ℕ)
one e name = if bytes_eq e.name name then Some (unwrap_or e.bytes []) else None

-- the last entry of a name counts
content_push : (entries : List Entry) (e : Entry) (name : List ℕ) → content_of (entries ++ e ∷ []) name ≡ or_else (one e name) (content_of entries name)
content_push [] e name = none_last (one e name)
  where
    none_last : (o : Option (List ℕ)) → o ≡ or_else o None
    none_last None = refl
    none_last (Some b) = refl
content_push (d ∷ entries) e name = ap (λ (o : Option (List ℕ)). or_else o (one d name)) (content_push entries e name) ∙ assoc (one e name) (content_of entries name) (one d name)
  where
    assoc : (a b c : Option (List ℕ)) → or_else (or_else a b) c ≡ or_else a (or_else b c)
    assoc (Some x) b c = refl
    assoc None b c = refl

same_name : (name : List ℕ) → bytes_eq name name ≡ true
same_name name = (bytes_eq-Decides name name).1 refl

-- an entry of the list names its file
named_at : (entries : List Entry) (i : ℕ) (e : Entry) → i < length entries → e ≡ get_or entries i e → content_of entries e.name ≢ None
named_at [] i e lt is none = absurd (omega arith)
named_at (d ∷ entries) zero e lt is none =
    let here : one d e.name ≡ Some (unwrap_or d.bytes []) = ap (λ (b : Bool). if b then Some (unwrap_or d.bytes []) else None) (ap (λ (x : Entry). bytes_eq d.name x.name) is ∙ same_name d.name) in
    elim (option_cases (content_of entries e.name)) [
      | inl behind ↦ let some : or_else (content_of entries e.name) (one d e.name) ≡ Some (unwrap_or d.bytes []) = ap (λ (o : Option (List ℕ)). or_else o (one d e.name)) behind ∙ here in cc
      | inr behind ↦ let some : or_else (content_of entries e.name) (one d e.name) ≡ Some behind.0 = ap (λ (o : Option (List ℕ)). or_else o (one d e.name)) behind.1 in cc
    ]
named_at (d ∷ entries) (suc i) e lt is none = elim (option_cases (content_of entries e.name)) [
  | inl behind ↦ absurd (named_at entries i e (omega arith) is behind)
  | inr behind ↦ let some : or_else (content_of entries e.name) (one d e.name) ≡ Some behind.0 = ap (λ (o : Option (List ℕ)). or_else o (one d e.name)) behind.1 in cc
]

pub name_at : (entries : List Entry) (i : ℕ) (e : Entry) → i < length entries → e ≡ get_or entries i e → all_entry_names entries ≡ true → IsDiskName e.name
name_at [] i e lt is ok = absurd (omega arith)
name_at (d ∷ entries) zero e lt is ok = let here : is_disk_name d.name ≡ true = grind (arith, nat_tests) in subst (λ (x : Entry). is_disk_name x.name ≡ true) (sym is) here
name_at (d ∷ entries) (suc i) e lt is ok = name_at entries i e (omega arith) is (grind (arith, nat_tests))

elsewhere_outside : (entries : List Entry) (e : Entry) → content_of entries e.name ≢ None → (f g : Image) → SameElsewhere e.name f g → SameOutside entries f g
elsewhere_outside entries e named f g same name none = same name (λ is. named (subst (λ (n : List ℕ). content_of entries n ≡ None) is none))

outside_then : (entries : List Entry) (f g h : Image) → SameOutside entries f g → SameOutside entries g h → SameOutside entries f h
outside_then entries f g h first second name none = second name none ∙ first name none

pub outside_on : (entries : List Entry) (i : ℕ) (e : Entry) (r s t : DiskState) → i < length entries → e ≡ get_or entries i e
    → GoesOn (SameOutside entries) r s → GoesOn (SameElsewhere e.name) s t → GoesOn (SameOutside entries) r t
outside_on entries i e r s t lt is first second =
    let named = named_at entries i e lt is in
    goes_on_then _ _ _ r s t (λ f g step. step) (outside_then entries) first (goes_on_weaker _ _ s t (elsewhere_outside entries e named) second)

has_push : (entries : List Entry) (e : Entry) (f g : Image) → HasEntries entries f → SameElsewhere e.name f g → g e.name ≡ unwrap_or e.bytes [] → HasEntries (entries ++ e ∷ []) g
has_push entries e f g has same new name bytes is = elim (cases_Bool (bytes_eq e.name name)) [
  | inl here ↦
      let names : e.name ≡ name = (bytes_eq-Decides e.name name).0 here in
      let last : content_of (entries ++ e ∷ []) name ≡ Some (unwrap_or e.bytes []) = content_push entries e name ∙ ap (λ (b : Bool). or_else (if b then Some (unwrap_or e.bytes []) else None) (content_of entries name)) here in
      let bytes_are : unwrap_or e.bytes [] ≡ bytes = cc in
      ap g (sym names) ∙ new ∙ bytes_are
  | inr other ↦
      let before : content_of (entries ++ e ∷ []) name ≡ content_of entries name = content_push entries e name ∙ ap (λ (b : Bool). or_else (if b then Some (unwrap_or e.bytes []) else None) (content_of entries name)) other in
      same name (λ is_name. let no : bytes_eq e.name name ≡ true = (bytes_eq-Decides e.name name).1 (sym is_name) in cc) ∙ has name bytes (sym before ∙ is)
]

pub has_on : (entries : List Entry) (i : ℕ) (e : Entry) (s t : DiskState) → i < length entries → e ≡ get_or entries i e
    → ((f : Image) → MayLeave s f → HasEntries (take i entries) f) → GoesOn (SameElsewhere e.name) s t → IsStable e.name t → reads t e.name ≡ unwrap_or e.bytes []
    → (f : Image) → MayLeave t f → HasEntries (take (i + 1) entries) f
has_on entries i e s t lt is has goes stable new f left =
    let from = goes.images_since t.moment f goes.time.later (omega arith) left in
    let pushed = has_push (take i entries) e from.0 f (has from.0 from.1) from.2 (stable f left ∙ new) in
    let more : take (i + 1) entries ≡ take i entries ++ e ∷ [] = take_more entries i e lt ∙ ap (λ (x : Entry). take i entries ++ x ∷ []) (sym is) in
    subst (λ (es : List Entry). HasEntries es f) (sym more) pushed
