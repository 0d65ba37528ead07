-- A body has one text.
use Rattle.std.proofs.Common.{◌≡◌, inl, inr, ℕ, zero, suc, ◌<◌, ◌≤◌, Bool, true, false, if◌then◌else◌, List, [], ◌∷◌, ◌++◌, length, get_or, take, drop, Option, Some, None, unwrap_or, option_and_then, nat_lt, nat_le, ◌==◌, flat_map, refl, sym, ◌∙◌, ap, subst, arith, append_assoc, length-take}
use Rattle.std.specs.Int.{to_le_bytes, from_le_bytes, w32, w64}
use Rattle.std.proofs.lemmas.Bool.Decides.{nat_tests}
use Rattle.std.proofs.lemmas.List.{take-append-drop}
use Rattle.std.proofs.lemmas.Nat.{le_bytes_4, le_bytes_8}
use Rattle.std.proofs.lemmas.Bool.{cases_Bool}
use Rattle.ae_base.specs.Bytes.{AreBytes}
use Rattle.ae_vault.specs.declared.entry.Entry.{Entry}
use Rattle.ae_vault.specs.Body.{content_bytes, entry_bytes, body_of}
use Rattle.ae_vault.specs.Vault.{bytes_read, kind_read, entry_read, entries_read, body_entries, are_entries}

at_each : (bytes : List ℕ) → AreBytes bytes → (i : ℕ) → get_or bytes i 0 < 256
at_each [] are i = omega arith
at_each (b ∷ bytes) are zero = are.0
at_each (b ∷ bytes) are (suc i) = at_each bytes are.1 i

of_take : (n : ℕ) (bytes : List ℕ) → AreBytes bytes → AreBytes (take n bytes)
of_take zero bytes are = tt
of_take (suc n) [] are = tt
of_take (suc n) (b ∷ bytes) are = (are.0, of_take n bytes are.1)

of_drop : (n : ℕ) (bytes : List ℕ) → AreBytes bytes → AreBytes (drop n bytes)
of_drop zero bytes are = are
of_drop (suc n) [] are = tt
of_drop (suc n) (b ∷ bytes) are = of_drop n bytes are.1

take_length : (n : ℕ) (l : List ℕ) → nat_lt (length l) n ≡ false → length (take n l) ≡ n
take_length n l long = let fits : n ≤ length l = grind (arith, nat_tests) in rw (length-take n l) (omega arith)

-- what an answer is, where it is one
entry_in : Entry → Option (Entry × List ℕ) → Entry
entry_in e (Some p) = p.0
entry_in e None = e

rest_in : List ℕ → Option (Entry × List ℕ) → List ℕ
rest_in l (Some p) = p.1
rest_in l None = l

some_entry : (e : Entry) (l : List ℕ) (f : Entry) (r : List ℕ) (o : Option (Entry × List ℕ)) → o ≡ Some (e, l) → o ≡ Some (f, r) → (e ≡ f) × (l ≡ r)
unfolding entry_in rest_in
some_entry e l f r o one two = (ap (entry_in e) (sym one ∙ two), ap (rest_in l) (sym one ∙ two))

IsText : List ℕ → List ℕ → Entry → List ℕ → Type 0
IsText name bytes e rest = (e.name ≡ name) × ((bytes ≡ content_bytes e.bytes ++ rest) × AreBytes rest)

long_text : (name rest : List ℕ) (e : Entry) (after : List ℕ) → AreBytes rest → bytes_read name rest ≡ Some (e, after) → IsText name (1 ∷ rest) e after
unfolding IsText
long_text name rest e after are is = elim (cases_Bool (nat_lt (length rest) 8)) [
  | inl short ↦ let none : bytes_read name rest ≡ None = ap (λ (b : Bool). if b then None else sized) short in cc
  | inr long ↦ elim (cases_Bool (nat_lt (length (drop 8 rest)) len)) [
    | inl short ↦ let none : bytes_read name rest ≡ None = ap (λ (b : Bool). if b then None else sized) long ∙ ap (λ (b : Bool). if b then None else found) short in cc
    | inr fits ↦
        let some : bytes_read name rest ≡ found = ap (λ (b : Bool). if b then None else sized) long ∙ ap (λ (b : Bool). if b then None else found) fits in
        let parts = some_entry (record { name = name; bytes = Some (take len (drop 8 rest)) }) (drop len (drop 8 rest)) e after (bytes_read name rest) some is in
        let number : to_le_bytes w64 len ≡ take 8 rest = le_bytes_8 (take 8 rest) len (take_length 8 rest long) (at_each (take 8 rest) (of_take 8 rest are)) refl in
        let measured : length (take len (drop 8 rest)) ≡ len = take_length len (drop 8 rest) fits in
        let text : rest ≡ (to_le_bytes w64 (length (take len (drop 8 rest))) ++ take len (drop 8 rest)) ++ drop len (drop 8 rest) =
        sym (take-append-drop 8 rest)
        ∙ ap (λ (l : List ℕ). l ++ drop 8 rest) (sym number ∙ ap (to_le_bytes w64) (sym measured))
        ∙ ap (λ (l : List ℕ). to_le_bytes w64 (length (take len (drop 8 rest))) ++ l) (sym (take-append-drop len (drop 8 rest)))
        ∙ sym (append_assoc (to_le_bytes w64 (length (take len (drop 8 rest)))) (take len (drop 8 rest)) (drop len (drop 8 rest))) in (
          ap (λ (x : Entry). x.name) (sym parts.0),
          (
            ap (λ (l : List ℕ). 1 ∷ l) text ∙ ap (λ (x : Entry). content_bytes x.bytes ++ drop len (drop 8 rest)) parts.0 ∙ ap (λ (l : List ℕ). content_bytes e.bytes ++ l) parts.1,
            subst AreBytes parts.1 (of_drop len (drop 8 rest) (of_drop 8 rest are)),
          ),
        )
  ]
]
  where
    len : ℕ
    len = from_le_bytes w64 (take 8 rest)

    found : Option (Entry × List ℕ)
    found = Some (record { name = name; bytes = Some (take len (drop 8 rest)) }, drop len (drop 8 rest))

    sized : Option (Entry × List ℕ)
    sized = if nat_lt (length (drop 8 rest)) len then None else found

kind_text : (name bytes : List ℕ) (e : Entry) (after : List ℕ) → AreBytes bytes → kind_read name bytes ≡ Some (e, after) → IsText name bytes e after
unfolding IsText
kind_text name [] e after are is = let no_entry : ◌≡◌ {A = Option (Entry × List ℕ)} None (Some (e, after)) = is in cc
kind_text name (zero ∷ rest) e after are is =
    let parts = some_entry (record { name = name; bytes = None }) rest e after (kind_read name (0 ∷ rest)) refl is in
    (ap (λ (x : Entry). x.name) (sym parts.0), (ap (λ (x : Entry). content_bytes x.bytes ++ rest) parts.0 ∙ ap (λ (l : List ℕ). content_bytes e.bytes ++ l) parts.1, subst AreBytes parts.1 are.1))
kind_text name (suc zero ∷ rest) e after are is = long_text name rest e after are.1 is
kind_text name (suc (suc k) ∷ rest) e after are is =
    let not_absent : (suc (suc k) == 0) ≡ false = grind (arith, nat_tests) in
    let not_there : (suc (suc k) == 1) ≡ false = grind (arith, nat_tests) in
    let none : kind_read name (suc (suc k) ∷ rest) ≡ None =
    ap (λ (b : Bool). if b then Some (record { name = name; bytes = None }, rest) else (if suc (suc k) == 1 then bytes_read name rest else None)) not_absent
    ∙ ap (λ (b : Bool). if b then bytes_read name rest else None) not_there in
    cc

entry_text : (bytes : List ℕ) (e : Entry) (after : List ℕ) → AreBytes bytes → entry_read bytes ≡ Some (e, after) → (bytes ≡ entry_bytes e ++ after) × AreBytes after
unfolding IsText
entry_text [] e after are is = let no_entry : ◌≡◌ {A = Option (Entry × List ℕ)} None (Some (e, after)) = is in cc
entry_text (n ∷ bytes) e after are is = elim (cases_Bool (nat_lt (length bytes) n)) [
  | inl short ↦ let none : entry_read (n ∷ bytes) ≡ None = ap (λ (b : Bool). if b then None else kind_read (take n bytes) (drop n bytes)) short in cc
  | inr long ↦
      let some : entry_read (n ∷ bytes) ≡ kind_read (take n bytes) (drop n bytes) = ap (λ (b : Bool). if b then None else kind_read (take n bytes) (drop n bytes)) long in
      let text = kind_text (take n bytes) (drop n bytes) e after (of_drop n bytes are.1) (sym some ∙ is) in
      let measured : n ≡ length e.name = sym (take_length n bytes long) ∙ ap (λ (l : List ℕ). length l) (sym text.0) in (
        ap (λ (l : List ℕ). n ∷ l) (sym (take-append-drop n bytes) ∙ ap (λ (l : List ℕ). l ++ drop n bytes) (sym text.0) ∙ ap (λ (l : List ℕ). e.name ++ l) text.1.0 ∙ sym (append_assoc e.name (content_bytes e.bytes) after))
            ∙ ap (λ (k : ℕ). k ∷ (e.name ++ content_bytes e.bytes) ++ after) measured,
        text.1.1,
      )
]

some_list : (es fs : List Entry) → Some es ≡ Some fs → es ≡ fs
some_list es fs same = ap (λ (o : Option (List Entry)). unwrap_or o es) same

AreText : ℕ → List ℕ → List Entry → Type 0
AreText n bytes es = (bytes ≡ flat_map entry_bytes es) × (n ≡ length es)

more_text : (n : ℕ) (bytes after : List ℕ) (e : Entry) (es : List Entry) → AreBytes bytes → entry_read bytes ≡ Some (e, after)
    → ((fs : List Entry) → AreBytes after → entries_read n after ≡ Some fs → AreText n after fs)
    → (o : Option (List Entry)) → entries_read n after ≡ o → option_and_then (λ (fs : List Entry). Some (e ∷ fs)) o ≡ Some es → AreText (suc n) bytes es
unfolding AreText
more_text n bytes after e es are reads behind None rest got = let no_entries : None ≡ Some es = got in cc
more_text n bytes after e es are reads behind (Some fs) rest got =
    let all : e ∷ fs ≡ es = some_list (e ∷ fs) es got in
    let text = entry_text bytes e after are reads in
    let last = behind fs text.1 rest in
    (text.0 ∙ ap (λ (l : List ℕ). entry_bytes e ++ l) last.0 ∙ ap (flat_map entry_bytes) all, ap (λ (k : ℕ). suc k) last.1 ∙ ap (λ (l : List Entry). length l) all)

abbrev with_more : ℕ → Option (Entry × List ℕ) → Option (List Entry)
with_more n = option_and_then (λ (r : Entry × List ℕ). option_and_then (λ (fs : List Entry). Some (r.0 ∷ fs)) (entries_read n r.1))

one_text : (n : ℕ) (bytes : List ℕ) (es : List Entry) → AreBytes bytes → ((after : List ℕ) (fs : List Entry) → AreBytes after → entries_read n after ≡ Some fs → AreText n after fs)
    → (o : Option (Entry × List ℕ)) → entry_read bytes ≡ o → with_more n (entry_read bytes) ≡ Some es → AreText (suc n) bytes es
one_text n bytes es are behind None reads is = let no_entries : None ≡ Some es = sym (ap (with_more n) reads) ∙ is in cc
one_text n bytes es are behind (Some p) reads is = more_text n bytes p.1 p.0 es are reads (behind p.1) (entries_read n p.1) refl (sym (ap (with_more n) reads) ∙ is)

entries_text : (n : ℕ) (bytes : List ℕ) (es : List Entry) → AreBytes bytes → entries_read n bytes ≡ Some es → AreText n bytes es
unfolding AreText
entries_text zero [] es are is = let none : [] ≡ es = some_list [] es is in (ap (flat_map entry_bytes) none, ap (λ (l : List Entry). length l) none)
entries_text zero (b ∷ bytes) es are is = let no_entries : None ≡ Some es = is in cc
entries_text (suc n) bytes es are is = one_text n bytes es are (entries_text n) (entry_read bytes) refl is

-- bytes that are read as these entries are their text
pub body_text : (bytes : List ℕ) (es : List Entry) → AreBytes bytes → body_entries bytes ≡ Some es → bytes ≡ body_of es
unfolding AreText
body_text bytes es are is = elim (cases_Bool (nat_le 4 (length bytes))) [
  | inl long ↦
      let some : body_entries bytes ≡ checked (entries_read count (drop 4 bytes)) = ap (λ (b : Bool). if b then checked (entries_read count (drop 4 bytes)) else None) long in
      let fits : nat_lt (length bytes) 4 ≡ false = grind (arith, nat_tests) in
      let text = entries_text count (drop 4 bytes) es (of_drop 4 bytes are) (passed (entries_read count (drop 4 bytes)) (sym some ∙ is)) in
      let number : to_le_bytes w32 (length es) ≡ take 4 bytes = le_bytes_4 (take 4 bytes) (length es) (take_length 4 bytes fits) (at_each (take 4 bytes) (of_take 4 bytes are)) (sym text.1) in
      sym (take-append-drop 4 bytes) ∙ ap (λ (l : List ℕ). l ++ drop 4 bytes) (sym number) ∙ ap (λ (l : List ℕ). to_le_bytes w32 (length es) ++ l) text.0
  | inr short ↦ let none : body_entries bytes ≡ None = ap (λ (b : Bool). if b then checked (entries_read count (drop 4 bytes)) else None) short in cc
]
  where
    count : ℕ
    count = from_le_bytes w32 (take 4 bytes)

    checked : Option (List Entry) → Option (List Entry)
    checked = option_and_then (λ (fs : List Entry). if are_entries fs then Some fs else None)

    passed_one : (fs : List Entry) (b : Bool) → (if b then Some fs else None) ≡ Some es → Some fs ≡ Some es
    passed_one fs true got = got
    passed_one fs false got = let no_entries : None ≡ Some es = got in cc

    passed : (o : Option (List Entry)) → checked o ≡ Some es → o ≡ Some es
    passed None got = let no_entries : None ≡ Some es = got in cc
    passed (Some fs) got = passed_one fs (are_entries fs) got
