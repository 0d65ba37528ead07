-- A body's text and its entries.
use Rattle.std.proofs.Common.{◌≡◌, ◌≢◌, ℕ, suc, ◌+◌, ◌-◌, ◌<◌, ◌≤◌, ◌^◌, Bool, true, false, if◌then◌else◌, ◌==◌, List, [], ◌∷◌, ◌++◌, length, get_or, take, drop, Option, Some, None, unwrap_or, option_and_then, nat_lt, nat_le, flat_map, refl, sym, ◌∙◌, ap, subst, arith, append_assoc, append-nil, length-append}
use Rattle.std.specs.Int.{to_le_bytes, from_le_bytes, w32, w64}
use Rattle.std.proofs.Math.Seq.{take-append_seam, drop-append_seam}
use Rattle.std.proofs.lemmas.Bool.Decides.{nat_tests}
use Rattle.std.proofs.lemmas.List.{take_more, take_all}
use Rattle.std.proofs.lemmas.Grind.{flat_map-append}
use Rattle.std.proofs.lemmas.Nat.{from_le_bytes-to_le_bytes_4, from_le_bytes-to_le_bytes_8}
use Rattle.ae_vault.specs.declared.entry.Entry.{Entry}
use Rattle.ae_vault.specs.Body.{content_bytes, entry_bytes, body_of, Fit}
use Rattle.ae_vault.specs.Vault.{bytes_read, kind_read, entry_read, entries_read, body_entries, are_entries}

-- a front of known length, and what is after it
front : (n : ℕ) (xs ys : List ℕ) → n ≡ length xs → take n (xs ++ ys) ≡ xs
front n xs ys is = ap (λ (m : ℕ). take m (xs ++ ys)) is ∙ take-append_seam xs ys

back : (n : ℕ) (xs ys : List ℕ) → n ≡ length xs → drop n (xs ++ ys) ≡ ys
back n xs ys is = ap (λ (m : ℕ). drop m (xs ++ ys)) is ∙ drop-append_seam xs ys

not_short : (n : ℕ) (xs ys : List ℕ) → n ≡ length xs → nat_lt (length (xs ++ ys)) n ≡ false
not_short n xs ys is = let long : n ≤ length (xs ++ ys) = rw (length-append xs ys) (omega arith) in grind (arith, nat_tests)

sized : List ℕ → List ℕ → List ℕ → Option (Entry × List ℕ)
sized name number rest =
    let len = from_le_bytes w64 number in
    if nat_lt (length rest) len then None
    else Some (record { name = name; bytes = Some (take len rest) }, drop len rest)

pub bytes_of : (name number bytes rest : List ℕ) → 8 ≡ length number → from_le_bytes w64 number ≡ length bytes → bytes_read name (number ++ (bytes ++ rest)) ≡ Some (record { name = name; bytes = Some bytes }, rest)
unfolding sized
bytes_of name number bytes rest eight is =
    ap (λ (b : Bool). if b then None else sized name (take 8 (number ++ (bytes ++ rest))) (drop 8 (number ++ (bytes ++ rest)))) (not_short 8 number (bytes ++ rest) eight)
    ∙ ap (λ (l : List ℕ). sized name l (drop 8 (number ++ (bytes ++ rest)))) (front 8 number (bytes ++ rest) eight)
    ∙ ap (λ (l : List ℕ). sized name number l) (back 8 number (bytes ++ rest) eight)
    ∙ ap (λ (n : ℕ). if nat_lt (length (bytes ++ rest)) n then None else Some (record { name = name; bytes = Some (take n (bytes ++ rest)) }, drop n (bytes ++ rest))) is
    ∙ ap (λ (b : Bool). if b then None else Some (record { name = name; bytes = Some (take (length bytes) (bytes ++ rest)) }, drop (length bytes) (bytes ++ rest))) (not_short (length bytes) bytes rest refl)
    ∙ ap (λ (l : List ℕ). Some (record { name = name; bytes = Some l }, drop (length bytes) (bytes ++ rest))) (front (length bytes) bytes rest refl)
    ∙ ap (λ (l : List ℕ). Some (record { name = name; bytes = Some bytes }, l)) (back (length bytes) bytes rest refl)

pub kind_of : (name : List ℕ) (content : Option (List ℕ)) (rest : List ℕ) → length (unwrap_or content []) < 2 ^ 64 → kind_read name (content_bytes content ++ rest) ≡ Some (record { name = name; bytes = content }, rest)
kind_of name None rest fits = refl
kind_of name (Some bytes) rest fits =
    ap (bytes_read name) (append_assoc (to_le_bytes w64 (length bytes)) bytes rest)
    ∙ bytes_of name (to_le_bytes w64 (length bytes)) bytes rest refl (from_le_bytes-to_le_bytes_8 (length bytes) fits)

pub entry_of : (e : Entry) (rest : List ℕ) → length (unwrap_or e.bytes []) < 2 ^ 64 → entry_read (entry_bytes e ++ rest) ≡ Some (e, rest)
entry_of e rest fits =
    ap (λ (l : List ℕ). if nat_lt (length l) (length e.name) then None else kind_read (take (length e.name) l) (drop (length e.name) l)) (append_assoc e.name (content_bytes e.bytes) rest)
    ∙ ap (λ (b : Bool). if b then None else kind_read (take (length e.name) (e.name ++ (content_bytes e.bytes ++ rest))) (drop (length e.name) (e.name ++ (content_bytes e.bytes ++ rest)))) (not_short (length e.name) e.name (content_bytes e.bytes ++ rest) refl)
    ∙ ap (λ (l : List ℕ). kind_read l (drop (length e.name) (e.name ++ (content_bytes e.bytes ++ rest)))) (front (length e.name) e.name (content_bytes e.bytes ++ rest) refl)
    ∙ ap (λ (l : List ℕ). kind_read e.name l) (back (length e.name) e.name (content_bytes e.bytes ++ rest) refl)
    ∙ kind_of e.name e.bytes rest fits

pub entries_of : (entries : List Entry) → Fit entries → entries_read (length entries) (flat_map entry_bytes entries) ≡ Some entries
entries_of [] fit = refl
entries_of (e ∷ entries) fit =
    ap (option_and_then (λ (r : Entry × List ℕ). option_and_then (λ (es : List Entry). Some (r.0 ∷ es)) (entries_read (length entries) r.1))) (entry_of e (flat_map entry_bytes entries) fit.0)
    ∙ ap (option_and_then (λ (es : List Entry). Some (e ∷ es))) (entries_of entries fit.1)

-- what is written is read
pub body_reads : (entries : List Entry) → are_entries entries ≡ true → length entries < 2 ^ 32 → Fit entries → body_entries (body_of entries) ≡ Some entries
body_reads entries are few fit =
    let count : List ℕ = to_le_bytes w32 (length entries) in
    let rest : List ℕ = flat_map entry_bytes entries in
    let long : nat_le 4 (length (count ++ rest)) ≡ true = let many : 4 ≤ length (count ++ rest) = rw (length-append count rest) (omega arith) in grind (arith, nat_tests) in
    ap (λ (b : Bool). if b then option_and_then (λ (es : List Entry). if are_entries es then Some es else None) (entries_read (from_le_bytes w32 (take 4 (count ++ rest))) (drop 4 (count ++ rest))) else None) long
    ∙ ap (λ (l : List ℕ). option_and_then (λ (es : List Entry). if are_entries es then Some es else None) (entries_read (from_le_bytes w32 l) (drop 4 (count ++ rest)))) (front 4 count rest refl)
    ∙ ap (λ (l : List ℕ). option_and_then (λ (es : List Entry). if are_entries es then Some es else None) (entries_read (from_le_bytes w32 count) l)) (back 4 count rest refl)
    ∙ ap (λ (n : ℕ). option_and_then (λ (es : List Entry). if are_entries es then Some es else None) (entries_read n rest)) (from_le_bytes-to_le_bytes_4 (length entries) few)
    ∙ ap (option_and_then (λ (es : List Entry). if are_entries es then Some es else None)) (entries_of entries fit)
    ∙ ap (λ (b : Bool). if b then Some entries else None) are

-- ---- the kind of an entry's content, from its first byte

pub kind_of_none : (name bytes : List ℕ) → length bytes < 1 → kind_read name bytes ≡ None
kind_of_none name [] none = refl
kind_of_none name (b ∷ bytes) none = absurd (omega (arith, none))

pub kind_absent : (name bytes : List ℕ) → 1 ≤ length bytes → get_or bytes 0 0 ≡ 0
    → kind_read name bytes ≡ Some (record { name = name; bytes = None }, take (length bytes - 1) (drop 1 bytes))
kind_absent name [] some is = absurd (omega (arith, some))
kind_absent name (b ∷ bytes) some is =
    ap (λ (k : ℕ). kind_read name (k ∷ bytes)) is
    ∙ sym (ap (λ (rest : List ℕ). Some (record { name = name; bytes = None }, rest)) (take_all (length (b ∷ bytes) - 1) bytes (omega arith)))

pub kind_with_bytes : (name bytes : List ℕ) → 1 ≤ length bytes → get_or bytes 0 0 ≡ 1 → kind_read name bytes ≡ bytes_read name (take (length bytes - 1) (drop 1 bytes))
kind_with_bytes name [] some is = absurd (omega (arith, some))
kind_with_bytes name (b ∷ bytes) some is =
    ap (λ (k : ℕ). kind_read name (k ∷ bytes)) is
    ∙ ap (bytes_read name) (sym (take_all (length (b ∷ bytes) - 1) bytes (omega arith)))

pub kind_of_neither : (name bytes : List ℕ) → 1 ≤ length bytes → get_or bytes 0 0 ≢ 0 → get_or bytes 0 0 ≢ 1 → kind_read name bytes ≡ None
kind_of_neither name [] some absent present = absurd (omega (arith, some))
kind_of_neither name (b ∷ bytes) some absent present =
    let zero : (b == 0) ≡ false = grind (arith, nat_tests) in
    let one : (b == 1) ≡ false = grind (arith, nat_tests) in
    ap (λ (t : Bool). if t then Some (record { name = name; bytes = None }, bytes) else (if b == 1 then bytes_read name bytes else None)) zero
    ∙ ap (λ (t : Bool). if t then bytes_read name bytes else None) one

-- entries before those of an answer
abbrev pub behind : List Entry → Option (List Entry) → Option (List Entry)
behind entries = option_and_then (λ (more : List Entry). Some (entries ++ more))

pub behind_push : (entries : List Entry) (e : Entry) (o : Option (List Entry)) → behind entries (option_and_then (λ (es : List Entry). Some (e ∷ es)) o) ≡ behind (entries ++ e ∷ []) o
behind_push entries e None = refl
behind_push entries e (Some es) = ap Some (sym (append_assoc entries (e ∷ []) es))

-- one more entry is read
pub read_one : (left n : ℕ) (entries : List Entry) (e : Entry) (rest after : List ℕ) → left ≡ suc n → entry_read rest ≡ Some (e, after)
    → behind entries (entries_read left rest) ≡ behind (entries ++ e ∷ []) (entries_read n after)
read_one left n entries e rest after is reads =
    ap (λ (k : ℕ). behind entries (entries_read k rest)) is
    ∙ ap (λ (o : Option (Entry × List ℕ)). behind entries (option_and_then (λ (r : Entry × List ℕ). option_and_then (λ (es : List Entry). Some (r.0 ∷ es)) (entries_read n r.1)) o)) reads
    ∙ behind_push entries e (entries_read n after)

-- and none is, where it isn't in the grammar
pub read_none : (left n : ℕ) (entries : List Entry) (rest : List ℕ) → left ≡ suc n → entry_read rest ≡ None → behind entries (entries_read left rest) ≡ None
read_none left n entries rest is reads =
    ap (λ (k : ℕ). behind entries (entries_read k rest)) is
    ∙ ap (λ (o : Option (Entry × List ℕ)). behind entries (option_and_then (λ (r : Entry × List ℕ). option_and_then (λ (es : List Entry). Some (r.0 ∷ es)) (entries_read n r.1)) o)) reads

pub read_more : (left : ℕ) (entries : List Entry) (rest : List ℕ) → left ≡ 0 → rest ≢ [] → behind entries (entries_read left rest) ≡ None
read_more left entries [] done is = absurd (is refl)
read_more left entries (b ∷ rest) done is = ap (λ (k : ℕ). behind entries (entries_read k (b ∷ rest))) done

-- nor is there one where the bytes have ended
pub read_last : (left : ℕ) (entries : List Entry) (rest : List ℕ) → left ≡ 0 → (length rest == 0) ≡ true → behind entries (entries_read left rest) ≡ Some entries
read_last left entries [] done is = ap (λ (k : ℕ). behind entries (entries_read k [])) done ∙ ap Some (append-nil entries)
read_last left entries (b ∷ rest) done is = grind (arith, nat_tests)

-- one more entry is written
pub written_one : (entries : List Entry) (i : ℕ) (e : Entry) → i < length entries → e ≡ get_or entries i e → flat_map entry_bytes (take (i + 1) entries) ≡ flat_map entry_bytes (take i entries) ++ entry_bytes e
written_one entries i e lt is =
    ap (flat_map entry_bytes) (take_more entries i e lt ∙ ap (λ (x : Entry). take i entries ++ x ∷ []) (sym is))
    ∙ flat_map-append entry_bytes (take i entries) (e ∷ [])
    ∙ ap (λ (l : List ℕ). flat_map entry_bytes (take i entries) ++ l) (append-nil (entry_bytes e))

fit_push : (entries : List Entry) (e : Entry) → Fit entries → length (unwrap_or e.bytes []) < 2 ^ 64 → Fit (entries ++ e ∷ [])
fit_push [] e fit fits = (fits, tt)
fit_push (d ∷ entries) e fit fits = (fit.0, fit_push entries e fit.1 fits)

pub fit_one : (entries : List Entry) (i : ℕ) (e : Entry) → i < length entries → e ≡ get_or entries i e → Fit (take i entries) → length (unwrap_or e.bytes []) < 2 ^ 64 → Fit (take (i + 1) entries)
fit_one entries i e lt is fit fits =
    subst Fit (sym (take_more entries i e lt ∙ ap (λ (x : Entry). take i entries ++ x ∷ []) (sym is))) (fit_push (take i entries) e fit fits)
