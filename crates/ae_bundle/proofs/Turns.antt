-- Steps of a reading, as the code takes them.
use Rattle.std.proofs.Common.{◌≡◌, ◌↔◌, ℕ, suc, ◌+◌, ◌-◌, ◌<◌, ◌≤◌, Bool, List, [], ◌∷◌, ◌++◌, Option, Some, None, Result, Ok, Err, length, take, drop, get_or, refl, sym, ap, subst, ◌∙◌, arith, append_assoc, length-append}
use Rattle.std.specs.Prelude.{IsTrue, IfOk, IfSome, IfNone, IsErrOf, MatchOption, nat_eq}
use Rattle.std.specs.List.{position}
use Rattle.std.specs.Ordering.{is_lt}
use Rattle.std.specs.declared.cmp.Ordering.TheVariants.{Less}
use Rattle.std.specs.Cmp.Lexicographic.{nat_list_cmp_total}
use Rattle.std.proofs.lemmas.List.{length-take-le, take_rest, take-append-drop}
use Rattle.sha2.specs.Hashers.{Holds256}
use Rattle.ae_base.specs.Rows.{text_cmp}
use Rattle.ae_types.specs.Ordered.{Above, Ascends}
use Rattle.ae_types.proofs.Searched.{is_less}
use Rattle.ae_bundle.specs.declared.bundle.BundleFile.{BundleFile}
use Rattle.ae_bundle.specs.declared.error.BundleError.{BundleError}
use Rattle.ae_bundle.specs.declared.reading.Next.TheVariants as comes
use Rattle.ae_bundle.specs.declared.reading.Reading.{Reading}
use Rattle.ae_bundle.specs.Bundled.{line, end_of, bundle_path, BeginsNone, most_text_bytes}
use Rattle.ae_bundle.specs.Reading.{IsCut, IsAfter, size_of, fed, seen, IsGood, Takes, TakesFront}
use Rattle.ae_bundle.proofs.Cuts.{some_place}
use Rattle.ae_bundle.proofs.Bad.{bad_bytes, bad_after, none_more}
use Rattle.ae_bundle.proofs.Steps.{bytes_ok}
use Rattle.ae_bundle.proofs.Lengths.{fed-bounded}

-- ---- options and results

pub match_some : {A : Type 0} (P : Type 0) (Q : A → Type 0) (r : Option A) → MatchOption r P Q → IfSome r Q
match_some P Q (Some x) is = is
match_some P Q None is = tt

pub match_none : {A : Type 0} (P : Type 0) (Q : A → Type 0) (r : Option A) → MatchOption r P Q → IfNone r P
match_none P Q (Some x) is = tt
match_none P Q None is = is

pub none_weaker : {A : Type 0} (P Q : Type 0) (r : Option A) → (P → Q) → IfNone r P → IfNone r Q
none_weaker P Q (Some x) to is = tt
none_weaker P Q None to is = to is

-- an error is the same beside another value
pub err_beside : {A B E : Type 0} (e v : E) → IsErrOf {T = A} (Err e) v → IsErrOf {T = B} (Err e) v
err_beside e v is = let same : e ≡ v = cc in ap Err same

-- ---- cuts

pub cut_at : (text : List ℕ) (k : ℕ) → position (λ b. nat_eq b 32) text ≡ Some k → IsCut text (take k text) (take (length text - (k + 1)) (drop (k + 1) text))
cut_at text k is = let so = some_place 32 text k is in record { parts = so.1 ∙ ap (λ (xs : List ℕ). take k text ++ 32 ∷ xs) (sym (take_rest text (k + 1))); whole = so.0 }

-- ---- fronts of a piece

pub line_front : (old mid new : Reading) (piece : List ℕ) (k : ℕ) → position (λ b. nat_eq b 10) piece ≡ Some k → Takes old mid (take k piece) → Takes mid new (10 ∷ []) → TakesFront old new piece (take (length piece - (k + 1)) (drop (k + 1) piece))
line_front old mid new piece k is one two =
    let so = some_place 10 piece k is in
    let rest = take_rest piece (k + 1) in
    let all : fed new ++ drop (k + 1) piece ≡ fed old ++ piece =
    ap (λ (xs : List ℕ). xs ++ drop (k + 1) piece) (two.fed ∙ ap (λ (xs : List ℕ). xs ++ 10 ∷ []) one.fed)
    ∙ regroup (fed old) (take k piece) (drop (k + 1) piece) ∙ ap (λ (xs : List ℕ). fed old ++ xs) (sym so.1) in
    record {
      good = two.good;
      fed = ap (λ (xs : List ℕ). fed new ++ xs) rest ∙ all;
      less = omega (arith, ap length rest, ap length so.1, length-append (take k piece) (10 ∷ drop (k + 1) piece));
    }
  where
    regroup : (a b c : List ℕ) → ((a ++ b) ++ 10 ∷ []) ++ c ≡ a ++ (b ++ 10 ∷ c)
    regroup a b c = simp append_assoc

-- no text begins with more than the front with which none does
pub front_none : (came piece : List ℕ) (k : ℕ) → BeginsNone (came ++ take k piece) → BeginsNone (came ++ piece)
front_none came piece k none = subst BeginsNone (append_assoc came (take k piece) (drop k piece) ∙ ap (λ (xs : List ℕ). came ++ xs) (take-append-drop k piece)) (none_more (came ++ take k piece) (drop k piece) none)

pub line_none : (old mid : Reading) (piece : List ℕ) (k : ℕ) → position (λ b. nat_eq b 10) piece ≡ Some k → Takes old mid (take k piece) → BeginsNone (fed mid ++ 10 ∷ []) → BeginsNone (fed old ++ piece)
line_none old mid piece k is one none =
    let so = some_place 10 piece k is in
    subst BeginsNone (ap (λ (xs : List ℕ). (xs ++ 10 ∷ []) ++ drop (k + 1) piece) one.fed ∙ regroup (fed old) (take k piece) (drop (k + 1) piece) ∙ ap (λ (xs : List ℕ). fed old ++ xs) (sym so.1)) (none_more (fed mid ++ 10 ∷ []) (drop (k + 1) piece) none)
  where
    regroup : (a b c : List ℕ) → ((a ++ b) ++ 10 ∷ []) ++ c ≡ a ++ (b ++ 10 ∷ c)
    regroup a b c = simp append_assoc

pub bad_byte : (r : Reading) (piece : List ℕ) → IsGood r → size_of r.next ≡ Some (length r.held.items) → 0 < length piece → (get_or piece 0 0 ≡ 10 → ⊥) → BeginsNone (fed r ++ piece)
bad_byte r [] good full some other = absurd (omega (arith, some))
bad_byte r (c ∷ cs) good full some other = bad_bytes r c cs good full other

pub bad_more : (r : Reading) (piece : List ℕ) → IsGood r → r.next ≡ comes.End → 0 < length piece → BeginsNone (fed r ++ piece)
bad_more r [] good is some = absurd (omega (arith, some))
bad_more r (c ∷ cs) good is some = bad_after r c cs good is

pub bytes_front : (old new : Reading) (size : ℕ) (piece part rest : List ℕ) (k : ℕ) → IsGood old → size_of old.next ≡ Some size → part ≡ take k piece → rest ≡ drop k piece → k ≤ length piece → 1 ≤ k → length old.held.items + k ≤ size
    → new.next ≡ old.next → new.draft ≡ old.draft → new.held.items ≡ old.held.items ++ part → new.sum ≡ old.sum → ((m : List ℕ) → Holds256 old.hasher m → Holds256 new.hasher (m ++ part)) → TakesFront old new piece rest
bytes_front old new size piece part rest k good is front back within some few next draft held sum digest =
    let whole : part ++ rest ≡ piece = ap (λ (xs : List ℕ). xs ++ rest) front ∙ ap (λ (xs : List ℕ). take k piece ++ xs) back ∙ take-append-drop k piece in
    let count : length part ≡ k = ap length front ∙ length-take-le k piece within in
    let so = bytes_ok old new size part good is (omega (arith, count, few)) next draft held sum digest in
    record {
      good = so.good;
      fed = ap (λ (xs : List ℕ). xs ++ rest) so.fed ∙ append_assoc (fed old) part rest ∙ ap (λ (xs : List ℕ). fed old ++ xs) whole;
      less = omega (arith, ap length whole, length-append part rest, count, some);
    }

-- ---- the last of ascending files

last_file : BundleFile → List BundleFile → BundleFile
last_file d [] = d
last_file d (x ∷ []) = x
last_file d (x ∷ y ∷ ys) = last_file d (y ∷ ys)

get_or-last : (d : BundleFile) (fs : List BundleFile) → get_or fs (length fs - 1) d ≡ last_file d fs
unfolding last_file
get_or-last d [] = refl
get_or-last d (x ∷ []) = refl
get_or-last d (x ∷ y ∷ ys) = ap (λ (n : ℕ). get_or (x ∷ y ∷ ys) n d) (one (length ys)) ∙ ap (λ (n : ℕ). get_or (y ∷ ys) n d) (two (length ys)) ∙ get_or-last d (y ∷ ys)
  where
    one : (n : ℕ) → suc (suc n) - 1 ≡ suc n
    one n = omega arith

    two : (n : ℕ) → n ≡ suc n - 1
    two n = omega arith

above-last : (k : List ℕ) (d : BundleFile) (y : BundleFile) (ys : List BundleFile) → Above text_cmp bundle_path k (y ∷ ys) → text_cmp k (last_file d (y ∷ ys)).path ≡ Less
unfolding last_file
above-last k d y [] a = a.0
above-last k d y (z ∷ zs) a = above-last k d z zs a.1

last-after : (d : BundleFile) (fs : List BundleFile) (path : List ℕ) → Ascends text_cmp bundle_path fs → text_cmp (last_file d fs).path path ≡ Less → IsAfter path fs
unfolding last_file
last-after d [] path a less = tt
last-after d (x ∷ []) path a less = (less, tt)
last-after d (x ∷ y ∷ ys) path a less =
    (nat_list_cmp_total.trans x.path (last_file d (y ∷ ys)).path path (above-last x.path d y ys a.0) less, last-after d (y ∷ ys) path a.1 less)

after-last : (d : BundleFile) (fs : List BundleFile) (path : List ℕ) → 0 < length fs → IsAfter path fs → text_cmp (last_file d fs).path path ≡ Less
unfolding last_file
after-last d [] path some is = absurd (omega (arith, some))
after-last d (x ∷ []) path some is = is.0
after-last d (x ∷ y ∷ ys) path some is = after-last d (y ∷ ys) path (omega arith) is.1

pub comes_last : (fs : List BundleFile) (f : BundleFile) (path : List ℕ) (r : Bool) → Ascends text_cmp bundle_path fs → 0 < length fs → f ≡ get_or fs (length fs - 1) f → r ≡ is_lt (text_cmp f.path path) → IsTrue r ↔ IsAfter path fs
comes_last fs f path r ascend some is told =
    let last : f ≡ last_file f fs = is ∙ get_or-last f fs in (
      λ yes. last-after f fs path ascend (ap (λ (x : BundleFile). text_cmp x.path path) (sym last) ∙ is_less (text_cmp f.path path) (sym told ∙ yes)),
      λ after. told ∙ ap is_lt (ap (λ (x : BundleFile). text_cmp x.path path) last ∙ after-last f fs path some after),
    )

-- ---- what is seen

pub seen_bounded : (r : Result Reading BundleError) → IfOk r IsGood → (stream : List ℕ) → seen r ≡ Ok stream → length stream ≤ most_text_bytes
seen_bounded (Ok reading) good stream is = let same : fed reading ≡ stream = cc in omega (arith, ap length same, fed-bounded reading good)
seen_bounded (Err error) good stream is = absurd (cc is)

-- ---- writing

pub written_head : (t a b c d x y z w : List ℕ) → a ≡ t ++ x → b ≡ a ++ y → c ≡ b ++ z → d ≡ c ++ w → d ≡ t ++ (((x ++ y) ++ z) ++ w)
written_head t a b c d x y z w one two three four =
    four ∙ ap (λ (xs : List ℕ). xs ++ w) (three ∙ ap (λ (xs : List ℕ). xs ++ z) (two ∙ ap (λ (xs : List ℕ). xs ++ y) one)) ∙ regroup t x y z w
  where
    regroup : (t x y z w : List ℕ) → (((t ++ x) ++ y) ++ z) ++ w ≡ t ++ (((x ++ y) ++ z) ++ w)
    regroup t x y z w = simp append_assoc

pub written_text : (a b c d h f : List ℕ) → a ≡ [] → b ≡ a ++ h → c ≡ b ++ f → d ≡ c ++ line (end_of c) → d ≡ (h ++ f) ++ line (end_of (h ++ f))
written_text a b c d h f none one two three =
    let front : c ≡ h ++ f = two ∙ ap (λ (xs : List ℕ). xs ++ f) (one ∙ ap (λ (xs : List ℕ). xs ++ h) none) in
    three ∙ ap (λ (xs : List ℕ). xs ++ line (end_of xs)) front
