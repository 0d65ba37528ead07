-- What each step leaves of a reading.
use Rattle.std.proofs.Common.{◌≡◌, ℕ, ◌+◌, ◌≤◌, true, List, [], ◌∷◌, ◌++◌, Some, length, refl, sym, ap, subst, ◌∙◌, arith, append_assoc, length-append}
use Rattle.std.specs.List.{flat_map, AllByRecursion}
use Rattle.std.specs.Fmt.{decimal}
use Rattle.std.specs.declared.cmp.Ordering.TheVariants.{Less}
use Rattle.std.proofs.lemmas.List.{append-nil}
use Rattle.std.proofs.lemmas.List.Concat.{flat_map-append}
use Rattle.std.proofs.lemmas.Option.{same_Some}
use Rattle.sha2.specs.Hashers.{Holds256}
use Rattle.sha2.specs.declared.Sha256.{Sha256}
use Rattle.ae_base.specs.Rows.{text_cmp}
use Rattle.ae_base.specs.Words.{cause_word}
use Rattle.ae_base.specs.declared.words.Cause.{Cause}
use Rattle.ae_types.specs.Ordered.{Above, Ascends}
use Rattle.ae_bundle.specs.declared.bundle.Bundle.{Bundle}
use Rattle.ae_bundle.specs.declared.bundle.BundleFile.{BundleFile}
use Rattle.ae_bundle.specs.declared.fields.FileLine.{FileLine}
use Rattle.ae_bundle.specs.declared.reading.Next.{Next}
use Rattle.ae_bundle.specs.declared.reading.Next.TheVariants as comes
use Rattle.ae_bundle.specs.declared.reading.Reading.{Reading}
use Rattle.ae_bundle.specs.Bundled.{line, counted, first_line, brief_label, description_label, cause_label, file_label, file_part, head_of, front_of, end_of, text_of, bytes_of, bundle_path, FileFits, FitsSoFar, Bundled}
use Rattle.ae_bundle.specs.Reading.{Without, opened, before, begun, fed, before_brief, before_description, before_cause, most_line_bytes, size_of, awaits_line, Announces, IsFileLine, IsAfter, MayFollow, IsLine, IsBegun, Digests, IsGood, Takes, Passes, file_of}
use Rattle.ae_bundle.proofs.Cuts.{Without-append}
use Rattle.ae_bundle.proofs.Bad.{good_begun, good_digest, fed_is, line_begun, line_whole, begun-append, bytes_of-append}

-- a reading of these parts is good, and this came of it
pub record IsMade (new : Reading) (n : Next) (d : Bundle) (held : List ℕ) : Type 0 where
  pub next : new.next ≡ n
  pub draft : new.draft ≡ d
  pub held_is : new.held.items ≡ held
  pub sum : new.sum ≡ bytes_of d.files

pub made : (old new : Reading) (bytes : List ℕ) (n : Next) (d : Bundle) (held : List ℕ) → IsMade new n d held → FitsSoFar d → IsBegun n d held → Digests n d held new.hasher
    → before n d ++ begun n held ≡ fed old ++ bytes → Takes old new bytes
made old new bytes n d held are fits so digest e = record {
  good = record {
    limits = subst FitsSoFar (sym are.draft) fits;
    sum = are.sum ∙ ap (λ (x : Bundle). bytes_of x.files) (sym are.draft);
    begun = subst (λ (x : Next). IsBegun x new.draft new.held.items) (sym are.next) (subst (λ (x : Bundle). IsBegun n x new.held.items) (sym are.draft) (subst (λ (x : List ℕ). IsBegun n d x) (sym are.held_is) so));
    digest = subst (λ (x : Next). Digests x new.draft new.held.items new.hasher) (sym are.next) (subst (λ (x : Bundle). Digests n x new.held.items new.hasher) (sym are.draft) (subst (λ (x : List ℕ). Digests n d x new.hasher) (sym are.held_is) digest));
  };
  fed = ap (λ (x : Next). before x new.draft ++ begun x new.held.items) are.next ∙ ap (λ (x : Bundle). before n x ++ begun n new.held.items) are.draft ∙ ap (λ (x : List ℕ). before n d ++ begun n x) are.held_is ∙ e;
}

empty_line : IsLine []
empty_line = record { short = omega arith; whole = tt }

-- ---- a line came whole

pub head_ok : (old mid new : Reading) → IsGood old → old.next ≡ comes.Head → old.held.items ≡ first_line → Passes old mid
    → new.next ≡ comes.Brief → new.draft ≡ mid.draft → new.held.items ≡ mid.held.items → new.sum ≡ mid.sum → new.hasher ≡ mid.hasher → Takes old new (10 ∷ [])
head_ok old mid new good is text pass next draft held sum hasher =
    made old new (10 ∷ []) comes.Brief old.draft [] (record { next = next; draft = draft ∙ pass.draft; held_is = held ∙ pass.held; sum = sum ∙ pass.sum ∙ good.sum }) good.limits
    (record { line = empty_line; none = (good_begun old comes.Head good is).none })
    (subst (λ (x : Sha256). Holds256 x before_brief) (sym hasher) (subst (λ (xs : List ℕ). Holds256 mid.hasher xs) (ap line text) (pass.digest [] (good_digest old comes.Head good is))))
    (append-nil before_brief ∙ ap line (sym text) ∙ ap (λ (xs : List ℕ). xs ++ 10 ∷ []) (sym (fed_is old comes.Head is)))

announced : (front label held : List ℕ) (size : ℕ) → held ≡ label ++ decimal size → front ++ line held ≡ front ++ opened label size []
announced front label held size is = ap (λ (xs : List ℕ). front ++ xs) (ap line is ∙ append_assoc label (decimal size) (10 ∷ []))

pub brief_ok : (old mid new : Reading) (size : ℕ) → IsGood old → old.next ≡ comes.Brief → Announces brief_label old.held.items size → Passes old mid
    → new.next ≡ comes.BriefBytes size → new.draft ≡ mid.draft → new.held.items ≡ [] → new.sum ≡ mid.sum → new.hasher ≡ mid.hasher → Takes old new (10 ∷ [])
brief_ok old mid new size good is says pass next draft held sum hasher =
    let same = announced before_brief brief_label old.held.items size says.written in
    made old new (10 ∷ []) (comes.BriefBytes size) old.draft [] (record { next = next; draft = draft ∙ pass.draft; held_is = held; sum = sum ∙ pass.sum ∙ good.sum }) good.limits
    (record { begun = omega arith; within = says.within; none = (good_begun old comes.Brief good is).none })
    (subst (λ (x : Sha256). Holds256 x (before_brief ++ opened brief_label size [])) (sym hasher) (subst (λ (xs : List ℕ). Holds256 mid.hasher xs) same (pass.digest before_brief (good_digest old comes.Brief good is))))
    (sym same ∙ sym (append_assoc before_brief old.held.items (10 ∷ [])) ∙ ap (λ (xs : List ℕ). xs ++ 10 ∷ []) (sym (fed_is old comes.Brief is)))

pub description_ok : (old mid new : Reading) (size : ℕ) → IsGood old → old.next ≡ comes.Description → Announces description_label old.held.items size → Passes old mid
    → new.next ≡ comes.DescriptionBytes size → new.draft ≡ mid.draft → new.held.items ≡ [] → new.sum ≡ mid.sum → new.hasher ≡ mid.hasher → Takes old new (10 ∷ [])
description_ok old mid new size good is says pass next draft held sum hasher =
    let front = before_description old.draft in
    let same = announced front description_label old.held.items size says.written in
    made old new (10 ∷ []) (comes.DescriptionBytes size) old.draft [] (record { next = next; draft = draft ∙ pass.draft; held_is = held; sum = sum ∙ pass.sum ∙ good.sum }) good.limits
    (record { begun = omega arith; within = says.within; none = (good_begun old comes.Description good is).none })
    (subst (λ (x : Sha256). Holds256 x (front ++ opened description_label size [])) (sym hasher) (subst (λ (xs : List ℕ). Holds256 mid.hasher xs) same (pass.digest front (good_digest old comes.Description good is))))
    (sym same ∙ sym (append_assoc front old.held.items (10 ∷ [])) ∙ ap (λ (xs : List ℕ). xs ++ 10 ∷ []) (sym (fed_is old comes.Description is)))

-- with no file the front is the head
front-head : (d : Bundle) → d.files ≡ [] → front_of d ≡ head_of d
front-head d none = ap (λ (fs : List BundleFile). head_of d ++ flat_map file_part fs) none ∙ append-nil (head_of d)

pub cause_ok : (old mid new : Reading) (cause : Cause) → IsGood old → old.next ≡ comes.Cause → old.held.items ≡ cause_label ++ cause_word cause → Passes old mid
    → new.next ≡ comes.File → new.draft ≡ record mid.draft { cause = cause } → new.held.items ≡ mid.held.items → new.sum ≡ mid.sum → new.hasher ≡ mid.hasher → Takes old new (10 ∷ [])
cause_ok old mid new cause good is text pass next draft held sum hasher =
    let d : Bundle = record old.draft { cause = cause } in
    let front = before_cause old.draft in
    let none : old.draft.files ≡ [] = (good_begun old comes.Cause good is).none in
    let same : front ++ line old.held.items ≡ front_of d = ap (λ (xs : List ℕ). front ++ line xs) text ∙ sym (front-head d none) in
    made old new (10 ∷ []) comes.File d [] (record { next = next; draft = draft ∙ ap (λ (x : Bundle). record x { cause = cause }) pass.draft; held_is = held ∙ pass.held; sum = sum ∙ pass.sum ∙ good.sum })
    (record { brief = good.limits.brief; description = good.limits.description; few = good.limits.few; ascend = good.limits.ascend; files = good.limits.files; bytes = good.limits.bytes })
    empty_line
    (subst (λ (x : Sha256). Holds256 x (front_of d)) (sym hasher) (subst (λ (xs : List ℕ). Holds256 mid.hasher xs) same (pass.digest front (good_digest old comes.Cause good is))))
    (append-nil (front_of d) ∙ sym same ∙ sym (append_assoc front old.held.items (10 ∷ [])) ∙ ap (λ (xs : List ℕ). xs ++ 10 ∷ []) (sym (fed_is old comes.Cause is)))

pub file_ok : (old mid new : Reading) (file : FileLine) → IsGood old → old.next ≡ comes.File → IsFileLine old.held.items file → MayFollow old.draft file → Passes old mid
    → new.next ≡ comes.FileBytes file → new.draft ≡ mid.draft → new.held.items ≡ [] → new.sum ≡ mid.sum → new.hasher ≡ mid.hasher → Takes old new (10 ∷ [])
file_ok old mid new file good is says follows pass next draft held sum hasher =
    let front = front_of old.draft in
    let label = file_label file.action file.usage file.path in
    let same = announced front label old.held.items file.size says.written in
    made old new (10 ∷ []) (comes.FileBytes file) old.draft [] (record { next = next; draft = draft ∙ pass.draft; held_is = held; sum = sum ∙ pass.sum ∙ good.sum }) good.limits
    (record { begun = omega arith; may = record { fits = says.fits; follows = follows } })
    (subst (λ (x : Sha256). Holds256 x (front ++ opened label file.size [])) (sym hasher) (subst (λ (xs : List ℕ). Holds256 mid.hasher xs) same (pass.digest front (good_digest old comes.File good is))))
    (sym same ∙ sym (append_assoc front old.held.items (10 ∷ [])) ∙ ap (λ (xs : List ℕ). xs ++ 10 ∷ []) (sym (fed_is old comes.File is)))

pub end_ok : (old new : Reading) → IsGood old → old.next ≡ comes.File → old.held.items ≡ end_of (front_of old.draft) → 1 ≤ length old.draft.files
    → new.next ≡ comes.End → new.draft ≡ old.draft → new.sum ≡ old.sum → Takes old new (10 ∷ [])
end_ok old new good is text some next draft sum =
    let front = front_of old.draft in
    made old new (10 ∷ []) comes.End old.draft new.held.items (record { next = next; draft = draft; held_is = refl; sum = sum ∙ good.sum }) good.limits some tt
    (append-nil (text_of old.draft) ∙ ap (λ (xs : List ℕ). front ++ line xs) (sym text) ∙ sym (append_assoc front old.held.items (10 ∷ [])) ∙ ap (λ (xs : List ℕ). xs ++ 10 ∷ []) (sym (fed_is old comes.File is)))

-- ---- a part of a line

line-more : (n : Next) (d : Bundle) (held part : List ℕ) → awaits_line n ≡ true → IsBegun n d held → IsLine (held ++ part) → IsBegun n d (held ++ part)
line-more comes.Head d held part awaits is line = record { line = line; none = is.none }
line-more comes.Brief d held part awaits is line = record { line = line; none = is.none }
line-more (comes.BriefBytes size) d held part awaits is line = absurd (cc awaits)
line-more comes.Description d held part awaits is line = record { line = line; none = is.none }
line-more (comes.DescriptionBytes size) d held part awaits is line = absurd (cc awaits)
line-more comes.Cause d held part awaits is line = record { line = line; none = is.none }
line-more comes.File d held part awaits is line = line
line-more (comes.FileBytes file) d held part awaits is line = absurd (cc awaits)
line-more comes.End d held part awaits is line = absurd (cc awaits)

line-digest : (n : Next) (d : Bundle) (held more : List ℕ) (hasher : Sha256) → awaits_line n ≡ true → Digests n d held hasher → Digests n d more hasher
line-digest comes.Head d held more hasher awaits is = is
line-digest comes.Brief d held more hasher awaits is = is
line-digest (comes.BriefBytes size) d held more hasher awaits is = absurd (cc awaits)
line-digest comes.Description d held more hasher awaits is = is
line-digest (comes.DescriptionBytes size) d held more hasher awaits is = absurd (cc awaits)
line-digest comes.Cause d held more hasher awaits is = is
line-digest comes.File d held more hasher awaits is = is
line-digest (comes.FileBytes file) d held more hasher awaits is = absurd (cc awaits)
line-digest comes.End d held more hasher awaits is = absurd (cc awaits)

pub part_ok : (old new : Reading) (part : List ℕ) → IsGood old → awaits_line old.next ≡ true → Without 10 part → length old.held.items + length part ≤ most_line_bytes
    → new.next ≡ old.next → new.draft ≡ old.draft → new.held.items ≡ old.held.items ++ part → new.sum ≡ old.sum → new.hasher ≡ old.hasher → Takes old new part
part_ok old new part good awaits whole short next draft held sum hasher =
    let line : IsLine (old.held.items ++ part) = record { short = omega (arith, length-append old.held.items part, short); whole = Without-append 10 old.held.items part (line_whole old.next old.draft old.held.items awaits good.begun).0 whole } in
    made old new part old.next old.draft (old.held.items ++ part) (record { next = next; draft = draft; held_is = held; sum = sum ∙ good.sum }) good.limits
    (line-more old.next old.draft old.held.items part awaits good.begun line)
    (subst (λ (x : Sha256). Digests old.next old.draft (old.held.items ++ part) x) (sym hasher) (line-digest old.next old.draft old.held.items (old.held.items ++ part) old.hasher awaits good.digest))
    (ap (λ (xs : List ℕ). before old.next old.draft ++ xs) (line_begun old.next (old.held.items ++ part) awaits) ∙ sym (append_assoc (before old.next old.draft) old.held.items part) ∙ ap (λ (xs : List ℕ). (before old.next old.draft ++ xs) ++ part) (sym (line_begun old.next old.held.items awaits)))

-- ---- bytes that a line announced

bytes-more : (n : Next) (d : Bundle) (size : ℕ) (held part : List ℕ) → size_of n ≡ Some size → IsBegun n d held → length (held ++ part) ≤ size → IsBegun n d (held ++ part)
bytes-more comes.Head d size held part is so few = absurd (cc is)
bytes-more comes.Brief d size held part is so few = absurd (cc is)
bytes-more (comes.BriefBytes k) d size held part is so few = let same : k ≡ size = same_Some k size is in record { begun = omega (arith, few, same); within = so.within; none = so.none }
bytes-more comes.Description d size held part is so few = absurd (cc is)
bytes-more (comes.DescriptionBytes k) d size held part is so few = let same : k ≡ size = same_Some k size is in record { begun = omega (arith, few, same); within = so.within; none = so.none }
bytes-more comes.Cause d size held part is so few = absurd (cc is)
bytes-more comes.File d size held part is so few = absurd (cc is)
bytes-more (comes.FileBytes file) d size held part is so few = let same : file.size ≡ size = same_Some file.size size is in record { begun = omega (arith, few, same); may = so.may }
bytes-more comes.End d size held part is so few = absurd (cc is)

-- what is digested where bytes come: all that came
bytes-digest : (n : Next) (d : Bundle) (size : ℕ) (held : List ℕ) (hasher : Sha256) → size_of n ≡ Some size → Digests n d held hasher → Holds256 hasher (before n d ++ begun n held)
bytes-digest comes.Head d size held hasher is so = absurd (cc is)
bytes-digest comes.Brief d size held hasher is so = absurd (cc is)
bytes-digest (comes.BriefBytes k) d size held hasher is so = so
bytes-digest comes.Description d size held hasher is so = absurd (cc is)
bytes-digest (comes.DescriptionBytes k) d size held hasher is so = so
bytes-digest comes.Cause d size held hasher is so = absurd (cc is)
bytes-digest comes.File d size held hasher is so = absurd (cc is)
bytes-digest (comes.FileBytes file) d size held hasher is so = so
bytes-digest comes.End d size held hasher is so = absurd (cc is)

digest-bytes : (n : Next) (d : Bundle) (size : ℕ) (held : List ℕ) (hasher : Sha256) → size_of n ≡ Some size → Holds256 hasher (before n d ++ begun n held) → Digests n d held hasher
digest-bytes comes.Head d size held hasher is so = absurd (cc is)
digest-bytes comes.Brief d size held hasher is so = absurd (cc is)
digest-bytes (comes.BriefBytes k) d size held hasher is so = so
digest-bytes comes.Description d size held hasher is so = absurd (cc is)
digest-bytes (comes.DescriptionBytes k) d size held hasher is so = so
digest-bytes comes.Cause d size held hasher is so = absurd (cc is)
digest-bytes comes.File d size held hasher is so = absurd (cc is)
digest-bytes (comes.FileBytes file) d size held hasher is so = so
digest-bytes comes.End d size held hasher is so = absurd (cc is)

pub good-holds : (r : Reading) (size : ℕ) → IsGood r → size_of r.next ≡ Some size → Holds256 r.hasher (fed r)
good-holds r size good is = bytes-digest r.next r.draft size r.held.items r.hasher is good.digest

pub bytes_ok : (old new : Reading) (size : ℕ) (part : List ℕ) → IsGood old → size_of old.next ≡ Some size → length old.held.items + length part ≤ size
    → new.next ≡ old.next → new.draft ≡ old.draft → new.held.items ≡ old.held.items ++ part → new.sum ≡ old.sum → ((m : List ℕ) → Holds256 old.hasher m → Holds256 new.hasher (m ++ part)) → Takes old new part
bytes_ok old new size part good is few next draft held sum digest =
    let same : before old.next old.draft ++ begun old.next (old.held.items ++ part) ≡ fed old ++ part =
    ap (λ (xs : List ℕ). before old.next old.draft ++ xs) (sym (begun-append old.next size old.held.items part is)) ∙ sym (append_assoc (before old.next old.draft) (begun old.next old.held.items) part) in
    made old new part old.next old.draft (old.held.items ++ part) (record { next = next; draft = draft; held_is = held; sum = sum ∙ good.sum }) good.limits
    (bytes-more old.next old.draft size old.held.items part is good.begun (omega (arith, length-append old.held.items part, few)))
    (digest-bytes old.next old.draft size (old.held.items ++ part) new.hasher is (subst (λ (xs : List ℕ). Holds256 new.hasher xs) (sym same) (digest (fed old) (good-holds old size good is))))
    same

-- ---- they came whole

counted-whole : (front label held : List ℕ) (size : ℕ) → size ≡ length held → (front ++ opened label size held) ++ 10 ∷ [] ≡ front ++ counted label held
counted-whole front label held size full = ap (λ (n : ℕ). (front ++ opened label n held) ++ 10 ∷ []) full ∙ append_assoc front (opened label (length held) held) (10 ∷ []) ∙ ap (λ (xs : List ℕ). front ++ xs) (tail label (decimal (length held)) held)
  where
    tail : (l d h : List ℕ) → (l ++ (d ++ 10 ∷ h)) ++ 10 ∷ [] ≡ l ++ (d ++ 10 ∷ (h ++ 10 ∷ []))
    tail l d h = simp append_assoc

pub brief_bytes_ok : (old new : Reading) (size : ℕ) → IsGood old → old.next ≡ comes.BriefBytes size → size_of old.next ≡ Some (length old.held.items) → Holds256 new.hasher (fed old ++ 10 ∷ [])
    → new.next ≡ comes.Description → new.draft ≡ record old.draft { brief = old.held.items } → new.held.items ≡ [] → new.sum ≡ old.sum → Takes old new (10 ∷ [])
brief_bytes_ok old new size good is full digest next draft held sum =
    let d : Bundle = record old.draft { brief = old.held.items } in
    let begun = good_begun old (comes.BriefBytes size) good is in
    let count : size ≡ length old.held.items = same_Some size (length old.held.items) (ap size_of (sym is) ∙ full) in
    let same : fed old ++ 10 ∷ [] ≡ before_description d = ap (λ (xs : List ℕ). xs ++ 10 ∷ []) (fed_is old (comes.BriefBytes size) is) ∙ counted-whole before_brief brief_label old.held.items size count in
    made old new (10 ∷ []) comes.Description d [] (record { next = next; draft = draft; held_is = held; sum = sum ∙ good.sum })
    (record { brief = omega (arith, begun.within, count); description = good.limits.description; few = good.limits.few; ascend = good.limits.ascend; files = good.limits.files; bytes = good.limits.bytes })
    (record { line = empty_line; none = begun.none })
    (subst (λ (xs : List ℕ). Holds256 new.hasher xs) same digest)
    (append-nil (before_description d) ∙ sym same)

pub description_bytes_ok : (old new : Reading) (size : ℕ) → IsGood old → old.next ≡ comes.DescriptionBytes size → size_of old.next ≡ Some (length old.held.items) → Holds256 new.hasher (fed old ++ 10 ∷ [])
    → new.next ≡ comes.Cause → new.draft ≡ record old.draft { description = old.held.items } → new.held.items ≡ [] → new.sum ≡ old.sum → Takes old new (10 ∷ [])
description_bytes_ok old new size good is full digest next draft held sum =
    let d : Bundle = record old.draft { description = old.held.items } in
    let begun = good_begun old (comes.DescriptionBytes size) good is in
    let count : size ≡ length old.held.items = same_Some size (length old.held.items) (ap size_of (sym is) ∙ full) in
    let same : fed old ++ 10 ∷ [] ≡ before_cause d = ap (λ (xs : List ℕ). xs ++ 10 ∷ []) (fed_is old (comes.DescriptionBytes size) is) ∙ counted-whole (before_description old.draft) description_label old.held.items size count in
    made old new (10 ∷ []) comes.Cause d [] (record { next = next; draft = draft; held_is = held; sum = sum ∙ good.sum })
    (record { brief = good.limits.brief; description = omega (arith, begun.within, count); few = good.limits.few; ascend = good.limits.ascend; files = good.limits.files; bytes = good.limits.bytes })
    (record { line = empty_line; none = begun.none })
    (subst (λ (xs : List ℕ). Holds256 new.hasher xs) same digest)
    (append-nil (before_cause d) ∙ sym same)

-- one file more
above-push : (k : List ℕ) (xs : List BundleFile) (f : BundleFile) → Above text_cmp bundle_path k xs → text_cmp k f.path ≡ Less → Above text_cmp bundle_path k (xs ++ f ∷ [])
above-push k [] f a less = (less, tt)
above-push k (x ∷ xs) f a less = (a.0, above-push k xs f a.1 less)

ascends-push : (xs : List BundleFile) (f : BundleFile) → Ascends text_cmp bundle_path xs → IsAfter f.path xs → Ascends text_cmp bundle_path (xs ++ f ∷ [])
ascends-push [] f a after = (tt, tt)
ascends-push (x ∷ xs) f a after = (above-push x.path xs f a.0 after.0, ascends-push xs f a.1 after.1)

all-push : (xs : List BundleFile) (f : BundleFile) → AllByRecursion FileFits xs → FileFits f → AllByRecursion FileFits (xs ++ f ∷ [])
all-push [] f all fits = (fits, tt)
all-push (x ∷ xs) f all fits = (all.0, all-push xs f all.1 fits)

pub file_bytes_ok : (old new : Reading) (file : FileLine) → IsGood old → old.next ≡ comes.FileBytes file → size_of old.next ≡ Some (length old.held.items) → Holds256 new.hasher (fed old ++ 10 ∷ [])
    → new.next ≡ comes.File → new.draft ≡ record old.draft { files = old.draft.files ++ file_of file old.held.items ∷ [] } → new.held.items ≡ [] → new.sum ≡ old.sum + file.size → Takes old new (10 ∷ [])
file_bytes_ok old new file good is full digest next draft held sum =
    let f = file_of file old.held.items in
    let files = old.draft.files ++ f ∷ [] in
    let d : Bundle = record old.draft { files = files } in
    let begun = good_begun old (comes.FileBytes file) good is in
    let count : file.size ≡ length old.held.items = same_Some file.size (length old.held.items) (ap size_of (sym is) ∙ full) in
    let bytes : bytes_of files ≡ bytes_of old.draft.files + file.size = omega (arith, bytes_of-append old.draft.files (f ∷ []), count) in
    let same : fed old ++ 10 ∷ [] ≡ front_of d =
    ap (λ (xs : List ℕ). xs ++ 10 ∷ []) (fed_is old (comes.FileBytes file) is)
    ∙ counted-whole (front_of old.draft) (file_label file.action file.usage file.path) old.held.items file.size count
    ∙ append_assoc (head_of old.draft) (flat_map file_part old.draft.files) (file_part f)
    ∙ ap (λ (xs : List ℕ). head_of old.draft ++ (flat_map file_part old.draft.files ++ xs)) (sym (append-nil (file_part f)))
    ∙ ap (λ (xs : List ℕ). head_of old.draft ++ xs) (sym (flat_map-append file_part old.draft.files (f ∷ []))) in
    made old new (10 ∷ []) comes.File d [] (record { next = next; draft = draft; held_is = held; sum = sum ∙ ap (λ (n : ℕ). n + file.size) good.sum ∙ sym bytes })
    (record {
      brief = good.limits.brief;
      description = good.limits.description;
      few = omega (arith, length-append old.draft.files (f ∷ []), begun.may.follows.room);
      ascend = ascends-push old.draft.files f good.limits.ascend begun.may.follows.after;
      files = all-push old.draft.files f good.limits.files (record { is_path = begun.may.fits.is_path; config = begun.may.fits.config; within = omega (arith, begun.may.fits.within, count) });
      bytes = omega (arith, bytes, begun.may.follows.bytes);
    })
    empty_line
    (subst (λ (xs : List ℕ). Holds256 new.hasher xs) same digest)
    (append-nil (front_of d) ∙ sym same)

-- ---- the whole

pub end_bundled : (r : Reading) → IsGood r → r.next ≡ comes.End → Bundled (fed r) r.draft
end_bundled r good is = (record { some = good_begun r comes.End good is; limits = good.limits }, fed_is r comes.End is ∙ append-nil (text_of r.draft))

-- one step after the other
pub takes_both : (a b c : Reading) (x y : List ℕ) → Takes a b x → Takes b c y → Takes a c (x ++ y)
takes_both a b c x y one two = record { good = two.good; fed = two.fed ∙ ap (λ (xs : List ℕ). xs ++ y) one.fed ∙ append_assoc (fed a) x y }
