-- Where no text begins with what came.
use Rattle.std.proofs.Common.{◌≡◌, ℕ, ◌+◌, ◌<◌, ◌≤◌, Bool, true, false, List, [], ◌∷◌, ◌++◌, Option, Some, None, length, refl, sym, ap, subst, ◌∙◌, arith, append_assoc, length-append}
use Rattle.std.specs.Fmt.{decimal}
use Rattle.std.specs.declared.cmp.Ordering.TheVariants.{Less}
use Rattle.std.proofs.lemmas.List.{append-nil}
use Rattle.std.proofs.lemmas.Option.{same_Some}
use Rattle.ae_base.specs.Rows.{text_cmp}
use Rattle.ae_base.specs.Words.{cause_word}
use Rattle.ae_base.specs.declared.words.Cause.{Cause}
use Rattle.ae_types.specs.Ordered.{Above, Ascends}
use Rattle.ae_bundle.specs.declared.bundle.Bundle.{Bundle}
use Rattle.ae_bundle.specs.declared.bundle.BundleFile.{BundleFile}
use Rattle.ae_bundle.specs.declared.fields.FileLine.{FileLine}
use Rattle.ae_bundle.specs.declared.reading.Next.{Next}
use Rattle.ae_bundle.specs.declared.reading.Next.TheVariants as comes
use Rattle.ae_bundle.specs.declared.reading.Reading.{Reading}
use Rattle.ae_bundle.specs.Bundled.{first_line, brief_label, description_label, cause_label, end_label, file_label, front_of, end_of, text_of, bytes_of, bundle_path, FitsSoFar, Fits, Bundled, BeginsNone}
use Rattle.ae_bundle.specs.Reading.{Without, opened, before, begun, fed, before_brief, before_description, before_cause, most_line_bytes, size_of, awaits_line, at_end, Announces, IsFileLine, IsAfter, MayFollow, IsBegun, Digests, IsGood}
use Rattle.ae_bundle.proofs.Cuts.{Without-append}
use Rattle.ae_bundle.proofs.Once.{file_once, label-no_end, size-low}
use Rattle.ae_bundle.proofs.Way.{text_same, size-fits}
use Rattle.ae_bundle.proofs.Lines.{HasLine, line_is, line_short, line_ends, head_line, brief_line, description_line, cause_line_in, NextLine, of_file, of_end, file_line, HasBytes, bytes_end, bytes_go_on, brief_bytes, description_bytes, file_bytes}

-- ---- what came, where this comes next

pub good_begun : (r : Reading) (n : Next) → IsGood r → r.next ≡ n → IsBegun n r.draft r.held.items
good_begun r n good is = subst (λ (x : Next). IsBegun x r.draft r.held.items) is good.begun

pub good_digest : (r : Reading) (n : Next) → IsGood r → r.next ≡ n → Digests n r.draft r.held.items r.hasher
good_digest r n good is = subst (λ (x : Next). Digests x r.draft r.held.items r.hasher) is good.digest

pub fed_is : (r : Reading) (n : Next) → r.next ≡ n → fed r ≡ before n r.draft ++ begun n r.held.items
fed_is r n is = ap (λ (x : Next). before x r.draft ++ begun x r.held.items) is

none_at : (r : Reading) (n : Next) (bytes : List ℕ) → r.next ≡ n → BeginsNone ((before n r.draft ++ begun n r.held.items) ++ bytes) → BeginsNone (fed r ++ bytes)
none_at r n bytes is none = subst (λ (xs : List ℕ). BeginsNone (xs ++ bytes)) (sym (fed_is r n is)) none

pub none_more : (bytes more : List ℕ) → BeginsNone bytes → BeginsNone (bytes ++ more)
none_more bytes more none rest bundle is = none (more ++ rest) bundle (is.0, sym (append_assoc bytes more rest) ∙ is.1)

regroup : (a h m : List ℕ) → ((a ++ h) ++ 10 ∷ []) ++ m ≡ a ++ (h ++ 10 ∷ m)
regroup a h m = simp append_assoc

-- ---- a line that isn't one

pub bad_head : (r : Reading) → IsGood r → r.next ≡ comes.Head → (r.held.items ≡ first_line → ⊥) → BeginsNone (fed r ++ 10 ∷ [])
bad_head r good is other = none_at r comes.Head (10 ∷ []) is (λ more b text.
    let held = r.held.items in
    let has = head_line b (held ++ 10 ∷ more) (sym (regroup [] held more) ∙ text.1) in
    other (line_is (held ++ 10 ∷ more) first_line held more has refl (good_begun r comes.Head good is).line.whole))

pub bad_brief : (r : Reading) → IsGood r → r.next ≡ comes.Brief → ((size : ℕ) → Announces brief_label r.held.items size → ⊥) → BeginsNone (fed r ++ 10 ∷ [])
bad_brief r good is none = none_at r comes.Brief (10 ∷ []) is (λ more b text.
    let held = r.held.items in
    let has = brief_line b (held ++ 10 ∷ more) text.0.limits (sym (regroup before_brief held more) ∙ text.1) in
    none (length b.brief) (record { written = line_is (held ++ 10 ∷ more) _ held more has refl (good_begun r comes.Brief good is).line.whole; within = text.0.limits.brief }))

pub bad_description : (r : Reading) → IsGood r → r.next ≡ comes.Description → ((size : ℕ) → Announces description_label r.held.items size → ⊥) → BeginsNone (fed r ++ 10 ∷ [])
bad_description r good is none = none_at r comes.Description (10 ∷ []) is (λ more b text.
    let held = r.held.items in
    let has = description_line r.draft b (held ++ 10 ∷ more) good.limits text.0.limits (sym (regroup (before_description r.draft) held more) ∙ text.1) in
    none (length b.description) (record { written = line_is (held ++ 10 ∷ more) _ held more has refl (good_begun r comes.Description good is).line.whole; within = text.0.limits.description }))

pub bad_cause : (r : Reading) → IsGood r → r.next ≡ comes.Cause → ((cause : Cause) → r.held.items ≡ cause_label ++ cause_word cause → ⊥) → BeginsNone (fed r ++ 10 ∷ [])
bad_cause r good is none = none_at r comes.Cause (10 ∷ []) is (λ more b text.
    let held = r.held.items in
    let has = cause_line_in r.draft b (held ++ 10 ∷ more) good.limits text.0.limits (sym (regroup (before_cause r.draft) held more) ∙ text.1) in
    none b.cause (line_is (held ++ 10 ∷ more) _ held more has refl (good_begun r comes.Cause good is).line.whole))

-- the line that stands where a file's line or the last one may stand
file_line_at : (r : Reading) (more : List ℕ) (b : Bundle) → IsGood r → FitsSoFar b → ((front_of r.draft ++ r.held.items) ++ 10 ∷ []) ++ more ≡ text_of b → NextLine r.draft b (r.held.items ++ 10 ∷ more)
file_line_at r more b good other e = file_line r.draft b (r.held.items ++ 10 ∷ more) good.limits other (sym (regroup (front_of r.draft) r.held.items more) ∙ e)

pub bad_file : (r : Reading) → IsGood r → r.next ≡ comes.File → ((digits : List ℕ) → r.held.items ≡ end_label ++ digits → ⊥) → ((file : FileLine) → IsFileLine r.held.items file → ⊥) → BeginsNone (fed r ++ 10 ∷ [])
bad_file r good is no_end none = none_at r comes.File (10 ∷ []) is (λ more b text. go more b (file_line_at r more b good text.0.limits text.1))
  where
    whole : Without 10 r.held.items
    whole = (good_begun r comes.File good is).whole

    go : (more : List ℕ) (b : Bundle) → NextLine r.draft b (r.held.items ++ 10 ∷ more) → ⊥
    go more b (of_file f fs so) = none (record { action = f.action; usage = f.usage; path = f.path; size = length f.bytes }) (record { written = line_is (r.held.items ++ 10 ∷ more) _ r.held.items more so.line refl whole; fits = so.fits })
    go more b (of_end same has) = no_end _ (line_is (r.held.items ++ 10 ∷ more) _ r.held.items more has refl whole)

-- ---- a file that may not come

pub bytes_of-append : (xs ys : List BundleFile) → bytes_of (xs ++ ys) ≡ bytes_of xs + bytes_of ys
bytes_of-append [] ys = omega arith
bytes_of-append (x ∷ xs) ys = omega (arith, bytes_of-append xs ys)

above-in : (k : List ℕ) (xs : List BundleFile) (f : BundleFile) (fs : List BundleFile) → Above text_cmp bundle_path k (xs ++ f ∷ fs) → text_cmp k f.path ≡ Less
above-in k [] f fs a = a.0
above-in k (x ∷ xs) f fs a = above-in k xs f fs a.1

-- of ascending files each comes after those before it
pub after-those : (xs : List BundleFile) (f : BundleFile) (fs : List BundleFile) → Ascends text_cmp bundle_path (xs ++ f ∷ fs) → IsAfter f.path xs
after-those [] f fs a = tt
after-those (x ∷ xs) f fs a = (above-in x.path xs f fs a.0, after-those xs f fs a.1)

next-follows : (d b : Bundle) (f : BundleFile) (fs : List BundleFile) (file : FileLine) → FitsSoFar b → b.files ≡ d.files ++ f ∷ fs → file.path ≡ f.path → file.size ≡ length f.bytes → MayFollow d file
next-follows d b f fs file fits are path size = record {
  room = omega (arith, ap length are, length-append d.files (f ∷ fs), fits.few);
  after = subst (λ (p : List ℕ). IsAfter p d.files) (sym path) (after-those d.files f fs (subst (Ascends text_cmp bundle_path) are fits.ascend));
  bytes = omega (arith, ap bytes_of are, bytes_of-append d.files (f ∷ fs), fits.bytes, size);
}

pub bad_follow : (r : Reading) (file : FileLine) → IsGood r → r.next ≡ comes.File → ((digits : List ℕ) → r.held.items ≡ end_label ++ digits → ⊥) → IsFileLine r.held.items file → (MayFollow r.draft file → ⊥) → BeginsNone (fed r ++ 10 ∷ [])
bad_follow r file good is no_end says none = none_at r comes.File (10 ∷ []) is (λ more b text. go more b text.0.limits (file_line_at r more b good text.0.limits text.1))
  where
    whole : Without 10 r.held.items
    whole = (good_begun r comes.File good is).whole

    go : (more : List ℕ) (b : Bundle) → FitsSoFar b → NextLine r.draft b (r.held.items ++ 10 ∷ more) → ⊥
    go more b fits (of_file f fs so) =
        let label = file_label file.action file.usage file.path in
        let other = file_label f.action f.usage f.path in
        let held = line_is (r.held.items ++ 10 ∷ more) _ r.held.items more so.line refl whole in
        let both : opened label file.size [] ≡ opened other (length f.bytes) [] =
        sym (append_assoc label (decimal file.size) (10 ∷ [])) ∙ ap (λ (xs : List ℕ). xs ++ 10 ∷ []) (sym says.written ∙ held) ∙ append_assoc other (decimal (length f.bytes)) (10 ∷ []) in
        let one = file_once file.action f.action file.usage f.usage file.path f.path file.size (length f.bytes) [] [] says.fits.is_path so.fits.is_path (omega (arith, size-low file.action file.size says.fits.within)) (size-fits f so.fits) both in
        none (next-follows r.draft b f fs file fits so.are one.path one.size)
    go more b fits (of_end same has) = no_end _ (line_is (r.held.items ++ 10 ∷ more) _ r.held.items more has refl whole)

-- ---- a last line that isn't the text's

pub bad_end : (r : Reading) (digits : List ℕ) → IsGood r → r.next ≡ comes.File → r.held.items ≡ end_label ++ digits → (r.held.items ≡ end_of (front_of r.draft) → 1 ≤ length r.draft.files → ⊥) → BeginsNone (fed r ++ 10 ∷ [])
bad_end r digits good is as_end none = none_at r comes.File (10 ∷ []) is (λ more b text. go more b text.0 (file_line_at r more b good text.0.limits text.1))
  where
    whole : Without 10 r.held.items
    whole = (good_begun r comes.File good is).whole

    go : (more : List ℕ) (b : Bundle) → Fits b → NextLine r.draft b (r.held.items ++ 10 ∷ more) → ⊥
    go more b fits (of_file f fs so) =
        let held = line_is (r.held.items ++ 10 ∷ more) _ r.held.items more so.line refl whole in
        label-no_end f.action f.usage f.path (decimal (length f.bytes)) digits (sym held ∙ as_end)
    go more b fits (of_end same has) =
        none (line_is (r.held.items ++ 10 ∷ more) _ r.held.items more has refl whole) (omega (arith, ap (λ (x : Bundle). length x.files) same, fits.some))

-- ---- a line that is too long

-- the line that stands where one comes
line_in : (n : Next) (d b : Bundle) (held u : List ℕ) → awaits_line n ≡ true → FitsSoFar d → FitsSoFar b → before n d ++ u ≡ text_of b → (text : List ℕ) × HasLine u text
line_in comes.Head d b held u awaits fits other e = (_, head_line b u e)
line_in comes.Brief d b held u awaits fits other e = (_, brief_line b u other e)
line_in (comes.BriefBytes size) d b held u awaits fits other e = absurd (cc awaits)
line_in comes.Description d b held u awaits fits other e = (_, description_line d b u fits other e)
line_in (comes.DescriptionBytes size) d b held u awaits fits other e = absurd (cc awaits)
line_in comes.Cause d b held u awaits fits other e = (_, cause_line_in d b u fits other e)
line_in comes.File d b held u awaits fits other e = go (file_line d b u fits other e)
  where
    go : NextLine d b u → (text : List ℕ) × HasLine u text
    go (of_file f fs so) = (_, so.line)
    go (of_end same has) = (_, has)
line_in (comes.FileBytes file) d b held u awaits fits other e = absurd (cc awaits)
line_in comes.End d b held u awaits fits other e = absurd (cc awaits)

-- where a line comes, what came of it is held
pub line_begun : (n : Next) (held : List ℕ) → awaits_line n ≡ true → begun n held ≡ held
line_begun comes.Head held awaits = refl
line_begun comes.Brief held awaits = refl
line_begun (comes.BriefBytes size) held awaits = absurd (cc awaits)
line_begun comes.Description held awaits = refl
line_begun (comes.DescriptionBytes size) held awaits = absurd (cc awaits)
line_begun comes.Cause held awaits = refl
line_begun comes.File held awaits = refl
line_begun (comes.FileBytes file) held awaits = absurd (cc awaits)
line_begun comes.End held awaits = absurd (cc awaits)

pub line_whole : (n : Next) (d : Bundle) (held : List ℕ) → awaits_line n ≡ true → IsBegun n d held → Without 10 held × (length held ≤ most_line_bytes)
line_whole comes.Head d held awaits is = (is.line.whole, is.line.short)
line_whole comes.Brief d held awaits is = (is.line.whole, is.line.short)
line_whole (comes.BriefBytes size) d held awaits is = absurd (cc awaits)
line_whole comes.Description d held awaits is = (is.line.whole, is.line.short)
line_whole (comes.DescriptionBytes size) d held awaits is = absurd (cc awaits)
line_whole comes.Cause d held awaits is = (is.line.whole, is.line.short)
line_whole comes.File d held awaits is = (is.whole, is.short)
line_whole (comes.FileBytes file) d held awaits is = absurd (cc awaits)
line_whole comes.End d held awaits is = absurd (cc awaits)

pub bad_part : (r : Reading) (part : List ℕ) → IsGood r → awaits_line r.next ≡ true → Without 10 part → most_line_bytes < length r.held.items + length part → BeginsNone (fed r ++ part)
bad_part r part good awaits whole long more b text =
    let held = r.held.items in
    let all : before r.next r.draft ++ ((held ++ part) ++ more) ≡ text_of b =
    sym (regroup_part (before r.next r.draft) held part more) ∙ ap (λ (xs : List ℕ). ((before r.next r.draft ++ xs) ++ part) ++ more) (sym (line_begun r.next held awaits)) ∙ text.1 in
    let has = line_in r.next r.draft b held ((held ++ part) ++ more) awaits good.limits text.0.limits all in
    line_short ((held ++ part) ++ more) has.0 (held ++ part) more has.1 refl (Without-append 10 held part (line_whole r.next r.draft held awaits good.begun).0 whole) (omega (arith, length-append held part, long))
  where
    regroup_part : (a h p m : List ℕ) → ((a ++ h) ++ p) ++ m ≡ a ++ ((h ++ p) ++ m)
    regroup_part a h p m = simp append_assoc

-- ---- bytes after the last line

pub bad_after : (r : Reading) (c : ℕ) (cs : List ℕ) → IsGood r → r.next ≡ comes.End → BeginsNone (fed r ++ c ∷ cs)
bad_after r c cs good is = none_at r comes.End (c ∷ cs) is (λ more b text.
    let so = text_same r.draft b ((c ∷ cs) ++ more) good.limits text.0.limits (regroup_end (text_of r.draft) (c ∷ cs) more ∙ text.1) in
    not_empty c (cs ++ more) so.rest)
  where
    regroup_end : (a p m : List ℕ) → a ++ (p ++ m) ≡ ((a ++ []) ++ p) ++ m
    regroup_end a p m = ap (λ (xs : List ℕ). xs ++ (p ++ m)) (sym (append-nil a)) ∙ sym (append_assoc (a ++ []) p m)

    not_empty : (x : ℕ) (xs : List ℕ) → x ∷ xs ≡ [] → ⊥
    not_empty x xs e = cc

-- ---- bytes that a line announced

-- they go on with what comes
pub begun-append : (n : Next) (size : ℕ) (held more : List ℕ) → size_of n ≡ Some size → begun n held ++ more ≡ begun n (held ++ more)
begun-append comes.Head size held more is = absurd (cc is)
begun-append comes.Brief size held more is = absurd (cc is)
begun-append (comes.BriefBytes k) size held more is = simp append_assoc
begun-append comes.Description size held more is = absurd (cc is)
begun-append (comes.DescriptionBytes k) size held more is = simp append_assoc
begun-append comes.Cause size held more is = absurd (cc is)
begun-append comes.File size held more is = absurd (cc is)
begun-append (comes.FileBytes file) size held more is = simp append_assoc
begun-append comes.End size held more is = absurd (cc is)

pub held_within : (n : Next) (d : Bundle) (size : ℕ) (held : List ℕ) → size_of n ≡ Some size → IsBegun n d held → length held ≤ size
held_within comes.Head d size held is so = absurd (cc is)
held_within comes.Brief d size held is so = absurd (cc is)
held_within (comes.BriefBytes k) d size held is so = let same : k ≡ size = same_Some k size is in omega (arith, so.begun, same)
held_within comes.Description d size held is so = absurd (cc is)
held_within (comes.DescriptionBytes k) d size held is so = let same : k ≡ size = same_Some k size is in omega (arith, so.begun, same)
held_within comes.Cause d size held is so = absurd (cc is)
held_within comes.File d size held is so = absurd (cc is)
held_within (comes.FileBytes file) d size held is so = let same : file.size ≡ size = same_Some file.size size is in omega (arith, so.begun, same)
held_within comes.End d size held is so = absurd (cc is)

bytes_in : (n : Next) (d b : Bundle) (size : ℕ) (held w : List ℕ) → size_of n ≡ Some size → IsBegun n d held → FitsSoFar d → FitsSoFar b → before n d ++ begun n w ≡ text_of b → HasBytes size w
bytes_in comes.Head d b size held w is so fits other e = absurd (cc is)
bytes_in comes.Brief d b size held w is so fits other e = absurd (cc is)
bytes_in (comes.BriefBytes k) d b size held w is so fits other e = subst (λ (n : ℕ). HasBytes n w) (same_Some k size is) (brief_bytes b k w (omega (arith, so.within)) other e)
bytes_in comes.Description d b size held w is so fits other e = absurd (cc is)
bytes_in (comes.DescriptionBytes k) d b size held w is so fits other e = subst (λ (n : ℕ). HasBytes n w) (same_Some k size is) (description_bytes d b k w (omega (arith, so.within)) fits other e)
bytes_in comes.Cause d b size held w is so fits other e = absurd (cc is)
bytes_in comes.File d b size held w is so fits other e = absurd (cc is)
bytes_in (comes.FileBytes file) d b size held w is so fits other e = subst (λ (n : ℕ). HasBytes n w) (same_Some file.size size is) (file_bytes d b file w so.may.fits fits other e)
bytes_in comes.End d b size held w is so fits other e = absurd (cc is)

pub bad_bytes : (r : Reading) (c : ℕ) (cs : List ℕ) → IsGood r → size_of r.next ≡ Some (length r.held.items) → (c ≡ 10 → ⊥) → BeginsNone (fed r ++ c ∷ cs)
bad_bytes r c cs good full other more b text =
    let held = r.held.items in
    let all : before r.next r.draft ++ begun r.next (held ++ (c ∷ cs ++ more)) ≡ text_of b =
    ap (λ (xs : List ℕ). before r.next r.draft ++ xs) (sym (begun-append r.next (length held) held (c ∷ cs ++ more) full)) ∙ sym (append_assoc (before r.next r.draft) (begun r.next held) (c ∷ cs ++ more)) ∙ sym (append_assoc (fed r) (c ∷ cs) more) ∙ text.1 in
    let has = bytes_in r.next r.draft b (length held) held (held ++ (c ∷ cs ++ more)) full good.begun good.limits text.0.limits all in
    other (bytes_end (length held) held c (cs ++ more) has refl)

-- ---- the end of the stream

pub not_whole : (r : Reading) (b : Bundle) → IsGood r → at_end r.next ≡ false → Bundled (fed r) b → ⊥
not_whole r b good not_end text = go (awaits_line r.next) refl (size_of r.next) refl
  where
    neither : (n : Next) → awaits_line n ≡ false → size_of n ≡ None → at_end n ≡ true
    neither comes.Head a s = absurd (cc a)
    neither comes.Brief a s = absurd (cc a)
    neither (comes.BriefBytes size) a s = absurd (cc s)
    neither comes.Description a s = absurd (cc a)
    neither (comes.DescriptionBytes size) a s = absurd (cc s)
    neither comes.Cause a s = absurd (cc a)
    neither comes.File a s = absurd (cc a)
    neither (comes.FileBytes file) a s = absurd (cc s)
    neither comes.End a s = refl

    clash : true ≡ false → ⊥
    clash e = cc

    go : (a : Bool) → awaits_line r.next ≡ a → (s : Option ℕ) → size_of r.next ≡ s → ⊥
    go true awaits s is =
        let held = r.held.items in
        let has = line_in r.next r.draft b held held awaits good.limits text.0.limits (ap (λ (xs : List ℕ). before r.next r.draft ++ xs) (sym (line_begun r.next held awaits)) ∙ text.1) in
        line_ends held has.0 has.1 (line_whole r.next r.draft held awaits good.begun).0
    go false awaits (Some size) is =
        let held = r.held.items in
        bytes_go_on size held (bytes_in r.next r.draft b size held held is good.begun good.limits text.0.limits text.1) (held_within r.next r.draft size held is good.begun)
    go false awaits None is = clash (sym (neither r.next awaits is) ∙ not_end)
