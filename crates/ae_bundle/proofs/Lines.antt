-- The line, or the bytes, that stand in a text after what came whole.
use Rattle.std.proofs.Common.{◌≡◌, ℕ, ◌<◌, ◌≤◌, ◌^◌, List, [], ◌∷◌, ◌++◌, length, refl, sym, ap, subst, ◌∙◌, arith, append_assoc, length-append}
use Rattle.std.specs.List.{flat_map, AllByRecursion}
use Rattle.std.specs.Fmt.{decimal}
use Rattle.std.proofs.lemmas.List.{append-nil}
use Rattle.hex.specs.Hex.{encode_lower}
use Rattle.sha2.specs.Sha256.{sha256}
use Rattle.ae_base.specs.Words.{cause_word}
use Rattle.ae_types.proofs.Clashing.{heads}
use Rattle.ae_bundle.specs.declared.bundle.Bundle.{Bundle}
use Rattle.ae_bundle.specs.declared.bundle.BundleFile.{BundleFile}
use Rattle.ae_bundle.specs.declared.fields.FileLine.{FileLine}
use Rattle.ae_bundle.specs.Bundled.{line, counted, first_line, brief_label, description_label, cause_label, end_label, file_label, front_of, end_of, text_of, file_part, FitsFile, FileFits, FitsSoFar}
use Rattle.ae_bundle.specs.Reading.{Without, opened, before_brief, before_description, before_cause, most_line_bytes}
use Rattle.ae_bundle.proofs.Cuts.{cut_once, cut_within, cut_nowhere, fronts_once, Without-append, literal-without}
use Rattle.ae_bundle.proofs.Plain.{decimal-without, hex-without}
use Rattle.ae_bundle.proofs.Once.{opened_once, counted-opened, line-without, file_once, label-no_end, size-low}
use Rattle.ae_bundle.proofs.Lengths.{digits-short, cause-short, line-length, end-length}
use Rattle.ae_bundle.proofs.Way.{after_first, after_head, after_brief, after_description, after_cause, text_parts, brief_same, description_same, front_same, SameFront, last_part, first-opened, size-fits, cause_line-without, same_bundle}

-- ---- lines

-- a line of no more bytes than one may have stands first
pub record HasLine (u text : List ℕ) : Type 0 where
  pub after : List ℕ
  pub is : u ≡ text ++ 10 ∷ after
  pub whole : Without 10 text
  pub short : length text ≤ most_line_bytes

-- what came with its end is that line
pub line_is : (u text held more : List ℕ) → HasLine u text → u ≡ held ++ 10 ∷ more → Without 10 held → held ≡ text
line_is u text held more has is none = (cut_once 10 held text more has.after none has.whole (sym is ∙ has.is)).0

-- what came without its end has no more bytes than a line may have
pub line_short : (u text held more : List ℕ) → HasLine u text → u ≡ held ++ more → Without 10 held → most_line_bytes < length held → ⊥
line_short u text held more has is none long = cut_within 10 text held has.after more (sym has.is ∙ is) (omega (arith, has.short, long)) none

-- and isn't all
pub line_ends : (u text : List ℕ) → HasLine u text → Without 10 u → ⊥
line_ends u text has none = cut_nowhere 10 text u has.after (sym has.is) none

counted-line : (u label bytes after : List ℕ) → Without 10 label → length label ≤ 12 → length bytes ≤ 65536 → u ≡ counted label bytes ++ after → HasLine u (label ++ decimal (length bytes))
counted-line u label bytes after none short low is = record {
  after = bytes ++ 10 ∷ after;
  is = is ∙ counted-opened label bytes after ∙ sym (append_assoc label (decimal (length bytes)) (10 ∷ (bytes ++ 10 ∷ after)));
  whole = Without-append 10 label (decimal (length bytes)) none (decimal-without 10 (length bytes) (omega arith) (omega (arith, low)));
  short = omega (arith, length-append label (decimal (length bytes)), digits-short (length bytes) (omega (arith, low)));
}

pub head_line : (b : Bundle) (u : List ℕ) → u ≡ text_of b → HasLine u first_line
head_line b u e = record {
  after = after_head b;
  is = e ∙ text_parts b ∙ append_assoc first_line (10 ∷ []) (after_head b);
  whole = literal-without 10 first_line refl;
  short = omega arith;
}

pub brief_line : (b : Bundle) (u : List ℕ) → FitsSoFar b → before_brief ++ u ≡ text_of b → HasLine u (brief_label ++ decimal (length b.brief))
brief_line b u fits e = counted-line u brief_label b.brief (after_brief b) (literal-without 10 brief_label refl) (omega arith) (omega (arith, fits.brief)) (after_first b u e)

pub description_line : (d b : Bundle) (u : List ℕ) → FitsSoFar d → FitsSoFar b → before_description d ++ u ≡ text_of b → HasLine u (description_label ++ decimal (length b.description))
description_line d b u fits other e = counted-line u description_label b.description (after_description b) (literal-without 10 description_label refl) (omega arith) (omega (arith, other.description)) (brief_same d b u fits other e).rest

pub cause_line_in : (d b : Bundle) (u : List ℕ) → FitsSoFar d → FitsSoFar b → before_cause d ++ u ≡ text_of b → HasLine u (cause_label ++ cause_word b.cause)
cause_line_in d b u fits other e = record {
  after = after_cause b;
  is = (description_same d b u fits other e).rest ∙ append_assoc (cause_label ++ cause_word b.cause) (10 ∷ []) (after_cause b);
  whole = cause_line-without b.cause;
  short = omega (arith, length-append cause_label (cause_word b.cause), cause-short b.cause);
}

-- the parts of these files, and the last part
abbrev parts_of : List BundleFile → Bundle → List ℕ
parts_of files b = flat_map file_part files ++ last_part b

-- the line of a file, and its bytes
pub record IsNextFile (d b : Bundle) (u : List ℕ) (f : BundleFile) (fs : List BundleFile) : Type 0 where
  pub are : b.files ≡ d.files ++ f ∷ fs
  pub fits : FileFits f
  pub is : u ≡ opened (file_label f.action f.usage f.path) (length f.bytes) (f.bytes ++ 10 ∷ parts_of fs b)
  pub line : HasLine u (file_label f.action f.usage f.path ++ decimal (length f.bytes))

-- a file's line stands there, or the last one
pub data NextLine (d b : Bundle) (u : List ℕ) : Type 0 where
  of_file : (f : BundleFile) (fs : List BundleFile) → IsNextFile d b u f fs → NextLine d b u
  of_end : d ≡ b → HasLine u (end_of (front_of d)) → NextLine d b u

fit-first : (xs : List BundleFile) (f : BundleFile) (fs : List BundleFile) → AllByRecursion FileFits (xs ++ f ∷ fs) → FileFits f
fit-first [] f fs all = all.0
fit-first (x ∷ xs) f fs all = fit-first xs f fs all.1

end-without : (front : List ℕ) → Without 10 (end_of front)
end-without front = Without-append 10 end_label (encode_lower (sha256 front)) (literal-without 10 end_label refl) (hex-without 10 (sha256 front) (omega arith) (omega arith))

end-line : (u front : List ℕ) → u ≡ line (end_of front) → HasLine u (end_of front)
end-line u front is = record { after = []; is = is; whole = end-without front; short = omega (arith, end-length front) }

pub file_line : (d b : Bundle) (u : List ℕ) → FitsSoFar d → FitsSoFar b → front_of d ++ u ≡ text_of b → NextLine d b u
file_line d b u fits other e = let so = front_same d b u fits other e in go so so.files.more so.files.are so.files.rest
  where
    go : SameFront d b u → (more : List BundleFile) → b.files ≡ d.files ++ more → u ≡ flat_map file_part more ++ last_part b → NextLine d b u
    go so [] are rest =
        let same : d ≡ b = same_bundle d b so.brief so.description so.cause (sym (are ∙ append-nil d.files)) in
        of_end same (end-line u (front_of d) (rest ∙ ap last_part (sym same)))
    go so (f ∷ fs) are rest =
        let fit : FileFits f = fit-first d.files f fs (subst (AllByRecursion FileFits) are other.files) in
        let is = rest ∙ first-opened f fs (last_part b) in
        of_file f fs (record {
          are = are;
          fits = fit;
          is = is;
          line = record {
            after = f.bytes ++ 10 ∷ parts_of fs b;
            is = is ∙ sym (append_assoc (file_label f.action f.usage f.path) (decimal (length f.bytes)) (10 ∷ (f.bytes ++ 10 ∷ parts_of fs b)));
            whole = line-without f.action f.usage f.path (length f.bytes) fit.is_path (size-fits f fit);
            short = line-length f.action f.usage f.path (length f.bytes) fit;
          };
        })

-- ---- bytes

-- so many bytes, and a line end after them
pub record HasBytes (size : ℕ) (w : List ℕ) : Type 0 where
  pub bytes : List ℕ
  pub after : List ℕ
  pub count : size ≡ length bytes
  pub is : w ≡ bytes ++ 10 ∷ after

-- after that many a line end stands
pub bytes_end : (size : ℕ) (held : List ℕ) (c : ℕ) (more : List ℕ) → HasBytes size (held ++ c ∷ more) → length held ≡ size → c ≡ 10
bytes_end size held c more has full = heads c 10 more has.after (fronts_once held has.bytes (c ∷ more) (10 ∷ has.after) (full ∙ has.count) has.is).1

-- that many aren't all
pub bytes_go_on : (size : ℕ) (held : List ℕ) → HasBytes size held → length held ≤ size → ⊥
bytes_go_on size held has few = absurd (omega (arith, ap length has.is, length-append has.bytes (10 ∷ has.after), has.count, few))

counted-bytes : (label bytes after : List ℕ) (size : ℕ) (w : List ℕ) → size < 2 ^ 64 → length bytes < 2 ^ 64 → opened label size w ≡ counted label bytes ++ after → HasBytes size w
counted-bytes label bytes after size w low high e =
    let both = opened_once label size (length bytes) w (bytes ++ 10 ∷ after) low high (e ∙ counted-opened label bytes after) in
    record { bytes = bytes; after = after; count = both.0; is = both.1 }

pub brief_bytes : (b : Bundle) (size : ℕ) (w : List ℕ) → size < 2 ^ 64 → FitsSoFar b → before_brief ++ opened brief_label size w ≡ text_of b → HasBytes size w
brief_bytes b size w low fits e = counted-bytes brief_label b.brief (after_brief b) size w low (omega (arith, fits.brief)) (after_first b (opened brief_label size w) e)

pub description_bytes : (d b : Bundle) (size : ℕ) (w : List ℕ) → size < 2 ^ 64 → FitsSoFar d → FitsSoFar b → before_description d ++ opened description_label size w ≡ text_of b → HasBytes size w
description_bytes d b size w low fits other e = counted-bytes description_label b.description (after_description b) size w low (omega (arith, other.description)) (brief_same d b (opened description_label size w) fits other e).rest

pub file_bytes : (d b : Bundle) (file : FileLine) (w : List ℕ) → FitsFile file.action file.usage file.path file.size → FitsSoFar d → FitsSoFar b
    → front_of d ++ opened (file_label file.action file.usage file.path) file.size w ≡ text_of b → HasBytes file.size w
file_bytes d b file w file_fits fits other e = go (file_line d b u fits other e)
  where
    u : List ℕ
    u = opened (file_label file.action file.usage file.path) file.size w

    low : file.size < 2 ^ 64
    low = omega (arith, size-low file.action file.size file_fits.within)

    go : NextLine d b (opened (file_label file.action file.usage file.path) file.size w) → HasBytes file.size w
    go (of_file f fs is) =
        let one = file_once file.action f.action file.usage f.usage file.path f.path file.size (length f.bytes) w (f.bytes ++ 10 ∷ parts_of fs b) file_fits.is_path is.fits.is_path low (size-fits f is.fits) is.is in
        record { bytes = f.bytes; after = parts_of fs b; count = one.size; is = one.rest }
    go (of_end same has) =
        absurd (label-no_end file.action file.usage file.path _ _ (has.is ∙ append_assoc end_label (encode_lower (sha256 (front_of d))) (10 ∷ has.after)))
