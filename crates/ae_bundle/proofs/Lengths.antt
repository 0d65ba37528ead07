-- No text is longer than the limit, nor is what came of one.
use Rattle.std.proofs.Common.{◌≡◌, ℕ, ◌+◌, ◌*◌, ◌≤◌, List, [], ◌∷◌, ◌++◌, length, ap, arith, length-append}
use Rattle.std.specs.List.{flat_map, AllByRecursion}
use Rattle.std.specs.Fmt.{decimal}
use Rattle.std.proofs.lemmas.Fmt.{length-decimal-le}
use Rattle.std.proofs.lemmas.List.Concat.{flat_map-cons}
use Rattle.hex.specs.Hex.{encode_lower, lower_digits}
use Rattle.hex.proofs.HexLemmas.{length-encode_with}
use Rattle.sha2.specs.Sha256.{sha256}
use Rattle.sha2.proofs.Facts256.{length-sha256}
use Rattle.ae_base.specs.Names.{IsPath}
use Rattle.ae_base.specs.Words.{action_word, usage_word, cause_word}
use Rattle.ae_base.specs.declared.words.Action.{Action}
use Rattle.ae_base.specs.declared.words.Action.TheVariants as action
use Rattle.ae_base.specs.declared.words.Usage.{Usage}
use Rattle.ae_base.specs.declared.words.Usage.TheVariants as usage
use Rattle.ae_base.specs.declared.words.Cause.{Cause}
use Rattle.ae_base.specs.declared.words.Cause.TheVariants as cause
use Rattle.ae_bundle.specs.declared.bundle.Bundle.{Bundle}
use Rattle.ae_bundle.specs.declared.bundle.BundleFile.{BundleFile}
use Rattle.ae_bundle.specs.declared.reading.Next.{Next}
use Rattle.ae_bundle.specs.declared.reading.Next.TheVariants as comes
use Rattle.ae_bundle.specs.declared.reading.Reading.{Reading}
use Rattle.ae_bundle.specs.Bundled.{line, counted, brief_label, description_label, cause_label, end_label, file_label, file_part, head_of, front_of, end_of, text_of, bytes_of, FitsFile, FileFits, FitsSoFar, Bundled, most_text_bytes}
use Rattle.ae_bundle.specs.Reading.{opened, before, begun, fed, before_brief, before_description, before_cause, IsGood, IsBegun}
use Rattle.ae_bundle.proofs.Plain.{path-short}
use Rattle.ae_bundle.proofs.Once.{size-low}

-- ---- parts

action-short : (a : Action) → length (action_word a) ≤ 6
action-short action.Create = omega arith
action-short action.Modify = omega arith
action-short action.Remove = omega arith

usage-short : (u : Usage) → length (usage_word u) ≤ 6
usage-short usage.Source = omega arith
usage-short usage.Config = omega arith
usage-short usage.Test = omega arith

pub cause-short : (c : Cause) → length (cause_word c) ≤ 20
cause-short cause.ExternalBug = omega arith
cause-short cause.ExternalEnhancement = omega arith
cause-short cause.ExternalImprovement = omega arith
cause-short cause.InternalBug = omega arith
cause-short cause.InternalEnhancement = omega arith
cause-short cause.InternalImprovement = omega arith
cause-short cause.Chain = omega arith

-- digits of a number of at most seven
pub digits-short : (n : ℕ) → n ≤ 4194304 → length (decimal n) ≤ 7
digits-short n low = length-decimal-le 7 n (omega arith) (omega (arith, low)) (omega (arith, low))

opened-length : (label : List ℕ) (n : ℕ) (held : List ℕ) → n ≤ 4194304 → length (opened label n held) ≤ length label + 8 + length held
opened-length label n held low = omega (arith, length-append label (decimal n ++ 10 ∷ held), length-append (decimal n) (10 ∷ held), digits-short n low)

counted-length : (label bytes : List ℕ) → length bytes ≤ 4194304 → length (counted label bytes) ≤ length label + 9 + length bytes
counted-length label bytes low = omega (arith, length-append label (decimal (length bytes) ++ 10 ∷ (bytes ++ 10 ∷ [])), length-append (decimal (length bytes)) (10 ∷ (bytes ++ 10 ∷ [])), length-append bytes (10 ∷ []), digits-short (length bytes) low)

label-length : (a : Action) (u : Usage) (p : List ℕ) → IsPath p → length (file_label a u p) ≤ 270
label-length a u p is = omega (arith, length-append (action_word a) (32 ∷ (usage_word u ++ 32 ∷ (p ++ 32 ∷ []))), length-append (usage_word u) (32 ∷ (p ++ 32 ∷ [])), length-append p (32 ∷ []), action-short a, usage-short u, path-short p is)

-- a file's line has at most 277 bytes
pub line-length : (a : Action) (u : Usage) (p : List ℕ) (n : ℕ) → FitsFile a u p n → length (file_label a u p ++ decimal n) ≤ 277
line-length a u p n fits = omega (arith, length-append (file_label a u p) (decimal n), label-length a u p fits.is_path, digits-short n (size-low a n fits.within))

part-length : (f : BundleFile) → FileFits f → length (file_part f) ≤ 279 + length f.bytes
part-length f fits = omega (arith, counted-length (file_label f.action f.usage f.path) f.bytes (size-low f.action (length f.bytes) fits.within), label-length f.action f.usage f.path fits.is_path)

files-length : (fs : List BundleFile) → AllByRecursion FileFits fs → length (flat_map file_part fs) ≤ 279 * length fs + bytes_of fs
files-length [] fit = omega arith
files-length (f ∷ fs) fit = omega (arith, ap length (flat_map-cons file_part f fs), length-append (file_part f) (flat_map file_part fs), part-length f fit.0, files-length fs fit.1)

pub first-length : length before_brief ≤ 15
first-length = omega arith

description-length : (d : Bundle) → FitsSoFar d → length (before_description d) ≤ 65566
description-length d fits = omega (arith, length-append before_brief (counted brief_label d.brief), counted-length brief_label d.brief (omega (arith, fits.brief)), fits.brief)

cause-length : (d : Bundle) → FitsSoFar d → length (before_cause d) ≤ 131123
cause-length d fits = omega (arith, length-append (before_description d) (counted description_label d.description), counted-length description_label d.description (omega (arith, fits.description)), fits.description, description-length d fits)

head-length : (d : Bundle) → FitsSoFar d → length (head_of d) ≤ 131150
head-length d fits = omega (arith, length-append (before_cause d) (line (cause_label ++ cause_word d.cause)), length-append (cause_label ++ cause_word d.cause) (10 ∷ []), length-append cause_label (cause_word d.cause), cause-short d.cause, cause-length d fits)

front-length : (d : Bundle) → FitsSoFar d → length (front_of d) ≤ 131150 + 279 * length d.files + bytes_of d.files
front-length d fits = omega (arith, length-append (head_of d) (flat_map file_part d.files), head-length d fits, files-length d.files fits.files)

pub end-length : (front : List ℕ) → length (end_of front) ≡ 68
end-length front = omega (arith, length-append end_label (encode_lower (sha256 front)), length-encode_with lower_digits (sha256 front), length-sha256 front)

text-length : (d : Bundle) → FitsSoFar d → length (text_of d) ≤ most_text_bytes
text-length d fits = omega (arith, length-append (front_of d) (line (end_of (front_of d))), length-append (end_of (front_of d)) (10 ∷ []), end-length (front_of d), front-length d fits, fits.few, fits.bytes)

pub text_bounded : (bytes : List ℕ) (bundle : Bundle) → Bundled bytes bundle → length bytes ≤ most_text_bytes
text_bounded bytes bundle is = omega (arith, ap length is.1, text-length bundle is.0.limits)

-- ---- what came

so_far : (n : Next) (d : Bundle) (held : List ℕ) → FitsSoFar d → IsBegun n d held → length (before n d ++ begun n held) ≤ most_text_bytes
so_far comes.Head d held fits is = omega (arith, is.line.short)
so_far comes.Brief d held fits is = omega (arith, length-append before_brief held, first-length, is.line.short)
so_far (comes.BriefBytes size) d held fits is = omega (arith, length-append before_brief (opened brief_label size held), first-length, opened-length brief_label size held (omega (arith, is.within)), is.begun, is.within)
so_far comes.Description d held fits is = omega (arith, length-append (before_description d) held, description-length d fits, is.line.short)
so_far (comes.DescriptionBytes size) d held fits is = omega (arith, length-append (before_description d) (opened description_label size held), description-length d fits, opened-length description_label size held (omega (arith, is.within)), is.begun, is.within)
so_far comes.Cause d held fits is = omega (arith, length-append (before_cause d) held, cause-length d fits, is.line.short)
so_far comes.File d held fits is = omega (arith, length-append (front_of d) held, front-length d fits, fits.few, fits.bytes, is.short)
so_far (comes.FileBytes file) d held fits is =
    let label = file_label file.action file.usage file.path in
    let low : file.size ≤ 4194304 = size-low file.action file.size is.may.fits.within in
    omega (arith, length-append (front_of d) (opened label file.size held), front-length d fits, opened-length label file.size held low, label-length file.action file.usage file.path is.may.fits.is_path, is.begun, is.may.follows.room, is.may.follows.bytes)
so_far comes.End d held fits is = omega (arith, length-append (text_of d) [], text-length d fits)

pub fed-bounded : (r : Reading) → IsGood r → length (fed r) ≤ most_text_bytes
fed-bounded r good = so_far r.next r.draft r.held.items good.limits good.begun
