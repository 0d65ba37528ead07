-- What came whole of a text is the front of that text, and says what comes next.
use Rattle.std.proofs.Common.{◌≡◌, ℕ, ◌<◌, ◌^◌, List, [], ◌∷◌, ◌++◌, length, refl, sym, ap, ◌∙◌, arith, append_assoc}
use Rattle.std.specs.List.{flat_map, AllByRecursion}
use Rattle.std.proofs.lemmas.List.{append_cancel_left, append-nil}
use Rattle.hex.specs.Hex.{encode_lower}
use Rattle.sha2.specs.Sha256.{sha256}
use Rattle.std.proofs.lemmas.List.Concat.{flat_map-cons}
use Rattle.ae_base.specs.Words.{cause_word}
use Rattle.ae_base.specs.declared.words.Cause.{Cause}
use Rattle.ae_types.proofs.Clashing.{tails}
use Rattle.ae_bundle.specs.declared.bundle.Bundle.{Bundle}
use Rattle.ae_bundle.specs.declared.bundle.BundleFile.{BundleFile}
use Rattle.ae_bundle.specs.Bundled.{line, counted, brief_label, description_label, cause_label, end_label, file_label, file_part, head_of, front_of, end_of, text_of, FileFits, FitsSoFar, Bundled}
use Rattle.ae_bundle.specs.Reading.{Without, opened, before_brief, before_description, before_cause}
use Rattle.ae_bundle.proofs.Cuts.{cut_once, fronts_once, Without-append, literal-without}
use Rattle.ae_bundle.proofs.Plain.{cause-without}
use Rattle.ae_bundle.proofs.Once.{counted_once, counted-opened, file_once, cause_once, label-no_end, size-low}

-- ---- what is after each part

abbrev pub last_part : Bundle → List ℕ
last_part b = line (end_of (front_of b))

abbrev pub after_cause : Bundle → List ℕ
after_cause b = flat_map file_part b.files ++ last_part b

abbrev pub cause_line : Cause → List ℕ
cause_line cause = line (cause_label ++ cause_word cause)

abbrev pub after_description : Bundle → List ℕ
after_description b = cause_line b.cause ++ after_cause b

abbrev pub after_brief : Bundle → List ℕ
after_brief b = counted description_label b.description ++ after_description b

abbrev pub after_head : Bundle → List ℕ
after_head b = counted brief_label b.brief ++ after_brief b

regroup : (a b c d f e : List ℕ) → ((((a ++ b) ++ c) ++ d) ++ f) ++ e ≡ a ++ (b ++ (c ++ (d ++ (f ++ e))))
regroup a b c d f e = simp append_assoc

pub text_parts : (b : Bundle) → text_of b ≡ before_brief ++ after_head b
text_parts b = regroup before_brief (counted brief_label b.brief) (counted description_label b.description) (cause_line b.cause) (flat_map file_part b.files) (last_part b)

-- ---- the lines before the files

pub after_first : (b : Bundle) (u : List ℕ) → before_brief ++ u ≡ text_of b → u ≡ after_head b
after_first b u e = append_cancel_left before_brief u (after_head b) (e ∙ text_parts b)

pub record SameBrief (d b : Bundle) (u : List ℕ) : Type 0 where
  pub brief : d.brief ≡ b.brief
  pub rest : u ≡ after_brief b

pub brief_same : (d b : Bundle) (u : List ℕ) → FitsSoFar d → FitsSoFar b → before_description d ++ u ≡ text_of b → SameBrief d b u
brief_same d b u fits other e =
    let rest = after_first b (counted brief_label d.brief ++ u) (sym (append_assoc before_brief (counted brief_label d.brief) u) ∙ e) in
    let both = counted_once brief_label d.brief b.brief u (after_brief b) (omega (arith, fits.brief)) (omega (arith, other.brief)) rest in
    record { brief = both.0; rest = both.1 }

pub record SameDescription (d b : Bundle) (u : List ℕ) : Type 0 where
  pub brief : d.brief ≡ b.brief
  pub description : d.description ≡ b.description
  pub rest : u ≡ after_description b

pub description_same : (d b : Bundle) (u : List ℕ) → FitsSoFar d → FitsSoFar b → before_cause d ++ u ≡ text_of b → SameDescription d b u
description_same d b u fits other e =
    let so = brief_same d b (counted description_label d.description ++ u) fits other (sym (append_assoc (before_description d) (counted description_label d.description) u) ∙ e) in
    let both = counted_once description_label d.description b.description u (after_description b) (omega (arith, fits.description)) (omega (arith, other.description)) so.rest in
    record { brief = so.brief; description = both.0; rest = both.1 }

pub cause_line-without : (cause : Cause) → Without 10 (cause_label ++ cause_word cause)
cause_line-without cause = Without-append 10 cause_label (cause_word cause) (literal-without 10 cause_label refl) (cause-without 10 cause (omega arith))

pub cause_line_once : (x y : Cause) (t u : List ℕ) → cause_line x ++ t ≡ cause_line y ++ u → (x ≡ y) × (t ≡ u)
cause_line_once x y t u e =
    let both = cut_once 10 (cause_label ++ cause_word x) (cause_label ++ cause_word y) t u (cause_line-without x) (cause_line-without y)
    (sym (append_assoc (cause_label ++ cause_word x) (10 ∷ []) t) ∙ e ∙ append_assoc (cause_label ++ cause_word y) (10 ∷ []) u) in
    (cause_once x y (append_cancel_left cause_label (cause_word x) (cause_word y) both.0), both.1)

pub record SameHead (d b : Bundle) (u : List ℕ) : Type 0 where
  pub brief : d.brief ≡ b.brief
  pub description : d.description ≡ b.description
  pub cause : d.cause ≡ b.cause
  pub rest : u ≡ after_cause b

pub head_same : (d b : Bundle) (u : List ℕ) → FitsSoFar d → FitsSoFar b → head_of d ++ u ≡ text_of b → SameHead d b u
head_same d b u fits other e =
    let so = description_same d b (cause_line d.cause ++ u) fits other (sym (append_assoc (before_cause d) (cause_line d.cause) u) ∙ e) in
    let both = cause_line_once d.cause b.cause u (after_cause b) so.rest in
    record { brief = so.brief; description = so.description; cause = both.0; rest = both.1 }

-- ---- the files

-- all the files are these and more, and after these stand the parts of those and the last part
pub record GoOn (files all : List BundleFile) (last u : List ℕ) : Type 0 where
  pub more : List BundleFile
  pub are : all ≡ files ++ more
  pub rest : u ≡ flat_map file_part more ++ last

-- the line of the first of some files, its bytes, and what is after them
pub first-opened : (f : BundleFile) (fs : List BundleFile) (u : List ℕ) → flat_map file_part (f ∷ fs) ++ u ≡ opened (file_label f.action f.usage f.path) (length f.bytes) (f.bytes ++ 10 ∷ (flat_map file_part fs ++ u))
first-opened f fs u =
    ap (λ (xs : List ℕ). xs ++ u) (flat_map-cons file_part f fs) ∙ append_assoc (file_part f) (flat_map file_part fs) u
    ∙ counted-opened (file_label f.action f.usage f.path) f.bytes (flat_map file_part fs ++ u)

same_file : (f g : BundleFile) → f.path ≡ g.path → f.action ≡ g.action → f.usage ≡ g.usage → f.bytes ≡ g.bytes → f ≡ g
same_file f g path action usage bytes = λ i. record { path = path i; action = action i; usage = usage i; bytes = bytes i }

pub size-fits : (f : BundleFile) → FileFits f → length f.bytes < 2 ^ 64
size-fits f fits = omega (arith, size-low f.action (length f.bytes) fits.within)

-- the last part isn't a file's
no_file : (f : BundleFile) (fs : List BundleFile) (u digits : List ℕ) → flat_map file_part (f ∷ fs) ++ u ≡ line (end_label ++ digits) → ⊥
no_file f fs u digits e = label-no_end f.action f.usage f.path _ (digits ++ 10 ∷ []) (sym (first-opened f fs u) ∙ e ∙ append_assoc end_label digits (10 ∷ []))

pub files_same : (xs ys : List BundleFile) (digits u : List ℕ) → AllByRecursion FileFits xs → AllByRecursion FileFits ys
    → flat_map file_part xs ++ u ≡ flat_map file_part ys ++ line (end_label ++ digits) → GoOn xs ys (line (end_label ++ digits)) u
files_same [] ys digits u p q e = record { more = ys; are = refl; rest = e }
files_same (x ∷ xs) [] digits u p q e = absurd (no_file x xs u digits e)
files_same (x ∷ xs) (y ∷ ys) digits u p q e =
    let last = line (end_label ++ digits) in
    let one = file_once x.action y.action x.usage y.usage x.path y.path (length x.bytes) (length y.bytes) (x.bytes ++ 10 ∷ (flat_map file_part xs ++ u)) (y.bytes ++ 10 ∷ (flat_map file_part ys ++ last))
    p.0.is_path q.0.is_path (size-fits x p.0) (size-fits y q.0) (sym (first-opened x xs u) ∙ e ∙ first-opened y ys last) in
    let bytes = fronts_once x.bytes y.bytes (10 ∷ (flat_map file_part xs ++ u)) (10 ∷ (flat_map file_part ys ++ last)) one.size one.rest in
    let others = files_same xs ys digits u p.1 q.1 (tails 10 10 _ _ bytes.1) in
    let same : x ≡ y = same_file x y one.path one.action one.usage bytes.0 in
    record { more = others.more; are = ap (λ (f : BundleFile). f ∷ ys) (sym same) ∙ ap (λ (fs : List BundleFile). x ∷ fs) others.are; rest = others.rest }

pub record SameFront (d b : Bundle) (u : List ℕ) : Type 0 where
  pub brief : d.brief ≡ b.brief
  pub description : d.description ≡ b.description
  pub cause : d.cause ≡ b.cause
  pub files : GoOn d.files b.files (last_part b) u

pub front_same : (d b : Bundle) (u : List ℕ) → FitsSoFar d → FitsSoFar b → front_of d ++ u ≡ text_of b → SameFront d b u
front_same d b u fits other e =
    let so = head_same d b (flat_map file_part d.files ++ u) fits other (sym (append_assoc (head_of d) (flat_map file_part d.files) u) ∙ e) in
    record { brief = so.brief; description = so.description; cause = so.cause; files = files_same d.files b.files _ u fits.files other.files so.rest }

-- ---- the whole text

pub same_bundle : (d b : Bundle) → d.brief ≡ b.brief → d.description ≡ b.description → d.cause ≡ b.cause → d.files ≡ b.files → d ≡ b
same_bundle d b brief description cause files = λ i. record { brief = brief i; description = description i; cause = cause i; files = files i }

pub record SameText (d b : Bundle) (u : List ℕ) : Type 0 where
  pub bundle : d ≡ b
  pub rest : u ≡ []

pub text_same : (d b : Bundle) (u : List ℕ) → FitsSoFar d → FitsSoFar b → text_of d ++ u ≡ text_of b → SameText d b u
text_same d b u fits other e =
    let so = front_same d b (last_part d ++ u) fits other (sym (append_assoc (front_of d) (last_part d) u) ∙ e) in
    go so so.files.more so.files.are so.files.rest
  where
    go : SameFront d b (last_part d ++ u) → (more : List BundleFile) → b.files ≡ d.files ++ more → last_part d ++ u ≡ flat_map file_part more ++ last_part b → SameText d b u
    go so [] are rest =
        let same : d ≡ b = same_bundle d b so.brief so.description so.cause (sym (are ∙ append-nil d.files)) in
        record { bundle = same; rest = append_cancel_left (last_part d) u [] (rest ∙ ap last_part (sym same) ∙ sym (append-nil (last_part d))) }
    go so (f ∷ fs) are rest =
        absurd (label-no_end f.action f.usage f.path _ _ (sym (first-opened f fs (last_part b)) ∙ sym rest ∙ ap (λ (xs : List ℕ). xs ++ u) (append_assoc end_label (encode_lower (sha256 (front_of d))) (10 ∷ [])) ∙ append_assoc end_label (encode_lower (sha256 (front_of d)) ++ 10 ∷ []) u))

pub one_bundle : (bytes : List ℕ) (bundle other : Bundle) → Bundled bytes bundle → Bundled bytes other → bundle ≡ other
one_bundle bytes bundle other a b = (text_same bundle other [] a.0.limits b.0.limits (append-nil (text_of bundle) ∙ sym a.1 ∙ b.1)).bundle

pub none_begins : (bytes more : List ℕ) (bundle other : Bundle) → Bundled bytes bundle → Bundled (bytes ++ more) other → more ≡ []
none_begins bytes more bundle other a b = (text_same bundle other more a.0.limits b.0.limits (ap (λ (xs : List ℕ). xs ++ more) (sym a.1) ∙ b.1)).rest
