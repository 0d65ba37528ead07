-- Who passed a change, by its history, is who made the last pass of its course.
use Rattle.std.proofs.Common.{◌≡◌, ℕ, refl, sym, ◌∙◌, ap, List, [], ◌∷◌, ◌++◌, Bool, false, Option, Some, None}
use Rattle.std.specs.Prelude.{is_some}
use Rattle.std.proofs.lemmas.Bool.{false≢true}
use Rattle.ae_base.specs.declared.words.What.{What}
use Rattle.ae_base.specs.declared.words.What.TheVariants.{ReviewPass, DevelopEnd}
use Rattle.ae_types.specs.declared.change.HistoryRow.{HistoryRow}
use Rattle.ae_types.specs.Phases.{is_passed, passed_after, passed_by}
use Rattle.ae_log.specs.declared.event.EventKind.{EventKind}
use Rattle.ae_log.specs.declared.event.EventKind.TheVariants as on
use Rattle.ae_log.specs.Log.{Happened, Course, makes, marked, standing}
use Rattle.ae_log.specs.People.{reviewer_mark}
use Rattle.ae_log.specs.Phases.{word_of, with_row, history}
use Rattle.ae_log.specs.Maker.{Maker, maker_of}
use Rattle.ae_log.proofs.RunSteps.{standing-makes}
use Rattle.ae_machine.specs.Provenance.{pass_or_end_mark}
use Rattle.ae_audit.specs.Review.{passer_after, passer_from, passer_of}

-- one more row
pub passed-more : (earlier : Option (List ℕ)) (rows : List HistoryRow) (row : HistoryRow) → passer_from earlier (rows ++ row ∷ []) ≡ passer_after row.what row.who (passer_from earlier rows)
passed-more earlier [] row = refl
passed-more earlier (first ∷ rows) row = passed-more (passer_after first.what first.who earlier) rows row

-- somebody passed it exactly where its rows say that its review passed
word-passed : (word : What) (who : List ℕ) (earlier : Option (List ℕ)) → is_some (passer_after word who earlier) ≡ passed_by word (is_some earlier)
word-passed ReviewPass who earlier = refl
word-passed DevelopEnd who earlier = refl
word-passed _ who earlier = refl

rows-passed : (earlier : Option (List ℕ)) (rows : List HistoryRow) → is_some (passer_from earlier rows) ≡ passed_after (is_some earlier) rows
rows-passed earlier [] = refl
rows-passed earlier (row ∷ rows) = rows-passed (passer_after row.what row.who earlier) rows ∙ ap (λ (b : Bool). passed_after b rows) (word-passed row.what row.who earlier)

-- so nobody did where they don't
pub passed-by-nobody : (rows : List HistoryRow) → is_passed rows ≡ false → passer_of rows ≡ None
passed-by-nobody rows unpassed = go (passer_of rows) (rows-passed None rows ∙ unpassed)
  where
    go : (found : Option (List ℕ)) → is_some found ≡ false → found ≡ None
    go None e = refl
    go (Some user) e = absurd (false≢true (sym e))

-- what a word makes of who passed it
abbrev word_after : Option What → List ℕ → Option (List ℕ) → Option (List ℕ)
word_after (Some word) who earlier = passer_after word who earlier
word_after None who earlier = earlier

with-word : (word : Option What) (maker : Maker) (rows : List HistoryRow) → passer_of (with_row word maker rows) ≡ word_after word maker.who (passer_of rows)
with-word (Some word) maker rows = passed-more None rows (record { what = word; who = maker.who; when = maker.when; why = maker.why })
with-word None maker rows = refl

-- ---- the last pass or end of a course

abbrev pub passer_in : EventKind → List ℕ → Option (List ℕ)
passer_in on.Pass who = Some who
passer_in _ who = None

abbrev pub passer : Option Happened → Option (List ℕ)
passer (Some happened) = passer_in happened.event.what happened.event.who
passer None = None

one-more : (kind : EventKind) (h : Happened) (earlier : Option Happened) → h.event.what ≡ kind → word_after (word_of kind) h.event.who (passer earlier) ≡ passer (marked (pass_or_end_mark kind) h earlier)
one-more on.Pass h earlier is = sym (ap (λ (k : EventKind). passer_in k h.event.who) is)
one-more (on.End tree to places) h earlier is = sym (ap (λ (k : EventKind). passer_in k h.event.who) is)
one-more _ h earlier is = refl

pub passed-course : (ss : Course) → passer_of (history ss) ≡ passer (standing pass_or_end_mark ss)
passed-course [] = refl
passed-course (h ∷ ss) =
    with-word (word_of h.event.what) (maker_of h.event) (history ss)
    ∙ ap (word_after (word_of h.event.what) h.event.who) (passed-course ss)
    ∙ one-more h.event.what h (standing pass_or_end_mark ss) refl

-- ---- a pass that stands

is-pass : (kind : EventKind) → reviewer_mark kind ≡ makes → kind ≡ on.Pass
is-pass on.Pass e = refl
is-pass _ e = cc

-- its maker is who passed the change, where no end is later
pub pass-passed : (ss : Course) (pass : Happened) → standing reviewer_mark ss ≡ Some pass → standing pass_or_end_mark ss ≡ Some pass → passer_of (history ss) ≡ Some pass.event.who
pass-passed ss pass stands last =
    passed-course ss ∙ ap passer last ∙ ap (λ (k : EventKind). passer_in k pass.event.who) (is-pass pass.event.what (standing-makes reviewer_mark ss pass stands))
