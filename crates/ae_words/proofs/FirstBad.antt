-- What is read once through is the command that the words say, or the first bad place.
use Rattle.std.proofs.Common.{◌≡◌, ◌≤◌, ◌+◌, ◌⊎◌, inl, inr, ℕ, Bool, true, false, cond, List, [], ◌∷◌, ◌++◌, Option, Some, None, Result, Ok, Err, refl, sym, ap, subst, ◌∙◌, arith, length, map, string_bytes, String, Global}
use Rattle.ae_words.specs.Items.{Item, a_plain, a_flag, an_option, a_wrong, Word, plain, flag, written, asks, wrong, word, item, items_from, takes_next, function, listing}
use Rattle.ae_words.specs.Meaning.{step, or_bad, may_come, with_flag, with_value, blank, is_whole}
use Rattle.ae_words.specs.Grammar.{IsBadItem, IsBad, IsCommand, IsFirstBad, IsFirstOf, IsFirstIn, or_as_before, said, command, reads, then_read}
use Rattle.ae_words.specs.Seen.{Gives}
use Rattle.ae_words.proofs.Formed.{function_read}
use Rattle.ae_words.specs.Answer.{IsAnswer, IsReadAs}
use Rattle.ae_words.specs.declared.read.WordsError.{WordsError}
use Rattle.ae_words.specs.declared.read.WordsError.TheVariants as error
use Rattle.ae_words.specs.declared.command.Stop.{Stop}
use Rattle.ae_words.specs.declared.command.Stop.TheVariants as stops
use Rattle.ae_words.specs.declared.command.Command.{Command}
use Rattle.ae_words.specs.declared.table.Function.{Function}
use Rattle.ae_words.specs.declared.table.Listing.{Listing}
use Rattle.ae_words.specs.declared.table.Setting.{Setting}

-- ---- the place of an item's bad word

or_bad_place : (at : ℕ) (o : Option Command) (p : ℕ) → or_bad at o ≡ Err p → p ≡ at
or_bad_place at None p e = cc
or_bad_place at (Some c) p e = absurd cc

flag_place : (b : Bool) (c : Command) (at p : ℕ) → cond b (Ok c) (Err at) ≡ Err p → p ≡ at
flag_place true c at p e = absurd cc
flag_place false c at p e = cc

option_place : (b : Bool) (at v_at : ℕ) (o : Option Command) (p : ℕ) → cond b (or_bad v_at o) (Err at) ≡ Err p → (p ≡ at) ⊎ (p ≡ v_at)
option_place true at v_at o p e = inr (or_bad_place v_at o p e)
option_place false at v_at o p e = inl cc

pub in_option : (l : Option Listing) (c : Command) (at : ℕ) (o : Setting) (v_at : ℕ) (v : List ℕ) (p : ℕ) → step l c (an_option at o v_at v) ≡ Err p → (p ≡ at) ⊎ (p ≡ v_at)
unfolding step
in_option l c at o v_at v p e = option_place (may_come l c o) at v_at (with_value o c v) p e

pub in_plain : (l : Option Listing) (c : Command) (at : ℕ) (w : List ℕ) (p : ℕ) → step l c (a_plain at w) ≡ Err p → p ≡ at
unfolding step
in_plain l c at w p e = or_bad_place at _ p e

pub in_flag : (l : Option Listing) (c : Command) (at : ℕ) (o : Setting) (p : ℕ) → step l c (a_flag at o) ≡ Err p → p ≡ at
unfolding step
in_flag l c at o p e = flag_place (may_come l c o) (with_flag o c) at p e

pub in_wrong : (l : Option Listing) (c : Command) (at p : ℕ) → step l c (a_wrong at) ≡ Err p → p ≡ at
unfolding step
in_wrong l c at p e = cc

-- ---- bad items

pub bad_none : (l : Option Listing) (c : Command) (p : ℕ) → IsBadItem l c [] p → ⊥
bad_none l c p h = never h.before h.bad h.after h.split
  where
    never : (before : List Item) (i : Item) (after : List Item) → [] ≡ before ++ i ∷ after → ⊥
    never [] i after e = cc
    never (b ∷ bs) i after e = cc

pub bad_here : (l : Option Listing) (c : Command) (i : Item) (is : List Item) (p : ℕ) → step l c i ≡ Err p → IsBadItem l c (i ∷ is) p
bad_here l c i is p e = record { before = []; bad = i; after = is; split = refl; is_bad = e }

pub bad_later : (l : Option Listing) (c : Command) (i : Item) (is : List Item) (p : ℕ) → IsBadItem l (or_as_before c (step l c i)) is p → IsBadItem l c (i ∷ is) p
bad_later l c i is p h = record { before = i ∷ h.before; bad = h.bad; after = h.after; split = ap (λ (xs : List Item). i ∷ xs) h.split; is_bad = h.is_bad }

pub bad_cases : (l : Option Listing) (c : Command) (i : Item) (is : List Item) (p : ℕ) → IsBadItem l c (i ∷ is) p → (step l c i ≡ Err p) ⊎ IsBadItem l (or_as_before c (step l c i)) is p
bad_cases l c i is p h = at h.before h.bad h.after h.split h.is_bad
  where
    at : (before : List Item) (bad : Item) (after : List Item) → (i ∷ is) ≡ before ++ bad ∷ after → step l (said l c before) bad ≡ Err p → (step l c i ≡ Err p) ⊎ IsBadItem l (or_as_before c (step l c i)) is p
    at [] bad after split is_bad = let same : i ≡ bad = cc in inl (subst (λ (x : Item). step l c x ≡ Err p) (sym same) is_bad)
    at (b ∷ bs) bad after split is_bad =
        let same : b ≡ i = cc in
        let rest : is ≡ bs ++ bad ∷ after = cc in
        inr (record { before = bs; bad = bad; after = after; split = rest; is_bad = subst (λ (x : Item). step l (said l (or_as_before c (step l c x)) bs) bad ≡ Err p) same is_bad })

-- ---- places ascend

first_low : (l : Option Listing) (c : Command) (at : ℕ) (w : List ℕ) (k : Word) (ws : List (List ℕ)) (p : ℕ) → step l c (item at w k ws) ≡ Err p → at ≤ p
first_low l c at w plain ws p e = let h = in_plain l c at w p e in omega arith
first_low l c at w (flag o) ws p e = let h = in_flag l c at o p e in omega arith
first_low l c at w (written o v) ws p e = elim (in_option l c at o at v p e) [ inl h ↦ omega arith | inr h ↦ omega arith ]
first_low l c at w (asks o) [] p e = let h = in_wrong l c at p e in omega arith
first_low l c at w (asks o) (v ∷ vs) p e = elim (in_option l c at o (at + 1) v p e) [ inl h ↦ omega arith | inr h ↦ omega arith ]
first_low l c at w wrong ws p e = let h = in_wrong l c at p e in omega arith

low : (l : Option Listing) (c : Command) (at : ℕ) (is_value : Bool) (ws : List (List ℕ)) (q : ℕ) → IsBadItem l c (items_from at is_value ws) q → at ≤ q
low l c at is_value [] q h = absurd (bad_none l c q h)
low l c at true (w ∷ ws) q h = let more : at + 1 ≤ q = low l c (at + 1) false ws q h in omega arith
low l c at false (w ∷ ws) q h =
    elim (bad_cases l c (item at w (word w) ws) (items_from (at + 1) (takes_next (word w)) ws) q h) [
      | inl e ↦ first_low l c at w (word w) ws q e
      | inr later ↦ let more : at + 1 ≤ q = low l (or_as_before c (step l c (item at w (word w) ws))) (at + 1) (takes_next (word w)) ws q later in omega arith
    ]

first_high : (l : Option Listing) (c d : Command) (at : ℕ) (w : List ℕ) (k : Word) (ws : List (List ℕ)) (p q : ℕ)
    → step l c (item at w k ws) ≡ Err p → IsBadItem l d (items_from (at + 1) (takes_next k) ws) q → p ≤ q
first_high l c d at w plain ws p q e h = let i = in_plain l c at w p e in let more = low l d (at + 1) false ws q h in omega arith
first_high l c d at w (flag o) ws p q e h = let i = in_flag l c at o p e in let more = low l d (at + 1) false ws q h in omega arith
first_high l c d at w (written o v) ws p q e h = let more = low l d (at + 1) false ws q h in elim (in_option l c at o at v p e) [ inl i ↦ omega arith | inr i ↦ omega arith ]
first_high l c d at w (asks o) [] p q e h = absurd (bad_none l d q h)
first_high l c d at w (asks o) (v ∷ vs) p q e h = let more = low l d (at + 1 + 1) false vs q h in elim (in_option l c at o (at + 1) v p e) [ inl i ↦ omega arith | inr i ↦ omega arith ]
first_high l c d at w wrong ws p q e h = let i = in_wrong l c at p e in let more = low l d (at + 1) false ws q h in omega arith

-- ---- what is read is said, and nothing is bad

ok_step : (l : Option Listing) (c : Command) (i : Item) (is : List Item) (d : Command) (r : Result Command ℕ) → step l c i ≡ r → then_read (λ x. reads l x is) r ≡ Ok d
    → ((x : Command) → reads l x is ≡ Ok d → (d ≡ said l x is) × ((p : ℕ) → IsBadItem l x is p → ⊥))
    → (d ≡ said l (or_as_before c r) is) × ((p : ℕ) → IsBadItem l c (i ∷ is) p → ⊥)
ok_step l c i is d (Err p) s h again = absurd cc
ok_step l c i is d (Ok x) s h again =
    let a = again x h in (
      a.0,
      λ p bad. elim (bad_cases l c i is p bad) [
        | inl e ↦ absurd cc
        | inr later ↦ a.1 p (subst (λ (y : Result Command ℕ). IsBadItem l (or_as_before c y) is p) s later)
      ],
    )

pub reads_ok : (l : Option Listing) (c : Command) (is : List Item) (d : Command) → reads l c is ≡ Ok d → (d ≡ said l c is) × ((p : ℕ) → IsBadItem l c is p → ⊥)
unfolding reads
reads_ok l c [] d e = let same : c ≡ d = cc in (sym same, bad_none l c)
reads_ok l c (i ∷ is) d e = ok_step l c i is d (step l c i) refl e (λ x h. reads_ok l x is d h)

-- ---- a place where reading stops is the first bad one

err_step : (l : Option Listing) (c : Command) (at : ℕ) (w : List ℕ) (k : Word) (ws : List (List ℕ)) (p : ℕ) (r : Result Command ℕ)
    → step l c (item at w k ws) ≡ r → then_read (λ x. reads l x (items_from (at + 1) (takes_next k) ws)) r ≡ Err p
    → ((x : Command) → reads l x (items_from (at + 1) (takes_next k) ws) ≡ Err p
    → IsBadItem l x (items_from (at + 1) (takes_next k) ws) p × ((q : ℕ) → IsBadItem l x (items_from (at + 1) (takes_next k) ws) q → p ≤ q))
    → IsBadItem l c (item at w k ws ∷ items_from (at + 1) (takes_next k) ws) p × ((q : ℕ) → IsBadItem l c (item at w k ws ∷ items_from (at + 1) (takes_next k) ws) q → p ≤ q)
err_step l c at w k ws p (Ok x) s h again =
    let a = again x h in
    let rest = items_from (at + 1) (takes_next k) ws in (
      bad_later l c (item at w k ws) rest p (subst (λ (y : Result Command ℕ). IsBadItem l (or_as_before c y) rest p) (sym s) a.0),
      λ q bad. elim (bad_cases l c (item at w k ws) rest q bad) [
        | inl e ↦ absurd cc
        | inr later ↦ a.1 q (subst (λ (y : Result Command ℕ). IsBadItem l (or_as_before c y) rest q) s later)
      ],
    )
err_step l c at w k ws p (Err o) s h again =
    let stops : step l c (item at w k ws) ≡ Err p = s ∙ h in
    let rest = items_from (at + 1) (takes_next k) ws in (
      bad_here l c (item at w k ws) rest p stops,
      λ q bad. elim (bad_cases l c (item at w k ws) rest q bad) [
        | inl e ↦ let same : p ≡ q = cc in omega arith
        | inr later ↦ first_high l c (or_as_before c (step l c (item at w k ws))) at w k ws p q stops later
      ],
    )

pub reads_err : (l : Option Listing) (c : Command) (at : ℕ) (is_value : Bool) (ws : List (List ℕ)) (p : ℕ) → reads l c (items_from at is_value ws) ≡ Err p
    → IsBadItem l c (items_from at is_value ws) p × ((q : ℕ) → IsBadItem l c (items_from at is_value ws) q → p ≤ q)
unfolding reads
reads_err l c at is_value [] p e = absurd cc
reads_err l c at true (w ∷ ws) p e = reads_err l c (at + 1) false ws p e
reads_err l c at false (w ∷ ws) p e =
    err_step l c at w (word w) ws p (step l c (item at w (word w) ws)) refl e (λ x h. reads_err l x (at + 1) (takes_next (word w)) ws p h)

-- ---- turns of the loop

pub turn : (l : Option Listing) (c d : Command) (i : Item) (is all : List Item) → all ≡ i ∷ is → step l c i ≡ Ok d → reads l c all ≡ reads l d is
unfolding reads
turn l c d i is all split s = rw (split, s) refl

pub stop : (l : Option Listing) (c : Command) (i : Item) (is all : List Item) (s : Stop) → all ≡ i ∷ is → Gives (Err s) (step l c i) → Gives (Err s) (reads l c all)
unfolding reads
stop l c i is all (stops.Bad p) split s = rw (split, s) refl
stop l c i is all stops.Memory split s = tt

pub ended : (l : Option Listing) (c : Command) (all : List Item) → all ≡ [] → reads l c all ≡ Ok c
unfolding reads
ended l c all e = rw e refl

pub told_so : (s : Stop) (l m : Option Listing) (c d : Command) (is js : List Item) → reads l c is ≡ reads l d js → l ≡ m → Gives (Err s) (reads l c is) → Gives (Err s) (reads m d js)
told_so s l m c d is js same named h = subst (λ (r : Result Command ℕ). Gives (Err s) r) (same ∙ ap (λ (x : Option Listing). reads x d js) named) h

pub said_so : (l m : Option Listing) (c d : Command) (is js : List Item) → reads l c is ≡ reads l d js → l ≡ m → is ≡ [] → reads m d js ≡ Ok c
said_so l m c d is js same named none = sym (same ∙ ap (λ (x : Option Listing). reads x d js) named) ∙ ended l c is none

pub no_words : (at : ℕ) (ws : List (String Global)) → ws ≡ [] → items_from at false (map string_bytes ws) ≡ []
no_words at [] e = refl
no_words at (w ∷ ws) e = absurd cc

-- ---- answers

module _ (f : Function) (first : List ℕ) (behind : List (List ℕ)) (names : function (first ∷ behind) ≡ Some f) where
  first_bad : (place : ℕ) → IsFirstIn f (first ∷ behind) place → IsFirstBad (first ∷ behind) place
  first_bad place h = subst (λ (o : Option Function). IsFirstOf o (first ∷ behind) place) (sym names) h

  pub answer_command : (c : Command) → reads (listing (items_from 2 false behind)) (blank f) (items_from 2 false behind) ≡ Ok c → is_whole c ≡ true → IsCommand (first ∷ behind) c
  answer_command c e whole =
      let h = reads_ok (listing (items_from 2 false behind)) (blank f) (items_from 2 false behind) c e in
      let words = first ∷ behind in
      let same : f ≡ c.function = function_read (listing (items_from 2 false behind)) f c (items_from 2 false behind) e in
      record {
        names = subst (λ (x : Function). function words ≡ Some x) same names;
        good = subst (λ (x : Function). (place : ℕ) → IsBad x words place → ⊥) same h.1;
        says = subst (λ (x : Function). c ≡ command x words) same h.0;
        whole = whole;
      }

  pub answer_missing : (c : Command) → reads (listing (items_from 2 false behind)) (blank f) (items_from 2 false behind) ≡ Ok c → is_whole c ≡ false → IsFirstBad (first ∷ behind) (length behind + 2)
  answer_missing c e part =
      let h = reads_ok (listing (items_from 2 false behind)) (blank f) (items_from 2 false behind) c e in
      first_bad (length behind + 2) (inr (h.1, ap is_whole (sym h.0) ∙ part, omega arith))

  pub answer_bad : (p : ℕ) → reads (listing (items_from 2 false behind)) (blank f) (items_from 2 false behind) ≡ Err p → IsFirstBad (first ∷ behind) p
  answer_bad p e = first_bad p (inl (reads_err (listing (items_from 2 false behind)) (blank f) 2 false behind p e))

-- ---- words have one answer

pub one_command : (words : List (List ℕ)) (c d : Command) → IsCommand words c → IsCommand words d → c ≡ d
one_command words c d h k =
    let same : Some c.function ≡ Some d.function = sym h.names ∙ k.names in
    let f : c.function ≡ d.function = cc in
    h.says ∙ ap (λ (x : Function). command x words) f ∙ sym k.says

pub never_both : (words : List (List ℕ)) (c : Command) (place : ℕ) → IsCommand words c → IsFirstBad words place → ⊥
never_both words c place h k = one (subst (λ (o : Option Function). IsFirstOf o words place) h.names k)
  where
    one : IsFirstIn c.function words place → ⊥
    one (inl b) = h.good place b.0
    one (inr b) =
        let whole : is_whole (command c.function words) ≡ true = ap is_whole (sym h.says) ∙ h.whole in
        absurd (cc (whole, b.1))

pub only : (words : List (List ℕ)) (r : Result Command WordsError) → IsAnswer words r → (c : Command) → IsCommand words c → IsReadAs c r
only words (Ok d) a c h = one_command words d c a h
only words (Err (error.Bad p)) a c h = never_both words c a.0 h a.1
only words (Err error.Memory) a c h = tt
