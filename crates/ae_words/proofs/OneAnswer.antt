-- Words have one answer, and its place is one of theirs or the next.
use Rattle.std.proofs.Common.{◌≡◌, ◌≤◌, ◌<◌, ◌+◌, ◌⊎◌, inl, inr, ℕ, Bool, true, false, List, [], ◌∷◌, Option, Some, None, Result, Ok, Err, refl, sym, subst, ◌∙◌, arith, length}
use Rattle.ae_words.specs.Items.{Word, plain, flag, written, asks, wrong, word, item, items_from, takes_next, items, function, listing}
use Rattle.ae_words.specs.Meaning.{step, blank, is_whole}
use Rattle.ae_words.specs.Grammar.{IsBadItem, IsCommand, IsFirstBad, IsFirstOf, or_as_before, reads}
use Rattle.ae_words.specs.Answer.{CommandOrPlace, OnePlace, PlaceWithin}
use Rattle.ae_words.specs.declared.command.Command.{Command}
use Rattle.ae_words.specs.declared.table.Function.{Function}
use Rattle.ae_words.specs.declared.table.Listing.{Listing}
use Rattle.ae_words.proofs.FirstBad.{in_plain, in_flag, in_option, in_wrong, bad_none, bad_cases, answer_command, answer_missing, answer_bad}

one_of : (o : Option Function) (words : List (List ℕ)) (p q : ℕ) → IsFirstOf o words p → IsFirstOf o words q → p ≡ q
one_of None words p q a b = a ∙ sym b
one_of (Some f) words p q (inl a) (inl b) = let one = a.1 q b.0 in let other = b.1 p a.0 in omega arith
one_of (Some f) words p q (inl a) (inr b) = absurd (b.0 p a.0)
one_of (Some f) words p q (inr a) (inl b) = absurd (a.0 q b.0)
one_of (Some f) words p q (inr a) (inr b) = a.2 ∙ sym b.2

pub one_place : OnePlace
one_place words p q a b = one_of (function words) words p q a b

first_within : (l : Option Listing) (c : Command) (at : ℕ) (w : List ℕ) (k : Word) (ws : List (List ℕ)) (p : ℕ) → step l c (item at w k ws) ≡ Err p → p ≤ at + length ws
first_within l c at w plain ws p e = let h = in_plain l c at w p e in omega arith
first_within l c at w (flag o) ws p e = let h = in_flag l c at o p e in omega arith
first_within l c at w (written o v) ws p e = elim (in_option l c at o at v p e) [ inl h ↦ omega arith | inr h ↦ omega arith ]
first_within l c at w (asks o) [] p e = let h = in_wrong l c at p e in omega arith
first_within l c at w (asks o) (v ∷ vs) p e = elim (in_option l c at o (at + 1) v p e) [ inl h ↦ omega arith | inr h ↦ omega arith ]
first_within l c at w wrong ws p e = let h = in_wrong l c at p e in omega arith

item_within : (l : Option Listing) (c : Command) (at : ℕ) (is_value : Bool) (ws : List (List ℕ)) (q : ℕ) → IsBadItem l c (items_from at is_value ws) q → q < at + length ws
item_within l c at is_value [] q h = absurd (bad_none l c q h)
item_within l c at true (w ∷ ws) q h = let more : q < at + 1 + length ws = item_within l c (at + 1) false ws q h in omega arith
item_within l c at false (w ∷ ws) q h =
    elim (bad_cases l c (item at w (word w) ws) (items_from (at + 1) (takes_next (word w)) ws) q h) [
      | inl e ↦ let here = first_within l c at w (word w) ws q e in omega arith
      | inr later ↦ let more : q < at + 1 + length ws = item_within l (or_as_before c (step l c (item at w (word w) ws))) (at + 1) (takes_next (word w)) ws q later in omega arith
    ]

within_of : (o : Option Function) (words : List (List ℕ)) (p : ℕ) → IsFirstOf o words p → p ≤ length words + 1
within_of None words p is = omega arith
within_of (Some f) [] p (inl bad) = absurd (bad_none (listing []) (blank f) p bad.0)
within_of (Some f) (w ∷ ws) p (inl bad) = let more = item_within (listing (items (w ∷ ws))) (blank f) 2 false ws p bad.0 in omega arith
within_of (Some f) words p (inr missing) = let at = missing.2 in omega arith

pub place_within : PlaceWithin
place_within words p is = within_of (function words) words p is

-- ---- and they have one

module _ (w : List ℕ) (ws : List (List ℕ)) where
  abbrev Has : Type 0
  Has = ((c : Command) × IsCommand (w ∷ ws) c) ⊎ ((place : ℕ) × IsFirstBad (w ∷ ws) place)

  module _ (f : Function) (names : function (w ∷ ws) ≡ Some f) where
    said_or_missing : (c : Command) (whole : Bool) → reads (listing (items_from 2 false ws)) (blank f) (items_from 2 false ws) ≡ Ok c → is_whole c ≡ whole → Has
    said_or_missing c true is all = inl (c, answer_command f w ws names c is all)
    said_or_missing c false is part = inr (length ws + 2, answer_missing f w ws names c is part)

    read_through : (r : Result Command ℕ) → reads (listing (items_from 2 false ws)) (blank f) (items_from 2 false ws) ≡ r → Has
    read_through (Ok c) is = said_or_missing c (is_whole c) is refl
    read_through (Err p) is = inr (p, answer_bad f w ws names p is)

  by_function : (o : Option Function) → function (w ∷ ws) ≡ o → Has
  by_function None none = inr (1, subst (λ (o : Option Function). IsFirstOf o (w ∷ ws) 1) (sym none) refl)
  by_function (Some f) names = read_through f names (reads (listing (items_from 2 false ws)) (blank f) (items_from 2 false ws)) refl

pub command_or_place : CommandOrPlace
command_or_place [] = inr (1, refl)
command_or_place (w ∷ ws) = by_function w ws (function (w ∷ ws)) refl
