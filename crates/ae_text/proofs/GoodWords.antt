-- The words of a text that is read are words.
use Rattle.std.proofs.Common.{◌≡◌, ℕ, ◌+◌, true, length, List, [], ◌∷◌, ◌++◌, subst}
use Rattle.ae_text.specs.Tree.{Node, list, fields, Items, no_items, item, Members, no_members, member}
use Rattle.ae_text.specs.Tree as tree
use Rattle.ae_text.specs.Token.{Token, word, number, string, sign, end, bad, Placed, Begins, Stands}
use Rattle.ae_text.specs.WellFormed.{is_word, HasGoodWords, ItemsHaveGoodWords, MembersHaveGoodWords, IsWellFormed}
use Rattle.ae_text.specs.Grammar.{IsValue, AreItems, AreMoreItems, AreFields, IsSentence, Reads}

-- a token that is a word is a word by its letters
abbrev IsGood : Token → Type 0
IsGood (word w) = is_word w ≡ true
IsGood (number n) = Unit {0}
IsGood (string s) = Unit {0}
IsGood (sign b) = Unit {0}
IsGood end = Unit {0}
IsGood bad = Unit {0}

abbrev AreGood : List Placed → Type 0
AreGood [] = Unit {0}
AreGood (p ∷ ps) = IsGood p.token × AreGood ps

one_good : (s after : List ℕ) (t : Token) → Stands s after t → IsGood t
one_good s after (word w) h = h.1
one_good s after (number n) h = tt
one_good s after (string w) h = tt
one_good s after (sign b) h = tt
one_good s after end h = tt
one_good s after bad h = tt

all_good : (from : ℕ) (bytes : List ℕ) (ps : List Placed) → Begins from bytes ps → AreGood ps
all_good from bytes [] h = tt
all_good from bytes (p ∷ ps) (gap, s, after, e, g, at, here, rest) = (one_good s after p.token here, all_good (p.at + length s) after ps rest)

good_parts : (xs ys : List Placed) → AreGood (xs ++ ys) → AreGood xs × AreGood ys
good_parts [] ys h = (tt, h)
good_parts (x ∷ xs) ys h = let o = good_parts xs ys h.1 in ((h.0, o.0), o.1)

good_word : (t : Token) (k : List ℕ) → t ≡ word k → IsGood t → is_word k ≡ true
good_word t k e h = subst IsGood e h

mutual
  value_words : (v : Node) (ps : List Placed) → IsValue ps v → AreGood ps → HasGoodWords v
  value_words (tree.word w) ps (p, e, is) h = let g = subst AreGood e h in good_word p.token w is g.0
  value_words (tree.number n) ps v h = tt
  value_words (tree.str s) ps v h = tt
  value_words (list js) ps (o, inner, c, e, open-is, close-is, items) h =
      let g = subst AreGood e h in items_words js inner items (good_parts inner (c ∷ []) g.1).0
  value_words (fields ms) ps (o, inner, c, e, open-is, close-is, members) h =
      let g = subst AreGood e h in members_words ms inner members (good_parts inner (c ∷ []) g.1).0

  items_words : (js : Items) (ps : List Placed) → AreItems ps js → AreGood ps → ItemsHaveGoodWords js
  items_words no_items ps v h = tt
  items_words (item j js) ps (first, rest, e, one, more) h =
      let g = good_parts first rest (subst AreGood e h) in (value_words j first one g.0, more_words js rest more g.1)

  more_words : (js : Items) (ps : List Placed) → AreMoreItems ps js → AreGood ps → ItemsHaveGoodWords js
  more_words no_items ps v h = tt
  more_words (item j js) ps (comma, first, rest, e, is, one, more) h =
      let all = subst AreGood e h in
      let g = good_parts first rest all.1 in (value_words j first one g.0, more_words js rest more g.1)

  members_words : (ms : Members) (ps : List Placed) → AreFields ps ms → AreGood ps → MembersHaveGoodWords ms
  members_words no_members ps v h = tt
  members_words (member k j ms) ps (name, equals, value, semicolon, rest, e, name-is, equals-is, semicolon-is, one, more) h =
      let all = subst AreGood e h in
      let g = good_parts value (semicolon ∷ rest) all.1.1 in
      (good_word name.token k name-is all.0, value_words j value one g.0, members_words ms rest more g.1.1)

sentence_words : (ms : Members) (places : List ℕ) (ps : List Placed) → IsSentence ps ms places → AreGood ps → MembersHaveGoodWords ms
sentence_words no_members places ps v h = tt
sentence_words (member k j ms) [] ps v h = absurd v
sentence_words (member k j ms) (at ∷ places) ps (name, equals, value, semicolon, rest, e, name-is, equals-is, semicolon-is, one, place, more) h =
    let all = subst AreGood e h in
    let g = good_parts value (semicolon ∷ rest) all.1.1 in
    (good_word name.token k name-is all.0, value_words j value one g.0, sentence_words ms places rest more g.1.1)

pub well_formed : (bytes : List ℕ) (v : Node) (lines : List ℕ) → Reads bytes v lines → IsWellFormed v
well_formed bytes (tree.word w) lines h = h
well_formed bytes (tree.number n) lines h = h
well_formed bytes (tree.str s) lines h = h
well_formed bytes (list js) lines h = h
well_formed bytes (fields ms) lines h = (sentence_words ms h.places h.all h.sentence (all_good 0 bytes h.all h.tokens_are), h.names_differ, h.nests)
