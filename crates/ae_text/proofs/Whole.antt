-- The reader against the grammar.
use Rattle.std.proofs.Common.{◌≡◌, ℕ, suc, ◌⊎◌, inl, inr, true, false, length, arith, List, [], ◌∷◌, ◌++◌, Result, Ok, Err, refl, sym, ap, subst, ◌∙◌, map}
use Rattle.ae_text.specs.Tree.{Node, list, fields, Members}
use Rattle.ae_text.specs.Tree as tree
use Rattle.ae_text.specs.Token.{Placed}
use Rattle.ae_text.specs.WellFormed.{max_depth}
use Rattle.ae_text.specs.Grammar.{Reads, ReadsFields, line_of}
use Rattle.ae_text.specs.Wrong.{IsWrongAt, IsSyntax, IsTooDeep}
use Rattle.ae_text.proofs.Shaped.{shaped, names_of, depth_of}
use Rattle.ae_text.specs.View.{members_of}
use Rattle.ae_text.specs.Pushdown.{Place, at_name, at_equals, at_value, at_semicolon, at_item, at_comma, done, State, Fault, syntax, too_deep, place_step, step, start, run, moved}
use Rattle.ae_text.specs.Scan.{next, behind, Leads}
use Rattle.ae_text.specs.Parsing.{Taken, Stopped, is_done}
use Rattle.ae_text.proofs.Complete.{members_list, members_list-back, sentence_goes, Fresh-nil}
use Rattle.ae_text.proofs.Sound.{run-err, sentence_found}
use Rattle.ae_text.proofs.Viable.{run-append, taken_goes_further, stopped_at, syntax_ends, too_deep_goes_on}
use Rattle.ae_text.proofs.Tokens.{leads_begins, begins_leads}
use Rattle.ae_text.proofs.Reader.{leads_more}

-- what is done goes no further
pub done_stops : (s : State) → is_done s.place ≡ true → (ps : List Placed) (t : State) → run max_depth (Ok s) ps ≡ Ok t → (ps ≡ []) × (s ≡ t)
unfolding run step
done_stops s h [] t e = (refl, cc)
done_stops s h (p ∷ ps) t e = absurd (by_place s.place refl h) where
  by_place : (place : Place) → s.place ≡ place → is_done place ≡ true → ⊥
  by_place (at_name fs) is h = cc
  by_place (at_equals fs k) is h = cc
  by_place (at_value fs k) is h = cc
  by_place (at_semicolon fs k v) is h = cc
  by_place (at_item vs) is h = cc
  by_place (at_comma vs) is h = cc
  by_place (done fs) is h =
      let one : place_step max_depth s.outer s.starts s.place p.at p.token ≡ Err syntax = ap (λ (q : Place). place_step max_depth s.outer s.starts q p.at p.token) is in
      let never : Err syntax ≡ Ok t = sym (run-err max_depth syntax ps) ∙ ap (λ (r : Result State Fault). run max_depth r ps) (sym one) ∙ e in
      cc

-- of two fronts of the tokens one begins the other
pub leads_prefix : (total : ℕ) (bytes : List ℕ) (xs ys : List Placed) (r q : List ℕ) → Leads total bytes xs r → Leads total bytes ys q → ((more : List Placed) × (ys ≡ xs ++ more)) ⊎ ((more : List Placed) × (xs ≡ ys ++ more))
leads_prefix total bytes [] ys r q h g = inl (ys, refl)
leads_prefix total bytes (x ∷ xs) [] r q h g = inr (x ∷ xs, refl)
leads_prefix total bytes (x ∷ xs) (y ∷ ys) r q h g =
    let same : y ≡ x = g.0 ∙ sym h.0 in
    elim (leads_prefix total (behind bytes) xs ys r q h.1 g.1) [
      | inl m ↦ inl (m.0, rw same (ap (λ (zs : List Placed). x ∷ zs) m.1))
      | inr m ↦ inr (m.0, rw same (ap (λ (zs : List Placed). x ∷ zs) m.1))
    ]

-- the end of a text in the grammar
pub sentence_run : (bytes : List ℕ) (ms : Members) (lines : List ℕ) (h : ReadsFields bytes ms lines) → run max_depth (Ok start) h.all ≡ moved [] h.places (done (members_list ms))
sentence_run bytes ms lines h = sentence_goes ms max_depth [] [] h.all h.places h.sentence (shaped ms max_depth h.names_differ h.nests) (Fresh-nil ms)

pub reads_found : (bytes rest : List ℕ) (s : State) (fs : List (List ℕ × Node)) → Taken bytes rest s → s.place ≡ done fs → ReadsFields bytes (members_of fs) (map (line_of bytes) s.starts)
reads_found bytes rest s fs taken is =
    let f = sentence_found max_depth (suc (length taken.front)) s [] [] taken.front (fs, is) (omega arith) taken.runs in
    let last : done fs ≡ done (members_list f.0) = sym is ∙ ap (λ (x : State). x.place) f.5 in
    let same : fs ≡ members_list f.0 = cc in
    let ms-is : f.0 ≡ members_of fs = sym (members_list-back f.0) ∙ ap members_of (sym same) in
    let places : f.1 ≡ s.starts = sym (ap (λ (x : State). x.starts) f.5) in
    subst (λ (ms : Members). ReadsFields bytes ms (map (line_of bytes) s.starts)) ms-is
    (record {
      places = f.1;
      all = taken.front;
      tokens_are = leads_begins (length bytes) 0 bytes taken.front rest (omega arith) taken.leads;
      sentence = f.2;
      names_differ = names_of f.0 max_depth f.3;
      nests = depth_of f.0 max_depth f.3;
      lines_are = ap (map (line_of bytes)) (sym places);
    })

-- no other text is found there
pub reads_only : (bytes rest : List ℕ) (s : State) → Taken bytes rest s → is_done s.place ≡ true → (ms : Members) (lines : List ℕ) → ReadsFields bytes ms lines → (s.place ≡ done (members_list ms)) × (map (line_of bytes) s.starts ≡ lines)
reads_only bytes rest s taken is ms lines h =
    let l = begins_leads (length bytes) 0 bytes h.all (omega arith) h.tokens_are in
    let last : State = record { outer = []; place = done (members_list ms); starts = h.places } in
    let read : run max_depth (Ok start) h.all ≡ Ok last = sentence_run bytes ms lines h in
    let same : s ≡ last =
    elim (leads_prefix (length bytes) bytes taken.front h.all rest l.0 taken.leads l.1) [
      | inl m ↦
          let on : run max_depth (Ok s) m.0 ≡ Ok last = ap (λ (r : Result State Fault). run max_depth r m.0) (sym taken.runs) ∙ sym (run-append max_depth (Ok start) taken.front m.0) ∙ ap (run max_depth (Ok start)) (sym m.1) ∙ read in
          (done_stops s is m.0 last on).1
      | inr m ↦
          let on : run max_depth (Ok last) m.0 ≡ Ok s = ap (λ (r : Result State Fault). run max_depth r m.0) (sym read) ∙ sym (run-append max_depth (Ok start) h.all m.0) ∙ ap (run max_depth (Ok start)) (sym m.1) ∙ taken.runs in
          sym (done_stops last refl m.0 s on).1
    ] in
    (ap (λ (x : State). x.place) same, ap (λ (x : State). map (line_of bytes) x.starts) same ∙ sym h.lines_are)

wrong_at : (bytes : List ℕ) (at : ℕ) (f : Fault) (st : Stopped bytes at f) → IsWrongAt bytes (line_of bytes at) st.taken.front (next (length bytes) st.rest)
wrong_at bytes at f st = record {
  tokens_are = leads_begins (length bytes) 0 bytes (st.taken.front ++ next (length bytes) st.rest ∷ []) (behind st.rest) (omega arith) (leads_more (length bytes) bytes st.taken.front st.rest st.taken.leads);
  can_go_on = taken_goes_further max_depth st.taken.front st.state st.taken.runs (λ d. let never : true ≡ false = ap is_done (sym d.1) ∙ st.not_done in cc);
  cannot_stand = λ h. stopped_at max_depth st.taken.front st.state (next (length bytes) st.rest) f st.taken.runs st.stopped h;
  line_is = ap (line_of bytes) st.place;
}

pub stopped_syntax : (bytes : List ℕ) (at : ℕ) → Stopped bytes at syntax → IsSyntax bytes (line_of bytes at)
stopped_syntax bytes at st = (st.taken.front, next (length bytes) st.rest, wrong_at bytes at syntax st, λ depth h. syntax_ends max_depth depth st.taken.front st.state (next (length bytes) st.rest) st.taken.runs st.stopped h)

pub stopped_deep : (bytes : List ℕ) (at : ℕ) → Stopped bytes at too_deep → IsTooDeep bytes (line_of bytes at)
stopped_deep bytes at st = (st.taken.front, next (length bytes) st.rest, wrong_at bytes at too_deep st, suc max_depth, too_deep_goes_on max_depth st.taken.front st.state (next (length bytes) st.rest) st.taken.runs st.stopped)

pub done_is : (place : Place) → is_done place ≡ true → (fs : List (List ℕ × Node)) × (place ≡ done fs)
done_is (at_name fs) h = absurd cc
done_is (at_equals fs k) h = absurd cc
done_is (at_value fs k) h = absurd cc
done_is (at_semicolon fs k v) h = absurd cc
done_is (at_item vs) h = absurd cc
done_is (at_comma vs) h = absurd cc
done_is (done fs) h = (fs, refl)

-- the answer's tree and lines
pub answer_found : (bytes rest : List ℕ) (s : State) → Taken bytes rest s → is_done s.place ≡ true → (v : Node) (lines : List ℕ) → lines ≡ map (line_of bytes) s.starts
    → ((fs : List (List ℕ × Node)) → s.place ≡ done fs → v ≡ fields (members_of fs)) → Reads bytes v lines
answer_found bytes rest s taken h v lines lines-are tree-is =
    let d = done_is s.place h in
    subst (λ (u : Node). Reads bytes u lines) (sym (tree-is d.0 d.1)) (subst (λ (xs : List ℕ). ReadsFields bytes (members_of d.0) xs) (sym lines-are) (reads_found bytes rest s d.0 taken d.1))

taken_of : (bytes : List ℕ) (ms : Members) (lines : List ℕ) → ReadsFields bytes ms lines → (rest : List ℕ) × (places : List ℕ) × Taken bytes rest (record { outer = []; place = done (members_list ms); starts = places })
taken_of bytes ms lines h =
    let l = begins_leads (length bytes) 0 bytes h.all (omega arith) h.tokens_are in
    (l.0, h.places, record { front = h.all; leads = l.1; runs = sentence_run bytes ms lines h })

one_list : (bytes : List ℕ) (ms others : Members) (lines marks : List ℕ) → ReadsFields bytes ms lines → ReadsFields bytes others marks → (ms ≡ others) × (lines ≡ marks)
one_list bytes ms others lines marks h g =
    let t = taken_of bytes ms lines h in
    let last : State = record { outer = []; place = done (members_list ms); starts = t.1 } in
    let first = reads_only bytes t.0 last t.2 refl ms lines h in
    let o = reads_only bytes t.0 last t.2 refl others marks g in
    let place : done (members_list ms) ≡ done (members_list others) = o.0 in
    let same : members_list ms ≡ members_list others = cc in
    (sym (members_list-back ms) ∙ ap members_of same ∙ members_list-back others, sym first.1 ∙ o.1)

-- only a tree of fields is read
fields_read : (bytes : List ℕ) (v : Node) (lines : List ℕ) → Reads bytes v lines → (ms : Members) × (v ≡ fields ms) × ReadsFields bytes ms lines
fields_read bytes (tree.word w) lines h = absurd h
fields_read bytes (tree.number n) lines h = absurd h
fields_read bytes (tree.str s) lines h = absurd h
fields_read bytes (list js) lines h = absurd h
fields_read bytes (fields ms) lines h = (ms, refl, h)

-- one text has one tree
pub one_tree : (bytes : List ℕ) (v other : Node) (lines others : List ℕ) → Reads bytes v lines → Reads bytes other others → (v ≡ other) × (lines ≡ others)
one_tree bytes v other lines others h g =
    let f = fields_read bytes v lines h in
    let k = fields_read bytes other others g in
    let o = one_list bytes f.0 k.0 lines others f.2 k.2 in
    (f.1 ∙ ap fields o.0 ∙ sym k.1, o.1)
