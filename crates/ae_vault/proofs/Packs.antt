-- Pieces written one after another.
use Rattle.std.proofs.Common.{◌≡◌, ◌≢◌, ◌⊎◌, inl, inr, ℕ, zero, suc, ◌+◌, ◌-◌, ◌<◌, ◌≤◌, Bool, true, false, ◌&&◌, ◌||◌, ◌==◌, if◌then◌else◌, List, [], ◌∷◌, ◌++◌, length, get_or, take, drop, refl, sym, ◌∙◌, ap, subst, arith, length-append, length-take, length-drop}
use Rattle.std.specs.List.{list_all}
use Rattle.std.specs.Str.{bytes_eq}
use Rattle.std.proofs.lemmas.Bool.{cases_lt, cases_Bool}
use Rattle.std.proofs.lemmas.Bool.Decides.{nat_tests}
use Rattle.std.proofs.lemmas.Slice.Eq.{bytes_eq-Decides}
use Rattle.std.proofs.lemmas.List.{get_or-take, get_or-drop, get_or-append-add, take_more, take_all}
use Rattle.std.proofs.Math.ListN.{get_or-append}
use Rattle.ae_outside.specs.Image.{Image, IsSame, IsTorn, WriteBegun, Overwritten, cut_to}
use Rattle.ae_outside.specs.State.{DiskState, reads, GoesOn}
use Rattle.ae_outside.specs.Time.{goes_on_refl, goes_on_weaker, goes_on_then}
use Rattle.ae_vault.specs.declared.piece.Piece.{Piece}
use Rattle.ae_vault.specs.Packing.{PackBegun, IsExtended}
use Rattle.ae_vault.specs.Pieces.{pack, are_apart, ends_before, none_meet, are_pieces, IsIn, IsCovered, KeepsOutside, HasPiece, HasPieces, PackedOver}

torn_at : (at n k : ℕ) (old new : List ℕ) → IsTorn at n old new → (k < at) ⊎ (at + n ≤ k) → get_or new k 0 ≡ get_or old k 0
torn_at at n k old new torn (inl before) = sym (get_or-take at new k 0 before) ∙ ap (λ (l : List ℕ). get_or l k 0) torn.before ∙ get_or-take at old k 0 before
torn_at at n k old new torn (inr behind) =
    let place : at + n + (k - (at + n)) ≡ k = omega (arith, behind) in
    ap (λ (j : ℕ). get_or new j 0) (sym place) ∙ sym (get_or-drop (at + n) new (k - (at + n)) 0)
    ∙ ap (λ (l : List ℕ). get_or l (k - (at + n)) 0) torn.after
    ∙ get_or-drop (at + n) old (k - (at + n)) 0 ∙ ap (λ (j : ℕ). get_or old j 0) place

in_front : (size k : ℕ) (l : List ℕ) → k < length (take size l) → (k < size) × (k < length l)
in_front size k l lt = let both : k < length (take size l) = lt in let is = length-take size l in (omega (arith, both, is), omega (arith, both, is))

begun_torn : (pieces : List Piece) (size at n : ℕ) → ((k : ℕ) → at ≤ k → k < at + n → k < size → IsCovered pieces k) → (f g : Image) → WriteBegun pack at n f g → PackBegun pieces size f g
begun_torn pieces size at n covers f g step = record {
  others = step.others;
  packed = record {
    no_shorter = let is = length-take size (f pack) in omega (arith, is, step.file.no_shorter);
    same = λ k lt free.
        let front = in_front size k (f pack) lt in
        elim (cases_lt k at) [
          | inl before ↦ torn_at at n k (f pack) (g pack) step.file (inl before) ∙ sym (get_or-take size (f pack) k 0 front.0)
          | inr after ↦ elim (cases_lt k (at + n)) [
            | inl within ↦ absurd (free (covers k after within front.0))
            | inr behind ↦ torn_at at n k (f pack) (g pack) step.file (inr behind) ∙ sym (get_or-take size (f pack) k 0 front.0)
          ]
        ];
  };
}

begun_weaker : (ps qs : List Piece) (m n : ℕ) → n ≤ m → ((k : ℕ) → IsCovered ps k → IsCovered qs k) → (f g : Image) → PackBegun ps m f g → PackBegun qs n f g
begun_weaker ps qs m n le more f g step = record {
  others = step.others;
  packed = record {
    no_shorter = let one = length-take n (f pack) in let two = length-take m (f pack) in omega (arith, le, one, two, step.packed.no_shorter);
    same = λ k lt free.
        let front = in_front n k (f pack) lt in
        let two = length-take m (f pack) in
        step.packed.same k (omega (arith, le, two, front.0, front.1)) (λ in_ps. free (more k in_ps))
        ∙ get_or-take m (f pack) k 0 (omega (arith, le, front.0)) ∙ sym (get_or-take n (f pack) k 0 front.0);
  };
}

begun_then : (ps : List Piece) (n : ℕ) (f g h : Image) → PackBegun ps n f g → PackBegun ps n g h → PackBegun ps n f h
begun_then ps n f g h first second = record {
  others = λ other differs. second.others other differs ∙ first.others other differs;
  packed = record {
    no_shorter = let one = length-take n (f pack) in let two = length-take n (g pack) in omega (arith, one, two, first.packed.no_shorter, second.packed.no_shorter);
    same = λ k lt free.
        let front = in_front n k (f pack) lt in
        let two = length-take n (g pack) in
        second.packed.same k (omega (arith, lt, two, front.0, first.packed.no_shorter)) free
        ∙ get_or-take n (g pack) k 0 front.0 ∙ first.packed.same k lt free;
  };
}

begun_refl : (ps : List Piece) (n : ℕ) (f : Image) → PackBegun ps n f f
begun_refl ps n f = record {
  others = λ other differs. refl;
  packed = record { no_shorter = let one = length-take n (f pack) in omega (arith, one); same = λ k lt free. sym (get_or-take n (f pack) k 0 (in_front n k (f pack) lt).0) };
}

-- a piece's write, where the file reads at least so many bytes
in_one : (p : Piece) (k : ℕ) → p.at ≤ k → k < p.at + length p.bytes → IsCovered (p ∷ []) k
in_one p k from till = inl (from, till)

pub wrote_zeros : (size at n : ℕ) (s t : DiskState) → size ≤ at → GoesOn (WriteBegun pack at n) s t → GoesOn (PackBegun [] size) s t
wrote_zeros size at n s t le goes = goes_on_weaker _ _ s t (begun_torn [] size at n (λ k from till below. absurd (omega (arith, le, from, below)))) goes

pub wrote_piece : (size : ℕ) (p : Piece) (s t : DiskState) → GoesOn (WriteBegun pack p.at (length p.bytes)) s t → GoesOn (PackBegun (p ∷ []) size) s t
wrote_piece size p s t goes = goes_on_weaker _ _ s t (begun_torn (p ∷ []) size p.at (length p.bytes) (λ k from till below. in_one p k from till)) goes

pub begun_on : (ps : List Piece) (n : ℕ) (r s t : DiskState) → GoesOn (PackBegun ps n) r s → GoesOn (PackBegun ps n) s t → GoesOn (PackBegun ps n) r t
begun_on ps n r s t first second = goes_on_then _ _ _ r s t (λ f g step. step) (begun_then ps n) first second

pub zeros_for : (p : Piece) (n : ℕ) (s t : DiskState) → GoesOn (PackBegun [] n) s t → GoesOn (PackBegun (p ∷ []) n) s t
zeros_for p n s t goes = goes_on_weaker _ _ s t (begun_weaker [] (p ∷ []) n n (omega arith) (λ k none. absurd none)) goes

covered_at : (pieces : List Piece) (i : ℕ) (p : Piece) (k : ℕ) → i < length pieces → p ≡ get_or pieces i p → IsIn p k → IsCovered pieces k
covered_at [] i p k lt is within = absurd (omega (arith, lt))
covered_at (q ∷ pieces) zero p k lt is within = inl (subst (λ (x : Piece). IsIn x k) is within)
covered_at (q ∷ pieces) (suc i) p k lt is within = inr (covered_at pieces i p k (omega (arith, lt)) is within)

covered_one : (pieces : List Piece) (i : ℕ) (p : Piece) (k : ℕ) → i < length pieces → p ≡ get_or pieces i p → IsCovered (p ∷ []) k → IsCovered pieces k
covered_one pieces i p k lt is (inl within) = covered_at pieces i p k lt is within
covered_one pieces i p k lt is (inr none) = absurd none

pub piece_on : (pieces : List Piece) (i : ℕ) (p : Piece) (m n : ℕ) (r s t : DiskState) → i < length pieces → p ≡ get_or pieces i p → n ≤ m
    → GoesOn (PackBegun pieces n) r s → GoesOn (PackBegun (p ∷ []) m) s t → GoesOn (PackBegun pieces n) r t
piece_on pieces i p m n r s t lt is le first second =
    begun_on pieces n r s t first (goes_on_weaker _ _ s t (begun_weaker (p ∷ []) pieces m n le (λ k one. covered_one pieces i p k lt is one)) second)

-- what was overwritten
front_length : (at : ℕ) (bytes old : List ℕ) → at ≤ length old → length (take at old ++ bytes) ≡ at + length bytes
front_length at bytes old le = let n = length-take at old in let m = length-append (take at old) bytes in omega (arith, n, m, le)

over_in : (at k : ℕ) (bytes old new : List ℕ) → at ≤ length old → Overwritten at bytes old new → k < length bytes → get_or new (at + k) 0 ≡ get_or bytes k 0
over_in at k bytes old new le is lt =
    let all = front_length at bytes old le in
    let front : length (take at old) ≡ at = let n = length-take at old in omega (arith, n, le) in
    ap (λ (l : List ℕ). get_or l (at + k) 0) is
    ∙ get_or-append (take at old ++ bytes) (drop (at + length bytes) old) 0 (at + k) (omega (arith, all, lt))
    ∙ ap (λ (j : ℕ). get_or (take at old ++ bytes) (j + k) 0) (sym front)
    ∙ get_or-append-add (take at old) bytes k 0

over_out : (at k : ℕ) (bytes old new : List ℕ) → at ≤ length old → Overwritten at bytes old new → (k < at) ⊎ (at + length bytes ≤ k) → get_or new k 0 ≡ get_or old k 0
over_out at k bytes old new le is (inl before) =
    let all = front_length at bytes old le in
    let front : length (take at old) ≡ at = let n = length-take at old in omega (arith, n, le) in
    ap (λ (l : List ℕ). get_or l k 0) is
    ∙ get_or-append (take at old ++ bytes) (drop (at + length bytes) old) 0 k (omega (arith, all, before))
    ∙ get_or-append (take at old) bytes 0 k (omega (arith, front, before))
    ∙ get_or-take at old k 0 before
over_out at k bytes old new le is (inr behind) =
    let all = front_length at bytes old le in
    let place : length (take at old ++ bytes) + (k - (at + length bytes)) ≡ k = omega (arith, all, behind) in
    let back : at + length bytes + (k - (at + length bytes)) ≡ k = omega (arith, behind) in
    ap (λ (l : List ℕ). get_or l k 0) is
    ∙ ap (λ (m : ℕ). get_or ((take at old ++ bytes) ++ drop (at + length bytes) old) m 0) (sym place)
    ∙ get_or-append-add (take at old ++ bytes) (drop (at + length bytes) old) (k - (at + length bytes)) 0
    ∙ get_or-drop (at + length bytes) old (k - (at + length bytes)) 0
    ∙ ap (λ (m : ℕ). get_or old m 0) back

over_length : (at : ℕ) (bytes old new : List ℕ) → at ≤ length old → Overwritten at bytes old new → length new ≡ at + length bytes + length (drop (at + length bytes) old)
over_length at bytes old new le is =
    ap (λ (l : List ℕ). length l) is ∙ length-append (take at old ++ bytes) (drop (at + length bytes) old) ∙ ap (λ (m : ℕ). m + length (drop (at + length bytes) old)) (front_length at bytes old le)

pub piece_there : (p : Piece) (old new : List ℕ) → p.at ≤ length old → Overwritten p.at p.bytes old new → HasPiece p new
piece_there p old new le is = record { ends = let n = over_length p.at p.bytes old new le is in omega (arith, n); there = λ k lt. over_in p.at k p.bytes old new le is lt }

pub piece_same : (p : Piece) (size to : ℕ) (r0 r1 r2 : List ℕ) → size ≡ length r0 → IsExtended to r0 r1 → p.at ≤ to → Overwritten p.at p.bytes r1 r2
    → (k : ℕ) → k < size → (k < p.at) ⊎ (p.at + length p.bytes ≤ k) → get_or r2 k 0 ≡ get_or r0 k 0
piece_same p size to r0 r1 r2 is extended le over k lt out =
    over_out p.at k p.bytes r1 r2 (omega (arith, extended.length_is, le)) over out ∙ extended.same k (omega (arith, is, lt))

-- more zero bytes
pub extended_on : (at : ℕ) (bytes r0 r1 r2 : List ℕ) → length r0 ≤ at → IsExtended at r0 r1 → Overwritten at bytes r1 r2 → IsExtended (at + length bytes) r0 r2
extended_on at bytes r0 r1 r2 from extended over = record {
  length_is =
      let back : length (drop (at + length bytes) r1) ≡ 0 = let n = length-drop (at + length bytes) r1 in omega (arith, n, extended.length_is) in
      let whole = over_length at bytes r1 r2 (omega (arith, extended.length_is)) over in
      omega (arith, back, whole);
  same = λ k lt. over_out at k bytes r1 r2 (omega (arith, extended.length_is)) over (inl (omega (arith, lt, from))) ∙ extended.same k lt;
}

-- pieces that were there stay there
apart_out : (p q : Piece) → are_apart p q ≡ true → (k : ℕ) → k < length p.bytes → (p.at + k < q.at) ⊎ (q.at + length q.bytes ≤ p.at + k)
apart_out p q apart k lt = elim (cases_Bool (ends_before p q)) [
  | inl first ↦ let le : p.at + length p.bytes ≤ q.at = grind (arith, nat_tests) in inl (omega (arith, le, lt))
  | inr not_first ↦
      let second : ends_before q p ≡ true = ap (λ (b : Bool). b || ends_before q p) (sym not_first) ∙ apart in
      let le : q.at + length q.bytes ≤ p.at = grind (arith, nat_tests) in inr (omega (arith, le))
]

pub stays : (ps : List Piece) (q : Piece) (size : ℕ) (old new : List ℕ) → list_all (λ (p : Piece). are_apart p q) ps ≡ true → size ≡ length old → size ≤ length new
    → ((k : ℕ) → k < size → (k < q.at) ⊎ (q.at + length q.bytes ≤ k) → get_or new k 0 ≡ get_or old k 0)
    → HasPieces ps old → HasPieces ps new
stays [] q size old new apart is longer same has = tt
stays (p ∷ ps) q size old new apart is longer same has =
    let here : are_apart p q ≡ true = grind (arith, nat_tests) in
    let rest : list_all (λ (x : Piece). are_apart x q) ps ≡ true = grind (arith, nat_tests) in (
      record {
        ends = omega (arith, has.0.ends, is, longer);
        there = λ k lt. same (p.at + k) (omega (arith, has.0.ends, is, lt)) (apart_out p q here k lt) ∙ has.0.there k lt;
      },
      stays ps q size old new rest is longer same has.1,
    )

has_last : (ps : List Piece) (q : Piece) (bytes : List ℕ) → HasPieces ps bytes → HasPiece q bytes → HasPieces (ps ++ q ∷ []) bytes
has_last [] q bytes has one = (one, tt)
has_last (p ∷ ps) q bytes has one = (has.0, has_last ps q bytes has.1 one)

-- no piece before another meets it
apart_before : (pieces : List Piece) (i : ℕ) (q : Piece) → i < length pieces → q ≡ get_or pieces i q → none_meet pieces ≡ true → list_all (λ (p : Piece). are_apart p q) (take i pieces) ≡ true
apart_before [] i q lt is none = absurd (omega (arith, lt))
apart_before (p ∷ pieces) zero q lt is none = refl
apart_before (p ∷ pieces) (suc i) q lt is none =
    let later : list_all (are_apart p) pieces ≡ true = grind (arith, nat_tests) in
    let rest : none_meet pieces ≡ true = grind (arith, nat_tests) in
    let here : are_apart p q ≡ true = from_all pieces i q (omega (arith, lt)) is later in
    ap (λ (b : Bool). b && list_all (λ (x : Piece). are_apart x q) (take i pieces)) here ∙ apart_before pieces i q (omega (arith, lt)) is rest
  where
    from_all : (qs : List Piece) (j : ℕ) (x : Piece) → j < length qs → x ≡ get_or qs j x → list_all (are_apart p) qs ≡ true → are_apart p x ≡ true
    from_all [] j x lt is all = absurd (omega (arith, lt))
    from_all (y ∷ qs) zero x lt is all = let first : are_apart p y ≡ true = grind (arith, nat_tests) in ap (are_apart p) is ∙ first
    from_all (y ∷ qs) (suc j) x lt is all = from_all qs j x (omega (arith, lt)) is (grind (arith, nat_tests))

pub has_one_more : (pieces : List Piece) (i : ℕ) (q : Piece) (size : ℕ) (old new : List ℕ) → i < length pieces → q ≡ get_or pieces i q → are_pieces pieces ≡ true → size ≡ length old → size ≤ length new
    → ((k : ℕ) → k < size → (k < q.at) ⊎ (q.at + length q.bytes ≤ k) → get_or new k 0 ≡ get_or old k 0)
    → HasPieces (take i pieces) old → HasPiece q new → HasPieces (take (i + 1) pieces) new
has_one_more pieces i q size old new lt is good size_is longer same has one =
    let none : none_meet pieces ≡ true = grind (arith, nat_tests) in
    let more : take (i + 1) pieces ≡ take i pieces ++ q ∷ [] = take_more pieces i q lt ∙ ap (λ (x : Piece). take i pieces ++ x ∷ []) (sym is) in
    subst (λ (ps : List Piece). HasPieces ps new) (sym more) (has_last (take i pieces) q new (stays (take i pieces) q size old new (apart_before pieces i q lt is none) size_is longer same has) one)

-- An image comes from one at the start that is no longer than what was read.
over_step : (p : Piece) (ps : List Piece) (read f g : Image) → PackBegun (p ∷ ps) (length (read pack)) f g → PackedOver (p ∷ ps) (cut_to read pack f) g
over_step p ps read f g step = record {
  others = λ other differs. step.others other differs ∙ sym (ap (λ (b : Bool). if b then take (length (read pack)) (f other) else f other) (elsewhere other differs));
  packed = step.packed;
}
  where
    elsewhere : (other : List ℕ) → other ≢ pack → bytes_eq pack other ≡ false
    elsewhere other differs = elim (cases_Bool (bytes_eq pack other)) [
      | inl same ↦ absurd (differs (sym ((bytes_eq-Decides pack other).0 same)))
      | inr no_pack ↦ no_pack
    ]

pub begun_over : (p : Piece) (ps : List Piece) (s t : DiskState) → GoesOn (PackBegun (p ∷ ps) (length (reads s pack))) s t → GoesOn (PackedOver (p ∷ ps)) s t
begun_over p ps s t goes = record {
  time = goes.time;
  reads_since = λ u from till.
      let step = over_step p ps (reads s) (reads s) (t.reads_at u) (goes.reads_since u from till) in
      record {
        others = (goes.reads_since u from till).others;
        packed = subst (λ (l : List ℕ). KeepsOutside (p ∷ ps) l (t.reads_at u pack)) (take_all (length (reads s pack)) (reads s pack) (omega arith)) step.packed;
      };
  images_since = λ u f from till is.
      let was = goes.images_since u f from till is in
      (cut_to (reads s) pack was.0, s.cut_is_image s.moment pack was.0 (omega arith) was.1, over_step p ps (reads s) was.0 f was.2);
}

pub packs_over : (pieces : List Piece) (size : ℕ) (s t : DiskState) → pieces ≢ [] → size ≡ length (reads s pack) → GoesOn (PackBegun pieces size) s t → GoesOn (PackedOver pieces) s t
packs_over [] size s t some is goes = absurd (some refl)
packs_over (p ∷ ps) size s t some is goes = begun_over p ps s t (subst (λ (n : ℕ). GoesOn (PackBegun (p ∷ ps) n) s t) is goes)

same_begun : (ps : List Piece) (n : ℕ) (f g : Image) → IsSame f g → PackBegun ps n f g
same_begun ps n f g same = subst (λ (h : Image). PackBegun ps n f h) (sym same) (begun_refl ps n f)

-- calls that change nothing, before and after
pub begun_behind : (ps : List Piece) (n : ℕ) (r s t : DiskState) → GoesOn IsSame r s → GoesOn (PackBegun ps n) s t → GoesOn (PackBegun ps n) r t
begun_behind ps n r s t first second = begun_on ps n r s t (goes_on_weaker _ _ r s (same_begun ps n) first) second

pub begun_before : (ps : List Piece) (n : ℕ) (r s t : DiskState) → GoesOn (PackBegun ps n) r s → GoesOn IsSame s t → GoesOn (PackBegun ps n) r t
begun_before ps n r s t first second = begun_on ps n r s t first (goes_on_weaker _ _ s t (same_begun ps n) second)

pub none_over : (pieces : List Piece) (s : DiskState) → pieces ≡ [] → GoesOn (PackedOver pieces) s s
none_over pieces s none = subst (λ (ps : List Piece). GoesOn (PackedOver ps) s s) (sym none) (goes_on_refl _ s (λ f. record { others = λ other differs. refl; packed = refl }))

pub no_items : {T : Type 0} (l : List T) → (length l == 0) ≡ true → l ≡ []
no_items [] is = refl
no_items (x ∷ l) is = let some : (length (x ∷ l) == 0) ≡ false = grind (arith, nat_tests) in cc

pub some_items : {T : Type 0} (l : List T) → (length l == 0) ≡ false → l ≢ []
some_items l is none = let empty : (length l == 0) ≡ true = ap (λ k. length k == 0) none in cc
