-- An image of a disk in memory cut to the length that is read is an image too.
use Rattle.std.specs.Prelude.{◌≡◌, ℕ, ◌+◌, ◌≤◌, ◌<◌, min, max, Bool, true, false, nat_le, if◌then◌else◌, List, [], ◌∷◌, ◌++◌, length, take, drop}
use Rattle.std.proofs.Common.{inl, inr, sym, ◌∙◌, ap, subst, arith, ◌-◌, length-append, length-drop}
use Rattle.std.proofs.lemmas.Bool.{cases_lt}
use Rattle.std.proofs.lemmas.List.{length-take, length-take-le, take_all, drop_all, drop-take, take-take}
use Rattle.std.proofs.lemmas.Bool.Decides.{nat_tests}
use Rattle.std.specs.Str.{bytes_eq}
use Rattle.std.proofs.lemmas.Slice.Eq.{bytes_eq-Decides}
use Rattle.ae_memory_disk.specs.declared.disk_log.Change.{Change}
use Rattle.ae_memory_disk.specs.declared.disk_log.Change.TheVariants.{Write, Cut, Sync}
use Rattle.ae_memory_disk.specs.declared.disk_log.Logged.{Logged}
use Rattle.ae_outside.specs.Image.{Image, cut_to, IsTorn, IsCut}
use Rattle.ae_memory_disk.specs.DiskLog.{overwritten, applied, After, Left, replay, IsLeft}
use Rattle.ae_memory_disk.specs.DiskLaws.{bool_cases, file_here, file_elsewhere, torn_same, with_file_same}

take_min : (n m : ℕ) (l : List ℕ) → n ≤ m → take n (take m l) ≡ take n l
take_min n m l le = take-take n m l le

-- a write, where both are cut to the lengths that are read
torn_take : (at n s t : ℕ) (old new : List ℕ) → at ≤ s → t ≡ max s (at + n) → IsTorn at n old new → IsTorn at n (take s old) (take t new)
torn_take at n s t old new le t_is torn = record {
  before = take_min at t new (omega arith) ∙ torn.before ∙ sym (take_min at s old le);
  after = elim (cases_lt (at + n) s) [
    | inl long ↦
        let more : t ≡ at + n + (s - (at + n)) = omega arith in
        let more_s : s ≡ at + n + (s - (at + n)) = omega arith in
        ap (λ (k : ℕ). drop (at + n) (take k new)) more ∙ drop-take (at + n) (s - (at + n)) new ∙ ap (take (s - (at + n))) torn.after
        ∙ sym (drop-take (at + n) (s - (at + n)) old) ∙ sym (ap (λ (k : ℕ). drop (at + n) (take k old)) more_s)
    | inr short ↦ drop_all (at + n) (take t new) (omega (arith, length-take t new)) ∙ sym (drop_all (at + n) (take s old) (omega (arith, length-take s old)))
  ];
  no_shorter = omega (arith, length-take t new, length-take s old, torn.no_shorter);
  no_longer = omega (arith, length-take t new, length-take s old, torn.no_longer);
}

-- a write after the end, which is none
torn_past : (at n s : ℕ) (old new : List ℕ) → s < at → IsTorn at n old new → IsTorn at n (take s old) (take s new)
torn_past at n s old new lt torn =
    let same : take s new ≡ take s old = sym (take_min s at new (omega arith)) ∙ ap (take s) torn.before ∙ take_min s at old (omega arith) in
    subst (λ (l : List ℕ). IsTorn at n (take s old) l) (sym same) (torn_same at n (take s old))

-- a cut, where both are cut to the lengths that are read
cut_take : (len s t : ℕ) (old new : List ℕ) → t ≡ min len s → IsCut len old new → IsCut len (take s old) (take t new)
cut_take len s t old new t_is cut = record {
  front = elim (cases_lt len s) [
    | inl inside ↦ let t_len : len ≡ t = omega arith in take_min len t new (omega arith) ∙ cut.front ∙ sym (take_min len s old (omega arith))
    | inr behind ↦
        let t_s : t ≡ s = omega arith in
        ap (λ (k : ℕ). take len (take k new)) t_s ∙ take_all len (take s new) (omega (arith, length-take s new)) ∙ sym (take_min s len new behind) ∙ ap (take s) cut.front ∙ take_min s len old behind ∙ sym (take_all len (take s old) (omega (arith, length-take s old)))
  ];
  no_shorter = omega (arith, length-take t new, length-take s old, cut.no_shorter);
  no_longer = omega (arith, length-take t new, length-take s old, cut.no_longer);
}

-- of these images one cut to the length that is read is one too
abbrev IsCutWise : Image → (Image → Type 0) → Type 0
IsCutWise read images = (name : List ℕ) (image : Image) → images image → images (cut_to read name image)

-- how long a file is after a write
length-over : (at : ℕ) (bytes old : List ℕ) → at ≤ length old → length (overwritten at bytes old) ≡ max (length old) (at + length bytes)
length-over at bytes old le =
    let fits : nat_le at (length old) ≡ true = grind (arith, nat_tests) in
    let is : overwritten at bytes old ≡ take at old ++ bytes ++ drop (at + length bytes) old = ap (λ (b : Bool). if b then take at old ++ bytes ++ drop (at + length bytes) old else old) fits in
    omega (arith, ap length is, length-take-le at old le, length-append (take at old ++ bytes) (drop (at + length bytes) old), length-append (take at old) bytes, length-drop (at + length bytes) old)

over_past : (at : ℕ) (bytes old : List ℕ) → length old < at → overwritten at bytes old ≡ old
over_past at bytes old lt = let no_fit : nat_le at (length old) ≡ false = grind (arith, nat_tests) in ap (λ (b : Bool). if b then take at old ++ bytes ++ drop (at + length bytes) old else old) no_fit

torn_over_cut : (at : ℕ) (bytes read old new : List ℕ) → IsTorn at (length bytes) old new → IsTorn at (length bytes) (take (length read) old) (take (length (overwritten at bytes read)) new)
torn_over_cut at bytes read old new torn = elim (cases_lt (length read) at) [
  | inl past ↦ subst (λ (l : List ℕ). IsTorn at (length bytes) (take (length read) old) (take (length l) new)) (sym (over_past at bytes read past)) (torn_past at (length bytes) (length read) old new past torn)
  | inr fits ↦ torn_take at (length bytes) (length read) (length (overwritten at bytes read)) old new fits (length-over at bytes read fits) torn
]

-- a file of the cut image, by whether it is the one that was cut
cut_case : (P : List ℕ → List ℕ → Type 0) (read after : Image) (name other : List ℕ) (old new : Image) → P (old other) (new other)
    → (name ≡ other → P (take (length (read other)) (old other)) (take (length (after other)) (new other))) → P (cut_to read name old other) (cut_to after name new other)
cut_case P read after name other old new plain cut = elim (bool_cases (bytes_eq name other)) [
  | inl same ↦
      let is : name ≡ other = (bytes_eq-Decides name other).0 same in
      let old_is : take (length (read other)) (old other) ≡ cut_to read name old other = ap (λ (m : List ℕ). take (length (read m)) (old other)) (sym is) ∙ sym (ap (λ (b : Bool). if b then take (length (read name)) (old other) else old other) same) in
      let new_is : take (length (after other)) (new other) ≡ cut_to after name new other = ap (λ (m : List ℕ). take (length (after m)) (new other)) (sym is) ∙ sym (ap (λ (b : Bool). if b then take (length (after name)) (new other) else new other) same) in
      subst (λ (l : List ℕ). P l (cut_to after name new other)) old_is (subst (λ (l : List ℕ). P (take (length (read other)) (old other)) l) new_is (cut is))
  | inr differs ↦
      let old_is : old other ≡ cut_to read name old other = sym (ap (λ (b : Bool). if b then take (length (read name)) (old other) else old other) differs) in
      let new_is : new other ≡ cut_to after name new other = sym (ap (λ (b : Bool). if b then take (length (after name)) (new other) else new other) differs) in
      subst (λ (l : List ℕ). P l (cut_to after name new other)) old_is (subst (λ (l : List ℕ). P (old other) l) new_is plain)
]

cut_wise_after : (change : Change) (read : Image) (images : Image → Type 0) → IsCutWise read images → IsCutWise (applied change read) (After change read images)
cut_wise_after (Write n at b) read images wise name image from = (
  cut_to read name from.0,
  wise name from.0 from.1,
  record {
    file = cut_case (IsTorn at (length b)) read (applied (Write n at b) read) name n from.0 image from.2.file
        (λ is. subst (λ (l : List ℕ). IsTorn at (length b) (take (length (read n)) (from.0 n)) (take (length l) (image n))) (sym (file_here n (overwritten at b) read)) (torn_over_cut at b (read n) (from.0 n) (image n) from.2.file));
    others = λ other differs. cut_case (λ old new. new ≡ old) read (applied (Write n at b) read) name other from.0 image (from.2.others other differs)
        (λ is. ap (λ (l : List ℕ). take (length l) (image other)) (file_elsewhere n (overwritten at b) read other differs) ∙ ap (take (length (read other))) (from.2.others other differs));
  },
)
cut_wise_after (Cut n len) read images wise name image from = (
  cut_to read name from.0,
  wise name from.0 from.1,
  record {
    file = cut_case (IsCut len) read (applied (Cut n len) read) name n from.0 image from.2.file
        (λ is. subst (λ (l : List ℕ). IsCut len (take (length (read n)) (from.0 n)) (take (length l) (image n))) (sym (file_here n (take len) read)) (cut_take len (length (read n)) (length (take len (read n))) (from.0 n) (image n) (length-take len (read n)) from.2.file));
    others = λ other differs. cut_case (λ old new. new ≡ old) read (applied (Cut n len) read) name other from.0 image (from.2.others other differs)
        (λ is. ap (λ (l : List ℕ). take (length l) (image other)) (file_elsewhere n (take len) read other differs) ∙ ap (take (length (read other))) (from.2.others other differs));
  },
)
cut_wise_after (Sync n) read images wise name image from = (
  cut_to read name from.0,
  wise name from.0 from.1,
  (
    ap (cut_to read name) from.2.0,
    cut_case (λ old new. old ≡ new) read read name n from.0 read from.2.1 (λ is. ap (take (length (read n))) from.2.1) ∙ whole,
  ),
)
  where
    whole : cut_to read name read n ≡ read n
    whole = ap (λ (i : Image). i n) (with_file_same name (take (length (read name))) read (take_all (length (read name)) (read name) (omega arith)))

cut_from : (log : List Logged) (read : Image) (images : Image → Type 0) → IsCutWise read images → IsCutWise (replay read log) (Left read images log)
cut_from [] read images wise = wise
cut_from (entry ∷ log) read images wise = cut_from log (applied entry.change read) (After entry.change read images) (cut_wise_after entry.change read images wise)

start_cut : (start : Image) → IsCutWise start (λ i. i ≡ start)
start_cut start name image is = ap (cut_to start name) is ∙ with_file_same name (take (length (start name))) start (take_all (length (start name)) (start name) (omega arith))

-- an image cut to the length that is read
pub cut_left : (start : Image) (log : List Logged) (name : List ℕ) (image : Image) → IsLeft start log image → IsLeft start log (cut_to (replay start log) name image)
cut_left start log = cut_from log start (λ i. i ≡ start) (start_cut start)
