-- What a change that is logged does to the state of a disk in memory.
use Rattle.std.specs.Prelude.{◌≡◌, ℕ, ◌+◌, ◌≤◌, ◌<◌, List, [], ◌∷◌, ◌++◌, length, take, refl}
use Rattle.std.proofs.Common.{inl, inr, sym, ◌∙◌, ap, subst, arith, length-append}
use Rattle.std.proofs.lemmas.Bool.{cases_lt}
use Rattle.std.proofs.lemmas.List.{take-append-le, take_all, length-take}
use Rattle.ae_memory_disk.specs.declared.disk_log.Change.{Change}
use Rattle.ae_memory_disk.specs.declared.disk_log.Change.TheVariants.{Write, Cut, Sync}
use Rattle.ae_memory_disk.specs.declared.disk_log.Logged.{Logged}
use Rattle.ae_outside.specs.Image.{Image, IsSame, WriteBegun, CutBegun, Overwritten}
use Rattle.ae_outside.specs.State.{DiskState, reads, GoesOn, IsStable}
use Rattle.ae_outside.specs.Time.{goes_on_refl}
use Rattle.ae_memory_disk.specs.DiskFiles.{bytes_of}
use Rattle.ae_memory_disk.specs.DiskLog.{overwritten, applied, Leaves, After, replay, Left, IsLeft}
use Rattle.ae_memory_disk.specs.DiskLaws.{torn_same, cut_same, overwritten_fits, file_here, applied_leaves}
use Rattle.ae_memory_disk.specs.MemDisk.{DiskRecord, state_from, state_of, Logs, OnlyCounts}

-- one change more at the end of the log
pub replay_push : (read : Image) (log : List Logged) (entry : Logged) → replay read (log ++ entry ∷ []) ≡ applied entry.change (replay read log)
replay_push read [] entry = refl
replay_push read (c ∷ log) entry = replay_push (applied c.change read) log entry

-- an image after it comes from one before it
left_push : (read : Image) (images : Image → Type 0) (log : List Logged) (entry : Logged) (image : Image) → Left read images (log ++ entry ∷ []) image → After entry.change (replay read log) (Left read images log) image
left_push read images [] entry image left = left
left_push read images (c ∷ log) entry image left = left_push (applied c.change read) (After c.change read images) log entry image left

-- one change more, whose effect is within a step that may also do nothing
push_goes_on : (step : Image → Image → Type 0) (start : Image) (log : List Logged) (entry : Logged) → ((f : Image) → step f f) → ((read old new : Image) → Leaves entry.change read old new → step old new)
    → GoesOn step (state_from start log) (state_from start (log ++ entry ∷ []))
unfolding state_from
push_goes_on step start log entry same one = record {
  time = record {
    later = omega (arith, size);
    reads_stay = λ u le. ap (replay start) (before u le);
    no_more = λ u image le is. subst (λ (l : List Logged). IsLeft start l image) (before u le) is;
    no_fewer = λ u image le is. subst (λ (l : List Logged). IsLeft start l image) (sym (before u le)) is;
  };
  reads_since = λ u from till. elim (cases_lt u (length log + 1)) [
    | inl at_start ↦
        let is : replay start (take u (log ++ entry ∷ [])) ≡ replay start (take (length log) log) = ap (replay start) (before u (omega arith) ∙ ap (λ (n : ℕ). take n log) (now u from at_start)) in
        subst (λ (f : Image). step (replay start (take (length log) log)) f) (sym is) (same (replay start (take (length log) log)))
    | inr done ↦
        let is : replay start (take u (log ++ entry ∷ [])) ≡ applied entry.change (replay start (take (length log) log)) = ap (replay start) (all u done) ∙ replay_push start log entry ∙ ap (λ (l : List Logged). applied entry.change (replay start l)) (sym whole) in
        subst (λ (f : Image). step (replay start (take (length log) log)) f) (sym is) (one _ _ _ (applied_leaves entry.change (replay start (take (length log) log))))
  ];
  images_since = λ u image from till is. elim (cases_lt u (length log + 1)) [
    | inl at_start ↦ (image, subst (λ (l : List Logged). IsLeft start l image) (before u (omega arith) ∙ ap (λ (n : ℕ). take n log) (now u from at_start)) is, same image)
    | inr done ↦
        let was = left_push start (λ i. i ≡ start) log entry image (subst (λ (l : List Logged). IsLeft start l image) (all u done) is) in
        (was.0, subst (λ (l : List Logged). IsLeft start l was.0) (sym whole) was.1, one _ _ _ was.2)
  ];
}
  where
    size : length (log ++ entry ∷ []) ≡ length log + 1
    size = length-append log (entry ∷ [])

    whole : take (length log) log ≡ log
    whole = take_all (length log) log (omega arith)

    before : (u : ℕ) → u ≤ length log → take u (log ++ entry ∷ []) ≡ take u log
    before u le = take-append-le u log (entry ∷ []) le

    now : (u : ℕ) → length log ≤ u → u < length log + 1 → u ≡ length log
    now u from till = omega arith

    all : (u : ℕ) → length log + 1 ≤ u → take u (log ++ entry ∷ []) ≡ log ++ entry ∷ []
    all u done = take_all u (log ++ entry ∷ []) (omega (arith, size))

-- what is read in the end
reads_whole : (start : Image) (log : List Logged) → reads (state_from start log) ≡ replay start log
unfolding state_from
reads_whole start log = ap (replay start) (take_all (length log) log (omega arith))

reads_push : (start : Image) (log : List Logged) (entry : Logged) → reads (state_from start (log ++ entry ∷ [])) ≡ applied entry.change (reads (state_from start log))
reads_push start log entry = reads_whole start (log ++ entry ∷ []) ∙ replay_push start log entry ∙ ap (applied entry.change) (sym (reads_whole start log))

sync_stable : (start : Image) (log : List Logged) (entry : Logged) (name : List ℕ) → ((read old new : Image) → Leaves entry.change read old new → new name ≡ read name) → applied entry.change (reads (state_from start log)) name ≡ reads (state_from start log) name → IsStable name (state_from start (log ++ entry ∷ []))
unfolding state_from
sync_stable start log entry name synced same image left =
    let was = left_push start (λ i. i ≡ start) log entry image (subst (λ (l : List Logged). IsLeft start l image) (take_all (length (log ++ entry ∷ [])) (log ++ entry ∷ []) (omega arith)) left) in
    synced _ _ _ was.2 ∙ ap (λ (i : Image). i name) (sym (reads_whole start log)) ∙ sym same ∙ ap (λ (i : Image). i name) (sym (reads_push start log entry))

-- a front of a file is the front of its own length
front_taken : (n : ℕ) (l r : List ℕ) → r ≡ take n l → take (length r) l ≡ r
front_taken n l r is = elim (cases_lt (length l) n) [
  | inl past ↦
      let size : length r ≡ length l = omega (arith, ap length is, length-take n l) in
      take_all (length r) l (omega arith) ∙ sym (take_all n l (omega arith)) ∙ sym is
  | inr fits ↦
      let size : length r ≡ n = omega (arith, ap length is, length-take n l) in
      ap (λ (k : ℕ). take k l) size ∙ sym is
]

write_same : (name : List ℕ) (at n : ℕ) (f : Image) → WriteBegun name at n f f
write_same name at n f = record { file = torn_same at n (f name); others = λ other differs. refl }

cut_same_image : (name : List ℕ) (len : ℕ) (f : Image) → CutBegun name len f f
cut_same_image name len f = record { file = cut_same len (f name); others = λ other differs. refl }

-- the state after a change that is logged, and after a call that isn't
state_logged : (change : Change) (old new : DiskRecord) → Logs change old new → state_from (bytes_of old.initial) (old.log ++ record { number = new.counts.calls; change = change } ∷ []) ≡ state_of new
state_logged change old new is = ap state_of (sym is)

state_kept : (old new : DiskRecord) → OnlyCounts old new → state_of old ≡ state_of new
state_kept old new is = ap state_of (sym is)

logged_goes_on : (step : Image → Image → Type 0) (change : Change) (old new : DiskRecord) → ((f : Image) → step f f) → ((read before after : Image) → Leaves change read before after → step before after) → Logs change old new → GoesOn step (state_of old) (state_of new)
logged_goes_on step change old new same one is = subst (λ (s : DiskState). GoesOn step (state_of old) s) (state_logged change old new is) (push_goes_on step (bytes_of old.initial) old.log (record { number = new.counts.calls; change = change }) same one)

kept_goes_on : (step : Image → Image → Type 0) (old new : DiskRecord) → ((f : Image) → step f f) → OnlyCounts old new → GoesOn step (state_of old) (state_of new)
kept_goes_on step old new same is = subst (λ (s : DiskState). GoesOn step (state_of old) s) (state_kept old new is) (goes_on_refl step (state_of old) same)

logged_reads : (change : Change) (old new : DiskRecord) → Logs change old new → reads (state_of new) ≡ applied change (reads (state_of old))
logged_reads change old new is = ap reads (sym (state_logged change old new is)) ∙ reads_push (bytes_of old.initial) old.log (record { number = new.counts.calls; change = change })

-- what is read is what the log gives
pub reads_replay : (disk : DiskRecord) → reads (state_of disk) ≡ replay (bytes_of disk.initial) disk.log
reads_replay disk = reads_whole (bytes_of disk.initial) disk.log

-- a call that isn't logged
pub cut_none : (name : List ℕ) (len : ℕ) (old new : DiskRecord) → OnlyCounts old new → GoesOn (CutBegun name len) (state_of old) (state_of new)
cut_none name len old new is = kept_goes_on _ old new (cut_same_image name len) is

-- a write that is logged
pub write_logged : (name : List ℕ) (at : ℕ) (bytes : List ℕ) (old new : DiskRecord) → Logs (Write name at bytes) old new → GoesOn (WriteBegun name at (length bytes)) (state_of old) (state_of new)
write_logged name at bytes old new is = logged_goes_on _ (Write name at bytes) old new (write_same name at (length bytes)) (λ read before after step. step) is

pub written : (name : List ℕ) (at : ℕ) (bytes : List ℕ) (old new : DiskRecord) → at ≤ length (reads (state_of old) name) → Logs (Write name at bytes) old new → Overwritten at bytes (reads (state_of old) name) (reads (state_of new) name)
written name at bytes old new le is = ap (λ (i : Image). i name) (logged_reads (Write name at bytes) old new is) ∙ file_here name (overwritten at bytes) (reads (state_of old)) ∙ overwritten_fits at bytes (reads (state_of old) name) le

-- a cut that is logged
pub cut_logged : (name : List ℕ) (len : ℕ) (old new : DiskRecord) → Logs (Cut name len) old new → GoesOn (CutBegun name len) (state_of old) (state_of new)
cut_logged name len old new is = logged_goes_on _ (Cut name len) old new (cut_same_image name len) (λ read before after step. step) is

pub cut_read : (name : List ℕ) (len : ℕ) (old new : DiskRecord) → Logs (Cut name len) old new → reads (state_of new) name ≡ take len (reads (state_of old) name)
cut_read name len old new is = ap (λ (i : Image). i name) (logged_reads (Cut name len) old new is) ∙ file_here name (take len) (reads (state_of old))

pub cut_front : (name : List ℕ) (len : ℕ) (old new : DiskRecord) → Logs (Cut name len) old new → take (length (reads (state_of new) name)) (reads (state_of old) name) ≡ reads (state_of new) name
cut_front name len old new is = front_taken len (reads (state_of old) name) (reads (state_of new) name) (cut_read name len old new is)

-- a sync that is logged
pub sync_logged : (name : List ℕ) (old new : DiskRecord) → Logs (Sync name) old new → GoesOn IsSame (state_of old) (state_of new)
sync_logged name old new is = logged_goes_on _ (Sync name) old new (λ f. refl) (λ read before after left. left.0) is

pub synced : (name : List ℕ) (old new : DiskRecord) → Logs (Sync name) old new → IsStable name (state_of new)
synced name old new is = subst (λ (s : DiskState). IsStable name s) (state_logged (Sync name) old new is)
    (sync_stable (bytes_of old.initial) old.log (record { number = new.counts.calls; change = Sync name }) name (λ read before after left. ap (λ (i : Image). i name) left.0 ∙ left.1) refl)
