-- What a stop leaves by a pick is one of the images that it may leave.
use Rattle.std.specs.Prelude.{◌≡◌, ℕ, Bool, true, false, if◌then◌else◌, List, [], ◌∷◌, length, replicate, refl}
use Rattle.std.proofs.Common.{inl, inr, sym, ◌∙◌, ap, subst, arith}
use Rattle.std.proofs.lemmas.List.{length-replicate, take_all}
use Rattle.std.specs.Str.{bytes_eq}
use Rattle.std.proofs.lemmas.Slice.Eq.{bytes_eq-Decides}
use Rattle.ae_memory_disk.specs.declared.disk_log.Change.{Change}
use Rattle.ae_memory_disk.specs.declared.disk_log.Change.TheVariants.{Write, Cut, Sync}
use Rattle.ae_memory_disk.specs.declared.disk_log.Logged.{Logged}
use Rattle.ae_memory_disk.specs.declared.disk_stop.Pick.{Pick}
use Rattle.ae_memory_disk.specs.declared.disk_stop.Pick.TheVariants.{Old, New, Zeros, Ones}
use Rattle.ae_outside.specs.Image.{Image, with_file, IsTorn, IsCut}
use Rattle.ae_outside.specs.State.{reads, MayLeave}
use Rattle.ae_memory_disk.specs.DiskFiles.{bytes_of}
use Rattle.ae_memory_disk.specs.DiskLog.{overwritten, applied, After, replay, Left, IsLeft, changes_by}
use Rattle.ae_memory_disk.specs.DiskLaws.{bool_cases, torn_same, cut_same, overwritten_torn, cut_cut, file_here, file_elsewhere, applied_leaves, with_file_same}
use Rattle.ae_memory_disk.specs.DiskPick.{write_left, cut_left, left_after, picked_from, picked}
use Rattle.ae_memory_disk.specs.MemDisk.{DiskRecord, state_from, state_of, moment_behind, picked_behind}
use Rattle.ae_memory_disk.proofs.DiskReplay.{reads_replay}

-- some files of the one image and the rest of the other
abbrev mix : (List ℕ → Bool) → Image → Image → Image
mix which f g name = if which name then f name else g name

-- images of which any files may be put together
abbrev IsFileWise : (Image → Type 0) → Type 0
IsFileWise images = (which : List ℕ → Bool) (f g : Image) → images f → images g → images (mix which f g)

-- a fact of a file of either image
mix_case : (which : List ℕ → Bool) (P : List ℕ → List ℕ → Type 0) (f0 g0 f g : Image) (name : List ℕ) → P (f0 name) (f name) → P (g0 name) (g name) → P (mix which f0 g0 name) (mix which f g name)
mix_case which P f0 g0 f g name pf pg = at (which name)
  where
    at : (b : Bool) → P (if b then f0 name else g0 name) (if b then f name else g name)
    at true = pf
    at false = pg

-- the images after a change are put together file by file too
file_wise_after : (change : Change) (read : Image) (images : Image → Type 0) → IsFileWise images → IsFileWise (After change read images)
file_wise_after (Write name at bytes) read images wise which f g from_f from_g = (
  mix which from_f.0 from_g.0,
  wise which from_f.0 from_g.0 from_f.1 from_g.1,
  record {
    file = mix_case which (IsTorn at (length bytes)) from_f.0 from_g.0 f g name from_f.2.file from_g.2.file;
    others = λ other differs. mix_case which (λ old new. new ≡ old) from_f.0 from_g.0 f g other (from_f.2.others other differs) (from_g.2.others other differs);
  },
)
file_wise_after (Cut name len) read images wise which f g from_f from_g = (
  mix which from_f.0 from_g.0,
  wise which from_f.0 from_g.0 from_f.1 from_g.1,
  record {
    file = mix_case which (IsCut len) from_f.0 from_g.0 f g name from_f.2.file from_g.2.file;
    others = λ other differs. mix_case which (λ old new. new ≡ old) from_f.0 from_g.0 f g other (from_f.2.others other differs) (from_g.2.others other differs);
  },
)
file_wise_after (Sync name) read images wise which f g from_f from_g = (
  mix which from_f.0 from_g.0,
  wise which from_f.0 from_g.0 from_f.1 from_g.1,
  (
    (λ i n. mix_case which (λ old new. new ≡ old) from_f.0 from_g.0 f g n (ap (λ (h : Image). h n) from_f.2.0) (ap (λ (h : Image). h n) from_g.2.0) i),
    mix_case which (λ old new. old ≡ read name) from_f.0 from_g.0 f g name from_f.2.1 from_g.2.1,
  ),
)

-- a file that is synced is as it reads
synced : (name : List ℕ) (read image : Image) (images : Image → Type 0) → IsFileWise images → images read → images image
    → (old : Image) × images old × ((with_file name (λ _. read name) image ≡ old) × (old name ≡ read name))
synced name read image images wise is_read is = (
  mix (bytes_eq name) read image,
  wise (bytes_eq name) read image is_read is,
  ((λ i n. same n i), ap (λ (b : Bool). if b then read name else image name) ((bytes_eq-Decides name name).1 refl)),
)
  where
    same : (n : List ℕ) → with_file name (λ _. read name) image n ≡ mix (bytes_eq name) read image n
    same n = elim (bool_cases (bytes_eq name n)) [
      | inl here ↦ ap (λ (b : Bool). if b then read name else image n) here ∙ ap read ((bytes_eq-Decides name n).0 here) ∙ sym (ap (λ (b : Bool). if b then read n else image n) here)
      | inr other ↦ ap (λ (b : Bool). if b then read name else image n) other ∙ sym (ap (λ (b : Bool). if b then read n else image n) other)
    ]

-- copies of a byte put over a file, and the picks of a write and a cut
filled_torn : (at n byte : ℕ) (file : List ℕ) → IsTorn at n file (overwritten at (replicate n byte) file)
filled_torn at n byte file = subst (λ (m : ℕ). IsTorn at m file (overwritten at (replicate n byte) file)) (length-replicate n byte) (overwritten_torn at (replicate n byte) file)

write_torn : (pick : Pick) (at : ℕ) (bytes file : List ℕ) → IsTorn at (length bytes) file (write_left pick at bytes file)
write_torn Old at bytes file = torn_same at (length bytes) file
write_torn New at bytes file = overwritten_torn at bytes file
write_torn Zeros at bytes file = filled_torn at (length bytes) 0 file
write_torn Ones at bytes file = filled_torn at (length bytes) 255 file

cut_torn : (pick : Pick) (len : ℕ) (file : List ℕ) → IsCut len file (cut_left pick len file)
cut_torn Old len file = cut_same len file
cut_torn New len file = cut_cut len file
cut_torn Zeros len file = cut_cut len file
cut_torn Ones len file = cut_cut len file

-- one more change leaves one of the images after it
pick_leaves : (pick : Pick) (change : Change) (read left : Image) (images : Image → Type 0) → IsFileWise images → images read → images left → After change read images (left_after pick change read left)
pick_leaves pick (Write name at bytes) read left images wise is_read is = (
  left,
  is,
  record {
    file = subst (λ (l : List ℕ). IsTorn at (length bytes) (left name) l) (sym (file_here name (write_left pick at bytes) left)) (write_torn pick at bytes (left name));
    others = file_elsewhere name (write_left pick at bytes) left;
  },
)
pick_leaves pick (Cut name len) read left images wise is_read is = (
  left,
  is,
  record {
    file = subst (λ (l : List ℕ). IsCut len (left name) l) (sym (file_here name (cut_left pick len) left)) (cut_torn pick len (left name));
    others = file_elsewhere name (cut_left pick len) left;
  },
)
pick_leaves pick (Sync name) read left images wise is_read is = synced name read left images wise is_read is

left_from : (pick : Pick) (log : List Logged) (read left : Image) (images : Image → Type 0) → IsFileWise images → images read → images left → Left read images log (picked_from pick read left log)
left_from pick [] read left images wise is_read is = is
left_from pick (entry ∷ log) read left images wise is_read is =
    left_from pick log (applied entry.change read) (left_after pick entry.change read left) (After entry.change read images) (file_wise_after entry.change read images wise) (read, is_read, applied_leaves entry.change read)
    (pick_leaves pick entry.change read left images wise is_read is)

start_wise : (start : Image) → IsFileWise (λ i. i ≡ start)
start_wise start which f g f_is g_is i n = at (which n) i
  where
    at : (b : Bool) → (if b then f n else g n) ≡ start n
    at true = ap (λ (h : Image). h n) f_is
    at false = ap (λ (h : Image). h n) g_is

-- what is left by the pick is one of the images
picked_left : (pick : Pick) (start : Image) (log : List Logged) → IsLeft start log (picked pick start log)
picked_left pick start log = left_from pick log start start (λ i. i ≡ start) (start_wise start) refl refl

-- what is read is left by `New`
new_after : (change : Change) (read : Image) → left_after New change read read ≡ applied change read
new_after (Write name at bytes) read = refl
new_after (Cut name len) read = refl
new_after (Sync name) read = with_file_same name (λ _. read name) read refl

new_from : (log : List Logged) (read left : Image) → left ≡ read → picked_from New read left log ≡ replay read log
new_from [] read left is = is
new_from (entry ∷ log) read left is = new_from log (applied entry.change read) (left_after New entry.change read left) (ap (left_after New entry.change read) is ∙ new_after entry.change read)

-- what is left by the pick after the first calls
picked_image : (pick : Pick) (calls : ℕ) (disk : DiskRecord) → (state_of disk).image_at (moment_behind calls disk) (picked_behind pick calls disk)
unfolding state_from
picked_image pick calls disk = picked_left pick (bytes_of disk.initial) (changes_by calls disk.log)

picked_new : (calls : ℕ) (disk : DiskRecord) → picked_behind New calls disk ≡ (state_of disk).reads_at (moment_behind calls disk)
unfolding state_from
picked_new calls disk = new_from (changes_by calls disk.log) (bytes_of disk.initial) (bytes_of disk.initial) refl

-- a disk with nothing logged reads as it began, and nothing else can be left
fresh_reads : (disk : DiskRecord) → disk.log ≡ [] → reads (state_of disk) ≡ bytes_of disk.initial
fresh_reads disk is = reads_replay disk ∙ ap (replay (bytes_of disk.initial)) is

pub fresh_stable : (disk : DiskRecord) → disk.log ≡ [] → (image : Image) → MayLeave (state_of disk) image → image ≡ reads (state_of disk)
unfolding state_from
fresh_stable disk is image left =
    subst (λ (log : List Logged). IsLeft (bytes_of disk.initial) log image) (take_all (length disk.log) disk.log (omega arith) ∙ is) left ∙ sym (fresh_reads disk is)

-- the disk after a stop, which begins with what is left
pub picked_reads : (pick : Pick) (calls : ℕ) (old new : DiskRecord) → new.log ≡ [] → bytes_of new.initial ≡ picked_behind pick calls old → reads (state_of new) ≡ picked_behind pick calls old
picked_reads pick calls old new log_is is = fresh_reads new log_is ∙ is

pub image_reads : (pick : Pick) (calls : ℕ) (old new : DiskRecord) → new.log ≡ [] → bytes_of new.initial ≡ picked_behind pick calls old → (state_of old).image_at (moment_behind calls old) (reads (state_of new))
image_reads pick calls old new log_is is = subst (λ (image : Image). (state_of old).image_at (moment_behind calls old) image) (sym (picked_reads pick calls old new log_is is)) (picked_image pick calls old)

pub new_reads : (pick : Pick) (calls : ℕ) (old new : DiskRecord) → new.log ≡ [] → bytes_of new.initial ≡ picked_behind pick calls old → pick ≡ New → reads (state_of new) ≡ (state_of old).reads_at (moment_behind calls old)
new_reads pick calls old new log_is is is_new = picked_reads pick calls old new log_is is ∙ ap (λ (p : Pick). picked_behind p calls old) is_new ∙ picked_new calls old
