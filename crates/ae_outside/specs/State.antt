-- A disk's clock, and what it holds at each moment: what a read returns, and what a stop may leave.
use Rattle.std.specs.Prelude.{◌≡◌, ℕ, ◌≤◌, List}
use Rattle.ae_outside.specs.Image.{Image, cut_to}

pub record DiskState : Type 1 where
  -- now; it doesn't fall
  pub moment : ℕ
  pub reads_at : ℕ → Image
  pub image_at : ℕ → Image → Type 0
  -- what a disk reads is one of its images
  pub reads_is_image : (u : ℕ) → u ≤ moment → image_at u (reads_at u)
  -- and so is an image with one file cut to the length that is read
  pub cut_is_image : (u : ℕ) (name : List ℕ) (image : Image) → u ≤ moment → image_at u image → image_at u (cut_to (reads_at u) name image)

-- what is read now
abbrev pub reads : DiskState → Image
reads disk = disk.reads_at disk.moment

-- a stop now may leave this
abbrev pub MayLeave : DiskState → Image → Type 0
MayLeave disk image = disk.image_at disk.moment image

-- Time goes on from old to new. What was up to old stays as it was.
pub record Continues (old new : DiskState) : Type 0 where
  pub later : old.moment ≤ new.moment
  pub reads_stay : (u : ℕ) → u ≤ old.moment → new.reads_at u ≡ old.reads_at u
  pub no_more : (u : ℕ) (image : Image) → u ≤ old.moment → new.image_at u image → old.image_at u image
  pub no_fewer : (u : ℕ) (image : Image) → u ≤ old.moment → old.image_at u image → new.image_at u image

-- Whatever was read since, and whatever a stop since may have left, comes by this step from what was there at old.
pub record GoesOn (step : Image → Image → Type 0) (old new : DiskState) : Type 0 where
  pub time : Continues old new
  pub reads_since : (u : ℕ) → old.moment ≤ u → u ≤ new.moment → step (reads old) (new.reads_at u)
  pub images_since : (u : ℕ) (image : Image) → old.moment ≤ u → u ≤ new.moment → new.image_at u image → (from : Image) × MayLeave old from × step from image

-- the file is on the disk as it reads
abbrev pub IsStable : List ℕ → DiskState → Type 0
IsStable name disk = (image : Image) → MayLeave disk image → image name ≡ reads disk name
