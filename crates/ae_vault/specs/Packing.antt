-- What is known of the packed file while pieces are written.
use Rattle.std.specs.Prelude.{◌≡◌, ℕ, ◌<◌, List, length, take, slice_index}
use Rattle.ae_outside.specs.Image.{Image, SameElsewhere}
use Rattle.ae_vault.specs.declared.piece.Piece.{Piece}
use Rattle.ae_vault.specs.Pieces.{pack, KeepsOutside}

-- Outside the pieces the first so many bytes are as they were. What is after them may be any: a stop may leave
-- the file longer than it reads, and zero bytes are written from the end that is read.
pub record PackBegun (pieces : List Piece) (size : ℕ) (old new : Image) : Type 0 where
  pub others : SameElsewhere pack old new
  pub packed : KeepsOutside pieces (take size (old pack)) (new pack)

-- the same bytes, and more up to a length
pub record IsExtended (to : ℕ) (old new : List ℕ) : Type 0 where
  pub length_is : length new ≡ to
  pub same : (k : ℕ) → k < length old → slice_index new k ≡ slice_index old k
