-- What a batch has.
use Rattle.std.specs.Prelude.{List}
use Rattle.ae_vault.specs.declared.entry.Entry.{Entry}
use Rattle.ae_vault.specs.declared.piece.Piece.{Piece}

pub record BatchRecord : Type 0 where
  pub entries : List Entry
  pub pieces : List Piece
