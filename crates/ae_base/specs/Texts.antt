-- The bytes of a text, kept in one of two ways.
use Rattle.std.specs.Prelude.{ℕ, List}
use Rattle.ae_base.specs.declared.text.Held.{Held}
use Rattle.ae_base.specs.declared.text.Held.TheVariants.{Alone, Shared}

-- whether the text has them alone or with its copies, the same bytes
abbrev pub bytes_held : Held → List ℕ
bytes_held (Alone bytes) = bytes.items
bytes_held (Shared bytes) = bytes.value.items
