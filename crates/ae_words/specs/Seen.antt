-- What contracts see of the reader's own types.
use Rattle.std.specs.Prelude.{ℕ, ◌≡◌, Result, Ok, Err}
use Rattle.ae_words.specs.Items as spec
use Rattle.ae_words.specs.declared.items.Word.{Word}
use Rattle.ae_words.specs.declared.items.Word.TheVariants as word
use Rattle.ae_words.specs.declared.items.Item.{Item}
use Rattle.ae_words.specs.declared.items.Item.TheVariants as item
use Rattle.ae_words.specs.declared.command.Command.{Command}
use Rattle.ae_words.specs.declared.command.Stop.{Stop}
use Rattle.ae_words.specs.declared.command.Stop.TheVariants as stop

-- the word that the reader's stands for
abbrev pub word_seen : Word → spec.Word
word_seen word.Plain = spec.plain
word_seen (word.Flag o) = spec.flag o
word_seen (word.Written o v) = spec.written o v.now
word_seen (word.Asks o) = spec.asks o
word_seen word.Wrong = spec.wrong

-- the item that the reader's stands for, with its place
abbrev pub item_seen : ℕ → Item → spec.Item
item_seen at (item.Plain w) = spec.a_plain at w.now
item_seen at (item.Flag o) = spec.a_flag at o
item_seen at (item.Valued o v_at v) = spec.an_option at o v_at v.now
item_seen at item.Wrong = spec.a_wrong at

-- the answer is this one, unless memory runs out
abbrev pub Gives : Result Command Stop → Result Command ℕ → Type 0
Gives (Ok c) r = r ≡ Ok c
Gives (Err (stop.Bad p)) r = r ≡ Err p
Gives (Err stop.Memory) r = Unit {0}
