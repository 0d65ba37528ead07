use Rattle.std.proofs.Common.{◌≡◌, true, map, string_bytes, take}
use Rattle.std.specs.List.{list_all}
use Rattle.ae_lines.specs.Line.{is_ascii_word}
use Rattle.ae_lines.proofs.line.words_of.Given as goal

abbrev pub invariant-loop-word : goal.invariant-loop-word
invariant-loop-word l = record {
  words : map string_bytes l.words.items ≡ take l.word-index l.rest;
  ascii : list_all is_ascii_word (take l.word-index l.rest) ≡ true;
}
