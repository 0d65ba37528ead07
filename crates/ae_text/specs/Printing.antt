-- What holds of every tree because of its types.
use Rattle.std.specs.Prelude.{◌<◌, ◌^◌}
use Rattle.ae_base.specs.Bytes.{AreBytes}
use Rattle.ae_text.specs.Tree.{Node, word, number, str, list, fields, Items, no_items, item, Members, no_members, member}

-- each number fits 64 bits, and each string is of bytes
abbrev mutual
  pub FitsTypes : Node → Type 0
  FitsTypes (word w) = Unit {0}
  FitsTypes (number n) = n < 2 ^ 64
  FitsTypes (str s) = AreBytes s
  FitsTypes (list js) = ItemsFitTypes js
  FitsTypes (fields ms) = MembersFitTypes ms

  pub ItemsFitTypes : Items → Type 0
  ItemsFitTypes no_items = Unit {0}
  ItemsFitTypes (item j js) = FitsTypes j × ItemsFitTypes js

  pub MembersFitTypes : Members → Type 0
  MembersFitTypes no_members = Unit {0}
  MembersFitTypes (member k j ms) = FitsTypes j × MembersFitTypes ms
