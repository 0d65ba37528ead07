-- Distinct names and depth, in one.
use Rattle.std.proofs.Common.{ℕ, ◌-◌, ◌<◌}
use Rattle.ae_text.specs.Tree.{Node, list, fields, Items, no_items, item, Members, no_members, member}
use Rattle.ae_text.specs.Tree as tree
use Rattle.ae_text.specs.WellFormed.{LacksName, HasDistinctNames, ItemsHaveDistinctNames, MembersHaveDistinctNames, FitsDepth, ItemsFitDepth, MembersFitDepth}

abbrev mutual
  pub IsShaped : ℕ → Node → Type 0
  IsShaped depth (tree.word w) = Unit {0}
  IsShaped depth (tree.number n) = Unit {0}
  IsShaped depth (tree.str s) = Unit {0}
  IsShaped depth (list js) = (0 < depth) × AreShaped (depth - 1) js
  IsShaped depth (fields ms) = (0 < depth) × FieldsAreShaped (depth - 1) ms

  pub AreShaped : ℕ → Items → Type 0
  AreShaped depth no_items = Unit {0}
  AreShaped depth (item j js) = IsShaped depth j × AreShaped depth js

  pub FieldsAreShaped : ℕ → Members → Type 0
  FieldsAreShaped depth no_members = Unit {0}
  FieldsAreShaped depth (member k j ms) = LacksName k ms × IsShaped depth j × FieldsAreShaped depth ms

mutual
  value_shaped : (v : Node) (depth : ℕ) → HasDistinctNames v → FitsDepth depth v → IsShaped depth v
  value_shaped (tree.word w) depth h g = tt
  value_shaped (tree.number n) depth h g = tt
  value_shaped (tree.str s) depth h g = tt
  value_shaped (list js) depth h g = (g.0, items_shaped js (depth - 1) h g.1)
  value_shaped (fields ms) depth h g = (g.0, shaped ms (depth - 1) h g.1)

  items_shaped : (js : Items) (depth : ℕ) → ItemsHaveDistinctNames js → ItemsFitDepth depth js → AreShaped depth js
  items_shaped no_items depth h g = tt
  items_shaped (item j js) depth h g = (value_shaped j depth h.0 g.0, items_shaped js depth h.1 g.1)

  pub shaped : (ms : Members) (depth : ℕ) → MembersHaveDistinctNames ms → MembersFitDepth depth ms → FieldsAreShaped depth ms
  shaped no_members depth h g = tt
  shaped (member k j ms) depth h g = (h.0, value_shaped j depth h.1 g.0, shaped ms depth h.2 g.1)

mutual
  value_names : (v : Node) (depth : ℕ) → IsShaped depth v → HasDistinctNames v
  value_names (tree.word w) depth h = tt
  value_names (tree.number n) depth h = tt
  value_names (tree.str s) depth h = tt
  value_names (list js) depth h = items_names js (depth - 1) h.1
  value_names (fields ms) depth h = names_of ms (depth - 1) h.1

  items_names : (js : Items) (depth : ℕ) → AreShaped depth js → ItemsHaveDistinctNames js
  items_names no_items depth h = tt
  items_names (item j js) depth h = (value_names j depth h.0, items_names js depth h.1)

  pub names_of : (ms : Members) (depth : ℕ) → FieldsAreShaped depth ms → MembersHaveDistinctNames ms
  names_of no_members depth h = tt
  names_of (member k j ms) depth h = (h.0, value_names j depth h.1, names_of ms depth h.2)

mutual
  value_depth : (v : Node) (depth : ℕ) → IsShaped depth v → FitsDepth depth v
  value_depth (tree.word w) depth h = tt
  value_depth (tree.number n) depth h = tt
  value_depth (tree.str s) depth h = tt
  value_depth (list js) depth h = (h.0, items_depth js (depth - 1) h.1)
  value_depth (fields ms) depth h = (h.0, depth_of ms (depth - 1) h.1)

  items_depth : (js : Items) (depth : ℕ) → AreShaped depth js → ItemsFitDepth depth js
  items_depth no_items depth h = tt
  items_depth (item j js) depth h = (value_depth j depth h.0, items_depth js depth h.1)

  pub depth_of : (ms : Members) (depth : ℕ) → FieldsAreShaped depth ms → MembersFitDepth depth ms
  depth_of no_members depth h = tt
  depth_of (member k j ms) depth h = (value_depth j depth h.1, depth_of ms depth h.2)
