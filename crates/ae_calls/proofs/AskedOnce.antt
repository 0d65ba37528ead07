-- A call whose words ask for one function asks for no other.
use Rattle.std.proofs.Common.{◌≡◌, ℕ, true, false, List, sym, ◌∙◌, ap}
use Rattle.ae_words.specs.Grammar.{IsCommand}
use Rattle.ae_words.specs.Table.{is_one_command}
use Rattle.ae_words.specs.declared.command.Command.{Command}
use Rattle.ae_words.specs.declared.table.Function.{Function}
use Rattle.ae_words.proofs.FirstBad.{one_command}

module _ (words : List (List ℕ)) (a b : Command) (is_a : IsCommand words a) (is_b : IsCommand words b) (f : Function) (asks : b.function ≡ f) where
  same-function : a.function ≡ f
  same-function = ap (λ (c : Command). c.function) (one_command words a b is_a is_b) ∙ asks

  pub never-one : is_one_command f ≡ false → is_one_command a.function ≡ true → ⊥
  never-one other one = let both : false ≡ true = sym other ∙ sym (ap is_one_command same-function) ∙ one in cc

  pub never-other : (g : Function) → (f ≡ g → ⊥) → a.function ≡ g → ⊥
  never-other g other is = other (sym same-function ∙ is)
