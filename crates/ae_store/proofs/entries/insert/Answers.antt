use Rattle.std.proofs.Common.{◌≡◌, ◌<◌, ◌+◌, ◌^◌, ℕ, List, ◌∷◌, length, subst, sym, rules, arith}
use Rattle.std.proofs.lemmas.Fn.{always_returns_same}
use Rattle.ae_vault.specs.declared.entry.Entry.{Entry}
use Rattle.ae_vault.specs.Vault.{content_of}
use Rattle.ae_types.proofs.Keys.{by_text}
use Rattle.ae_store.specs.Batching.{AreOrdered}
use Rattle.ae_store.proofs.BatchEntries.{there_content, inserted_content, inserted_ordered}
use Rattle.ae_store.proofs.entries.insert.Goals as goal

pub returns-in-Ok-clause-content : goal.returns-in-Ok-clause-content
returns-in-Ok-clause-content c = there_content c.args.entries.now.items c.deref.result.now c.deref.ensures.value c.in-Ok.field-0 c.args.entry c.in-Ok.ensures.bound
    (c.in-Ok.ensures.position (λ (y : Entry). by_text.cmp y.name c.args.entry.name) (always_returns_same _ _ _ (λ a r f' called. search rules)))

pub returns-in_ok-insert-in-Err-clause-content : goal.returns-in_ok-insert-in-Err-clause-content
returns-in_ok-insert-in-Err-clause-content c =
    subst (λ (es : List Entry). (name : List ℕ) → content_of es name ≡ content_of (c.args.entry ∷ c.args.entries.now.items) name) (sym c.in_ok-insert-in-Err.ensures.items)
    (inserted_content c.args.entries.now.items c.deref.result.now c.deref.ensures.value c.in-Err.at c.args.entry c.requires.ordered c.in-Err.ensures.bound
    (c.in-Err.ensures.position (λ (y : Entry). by_text.cmp y.name c.args.entry.name) (always_returns_same _ _ _ (λ a r f' called. search rules))))

pub returns-in_ok-insert-in-Err-clause-ordered : goal.returns-in_ok-insert-in-Err-clause-ordered
returns-in_ok-insert-in-Err-clause-ordered c =
    let few : length c.args.entries.now.items + 1 < 2 ^ 32 = omega arith in
    subst AreOrdered (sym c.in_ok-insert-in-Err.ensures.items)
    (inserted_ordered c.args.entries.now.items c.deref.result.now c.deref.ensures.value c.in-Err.at c.args.entry c.requires.ordered c.in-Err.ensures.bound c.requires.name few
    (c.in-Err.ensures.position (λ (y : Entry). by_text.cmp y.name c.args.entry.name) (always_returns_same _ _ _ (λ a r f' called. search rules))))
