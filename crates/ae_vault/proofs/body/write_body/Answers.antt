use Rattle.std.proofs.Common.{◌≡◌, ◌++◌, List, ℕ, length, take, flat_map, ap, sym, subst, ◌∙◌, arith, append_assoc}
use Rattle.std.proofs.lemmas.Bool.Decides.{nat_tests}
use Rattle.std.proofs.lemmas.List.{take_all}
use Rattle.std.specs.Int.{to_le_bytes, w32}
use Rattle.ae_vault.specs.declared.entry.Entry.{Entry}
use Rattle.ae_vault.specs.Body.{Fit, entry_bytes}
use Rattle.ae_vault.proofs.BodyText.{written_one, fit_one}
use Rattle.ae_vault.proofs.Entries.{name_at}
use Rattle.ae_vault.proofs.body.write_body.Goals as goal

pub loop-entry-preserved : goal.loop-entry-preserved
loop-entry-preserved c = record {
  written =
      c.in_ok-write_entry.ensures.written
      ∙ ap (λ (l : List ℕ). l ++ entry_bytes c.entry-item.result) c.loop-entry.invariant.written
      ∙ append_assoc (to_le_bytes w32 (length c.args.entries.now)) (flat_map entry_bytes (take c.loop-entry.entry-index c.args.entries.now)) (entry_bytes c.entry-item.result)
      ∙ ap (λ (l : List ℕ). to_le_bytes w32 (length c.args.entries.now) ++ l) (sym (written_one c.args.entries.now c.loop-entry.entry-index c.entry-item.result (omega arith) c.entry-item.is));
  fit = fit_one c.args.entries.now c.loop-entry.entry-index c.entry-item.result (omega arith) c.entry-item.is c.loop-entry.invariant.fit c.in_ok-write_entry.ensures.fits;
}

pub write_entry-requires : goal.write_entry-requires
write_entry-requires c =
    let is = name_at c.args.entries.now c.loop-entry.entry-index c.entry-item.result (omega arith) c.entry-item.is c.requires.names in
    grind (arith, nat_tests)

pub returns-clause-body : goal.returns-clause-body
returns-clause-body c =
    let all : take c.loop-entry.entry-index c.args.entries.now ≡ c.args.entries.now = take_all _ _ (omega arith) in
    c.loop-entry.invariant.written ∙ ap (λ (es : List Entry). to_le_bytes w32 (length c.args.entries.now) ++ flat_map entry_bytes es) all

pub returns-clause-fit : goal.returns-clause-fit
returns-clause-fit c =
    let all : take c.loop-entry.entry-index c.args.entries.now ≡ c.args.entries.now = take_all _ _ (omega arith) in
    subst Fit all c.loop-entry.invariant.fit
