use Rattle.std.proofs.Common.{◌≡◌, ◌<◌, ◌^◌, ◌∙◌, ℕ, List, true, length, sym, ap, subst}
use Rattle.ae_vault.specs.declared.entry.Entry.{Entry}
use Rattle.ae_vault.specs.Body.{Fit, body_of, entries_put}
use Rattle.ae_vault.specs.Pieces.{no_entry_is_pack}
use Rattle.ae_vault.specs.Vault.{all_entry_names, are_entries, body_entries}
use Rattle.ae_vault.proofs.EntriesPut.{all-named, entries-put, length-put, names-put, pack-put}
use Rattle.ae_vault.proofs.BodyText.{body_reads}
use Rattle.ae_vault.proofs.vault.Vault.prepare.Goals as goal

pub write_body-requires-clause-names : goal.write_body-requires-clause-names
write_body-requires-clause-names c =
    ap all_entry_names (c.as_slice.ensures ∙ c.in_ok-entries.ensures) ∙ names-put c.args.entries ∙ all-named c.args.entries c.requires.entries

pub write_body-requires-clause-count : goal.write_body-requires-clause-count
write_body-requires-clause-count c =
    subst (λ (n : ℕ). n < 2 ^ 32) (sym (ap (λ (es : List Entry). length es) (c.as_slice.ensures ∙ c.in_ok-entries.ensures) ∙ length-put c.args.entries)) c.requires.count

pub invariant_of-result : goal.invariant_of-result
invariant_of-result c =
    let made : c.in_ok-entries.entries ≡ entries_put c.args.entries = c.in_ok-entries.ensures in
    let text : c.in_ok-body.body.items ≡ body_of c.in_ok-entries.entries = c.in_ok-body.ensures.body ∙ ap body_of c.as_slice.ensures in
    let fit : Fit c.in_ok-entries.entries = subst (λ (es : List Entry). Fit es) c.as_slice.ensures c.in_ok-body.ensures.fit in
    let good : are_entries c.in_ok-entries.entries ≡ true = ap are_entries made ∙ entries-put c.args.entries ∙ c.requires.entries in
    let few : length c.in_ok-entries.entries < 2 ^ 32 = subst (λ (n : ℕ). n < 2 ^ 32) (sym (ap (λ (es : List Entry). length es) made ∙ length-put c.args.entries)) c.requires.count in
    (text, ap body_entries text ∙ body_reads c.in_ok-entries.entries good few fit, good, ap no_entry_is_pack made ∙ pack-put c.args.entries ∙ c.requires.no_pack, c.requires.pieces)
