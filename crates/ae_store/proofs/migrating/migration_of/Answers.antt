use Rattle.std.proofs.Common.{◌∙◌, List, sym, subst}
use Rattle.ae_vault.specs.declared.piece.Piece.{Piece}
use Rattle.ae_vault.specs.Body.{entries_put}
use Rattle.ae_store.specs.Batching.{AreOrdered}
use Rattle.ae_store.specs.Migrating.{Migrates, is_other}
use Rattle.ae_store.specs.Names.{files_file}
use Rattle.ae_store.proofs.EntriesLeft.{ordered_left}
use Rattle.ae_store.proofs.Migrated.{migrates_left, of_made}
use Rattle.ae_store.proofs.migrating.migration_of.Goals as goal

pub prepare-requires-clause-entries : goal.prepare-requires-clause-entries
prepare-requires-clause-entries c =
    let left : AreOrdered c.of.result = subst AreOrdered (sym (c.of.ensures ∙ c.without_table.ensures)) (ordered_left (is_other files_file) c.in_ok-entries.entries.items c.in_ok-entries.ensures.ordered) in
    left.names

pub prepare-requires-clause-no_pack : goal.prepare-requires-clause-no_pack
prepare-requires-clause-no_pack c =
    let left : AreOrdered c.of.result = subst AreOrdered (sym (c.of.ensures ∙ c.without_table.ensures)) (ordered_left (is_other files_file) c.in_ok-entries.entries.items c.in_ok-entries.ensures.ordered) in
    left.no_pack

pub prepare-requires-clause-count : goal.prepare-requires-clause-count
prepare-requires-clause-count c =
    let left : AreOrdered c.of.result = subst AreOrdered (sym (c.of.ensures ∙ c.without_table.ensures)) (ordered_left (is_other files_file) c.in_ok-entries.entries.items c.in_ok-entries.ensures.ordered) in
    left.few

pub returns : goal.returns
returns c =
    of_made c.prepare.result (record { entries = entries_put c.of.result; pieces = c.new.result }) (Migrates c.args.state.now) c.prepare.ensures
    (subst (λ (pieces : List Piece). Migrates c.args.state.now (record { entries = entries_put c.of.result; pieces = pieces })) (sym c.new.ensures)
    (migrates_left c.args.state.now c.in_ok-entries.entries.items c.of.result (c.of.ensures ∙ c.without_table.ensures) c.in_ok-entries.ensures.entries (λ files. c.in_ok-entries.ensures.there files tt)))
