use Rattle.std.proofs.Common.{◌≡◌, ℕ, List, [], Option, unwrap_or, OnOk, ap, sym, subst, ◌∙◌}
use Rattle.std.proofs.lemmas.Result.{on_ok_weaker}
use Rattle.ae_outside.specs.Image.{SameElsewhere}
use Rattle.ae_outside.specs.State.{reads, GoesOn, IsStable}
use Rattle.ae_vault.proofs.Packs.{no_items}
use Rattle.ae_vault.proofs.vault.put_entry.Goals as goal

pub returns-in-None-clause-cause : goal.returns-in-None-clause-cause
returns-in-None-clause-cause g c = c.clear.ensures.cause

pub returns-then-is_empty-clause-cause : goal.returns-then-is_empty-clause-cause
returns-then-is_empty-clause-cause g c = c.clear-then-is_empty.ensures.cause

pub returns-else-is_empty-clause-cause : goal.returns-else-is_empty-clause-cause
returns-else-is_empty-clause-cause g c = c.replace.ensures.cause

pub returns-in-None-clause-reads : goal.returns-in-None-clause-reads
returns-in-None-clause-reads g c =
    let name : c.disk_name-name.result.now ≡ c.args.entry.now.name = c.disk_name-name.ensures ∙ c.bytes.ensures.value in
    on_ok_weaker c.clear.result (λ read t. ap (reads (g.D.Disk.state c.clear.new.disk)) (sym name) ∙ read t ∙ sym (ap (λ (o : Option (List ℕ)). unwrap_or o []) c.in-None.is)) c.clear.ensures.reads

pub returns-in-None-clause-stable : goal.returns-in-None-clause-stable
returns-in-None-clause-stable g c =
    let name : c.disk_name-name.result.now ≡ c.args.entry.now.name = c.disk_name-name.ensures ∙ c.bytes.ensures.value in
    subst (λ (n : List ℕ). OnOk c.clear.result (g.D.Disk.tells → IsStable n (g.D.Disk.state c.clear.new.disk))) name c.clear.ensures.stable

pub returns-in-None-clause-change : goal.returns-in-None-clause-change
returns-in-None-clause-change g c = λ t.
    let name : c.disk_name-name.result.now ≡ c.args.entry.now.name = c.disk_name-name.ensures ∙ c.bytes.ensures.value in
    subst (λ (n : List ℕ). GoesOn (SameElsewhere n) (g.D.Disk.state c.args.disk.now) (g.D.Disk.state c.clear.new.disk)) name (c.clear.ensures.change t)

pub returns-then-is_empty-clause-reads : goal.returns-then-is_empty-clause-reads
returns-then-is_empty-clause-reads g c =
    let name : c.disk_name-name.result.now ≡ c.args.entry.now.name = c.disk_name-name.ensures ∙ c.bytes.ensures.value in
    on_ok_weaker c.clear-then-is_empty.result (λ read t. ap (reads (g.D.Disk.state c.clear-then-is_empty.new.disk)) (sym name) ∙ read t ∙ sym (ap (λ (o : Option (List ℕ)). unwrap_or o []) c.in-Some.is ∙ sym c.bytes-bytes.ensures.value ∙ no_items c.bytes-bytes.result.now (sym c.is_empty.ensures ∙ c.if-is_empty.true))) c.clear-then-is_empty.ensures.reads

pub returns-then-is_empty-clause-stable : goal.returns-then-is_empty-clause-stable
returns-then-is_empty-clause-stable g c =
    let name : c.disk_name-name.result.now ≡ c.args.entry.now.name = c.disk_name-name.ensures ∙ c.bytes.ensures.value in
    subst (λ (n : List ℕ). OnOk c.clear-then-is_empty.result (g.D.Disk.tells → IsStable n (g.D.Disk.state c.clear-then-is_empty.new.disk))) name c.clear-then-is_empty.ensures.stable

pub returns-then-is_empty-clause-change : goal.returns-then-is_empty-clause-change
returns-then-is_empty-clause-change g c = λ t.
    let name : c.disk_name-name.result.now ≡ c.args.entry.now.name = c.disk_name-name.ensures ∙ c.bytes.ensures.value in
    subst (λ (n : List ℕ). GoesOn (SameElsewhere n) (g.D.Disk.state c.args.disk.now) (g.D.Disk.state c.clear-then-is_empty.new.disk)) name (c.clear-then-is_empty.ensures.change t)

pub returns-else-is_empty-clause-reads : goal.returns-else-is_empty-clause-reads
returns-else-is_empty-clause-reads g c =
    let name : c.disk_name-name.result.now ≡ c.args.entry.now.name = c.disk_name-name.ensures ∙ c.bytes.ensures.value in
    on_ok_weaker c.replace.result (λ read t. ap (reads (g.D.Disk.state c.replace.new.disk)) (sym name) ∙ read t ∙ c.bytes-bytes.ensures.value ∙ sym (ap (λ (o : Option (List ℕ)). unwrap_or o []) c.in-Some.is)) c.replace.ensures.reads

pub returns-else-is_empty-clause-stable : goal.returns-else-is_empty-clause-stable
returns-else-is_empty-clause-stable g c =
    let name : c.disk_name-name.result.now ≡ c.args.entry.now.name = c.disk_name-name.ensures ∙ c.bytes.ensures.value in
    subst (λ (n : List ℕ). OnOk c.replace.result (g.D.Disk.tells → IsStable n (g.D.Disk.state c.replace.new.disk))) name c.replace.ensures.stable

pub returns-else-is_empty-clause-change : goal.returns-else-is_empty-clause-change
returns-else-is_empty-clause-change g c = λ t.
    let name : c.disk_name-name.result.now ≡ c.args.entry.now.name = c.disk_name-name.ensures ∙ c.bytes.ensures.value in
    subst (λ (n : List ℕ). GoesOn (SameElsewhere n) (g.D.Disk.state c.args.disk.now) (g.D.Disk.state c.replace.new.disk)) name (c.replace.ensures.change t)
