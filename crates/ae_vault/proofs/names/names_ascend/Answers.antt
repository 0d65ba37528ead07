use Rattle.std.proofs.Common.{◌≡◌, ◌-◌, ◌≤◌, ◌<◌, Bool, true, false, ◌&&◌, List, [], ◌∷◌, length, get_or, take, drop, refl, sym, ◌∙◌, ap, arith}
use Rattle.std.proofs.lemmas.List.{take_all}
use Rattle.std.specs.Cmp.Lexicographic.{slice_cmp}
use Rattle.std.specs.Ordering.{is_lt, nat_cmp}
use Rattle.ae_vault.specs.declared.entry.Entry.{Entry}
use Rattle.ae_vault.specs.Vault.{names_ascend}
use Rattle.ae_vault.proofs.names.names_ascend.Goals as goal

first_two : (l : List Entry) (e f : Entry) (b : Bool) → 2 ≤ length l → e ≡ get_or l 0 e → f ≡ get_or l 1 f → b ≡ is_lt (slice_cmp nat_cmp e.name f.name) → names_ascend l ≡ (b && names_ascend (take (length l - 1) (drop 1 l)))
first_two [] e f b two first second is = absurd (omega arith)
first_two (x ∷ []) e f b two first second is = absurd (omega arith)
first_two (x ∷ y ∷ l) e f b two first second is =
    ap (λ (d : Entry). is_lt (slice_cmp nat_cmp d.name y.name) && names_ascend (y ∷ l)) (sym first)
    ∙ ap (λ (d : Entry). is_lt (slice_cmp nat_cmp e.name d.name) && names_ascend (y ∷ l)) (sym second)
    ∙ ap (λ (a : Bool). a && names_ascend (y ∷ l)) (sym is)
    ∙ ap (λ (r : List Entry). b && names_ascend r) (sym (take_all (length (x ∷ y ∷ l) - 1) (y ∷ l) (omega arith)))

short : (l : List Entry) → length l < 2 → names_ascend l ≡ true
short [] lt = refl
short (x ∷ []) lt = refl
short (x ∷ y ∷ l) lt = absurd (omega arith)

pub returns-then-not-precedes : goal.returns-then-not-precedes
returns-then-not-precedes c =
    sym (c.loop-rest.invariant ∙ first_two c.loop-rest.rest.now c.first-item.result c.second-item.result false c.in-len2-up.len_at_least c.first-item.is c.second-item.is (sym c.if-not-precedes.true ∙ c.precedes.ensures))

pub loop-rest-preserved : goal.loop-rest-preserved
loop-rest-preserved c = c.loop-rest.invariant ∙ first_two c.loop-rest.rest.now c.first-item.result c.second-item.result true c.in-len2-up.len_at_least c.first-item.is c.second-item.is (sym c.if-not-precedes.false ∙ c.precedes.ensures)

pub returns : goal.returns
returns c = sym (c.loop-rest.invariant ∙ short c.loop-rest.rest.now c.in_default.len_below)
