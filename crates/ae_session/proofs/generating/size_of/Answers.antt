use Rattle.std.proofs.Common.{rules, ◌≡◌, ◌≤◌, ◌<◌, ◌∙◌, ℕ, List, length, slice_index_or, sym, ap, subst, arith}
use Rattle.ae_session.proofs.Sizes.{size_named}
use Rattle.ae_session.proofs.generating.size_of.Goals as goal

pub bounds-numbers-0 : goal.bounds-numbers-0
bounds-numbers-0 c =
    let size = size_named c.args.command.now c.requires.formed c.requires.generates in
    let three : length c.as_slice-numbers.result.now ≡ 3 = ap length (c.as_slice-numbers.ensures ∙ size.are) in
    omega (arith, three)

pub bounds-numbers-1 : goal.bounds-numbers-1
bounds-numbers-1 c =
    let size = size_named c.args.command.now c.requires.formed c.requires.generates in
    let three : length c.as_slice-numbers.result.now ≡ 3 = ap length (c.as_slice-numbers.ensures ∙ size.are) in
    omega (arith, three)

pub bounds-numbers-2 : goal.bounds-numbers-2
bounds-numbers-2 c =
    let size = size_named c.args.command.now c.requires.formed c.requires.generates in
    let three : length c.as_slice-numbers.result.now ≡ 3 = ap length (c.as_slice-numbers.ensures ∙ size.are) in
    let here : 2 < length c.as_slice-numbers.result.now = omega (arith, three) in
    search (rules, here)

pub invariant_of-result : goal.invariant_of-result
invariant_of-result c =
    let size = size_named c.args.command.now c.requires.formed c.requires.generates in
    let changes : slice_index_or c.as_slice-numbers.result.now 1 0 ≡ size.changes = ap (λ (xs : List ℕ). slice_index_or xs 1 0) (c.as_slice-numbers.ensures ∙ size.are) in
    let files : slice_index_or c.as_slice-numbers.result.now 2 0 ≡ size.files = ap (λ (xs : List ℕ). slice_index_or xs 2 0) (c.as_slice-numbers.ensures ∙ size.are) in
    record {
      some_changes = subst (λ (n : ℕ). 1 ≤ n) (sym changes) size.some_changes;
      few_changes = subst (λ (n : ℕ). n ≤ 200) (sym changes) size.few_changes;
      some_files = subst (λ (n : ℕ). 1 ≤ n) (sym files) size.some_files;
      few_files = subst (λ (n : ℕ). n ≤ 99) (sym files) size.few_files;
    }
