use Rattle.std.proofs.Common.{◌≡◌, ℕ, ◌+◌, ◌<◌, ◌∙◌, ◌++◌, ap, sym, subst, List, length, map, take, drop, get_or, slice_set, Some, arith}
use mir.Val.{bool_byte}
use Rattle.ae_types.specs.declared.change.ChangeFile.{ChangeFile}
use Rattle.ae_log.specs.After.{frozen_as}
use Rattle.ae_types.specs.Frozen.{present, ref_of}
use Rattle.ae_log.proofs.FrozenFiles.{made-more, made-few, byte-few, made-within, as-many, short-enough, frozen-present, frozen-removed, frozen-more, no_file}
use Rattle.ae_log.proofs.freezing.freeze.Goals as goal
use Rattle.ae_log.proofs.freezing.freeze.Goals.{in-Some, in-None}

pub overflow_add-next : goal.overflow_add-next
overflow_add-next c =
    omega (arith, c.requires.numbers, c.requires.few, ap length c.deref_mut-file-items.ensures.value, c.loop-at.invariant.counted, made-few c.args.tree.now c.loop-at.at, c.loop-at-test.true)

pub offset_bounds-places-made : goal.offset_bounds-places-made
offset_bounds-places-made c =
    omega (arith, c.requires.few, ap length c.deref_mut-file-items.ensures.value, c.loop-at.invariant.counted, made-few c.args.tree.now c.loop-at.at, c.loop-at-test.true)

pub overflow_add-made : goal.overflow_add-made
overflow_add-made c =
    omega (arith, c.requires.few, ap length c.deref_mut-file-items.ensures.value, c.loop-at.invariant.counted, made-few c.args.tree.now c.loop-at.at, c.loop-at-test.true, c.from-made.ensures, byte-few c.is_some.result)

pub bounds-places-made : goal.bounds-places-made
bounds-places-made c =
    let many = as-many c.args.tree.now c.args.files.now.items c.requires.shape in
    let w = made-within c.args.tree.now c.loop-at.at c.index-tree-at.result c.in-Some.bytes (omega (arith, many, ap length c.deref_mut-file-items.ensures.value, c.loop-at-test.true)) c.in-Some.is in
    omega (arith, w, c.loop-at.invariant.counted, c.requires.placed)

pub version-requires : goal.version-requires
version-requires c =
    let inside : c.loop-at.at < length c.args.files.now.items = omega (arith, ap length c.deref_mut-file-items.ensures.value, c.loop-at-test.true) in
    rw (c.bytes.ensures.value) (short-enough c.args.next c.args.tree.now c.args.places.now c.args.files.now.items c.requires c.loop-at.at no_file c.index-tree-at.result inside c.loop-at.made c.loop-at.invariant.counted c.in-Some.bytes c.in-Some.is)

pub loop-at-preserved : goal.loop-at-preserved
loop-at-preserved c =
    let files = c.args.files.now.items in
    let tree = c.args.tree.now in
    let places = c.args.places.now in
    let many = as-many tree files c.requires.shape in
    let inside : c.loop-at.at < length files = omega (arith, ap length c.deref_mut-file-items.ensures.value, c.loop-at-test.true) in
    let within : c.loop-at.at < length tree = omega (arith, many, ap length c.deref_mut-file-items.ensures.value, c.loop-at-test.true) in
    record {
      so_far = subst (λ (file : ChangeFile). slice_set c.loop-at.file-items c.loop-at.at (record file { frozen = c.match-tree-at.file }) ≡ map (frozen_as c.args.next tree places) (take (c.loop-at.at + 1) files) ++ drop (c.loop-at.at + 1) files) c.file-item.is
          (frozen-more c.args.next tree places files c.loop-at.file-items c.loop-at.at c.file-item.result c.match-tree-at.file inside c.loop-at.invariant.so_far c.file-item.is
          (elim c.match-tree-at.branch [
            | in-Some w ↦
                w.file-is ∙ ap Some (w.version.ensures ∙ ap (λ (bytes : List ℕ). ref_of (record { number = c.args.next + c.loop-at.made; at = get_or places c.loop-at.made 0; bytes = bytes })) w.bytes.ensures.value)
                ∙ frozen-present c.args.next tree places files c.requires c.loop-at.at c.file-item.result c.index-tree-at.result inside c.loop-at.made c.loop-at.invariant.counted w.in-Some.bytes w.in-Some.is
                (let left = made-within tree c.loop-at.at c.index-tree-at.result w.in-Some.bytes within w.in-Some.is in omega (arith, left, c.loop-at.invariant.counted, c.requires.placed))
            | in-None w ↦ w.file-is ∙ frozen-removed c.args.next tree places files c.requires c.loop-at.at c.file-item.result c.index-tree-at.result inside c.loop-at.made c.loop-at.invariant.counted w.in-None.is
          ]));
      counted =
          ap (λ n. n + c.from-made.result) c.loop-at.invariant.counted
          ∙ ap (λ n. length (present (take c.loop-at.at tree)) + n) (c.from-made.ensures ∙ ap bool_byte c.is_some.ensures)
          ∙ sym (made-more tree c.loop-at.at c.index-tree-at-in-loop-at.result within);
    }
