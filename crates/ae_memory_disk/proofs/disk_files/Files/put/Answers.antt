use Rattle.std.proofs.Common.{◌≡◌, ◌≤◌, ◌<◌, ◌++◌, [], ◌∷◌, List, ℕ, length, ap, ◌∙◌, rules}
use Rattle.std.proofs.Math.ListN.{set, get_or}
use Rattle.ae_memory_disk.specs.declared.disk_files.File.{File}
use Rattle.ae_outside.specs.Image.{with_file}
use Rattle.ae_memory_disk.specs.DiskFiles.{bytes_of}
use Rattle.ae_memory_disk.proofs.DiskFilesLemmas.{place_of, put_over, put_behind}
use Rattle.ae_memory_disk.proofs.disk_files.Files.put.Goals as goal

pub returns-then-at-len-clause-ok : goal.returns-then-at-len-clause-ok
returns-then-at-len-clause-ok c =
    let at : c.place-at.result ≡ place_of c.args.name.now c.self.inside.rows.items = c.place-at.ensures.place ∙ ap (place_of c.args.name.now) c.deref.ensures.value in
    let there : place_of c.args.name.now c.self.inside.rows.items < length c.self.inside.rows.items = search rules in
    let key = c.index_mut.ensures.value in
    let row : File = c.index_mut.result.now in
    (λ i. bytes_of (set c.self.inside.rows.items (at i) (record { name = (key i).name; bytes = c.args.bytes })))
    ∙ (λ i. bytes_of (set c.self.inside.rows.items (place_of c.args.name.now c.self.inside.rows.items) (record { name = (get_or c.self.inside.rows.items (at i) row).name; bytes = c.args.bytes })))
    ∙ put_over c.args.name.now c.args.bytes row c.self.inside.rows.items there
    ∙ ap (λ (files : List File). with_file c.args.name.now (λ _. c.args.bytes) (bytes_of files)) c.self.view_is

pub returns-clause-ok : goal.returns-clause-ok
returns-clause-ok c =
    let at : c.place-at.result ≡ place_of c.args.name.now c.self.inside.rows.items = c.place-at.ensures.place ∙ ap (place_of c.args.name.now) c.deref.ensures.value in
    let behind : length c.self.inside.rows.items ≤ place_of c.args.name.now c.self.inside.rows.items = search rules in
    let name_is : c.of-name.result ≡ c.args.name.now = search rules in
    ap bytes_of c.in_ok-push.ensures.items
    ∙ ap (λ (n : List ℕ). bytes_of (c.self.inside.rows.items ++ record { name = n; bytes = c.args.bytes } ∷ [])) name_is
    ∙ put_behind c.args.name.now c.args.bytes c.self.inside.rows.items behind
    ∙ ap (λ (files : List File). with_file c.args.name.now (λ _. c.args.bytes) (bytes_of files)) c.self.view_is
