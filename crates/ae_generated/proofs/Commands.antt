-- Words that say a command: a change alone, or a change and paths.
use Rattle.std.specs.Prelude.{◌≡◌, ◌≤◌, ◌<◌, ◌+◌, ◌&&◌, ℕ, Bool, true, false, List, [], ◌∷◌, ◌++◌, Option, Some, None, Ok, codes, length, nat_le, not}
use Rattle.std.specs.List.{list_all}
use Rattle.std.proofs.Common.{refl, sym, ap, ◌∙◌, arith, append_assoc, append-nil, length-append}
use Rattle.std.proofs.lemmas.Bool.{and_parts, lt-leb}
use Rattle.ae_base.specs.Names.{is_path, is_part, parts, starts_with_dash}
use Rattle.std.specs.Str.{bytes_eq}
use Rattle.ae_base.specs.Numbers.{change_number}
use Rattle.ae_words.specs.Items.{a_plain, an_option, Word, plain, asks, word, items_from, item, takes_next, function, listing}
use Rattle.ae_words.specs.Meaning.{blank, step, is_whole, with_plain, with_path, or_bad, most}
use Rattle.ae_words.specs.Grammar.{IsCommand, reads, then_read}
use Rattle.ae_words.specs.Spelling.{spells}
use Rattle.ae_words.specs.Table.{row}
use Rattle.ae_words.specs.declared.command.Command.{Command}
use Rattle.ae_words.specs.declared.table.Function.{Function}
use Rattle.ae_words.specs.declared.table.Listing.{Listing}
use Rattle.ae_words.specs.declared.table.Row.{Row}
use Rattle.ae_words.specs.declared.table.Row.TheVariants as rows
use Rattle.ae_words.specs.declared.table.Setting.TheVariants as setting
use Rattle.ae_words.proofs.FirstBad.{answer_command}

-- the command of a function, with nothing else
abbrev pub bare : Function → Command
bare f = record { function = f; project = None; change = None; attributes = None; delta = None; overwriting = false; baseline = false; regression = false; name = None; users = []; paths = []; listing = None; numbers = []; reason = None }

-- the same on a change and paths
abbrev pub on_paths : Function → ℕ → List (List ℕ) → Command
on_paths f n ps = record (bare f) { change = Some n; paths = ps }

-- the words `-c` and a number are one item
dash_c : word (codes "-c") ≡ asks setting.Change
unfolding word spells
dash_c = refl

-- ---- a change alone

change_reads : (l : Option Listing) (f : Function) (d : List ℕ) (n : ℕ) → row f ≡ rows.Change → change_number d ≡ Some n
    → reads l (blank f) (items_from 2 false (codes "-c" ∷ d ∷ [])) ≡ Ok (on_paths f n [])
unfolding reads step blank word spells
change_reads l f d n in_row is = rw (in_row, is) refl

change_whole : (f : Function) (n : ℕ) → row f ≡ rows.Change → is_whole (on_paths f n []) ≡ true
unfolding is_whole
change_whole f n in_row = rw in_row refl

pub change_command : (f : Function) (w d : List ℕ) (n : ℕ) → function (w ∷ codes "-c" ∷ d ∷ []) ≡ Some f → row f ≡ rows.Change → change_number d ≡ Some n
    → IsCommand (w ∷ codes "-c" ∷ d ∷ []) (on_paths f n [])
change_command f w d n names in_row is =
    answer_command f w (codes "-c" ∷ d ∷ []) names (on_paths f n []) (change_reads (listing (items_from 2 false (codes "-c" ∷ d ∷ []))) f d n in_row is) (change_whole f n in_row)

-- ---- paths

plain_word : (p : List ℕ) → starts_with_dash p ≡ false → word p ≡ plain
unfolding word
plain_word [] none = refl
plain_word (b ∷ bs) none = rw none refl

not_so : (a : Bool) → not a ≡ true → a ≡ false
not_so true is = absurd cc
not_so false is = refl

path_is_plain : (p : List ℕ) → is_path p ≡ true → word p ≡ plain
path_is_plain p is =
    let others = and_parts (not (starts_with_dash p) && not (bytes_eq p (codes "aegis.log")) && nat_le (length p) 255) (list_all is_part (parts p)) is in
    let names = and_parts (not (starts_with_dash p) && not (bytes_eq p (codes "aegis.log"))) (nat_le (length p) 255) others.0 in
    plain_word p (not_so (starts_with_dash p) (and_parts (not (starts_with_dash p)) (not (bytes_eq p (codes "aegis.log"))) names.0).0)

-- words of this row are paths
abbrev TakesPaths : Row → Type 0
TakesPaths r = (c : Command) (p : List ℕ) → with_plain r c p ≡ with_path c p

path_step : (l : Option Listing) (f : Function) (n at : ℕ) (had : List (List ℕ)) (p : List ℕ) → TakesPaths (row f) → length had < 1000 → is_path p ≡ true
    → step l (on_paths f n had) (a_plain at p) ≡ Ok (on_paths f n (had ++ p ∷ []))
unfolding step
path_step l f n at had p takes few is =
    ap (or_bad at) (takes (on_paths f n had) p) ∙ (let room : nat_le most (length had) ≡ false = lt-leb most (length had) few in rw (room, is) refl)

paths_read : (l : Option Listing) (f : Function) (n at : ℕ) (had ps : List (List ℕ)) → TakesPaths (row f) → length had + length ps ≤ 1000 → list_all is_path ps ≡ true
    → reads l (on_paths f n had) (items_from at false ps) ≡ Ok (on_paths f n (had ++ ps))
unfolding reads
paths_read l f n at had [] takes few all = ap (λ (all_of : List (List ℕ)). Ok (on_paths f n all_of)) (sym (append-nil had))
paths_read l f n at had (p ∷ ps) takes few all =
    let parts = and_parts (is_path p) (list_all is_path ps) all in
    let room : length had < 1000 = omega arith in
    let fewer : length (had ++ p ∷ []) + length ps ≤ 1000 = omega (arith, length-append had (p ∷ [])) in
    let rest = paths_read l f n (at + 1) (had ++ p ∷ []) ps takes fewer parts.1 in
    ap (λ (k : Word). reads l (on_paths f n had) (item at p k ps ∷ items_from (at + 1) (takes_next k) ps)) (path_is_plain p parts.0)
    ∙ ap (then_read (λ (d : Command). reads l d (items_from (at + 1) false ps))) (path_step l f n at had p takes room parts.0)
    ∙ rest
    ∙ ap (λ (all_of : List (List ℕ)). Ok (on_paths f n all_of)) (append_assoc had (p ∷ []) ps)

-- the function takes paths, and a change before them
pub record OnPaths (f : Function) : Type 0 where
  pub takes : TakesPaths (row f)
  pub whole : (n : ℕ) (p : List ℕ) (ps : List (List ℕ)) → is_whole (on_paths f n (p ∷ ps)) ≡ true
  pub change : (l : Option Listing) (d : List ℕ) (n at : ℕ) → change_number d ≡ Some n → step l (blank f) (an_option at setting.Change (at + 1) d) ≡ Ok (on_paths f n [])

after_change : (l : Option Listing) (f : Function) (d : List ℕ) (n : ℕ) (ps : List (List ℕ)) → OnPaths f → change_number d ≡ Some n
    → reads l (blank f) (items_from 2 false (codes "-c" ∷ d ∷ ps)) ≡ reads l (on_paths f n []) (items_from 4 false ps)
unfolding reads word spells
after_change l f d n ps on is = ap (then_read (λ (c : Command). reads l c (items_from 4 false ps))) (on.change l d n 2 is)

pub paths_command : (f : Function) (w d : List ℕ) (n : ℕ) (p : List ℕ) (ps : List (List ℕ)) → OnPaths f → function (w ∷ codes "-c" ∷ d ∷ p ∷ ps) ≡ Some f → change_number d ≡ Some n
    → length (p ∷ ps) ≤ 1000 → list_all is_path (p ∷ ps) ≡ true → IsCommand (w ∷ codes "-c" ∷ d ∷ p ∷ ps) (on_paths f n (p ∷ ps))
paths_command f w d n p ps on names is few all =
    let l = listing (items_from 2 false (codes "-c" ∷ d ∷ p ∷ ps)) in
    answer_command f w (codes "-c" ∷ d ∷ p ∷ ps) names (on_paths f n (p ∷ ps))
    (after_change l f d n (p ∷ ps) on is ∙ paths_read l f n 4 [] (p ∷ ps) on.takes (omega arith) all) (on.whole n p ps)
