-- A chain with one link more says what the link makes of it.
use Rattle.std.proofs.Common.{◌≡◌, ◌∙◌, List, [], ◌∷◌, ◌++◌, refl, sym, ap}
use Rattle.ae_rlang.specs.Report.{Meant}
use Rattle.ae_rlang.specs.View.{MeantLink, linked, all_linked}

one-more : (e : Meant) (ls : List MeantLink) (l : MeantLink) → all_linked e (ls ++ l ∷ []) ≡ linked (all_linked e ls) l
one-more e [] l = refl
one-more e (k ∷ ls) l = one-more (linked e k) ls l

pub chain-more : (first before after : Meant) (ls ms : List MeantLink) (l : MeantLink) → before ≡ all_linked first ls → after ≡ all_linked first ms → ms ≡ ls ++ l ∷ [] → after ≡ linked before l
chain-more first before after ls ms l b a more = a ∙ ap (all_linked first) more ∙ one-more first ls l ∙ ap (λ (e : Meant). linked e l) (sym b)
