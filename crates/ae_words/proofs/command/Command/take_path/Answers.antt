use Rattle.std.proofs.Common.{◌<◌, ◌≤◌, ℕ, sym, subst, ◌∙◌}
use Rattle.ae_words.proofs.PathMore.{with_path-read, with_path-full, with_path-none}
use Rattle.ae_words.proofs.command.Command.take_path.Goals as goal

pub returns : goal.returns
returns c =
    let room = subst (λ (n : ℕ). n < 1000) c.len.ensures c.if-len-ge-MOST.false in
    with_path-read c.args.self.now c.args.word.now c.in-Some.path c.push.new.self room (sym c.in-Some.is ∙ c.in_ok-path.ensures) c.in_ok-push.ensures.ok

pub returns-then-len-ge-MOST : goal.returns-then-len-ge-MOST
returns-then-len-ge-MOST c = with_path-full c.args.self.now c.args.word.now (subst (λ (n : ℕ). 1000 ≤ n) c.len.ensures c.if-len-ge-MOST.true)

pub returns-in_default : goal.returns-in_default
returns-in_default c = with_path-none c.args.self.now c.args.word.now (sym c.in_default.is ∙ c.in_ok-path.ensures)
