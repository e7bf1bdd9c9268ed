use Rattle.std.proofs.Common.{ℕ, ◌+◌, ◌<◌, ◌≤◌, sym, ap, subst, ◌∙◌}
use Rattle.shared_words.proofs.LastWords.{see_word_is_allowed, none_seen, more_seen}
use Rattle.shared_words.proofs.closing.copied.Goals as goal

-- none is loaded yet
pub loop-place-init : goal.loop-place-init
loop-place-init g c = (none_seen c.args.writer.now c.in_ok-words.words.items c.in_ok-words.ensures.items, c.in_ok-words.ensures.capacity, c.in_ok-words.ensures.len)

-- each word may be loaded
pub load-requires : goal.load-requires
load-requires g c = (
  c.loop-place.invariant.0.seat ∙ c.requires.token.same_table,
  subst (λ (n : ℕ). c.loop-place.place < n) (sym c.requires.sized) c.loop-place-test.true,
  see_word_is_allowed g.N.Served.served _ _ _ c.loop-place.place _,
)

-- one more
pub loop-place-preserved : goal.loop-place-preserved
loop-place-preserved g c = (
  more_seen c.args.writer.now c.loop-place.writer c.load.new.seat c.loop-place.words.items c.push_reserved.new.self.items _ c.loop-place.place c.load.result c.requires.writer c.loop-place.invariant.0 c.load.ensures.0 c.load.ensures.2 c.push_reserved.ensures.items,
  subst (λ (n : ℕ). c.args.count ≤ n) (sym c.push_reserved.ensures.capacity) c.loop-place.invariant.1,
  c.push_reserved.ensures.len ∙ ap (λ (n : ℕ). n + 1) c.loop-place.invariant.2,
)
