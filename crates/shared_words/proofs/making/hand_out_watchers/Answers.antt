use Rattle.std.proofs.Common.{arith, ◌≡◌, ℕ, ◌+◌, ◌<◌, ◌≤◌, List, sym, ap, subst, ◌∙◌}
use Rattle.std.specs.Vec.{vec_len, vec_capacity}
use Rattle.shared_words.specs.declared.seats.Watcher as tokens
use Rattle.shared_words.specs.Making.{IsHanding, AreWatchersBegun}
use Rattle.shared_words.proofs.Handing.{handing_next}
use Rattle.shared_words.proofs.WatcherSeats.{watcher_is_at_home, watchers_next, no_watchers_made}
use Rattle.shared_words.proofs.making.hand_out_watchers.Goals as goal

-- none is handed out yet
pub loop-number-init : goal.loop-number-init
loop-number-init g c = (
  (let none : c.args.table.now.key.members ≡ c.args.table.now.key.members + 0 = omega arith in subst (λ (n : ℕ). IsHanding c.args.table.now.table_id c.args.table.now.key n c.args.writer.now) none c.requires.token),
  no_watchers_made _ c.in_ok-tokens.tokens.items c.in_ok-tokens.ensures.items,
  c.in_ok-tokens.ensures.capacity,
  c.in_ok-tokens.ensures.len,
)

pub hand_out_watcher-requires-clause-token : goal.hand_out_watcher-requires-clause-token
hand_out_watcher-requires-clause-token g c = c.loop-number.invariant.0.of_table

-- the next seat is at home
pub hand_out_watcher-requires-clause-home : goal.hand_out_watcher-requires-clause-home
hand_out_watcher-requires-clause-home g c =
    watcher_is_at_home c.args.table.now.table_id c.args.table.now.key c.loop-number._number c.loop-number.writer (subst (λ (n : ℕ). c.loop-number._number < n) c.requires.watchers c.loop-number-test.true) c.loop-number.invariant.0

-- there is room for each token
pub push_reserved-requires : goal.push_reserved-requires
push_reserved-requires g c =
    let many : vec_len c.loop-number.tokens ≡ c.loop-number._number = c.loop-number.invariant.3 in
    let room : c.args.watchers ≤ vec_capacity c.loop-number.tokens = c.loop-number.invariant.2 in
    let more : c.loop-number._number < c.args.watchers = c.loop-number-test.true in
    omega arith

-- one more is handed out
pub loop-number-preserved : goal.loop-number-preserved
loop-number-preserved g c =
    let few = subst (λ (n : ℕ). c.loop-number._number < n) c.requires.watchers c.loop-number-test.true in
    let h = c.loop-number.invariant.0 in
    let n = c.loop-number._number in
    let next : c.args.table.now.key.members + n + 1 ≡ c.args.table.now.key.members + (n + 1) = omega arith in (
      subst (λ (k : ℕ). IsHanding c.args.table.now.table_id c.args.table.now.key k c.hand_out_watcher.new.writer) next
          (handing_next c.args.table.now.table_id c.args.table.now.key (c.args.table.now.key.members + n) c.loop-number.writer c.hand_out_watcher.new.writer h c.hand_out_watcher.ensures.token c.hand_out_watcher.ensures.view),
      subst (λ (xs : List tokens.Watcher). AreWatchersBegun c.args.table.now.table_id (n + 1) xs) (sym c.push_reserved.ensures.items)
          (watchers_next c.args.table.now.table_id c.args.table.now.key n c.loop-number.writer c.loop-number.tokens.items c.hand_out_watcher.result few h c.loop-number.invariant.1 c.hand_out_watcher.ensures.seat c.hand_out_watcher.ensures.watcher c.hand_out_watcher.ensures.holds),
      subst (λ (n : ℕ). c.args.watchers ≤ n) (sym c.push_reserved.ensures.capacity) c.loop-number.invariant.2,
      c.push_reserved.ensures.len ∙ ap (λ (n : ℕ). n + 1) c.loop-number.invariant.3,
    )
