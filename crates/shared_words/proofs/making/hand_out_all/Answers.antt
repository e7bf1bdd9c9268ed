use Rattle.std.proofs.Common.{rules, replicate, arith, ◌≡◌, ℕ, ◌+◌, ◌<◌, ◌≤◌, List, sym, ap, subst, ◌∙◌}
use Rattle.std.specs.Vec.{vec_len, vec_capacity}
use Rattle.shared_words.specs.declared.seats.Member as tokens
use Rattle.shared_words.specs.Making.{AreMembersBegun}
use Rattle.shared_words.proofs.Handing.{is_at_home, handing_next, members_next, copied_none, none_made}
use Rattle.shared_words.proofs.making.hand_out_all.Goals as goal

-- none is handed out yet
pub loop-number-init : goal.loop-number-init
loop-number-init g c = (c.requires.token, none_made _ c.in_ok-tokens.tokens.items c.in_ok-tokens.ensures.items, c.in_ok-tokens.ensures.capacity, c.in_ok-tokens.ensures.len)

pub hand_out-requires-clause-token : goal.hand_out-requires-clause-token
hand_out-requires-clause-token g c = c.loop-number.invariant.0.of_table

-- the next seat is at home
pub hand_out-requires-clause-home : goal.hand_out-requires-clause-home
hand_out-requires-clause-home g c =
    is_at_home c.args.table.now.table_id c.args.table.now.key c.loop-number.number c.loop-number.writer (subst (λ (n : ℕ). c.loop-number.number < n) c.requires.members c.loop-number-test.true) c.loop-number.invariant.0

-- there is room for each token
pub push_reserved-requires : goal.push_reserved-requires
push_reserved-requires g c =
    let many : vec_len c.loop-number.tokens ≡ c.loop-number.number = c.loop-number.invariant.3 in
    let room : c.args.members ≤ vec_capacity c.loop-number.tokens = c.loop-number.invariant.2 in
    let more : c.loop-number.number < c.args.members = c.loop-number-test.true in
    omega arith

-- one more is handed out
pub loop-number-preserved : goal.loop-number-preserved
loop-number-preserved g c =
    let few = subst (λ (n : ℕ). c.loop-number.number < n) c.requires.members c.loop-number-test.true in
    let h = c.loop-number.invariant.0 in
    let none_is : c.in_ok-none.none.items ≡ replicate c.args.anchors 0 = search rules in
    let copied = copied_none c.hand_out.result.anchors.items c.args.anchors c.loop-number.number (ap (λ v. v.items) c.hand_out.ensures.anchors ∙ none_is) c.requires.anchors in (
      handing_next c.args.table.now.table_id c.args.table.now.key c.loop-number.number c.loop-number.writer c.hand_out.new.writer h c.hand_out.ensures.token c.hand_out.ensures.view,
      subst (λ (xs : List tokens.Member). AreMembersBegun c.args.table.now.table_id (c.loop-number.number + 1) xs) (sym c.push_reserved.ensures.items)
          (members_next c.args.table.now.table_id c.args.table.now.key c.loop-number.number c.loop-number.writer c.loop-number.tokens.items c.hand_out.result few h c.loop-number.invariant.1 c.hand_out.ensures.seat c.hand_out.ensures.member c.hand_out.ensures.number c.hand_out.ensures.root copied),
      subst (λ (n : ℕ). c.args.members ≤ n) (sym c.push_reserved.ensures.capacity) c.loop-number.invariant.2,
      c.push_reserved.ensures.len ∙ ap (λ (n : ℕ). n + 1) c.loop-number.invariant.3,
    )
