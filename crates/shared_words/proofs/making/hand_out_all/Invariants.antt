use Rattle.std.proofs.Common.{◌≡◌, ◌≤◌}
use Rattle.std.specs.Vec.{vec_len, vec_capacity}
use Rattle.shared_words.specs.Making.{IsHanding, AreMembersBegun}
use Rattle.shared_words.proofs.making.hand_out_all.Given as goal

-- so many seats are handed out, and there is room for all tokens
abbrev pub invariant-loop-number : goal.invariant-loop-number
invariant-loop-number g l =
    IsHanding l.fn.table.table_id l.fn.table.key l.number l.writer × AreMembersBegun l.fn.table.table_id l.number l.tokens.items × (l.fn.members ≤ vec_capacity l.tokens) × (vec_len l.tokens ≡ l.number)
