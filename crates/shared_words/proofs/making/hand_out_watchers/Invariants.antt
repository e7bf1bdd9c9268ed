use Rattle.std.proofs.Common.{◌≡◌, ◌≤◌, ◌+◌}
use Rattle.std.specs.Vec.{vec_len, vec_capacity}
use Rattle.shared_words.specs.Making.{IsHanding, AreWatchersBegun}
use Rattle.shared_words.proofs.making.hand_out_watchers.Given as goal

-- so many seats are handed out, and there is room for all tokens
abbrev pub invariant-loop-number : goal.invariant-loop-number
invariant-loop-number g l =
    IsHanding l.fn.table.table_id l.fn.table.key (l.fn.table.key.members + l._number) l.writer × AreWatchersBegun l.fn.table.table_id l._number l.tokens.items × (l.fn.watchers ≤ vec_capacity l.tokens) × (vec_len l.tokens ≡ l._number)
