use Rattle.std.proofs.Common.{◌≡◌, ◌≤◌}
use Rattle.std.specs.Vec.{vec_len, vec_capacity}
use Rattle.shared_words.proofs.LastWords.{AreSeen}
use Rattle.shared_words.proofs.closing.copied.Given as goal

-- so many words are loaded, and there is room for all
abbrev pub invariant-loop-place : goal.invariant-loop-place
invariant-loop-place g l = AreSeen l.initial.writer l.writer l.words.items l.place × (l.fn.count ≤ vec_capacity l.words) × (vec_len l.words ≡ l.place)
