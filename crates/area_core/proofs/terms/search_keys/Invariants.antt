-- So it is of the keys so far.
use Rattle.std.proofs.Common.{◌≡◌, ℕ, ◌<◌, false, length, take, get_or}
use Rattle.area_core.specs.Map.{word_at}
use Rattle.area_core.specs.Blocks.{term_blocks_words}
use Rattle.area_core.specs.Terms.{are_found, holds_one_of}
use Rattle.area_core.proofs.terms.search_keys.Given as goal

abbrev pub invariant-loop-key : goal.invariant-loop-key
invariant-loop-key l =
    (l.are_found ≡ are_found (term_blocks_words (word_at l.fn.words) l.fn.published.root) l.fn.published (take l.key-index l.keys))
    × (length l.marks ≡ 512)
    × ((number : ℕ) → number < 512 → get_or l.marks number false ≡ holds_one_of (term_blocks_words (word_at l.fn.words) l.fn.published.root) (take l.key-index l.keys) number)
