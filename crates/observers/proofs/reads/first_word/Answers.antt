-- The word is one of an area that the generation reaches.
use Rattle.std.proofs.Common.{ℕ, ◌<◌, ◌≤◌, sym, subst, arith, length}
use Rattle.area_core.specs.Map.{room_of}
use Rattle.shared_words.specs.declared.view.View.TheVariants.{Member}
use Rattle.shared_words.specs.Publishing.{MayLoadWord}
use Rattle.progress_words.specs.Tokens.{watched_by}
use Rattle.word_view.specs.Loaded.{IsFound}
use Rattle.word_view.proofs.KeptHere.{word_there}
use Rattle.word_view.proofs.Reading.{may_area}
use Rattle.observers.specs.Watching.{as_member}
use Rattle.observers.proofs.Mirrored.{reading_member}
use Rattle.observers.proofs.reads.first_word.Goals as goal

pub block_word-requires-clause-block : goal.block_word-requires-clause-block
block_word-requires-clause-block g c = subst (λ (n : ℕ). n < 320) c.requires.may.block_is c.requires.may.stands.fits.last

pub block_word-requires-clause-at : goal.block_word-requires-clause-at
block_word-requires-clause-at g c =
    subst (λ (n : ℕ). 0 < room_of n) c.requires.may.block_is (less 0 (length c.requires.may.words) (room_of c.requires.may.area.block) c.requires.may.within c.requires.may.stands.fits.room)
  where
    less : (a b d : ℕ) → a < b → b ≤ d → a < d
    less a b d low high = omega (arith, low, high)

pub load-requires-clause-may : goal.load-requires-clause-may
load-requires-clause-may g c =
    let v = watched_by c.args.watcher.now in
    let h = reading_member c.args.watcher.now.root v c.requires.reading in
    subst (λ (word : ℕ). MayLoadWord word (Member (as_member v))) (sym c.block_word.ensures) (may_area (as_member v) h.awake c.requires.reading.rooted.learnt c.args.block 0 c.requires.may)

pub returns-clause-word : goal.returns-clause-word
returns-clause-word g c =
    let m = as_member (watched_by c.args.watcher.now) in
    word_there m c.args.block 0 c.load.result (subst (λ (word : ℕ). IsFound m word c.load.result) c.block_word.ensures c.load.ensures.found)
