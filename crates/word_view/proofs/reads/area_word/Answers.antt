-- The word is one of an area that a turn may come to.
use Rattle.std.proofs.Common.{ℕ, ◌<◌, ◌≤◌, sym, subst, arith, length}
use Rattle.area_core.specs.Map.{room_of}
use Rattle.shared_words.specs.declared.view.View.TheVariants.{Member}
use Rattle.shared_words.specs.Publishing.{MayLoadWord}
use Rattle.anchors.specs.Holds.{view_of}
use Rattle.word_view.specs.Loaded.{IsFound}
use Rattle.word_view.proofs.KeptHere.{word_there}
use Rattle.word_view.proofs.Reading.{may_area}
use Rattle.word_view.proofs.reads.area_word.Goals as goal

pub block_word-requires-clause-block : goal.block_word-requires-clause-block
block_word-requires-clause-block g c = subst (λ (n : ℕ). n < 320) c.requires.may.block_is c.requires.may.stands.fits.last

pub block_word-requires-clause-at : goal.block_word-requires-clause-at
block_word-requires-clause-at g c =
    subst (λ (n : ℕ). c.args.at < room_of n) c.requires.may.block_is (less c.args.at (length c.requires.may.words) (room_of c.requires.may.area.block) c.requires.may.within c.requires.may.stands.fits.room)
  where
    less : (a b d : ℕ) → a < b → b ≤ d → a < d
    less a b d low high = omega (arith, low, high)

pub load-requires-clause-learnt : goal.load-requires-clause-learnt
load-requires-clause-learnt g c = c.requires.reading.rooted.learnt

pub load-requires-clause-awake : goal.load-requires-clause-awake
load-requires-clause-awake g c = c.requires.reading.awake

pub load-requires-clause-may : goal.load-requires-clause-may
load-requires-clause-may g c =
    let m = view_of c.args.member.now in
    subst (λ (word : ℕ). MayLoadWord word (Member m)) (sym c.block_word.ensures) (may_area m c.requires.reading.awake c.requires.reading.rooted.learnt c.args.block c.args.at c.requires.may)

pub returns-clause-word : goal.returns-clause-word
returns-clause-word g c =
    let m = view_of c.args.member.now in
    word_there m c.args.block c.args.at c.load.result (subst (λ (word : ℕ). IsFound m word c.load.result) c.block_word.ensures c.load.ensures.found)
