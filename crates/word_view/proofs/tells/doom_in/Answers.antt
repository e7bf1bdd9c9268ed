-- The doom word is that of an area which a slot names.
use Rattle.std.proofs.Common.{ℕ, ◌/◌, sym, ap, subst, ◌∙◌}
use Rattle.shared_words.specs.declared.view.View.TheVariants.{Member}
use Rattle.shared_words.specs.Publishing.{MayLoadWord}
use Rattle.anchors.specs.Holds.{view_of}
use Rattle.word_view.proofs.Reading.{generation_of_root, may_doom}
use Rattle.word_view.proofs.Telling.{doom_told}
use Rattle.word_view.proofs.tells.doom_in.Goals as goal

pub root-generation-requires : goal.root-generation-requires
root-generation-requires g c = record { rooted = c.requires.reading.rooted }

pub doom_word-requires : goal.doom_word-requires
doom_word-requires g c = c.requires.big

pub load-word-requires-clause-learnt : goal.load-word-requires-clause-learnt
load-word-requires-clause-learnt g c = c.requires.reading.rooted.learnt

pub load-word-requires-clause-awake : goal.load-word-requires-clause-awake
load-word-requires-clause-awake g c = c.requires.reading.awake

pub load-word-requires-clause-may : goal.load-word-requires-clause-may
load-word-requires-clause-may g c =
    let m = view_of c.args.member.now in
    subst (λ (word : ℕ). MayLoadWord word (Member m)) (sym c.doom_word.ensures) (may_doom m c.requires.reading.awake c.requires.reading.rooted.learnt c.args.area c.requires.named c.requires.big)

pub returns-clause-value : goal.returns-clause-value
returns-clause-value g c =
    let m = view_of c.args.member.now in
    let now = ap (λ (x : ℕ). x / 32) (c.root-generation.ensures ∙ sym c.requires.reading.rooted.held) ∙ generation_of_root c.args.member.now.root m c.requires.reading in
    c.tells_at.ensures ∙ doom_told m c.args.area c.requires.named c.doom_word.result c.load-word.result (c.root-generation.result / 32) c.doom_word.ensures now c.load-word.ensures.found c.requires.big c.requires.there
