-- The retire word is that of an area which a slot names.
use Rattle.std.proofs.Common.{ℕ, ◌/◌, sym, ap, subst, ◌∙◌}
use Rattle.shared_words.specs.declared.view.View.TheVariants.{Member}
use Rattle.shared_words.specs.Publishing.{MayLoadWord}
use Rattle.anchors.specs.Holds.{view_of}
use Rattle.word_view.proofs.Reading.{generation_of_root, may_retire}
use Rattle.word_view.proofs.Telling.{retire_told}
use Rattle.word_view.proofs.tells.retired_in.Goals as goal

pub root-generation-requires : goal.root-generation-requires
root-generation-requires g c = record { rooted = c.requires.reading.rooted }

pub retire_word-requires : goal.retire_word-requires
retire_word-requires g c = c.requires.named.stands.fits.last

pub load-word-requires-clause-learnt : goal.load-word-requires-clause-learnt
load-word-requires-clause-learnt g c = c.requires.reading.rooted.learnt

pub load-word-requires-clause-awake : goal.load-word-requires-clause-awake
load-word-requires-clause-awake g c = c.requires.reading.awake

pub load-word-requires-clause-may : goal.load-word-requires-clause-may
load-word-requires-clause-may g c =
    let m = view_of c.args.member.now in
    subst (λ (word : ℕ). MayLoadWord word (Member m)) (sym c.retire_word.ensures) (may_retire m c.requires.reading.awake c.requires.reading.rooted.learnt c.args.area c.requires.named)

pub returns-clause-value : goal.returns-clause-value
returns-clause-value g c =
    let m = view_of c.args.member.now in
    let now = ap (λ (x : ℕ). x / 32) (c.root-generation.ensures ∙ sym c.requires.reading.rooted.held) ∙ generation_of_root c.args.member.now.root m c.requires.reading in
    c.tells_at.ensures ∙ retire_told m c.args.area c.requires.named c.retire_word.result c.load-word.result (c.root-generation.result / 32) c.retire_word.ensures now c.load-word.ensures.found
