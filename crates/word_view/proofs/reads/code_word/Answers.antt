-- The word is one of the code index that the root word names.
use Rattle.std.proofs.Common.{ℕ, ◌%◌, ◌<◌, sym, ap, subst, ◌∙◌}
use Rattle.area_core.specs.Map.{block_place}
use Rattle.shared_words.specs.declared.view.View.TheVariants.{Member}
use Rattle.shared_words.specs.Publishing.{MayLoadWord}
use Rattle.anchors.specs.Holds.{view_of}
use Rattle.word_view.specs.Loaded.{IsFound}
use Rattle.word_view.proofs.Exporting.{code_found}
use Rattle.word_view.proofs.Reading.{code_of_root, may_code}
use Rattle.word_view.proofs.reads.code_word.Goals as goal

pub root-requires : goal.root-requires
root-requires g c = record { rooted = c.requires.reading.rooted }

pub index_word-requires-clause-code : goal.index_word-requires-clause-code
index_word-requires-clause-code g c =
    let m = view_of c.args.member.now in
    subst (λ (n : ℕ). n < 3) (sym (ap (λ (x : ℕ). x % 4) (c.root.ensures ∙ sym c.requires.reading.rooted.held) ∙ code_of_root c.args.member.now.root m c.requires.reading)) c.requires.reading.rooted.fits.code

pub load-requires-clause-learnt : goal.load-requires-clause-learnt
load-requires-clause-learnt g c = c.requires.reading.rooted.learnt

pub load-requires-clause-awake : goal.load-requires-clause-awake
load-requires-clause-awake g c = c.requires.reading.awake

pub load-requires-clause-may : goal.load-requires-clause-may
load-requires-clause-may g c =
    let m = view_of c.args.member.now in
    let code_is = ap (λ (x : ℕ). x % 4) (c.root.ensures ∙ sym c.requires.reading.rooted.held) ∙ code_of_root c.args.member.now.root m c.requires.reading in
    let word_is = c.index_word.ensures ∙ ap (λ (n : ℕ). block_place n c.args.entry) code_is in
    subst (λ (word : ℕ). MayLoadWord word (Member m)) (sym word_is) (may_code m c.requires.reading.awake c.requires.reading.rooted.learnt c.args.entry c.requires.reading.rooted.fits.code c.requires.entry)

pub returns-clause-word : goal.returns-clause-word
returns-clause-word g c =
    let m = view_of c.args.member.now in
    let code_is = ap (λ (x : ℕ). x % 4) (c.root.ensures ∙ sym c.requires.reading.rooted.held) ∙ code_of_root c.args.member.now.root m c.requires.reading in
    let word_is = c.index_word.ensures ∙ ap (λ (n : ℕ). block_place n c.args.entry) code_is in
    code_found m c.args.entry c.load.result c.requires.entry (subst (λ (word : ℕ). IsFound m word c.load.result) word_is c.load.ensures.found)

pub returns-clause-found : goal.returns-clause-found
returns-clause-found g c =
    let m = view_of c.args.member.now in
    let code_is = ap (λ (x : ℕ). x % 4) (c.root.ensures ∙ sym c.requires.reading.rooted.held) ∙ code_of_root c.args.member.now.root m c.requires.reading in
    subst (λ (word : ℕ). IsFound m word c.load.result) (c.index_word.ensures ∙ ap (λ (n : ℕ). block_place n c.args.entry) code_is) c.load.ensures.found
