-- The decision is that of the index which the root word names.
use Rattle.std.proofs.Common.{ℕ, ◌/◌, ◌%◌, ◌<◌, sym, ap, subst, ◌∙◌}
use Rattle.area_core.specs.Map.{breakpoint_place}
use Rattle.shared_words.specs.declared.view.View.TheVariants.{Member}
use Rattle.shared_words.specs.Publishing.{MayLoadWord}
use Rattle.progress_words.specs.Tokens.{view_of}
use Rattle.breakpoints.proofs.Looking.{index_of_root, may_decision}
use Rattle.breakpoints.proofs.Told.{decision_told}
use Rattle.breakpoints.proofs.deciding.decided_in.Goals as goal

pub root-requires : goal.root-requires
root-requires g c = record { rooted = c.requires.may.rooted }

pub decision_word-requires-clause-bp : goal.decision_word-requires-clause-bp
decision_word-requires-clause-bp g c =
    let index_is = ap (λ (x : ℕ). x / 4 % 2) (c.root.ensures ∙ sym c.requires.may.rooted.held) ∙ index_of_root c.args.member.now.root (view_of c.args.member.now) c.args.at c.requires.may in
    subst (λ (n : ℕ). n < 2) (sym index_is) c.requires.may.rooted.fits.bp

pub decision_word-requires-clause-block : goal.decision_word-requires-clause-block
decision_word-requires-clause-block g c = c.requires.may.placed

pub decision_word-requires-clause-function : goal.decision_word-requires-clause-function
decision_word-requires-clause-function g c = c.requires.may.few

pub load-word-requires-clause-learnt : goal.load-word-requires-clause-learnt
load-word-requires-clause-learnt g c = c.requires.may.rooted.learnt

pub load-word-requires-clause-awake : goal.load-word-requires-clause-awake
load-word-requires-clause-awake g c = c.requires.may.awake

pub load-word-requires-clause-may : goal.load-word-requires-clause-may
load-word-requires-clause-may g c =
    let m = view_of c.args.member.now in
    let index_is = ap (λ (x : ℕ). x / 4 % 2) (c.root.ensures ∙ sym c.requires.may.rooted.held) ∙ index_of_root c.args.member.now.root m c.args.at c.requires.may in
    let word_is = c.decision_word.ensures ∙ ap (λ (n : ℕ). breakpoint_place n c.args.at.area.block c.args.at.function) index_is in
    subst (λ (word : ℕ). MayLoadWord word (Member m)) (sym word_is) (may_decision c.args.member.now.root m c.args.at c.requires.may (c.requires.may.live c.requires.live))

pub returns-clause-value : goal.returns-clause-value
returns-clause-value g c =
    let m = view_of c.args.member.now in
    let index_is = ap (λ (x : ℕ). x / 4 % 2) (c.root.ensures ∙ sym c.requires.may.rooted.held) ∙ index_of_root c.args.member.now.root m c.args.at c.requires.may in
    let word_is = c.decision_word.ensures ∙ ap (λ (n : ℕ). breakpoint_place n c.args.at.area.block c.args.at.function) index_is in
    decision_told c.args.member.now.root m c.args.at c.requires.may c.decision_word.result c.load-word.result word_is c.load-word.ensures.found (c.requires.may.live c.requires.live)
