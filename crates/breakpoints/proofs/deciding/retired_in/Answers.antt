-- The retire word is that of an instance which the member may read.
use Rattle.std.proofs.Common.{ℕ, ◌/◌, sym, ap, subst, ◌∙◌, arith}
use Rattle.shared_words.specs.declared.view.View.TheVariants.{Member}
use Rattle.shared_words.specs.Publishing.{MayLoadWord}
use Rattle.progress_words.specs.Tokens.{view_of}
use Rattle.breakpoints.proofs.Looking.{generation_of_root, may_retire}
use Rattle.breakpoints.proofs.Told.{retire_told}
use Rattle.breakpoints.proofs.deciding.retired_in.Goals as goal

pub root-generation-requires : goal.root-generation-requires
root-generation-requires g c = record { rooted = c.requires.may.rooted }

pub retire_word-requires : goal.retire_word-requires
retire_word-requires g c = let last = c.requires.may.placed.last in omega (arith, last)

pub load-word-requires-clause-learnt : goal.load-word-requires-clause-learnt
load-word-requires-clause-learnt g c = c.requires.may.rooted.learnt

pub load-word-requires-clause-awake : goal.load-word-requires-clause-awake
load-word-requires-clause-awake g c = c.requires.may.awake

pub load-word-requires-clause-may : goal.load-word-requires-clause-may
load-word-requires-clause-may g c =
    let m = view_of c.args.member.now in
    subst (λ (word : ℕ). MayLoadWord word (Member m)) (sym c.retire_word.ensures) (may_retire c.args.member.now.root m c.args.at c.requires.may)

pub returns-clause-value : goal.returns-clause-value
returns-clause-value g c =
    let m = view_of c.args.member.now in
    let now = ap (λ (x : ℕ). x / 32) (c.root-generation.ensures ∙ sym c.requires.may.rooted.held) ∙ generation_of_root c.args.member.now.root m c.args.at c.requires.may in
    c.tells_at.ensures ∙ retire_told c.args.member.now.root m c.args.at c.requires.may c.retire_word.result c.load-word.result (c.root-generation.result / 32) c.retire_word.ensures now c.load-word.ensures.found
