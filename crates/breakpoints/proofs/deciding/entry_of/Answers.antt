-- The entry word is one of an instance that the member may read.
use Rattle.std.proofs.Common.{ℕ, sym, subst}
use Rattle.shared_words.specs.declared.view.View.TheVariants.{Member}
use Rattle.shared_words.specs.Publishing.{MayLoadWord}
use Rattle.progress_words.specs.Tokens.{view_of}
use Rattle.breakpoints.proofs.Looking.{may_entry}
use Rattle.breakpoints.proofs.Told.{untraced}
use Rattle.breakpoints.proofs.deciding.entry_of.Goals as goal

pub entry_word_at-requires-clause-block : goal.entry_word_at-requires-clause-block
entry_word_at-requires-clause-block g c = c.requires.may.placed.last

pub entry_word_at-requires-clause-function : goal.entry_word_at-requires-clause-function
entry_word_at-requires-clause-function g c = c.requires.may.few

pub load-requires-clause-learnt : goal.load-requires-clause-learnt
load-requires-clause-learnt g c = c.requires.may.rooted.learnt

pub load-requires-clause-awake : goal.load-requires-clause-awake
load-requires-clause-awake g c = c.requires.may.awake

pub load-requires-clause-may : goal.load-requires-clause-may
load-requires-clause-may g c =
    let m = view_of c.args.member.now in
    subst (λ (word : ℕ). MayLoadWord word (Member m)) (sym c.entry_word_at.ensures) (may_entry c.args.member.now.root m c.args.at c.requires.may)

pub returns-clause-untraced : goal.returns-clause-untraced
returns-clause-untraced g c none =
    untraced c.args.member.now.root (view_of c.args.member.now) c.args.at c.requires.may c.entry_word_at.result c.load.result c.entry_word_at.ensures c.load.ensures.found none
