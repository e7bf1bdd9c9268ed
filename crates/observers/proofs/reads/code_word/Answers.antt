-- The word is one of the code index that the root word names.
use Rattle.std.proofs.Common.{ℕ, ◌%◌, ◌<◌, sym, ap, subst, ◌∙◌}
use Rattle.area_core.specs.Map.{block_place}
use Rattle.shared_words.specs.declared.view.View.TheVariants.{Member}
use Rattle.shared_words.specs.Publishing.{MayLoadWord}
use Rattle.progress_words.specs.Tokens.{watched_by}
use Rattle.word_view.specs.Loaded.{IsFound}
use Rattle.word_view.proofs.Exporting.{code_found}
use Rattle.word_view.proofs.Reading.{code_of_root, may_code}
use Rattle.observers.specs.Watching.{as_member}
use Rattle.observers.proofs.Mirrored.{reading_member}
use Rattle.observers.proofs.reads.code_word.Goals as goal

pub root-requires : goal.root-requires
root-requires g c = record { rooted = c.requires.reading.rooted }

pub index_word-requires-clause-code : goal.index_word-requires-clause-code
index_word-requires-clause-code g c =
    let v = watched_by c.args.watcher.now in
    let root = c.args.watcher.now.root in
    let h = reading_member root v c.requires.reading in
    subst (λ (n : ℕ). n < 3) (sym (ap (λ (x : ℕ). x % 4) (c.root.ensures ∙ sym c.requires.reading.rooted.held) ∙ code_of_root root (as_member v) h)) c.requires.reading.rooted.fits.code

pub load-requires-clause-may : goal.load-requires-clause-may
load-requires-clause-may g c =
    let v = watched_by c.args.watcher.now in
    let root = c.args.watcher.now.root in
    let h = reading_member root v c.requires.reading in
    let code_is = ap (λ (x : ℕ). x % 4) (c.root.ensures ∙ sym c.requires.reading.rooted.held) ∙ code_of_root root (as_member v) h in
    let word_is = c.index_word.ensures ∙ ap (λ (n : ℕ). block_place n c.args.entry) code_is in
    subst (λ (word : ℕ). MayLoadWord word (Member (as_member v))) (sym word_is) (may_code (as_member v) h.awake c.requires.reading.rooted.learnt c.args.entry c.requires.reading.rooted.fits.code c.requires.entry)

pub returns-clause-word : goal.returns-clause-word
returns-clause-word g c =
    let v = watched_by c.args.watcher.now in
    let root = c.args.watcher.now.root in
    let h = reading_member root v c.requires.reading in
    let code_is = ap (λ (x : ℕ). x % 4) (c.root.ensures ∙ sym c.requires.reading.rooted.held) ∙ code_of_root root (as_member v) h in
    let word_is = c.index_word.ensures ∙ ap (λ (n : ℕ). block_place n c.args.entry) code_is in
    code_found (as_member v) c.args.entry c.load.result c.requires.entry (subst (λ (word : ℕ). IsFound (as_member v) word c.load.result) word_is c.load.ensures.found)

pub returns-clause-found : goal.returns-clause-found
returns-clause-found g c =
    let v = watched_by c.args.watcher.now in
    let root = c.args.watcher.now.root in
    let h = reading_member root v c.requires.reading in
    let code_is = ap (λ (x : ℕ). x % 4) (c.root.ensures ∙ sym c.requires.reading.rooted.held) ∙ code_of_root root (as_member v) h in
    subst (λ (word : ℕ). IsFound (as_member v) word c.load.result) (c.index_word.ensures ∙ ap (λ (n : ℕ). block_place n c.args.entry) code_is) c.load.ensures.found
