-- What words of a code index stand for, and what a store leaves of that.
use Rattle.std.proofs.Common.{◌≡◌, ℕ, ◌+◌, ◌*◌, ◌<◌, inl, inr, Bool, true, List, length, refl, sym, ap, subst, ◌∙◌, arith}
use Rattle.std.specs.Prelude.{◌==◌, Option, Some, None, slice_get, slice_set}
use Rattle.std.specs.List.{list_any}
use Rattle.std.specs.Option.{option_map, option_and_then}
use Rattle.std.proofs.lemmas.Bool.{cases_eq, eqb-true, and_parts}
use Rattle.std.proofs.lemmas.Bool.Decides.{nat_tests}
use Rattle.term_core.specs.declared.area.AreaRef.{AreaRef}
use Rattle.term_core.specs.declared.area.CodeRef.{CodeRef}
use Rattle.term_core.specs.declared.generation.FunctionRef.{FunctionRef}
use Rattle.area_core.specs.declared.table.Published.{Published}
use Rattle.area_core.specs.Map.{word_at, block_place}
use Rattle.area_core.specs.Generations.{is_code_word, leads_to}
use Rattle.area_core.specs.Blocks.{Among}
use Rattle.area_core.proofs.Places.{word_here, word_there}
use Rattle.area_core.proofs.Tests.{some_passes, passed_by}
use Rattle.shared_words.specs.declared.view.WriterView.{WriterView}
use Rattle.shared_words.specs.Publishing.{with_word}
use Rattle.code_index.specs.declared.index.Staging.{Staging}
use Rattle.code_index.specs.declared.index.Staging.TheVariants.{Nothing, Staged, Committing}
use Rattle.code_index.specs.Exports.{export_at, LeadTo, code_word, function_ref_of, KeepsExport, ExportsWith}
use Rattle.code_index.specs.Staging.{Stages, block_of}
use Rattle.code_index.proofs.Indices.{index_apart, index_within}

-- ---- one word

-- a word leads to a function, or to nothing
abbrev leads_by : Published → Option FunctionRef → ℕ → Bool
leads_by p None word = word == 0
leads_by p (Some to) word = list_any (λ a. leads_to to a word) p.areas

-- whether a name stands nowhere or is not exported, a word for it is 0
by_export : (p : Published) (o : Option (Option FunctionRef)) (word : ℕ) → is_code_word p o word ≡ leads_by p (option_and_then (λ e. e) o) word
by_export p None word = refl
by_export p (Some None) word = refl
by_export p (Some (Some to)) word = refl

-- what leads to a function by one generation does so by another that has the instance in its block
leads_still : (p q : Published) (o : Option FunctionRef) (word : ℕ) → ((to : FunctionRef) (a : AreaRef) → o ≡ Some to → Among p.areas a → a.serial ≡ to.serial → Among q.areas a) → leads_by p o word ≡ true → leads_by q o word ≡ true
leads_still p q None word placed leads = leads
leads_still p q (Some to) word placed leads =
    let found = passed_by (λ (a : AreaRef). leads_to to a word) p.areas leads in
    let serial : found.0.serial ≡ to.serial = eqb-true found.0.serial to.serial (and_parts (found.0.serial == to.serial) (word == 1 + found.0.block * 16 + to.function) found.3).0 in
    let among = placed to found.0 refl (found.1, found.2) serial in
    some_passes (λ (a : AreaRef). leads_to to a word) q.areas among.0 found.0 among.1 found.3

-- a word for a name is one for it by a generation that leads it to the same
pub keeps_word : (p q : Published) (entry word : ℕ) → KeepsExport p q entry → is_code_word p (slice_get p.state.exports entry) word ≡ true → is_code_word q (slice_get q.state.exports entry) word ≡ true
keeps_word p q entry word keeps leads =
    by_export q (slice_get q.state.exports entry) word
    ∙ leads_still p q (export_at q entry) word keeps.placed (ap (λ o. leads_by p o word) keeps.same ∙ sym (by_export p (slice_get p.state.exports entry) word) ∙ leads)

leads_there : (q : Published) (to : Option CodeRef) → ((at : CodeRef) → to ≡ Some at → Among q.areas at.area) → leads_by q (option_map function_ref_of to) (code_word to) ≡ true
leads_there q None placed = refl
leads_there q (Some at) placed =
    let among = placed at refl in
    let here : leads_to (function_ref_of at) at.area (1 + at.area.block * 16 + at.function) ≡ true = grind (arith, nat_tests) in
    some_passes (λ (a : AreaRef). leads_to (function_ref_of at) a (1 + at.area.block * 16 + at.function)) q.areas among.0 at.area among.1 here

-- the word that is stored for a name leads it to the function
pub sets_word : (p q : Published) (entry : ℕ) (to : Option CodeRef) → ExportsWith entry to p q → is_code_word q (slice_get q.state.exports entry) (code_word to) ≡ true
sets_word p q entry to with =
    by_export q (slice_get q.state.exports entry) (code_word to) ∙ ap (λ o. leads_by q o (code_word to)) with.here ∙ leads_there q to with.placed

-- ---- an index

-- an index leads as it did where another generation leads to the same
pub leads_same : (words : List ℕ) (block : ℕ) (p q : Published) → ((entry : ℕ) → KeepsExport p q entry) → LeadTo words block p → LeadTo words block q
leads_same words block p q keeps leads entry few = keeps_word p q entry (word_at words (block_place block entry)) (keeps entry) (leads entry few)

-- and where each of its words is as before
pub leads_kept : (words after : List ℕ) (block : ℕ) (p : Published) → ((entry : ℕ) → entry < 1024 → word_at after (block_place block entry) ≡ word_at words (block_place block entry)) → LeadTo words block p → LeadTo after block p
leads_kept words after block p same leads entry few = ap (is_code_word p (slice_get p.state.exports entry)) (same entry few) ∙ leads entry few

-- a store for one name
pub leads_set : (words : List ℕ) (block entry : ℕ) (to : Option CodeRef) (p q : Published) → length words ≡ 83413 → block < 3 → entry < 1024 → ExportsWith entry to p q → LeadTo words block p → LeadTo (slice_set words (block_place block entry) (code_word to)) block q
leads_set words block entry to p q all fits here with leads other few =
    elim (cases_eq other entry) as (λ _. is_code_word q (slice_get q.state.exports other) (word_at (slice_set words (block_place block entry) (code_word to)) (block_place block other)) ≡ true) [
      | inl same ↦ (
          let within = index_within block entry fits here in
          let stored : word_at (slice_set words (block_place block entry) (code_word to)) (block_place block other) ≡ code_word to =
          ap (λ (n : ℕ). word_at (slice_set words (block_place block entry) (code_word to)) (block_place block n)) same ∙ word_here words (block_place block entry) (code_word to) (omega (arith, within, all)) in
          (λ i. is_code_word q (slice_get q.state.exports (same i)) (stored i)) ∙ sets_word p q entry to with)
      | inr differ ↦
          ap (is_code_word q (slice_get q.state.exports other)) (word_there words (block_place block entry) (code_word to) (block_place block other) (λ place. differ (index_apart block other block entry fits few fits here place).1))
          ∙ keeps_word p q other (word_at words (block_place block other)) (with.others other differ) (leads other few)
    ]

-- ---- what is staged

pub stages_same : (x : Staging) (w : WriterView) (p q : Published) → ((entry : ℕ) → KeepsExport p q entry) → Stages x p w → Stages x q w
stages_same Nothing w p q keeps staged = staged
stages_same (Staged block) w p q keeps staged = leads_same w.words block p q keeps staged
stages_same (Committing block need) w p q keeps staged = leads_same w.words block p q keeps staged

-- what is staged stays where the words of the index do
pub stages_kept : (x : Staging) (v w : WriterView) (p : Published) → ((entry : ℕ) → entry < 1024 → word_at w.words (block_place (block_of x) entry) ≡ word_at v.words (block_place (block_of x) entry)) → Stages x p v → Stages x p w
stages_kept Nothing v w p same staged = staged
stages_kept (Staged block) v w p same staged = leads_kept v.words w.words block p same staged
stages_kept (Committing block need) v w p same staged = leads_kept v.words w.words block p same staged

-- a store for one name into the index that is staged
pub stages_set : (x : Staging) (w : WriterView) (entry word value : ℕ) (to : Option CodeRef) (p q : Published) → length w.words ≡ 83413 → block_of x < 3 → entry < 1024 → word ≡ block_place (block_of x) entry → value ≡ code_word to → Stages x p w → ExportsWith entry to p q → Stages x q (with_word word value w)
stages_set Nothing w entry word value to p q all fits few place is staged with = staged
stages_set (Staged block) w entry word value to p q all fits few place is staged with =
    subst (λ (z : ℕ × ℕ). LeadTo (slice_set w.words z.0 z.1) block q) (λ i. (sym place i, sym is i)) (leads_set w.words block entry to p q all fits few with staged)
stages_set (Committing block need) w entry word value to p q all fits few place is staged with =
    subst (λ (z : ℕ × ℕ). LeadTo (slice_set w.words z.0 z.1) block q) (λ i. (sym place i, sym is i)) (leads_set w.words block entry to p q all fits few with staged)
