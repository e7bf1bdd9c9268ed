-- What a table of buckets stands for once a key is changed.
use Rattle.std.proofs.Common.{◌≡◌, ◌≢◌, ℕ, inl, inr, Bool, true, ◌&&◌, cond, Option, Some, None, refl, sym, ap, subst, ◌∙◌}
use Rattle.std.specs.Prelude.{◌==◌, slice_get, IsSomeAnd, IsTrue}
use Rattle.std.specs.List.{list_any}
use Rattle.std.proofs.lemmas.Bool.{cases_eq, eqb-true, eq-eqb, ne_eqb, and_parts}
use Rattle.term_core.specs.declared.area.AreaRef.{AreaRef}
use Rattle.term_core.specs.declared.generation.KeyTerm.{KeyTerm}
use Rattle.term_core.specs.declared.generation.Holding.{Holding}
use Rattle.term_core.specs.declared.generation.Holding.TheVariants.{Word, Area}
use Rattle.area_core.specs.declared.table.Published.{Published}
use Rattle.area_core.specs.Generations.{is_term_word, is_area_word}
use Rattle.area_core.specs.Blocks.{Among}
use Rattle.area_core.specs.Terms.{found_in, is_word_of, TermsStand}
use Rattle.area_core.proofs.Tests.{some_passes, passed_by}
use Rattle.shared_words.specs.declared.view.WriterView.{WriterView}
use Rattle.term_table.specs.declared.change.Change.{Change}
use Rattle.term_table.specs.Keys.{Lacks, key_of, change_value, HoldsWord, ChangesTo}
use Rattle.term_table.specs.Built.{found_after}
use Rattle.term_table.specs.Tables.{Terms, StagedFor, Stages}
use Rattle.term_table.specs.Laws.{HaveSameKeys}

-- ---- one word

-- a word for what a key holds is one by another generation that has the area in the same block
pub word_still : (p q : Published) (holding : Holding) (word : ℕ) → ((serial : ℕ) (a : AreaRef) → holding ≡ Area serial → Among p.areas a → a.serial ≡ serial → Among q.areas a) → is_term_word p holding word ≡ true → is_term_word q holding word ≡ true
word_still p q (Word value) word placed is = is
word_still p q (Area serial) word placed is =
    let found = passed_by (λ (a : AreaRef). (a.serial == serial) && is_area_word a word) p.areas is in
    let same : found.0.serial ≡ serial = eqb-true found.0.serial serial (and_parts (found.0.serial == serial) (is_area_word found.0 word) found.3).0 in
    let among = placed serial found.0 refl (found.1, found.2) same in
    some_passes (λ (a : AreaRef). (a.serial == serial) && is_area_word a word) q.areas among.0 found.0 among.1 found.3

-- a found word passes a test
some_and : (o : Option ℕ) (Test Other : ℕ → Type 0) → ((word : ℕ) → Test word → Other word) → IsSomeAnd o Test → IsSomeAnd o Other
some_and None Test Other on is = is
some_and (Some word) Test Other on is = on word is

-- one of the keys has this word
has_word : (q : Published) (key word : ℕ) (k : KeyTerm) → Among q.state.keys k → k.key.0 ≡ key → is_term_word q k.holding word ≡ true → list_any (is_word_of q key word) q.state.keys ≡ true
has_word q key word k among same is =
    some_passes (is_word_of q key word) q.state.keys among.0 k among.1 ((λ i. eq-eqb k.key.0 key same i && is_term_word q k.holding word) ∙ is)

-- the key that a word is found under, and what it holds
pub record IsKeyOf (p : Published) (key word : ℕ) : Type 0 where
  pub term : KeyTerm
  pub among : Among p.state.keys term
  pub key_is : term.key.0 ≡ key
  pub word_is : is_term_word p term.holding word ≡ true
  pub each : (k : KeyTerm) → Among p.state.keys k → k.key.0 ≡ key → is_term_word p k.holding word ≡ true

pub key_found : (block : ℕ → ℕ) (p : Published) (key word : ℕ) → TermsStand block p → found_in block key ≡ Some word → IsKeyOf p key word
key_found block p key word stands found =
    let one = passed_by (is_word_of p key word) p.state.keys (stands.only key word found) in
    let parts = and_parts (one.0.key.0 == key) (is_term_word p one.0.holding word) one.3 in
    record {
      term = one.0;
      among = (one.1, one.2);
      key_is = eqb-true one.0.key.0 key parts.0;
      word_is = parts.1;
      each = λ k at same. subst (λ o. IsSomeAnd o (λ w. IsTrue (is_term_word p k.holding w))) (ap (found_in block) same ∙ found) (stands.found at.0 k at.1);
    }

-- ---- a key that is lacked

some_none : {T : Type 0} (o : Option T) (Test : T → Type 0) → o ≡ None → IsSomeAnd o Test → ⊥
some_none o Test none is = subst (λ z. IsSomeAnd z Test → ⊥) (sym none) (λ no_value. no_value) is

-- where nothing is found the generation has no such key
pub lacks : (block : ℕ → ℕ) (p : Published) (key : ℕ) → TermsStand block p → found_in block key ≡ None → Lacks p key
lacks block p key stands none = λ k among same. some_none (found_in block k.key.0) (λ word. IsTrue (is_term_word p k.holding word)) (ap (found_in block) same ∙ none) (stands.found among.0 k among.1)

-- and the other way
pub lacking : (block : ℕ → ℕ) (p : Published) (key : ℕ) → TermsStand block p → Lacks p key → found_in block key ≡ None
lacking block p key stands lacks = by_found (found_in block key) refl
  where
    by_found : (o : Option ℕ) → found_in block key ≡ o → found_in block key ≡ None
    by_found None is = is
    by_found (Some word) is = let one = key_found block p key word stands is in absurd (lacks one.term one.among one.key_is)

-- ---- a change

-- a table that finds the same but for the change stands for the generation with the change
pub stands_changed : (block after : ℕ → ℕ) (change : Change) (p q : Published) → TermsStand block p → ((key : ℕ) → found_in after key ≡ found_after change (found_in block) key) → ChangesTo change p q → TermsStand after q
stands_changed block after change p q stands found changes = record { found = all; only = none_else }
  where
    here : (key : ℕ) → key ≡ key_of change → found_in after key ≡ change_value change
    here key same = found key ∙ ap (λ (t : Bool). cond t (change_value change) (found_in block key)) (eq-eqb key (key_of change) same)

    there : (key : ℕ) → key ≢ key_of change → found_in after key ≡ found_in block key
    there key differ = found key ∙ ap (λ (t : Bool). cond t (change_value change) (found_in block key)) (ne_eqb key (key_of change) differ)

    by_value : (value : Option ℕ) (k : KeyTerm) → HoldsWord q (key_of change) value → Among q.state.keys k → k.key.0 ≡ key_of change → IsSomeAnd value (λ word. IsTrue (is_term_word q k.holding word))
    by_value None k lacks among same = absurd (lacks k among same)
    by_value (Some word) k held among same = held.2 k among same

    all : (i : ℕ) (k : KeyTerm) → slice_get q.state.keys i ≡ Some k → IsSomeAnd (found_in after k.key.0) (λ word. IsTrue (is_term_word q k.holding word))
    all i k at =
        elim (cases_eq k.key.0 (key_of change)) as (λ _. IsSomeAnd (found_in after k.key.0) (λ word. IsTrue (is_term_word q k.holding word))) [
          | inl same ↦ subst (λ o. IsSomeAnd o (λ word. IsTrue (is_term_word q k.holding word))) (sym (here k.key.0 same)) (by_value (change_value change) k changes.here (i, at) same)
          | inr differ ↦ (
              let was = (changes.others k differ).0 (i, at) in
              subst (λ o. IsSomeAnd o (λ word. IsTrue (is_term_word q k.holding word))) (sym (there k.key.0 differ))
              (some_and (found_in block k.key.0) (λ word. IsTrue (is_term_word p k.holding word)) (λ word. IsTrue (is_term_word q k.holding word))
              (λ word. word_still p q k.holding word (λ serial a holds. changes.placed k serial a (i, at) differ holds)) (stands.found was.0 k was.1)))
        ]

    by_word : (value : Option ℕ) (word : ℕ) → HoldsWord q (key_of change) value → value ≡ Some word → list_any (is_word_of q (key_of change) word) q.state.keys ≡ true
    by_word None word lacks is = absurd (cc)
    by_word (Some other) word held is =
        let k = held.1.term in
        subst (λ (n : ℕ). list_any (is_word_of q (key_of change) n) q.state.keys ≡ true) (some_is other word is) (has_word q (key_of change) other k held.1.among held.1.key_is (held.2 k held.1.among held.1.key_is))
      where
        some_is : (a b : ℕ) → Some a ≡ Some b → a ≡ b
        some_is a b e = cc

    none_else : (key word : ℕ) → found_in after key ≡ Some word → IsTrue (list_any (is_word_of q key word) q.state.keys)
    none_else key word is =
        elim (cases_eq key (key_of change)) as (λ _. list_any (is_word_of q key word) q.state.keys ≡ true) [
          | inl same ↦ subst (λ (n : ℕ). list_any (is_word_of q n word) q.state.keys ≡ true) (sym same) (by_word (change_value change) word changes.here (sym (here key same) ∙ is))
          | inr differ ↦ (
              let one = key_found block p key word stands (sym (there key differ) ∙ is) in
              let apart : one.term.key.0 ≢ key_of change = λ same. differ (sym one.key_is ∙ same) in
              let among = (changes.others one.term apart).1 one.among in
              has_word q key word one.term among one.key_is (word_still p q one.term.holding word (λ serial a holds. changes.placed one.term serial a among apart holds) one.word_is))
        ]

-- ---- the same keys

stands_still : (block : ℕ → ℕ) (p q : Published) → HaveSameKeys p q → TermsStand block p → TermsStand block q
stands_still block p q keys stands = record {
  found = λ i k at.
      let was = (keys.same k).0 (i, at) in
      some_and (found_in block k.key.0) (λ word. IsTrue (is_term_word p k.holding word)) (λ word. IsTrue (is_term_word q k.holding word))
      (λ word. word_still p q k.holding word (λ serial a holds. keys.placed k serial a (i, at) holds)) (stands.found was.0 k was.1);
  only = λ key word is.
      let one = key_found block p key word stands is in
      let among = (keys.same one.term).1 one.among in
      has_word q key word one.term among one.key_is (word_still p q one.term.holding word (λ serial a holds. keys.placed one.term serial a among holds) one.word_is);
}

pub stages_same : (t : Terms) (w : WriterView) (p q : Published) → HaveSameKeys p q → Stages t p w → Stages t q w
stages_same t w p q keys staged = by_table t.staged staged
  where
    by_table : (o : Option ℕ) → StagedFor o p w → StagedFor o q w
    by_table None staged = staged
    by_table (Some table) staged = stands_still _ p q keys staged
