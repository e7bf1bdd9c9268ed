-- Where a change leaves the keys, the active term table holds those of the next generation too.
use Rattle.std.proofs.Common.{◌≡◌, ℕ, inr, true, List, map, Option, Some, None, refl, sym, ap, subst, ◌∙◌}
use Rattle.std.specs.Prelude.{◌==◌, ◌&&◌, slice_get, option_and_then, IsSomeAnd, IsTrue}
use Rattle.std.specs.List.{list_any}
use Rattle.std.proofs.lemmas.Bool.{and_from, and_parts, eqb-true}
use Rattle.term_core.specs.declared.area.AreaRef.{AreaRef}
use Rattle.term_core.specs.declared.atom.Mfa.{Mfa}
use Rattle.term_core.specs.declared.generation.Generation.{Generation}
use Rattle.term_core.specs.declared.generation.Holding.{Holding}
use Rattle.term_core.specs.declared.generation.Holding.TheVariants.{Word, Area}
use Rattle.term_core.specs.declared.generation.KeyTerm.{KeyTerm}
use Rattle.area_core.specs.declared.table.Published.{Published}
use Rattle.area_core.specs.Generations.{is_area_word, is_term_word}
use Rattle.area_core.specs.Blocks.{Among}
use Rattle.area_core.specs.Terms.{TermsStand, found_in, is_word_of}
use Rattle.shared_words.specs.declared.view.WriterView.{WriterView}
use Rattle.progress_words.specs.Roots.{newest_of}
use Rattle.server_core.specs.Generations.{generation_of, key_term}
use Rattle.server_core.specs.ServerState.{Persistent, ServerState}
use Rattle.change_laws.specs.Uses.{IsUsed}
use Rattle.staging.specs.Standing.{AreKeysOnce, IsShownBy}
use Rattle.staging.proofs.KeyLists.{key_at}
use Rattle.staging.proofs.KeyStaged.{newest_keys}
use Rattle.staging.proofs.NextFresh.{any_at, at_any}
use Rattle.staging.proofs.NextReads.{held_at}

-- ---- two generations with the same keys

-- the areas of keys that one lists the other lists too
abbrev ListsKeys : Published → Published → Type 0
ListsKeys p q = (k : KeyTerm) (serial : ℕ) (a : AreaRef) → Among p.state.keys k → k.holding ≡ Area serial → Among p.areas a → a.serial ≡ serial → Among q.areas a

word_alike : (p q : Published) (h : Holding) (word : ℕ) → ((serial : ℕ) (a : AreaRef) → h ≡ Area serial → Among p.areas a → a.serial ≡ serial → Among q.areas a) → is_term_word p h word ≡ true → is_term_word q h word ≡ true
word_alike p q (Word value) word lists e = e
word_alike p q (Area serial) word lists e =
    let found = at_any (λ (a : AreaRef). (a.serial == serial) && is_area_word a word) p.areas e in
    let parts = and_parts (found.0.serial == serial) (is_area_word found.0 word) found.2 in
    any_at (λ (a : AreaRef). (a.serial == serial) && is_area_word a word) q.areas found.0 (lists serial found.0 refl found.1 (eqb-true found.0.serial serial parts.0)) found.2

some_alike : (P Q : ℕ → Type 0) (o : Option ℕ) → ((x : ℕ) → P x → Q x) → IsSomeAnd o P → IsSomeAnd o Q
some_alike P Q None f h = h
some_alike P Q (Some x) f h = f x h

module _ (block : ℕ → ℕ) (p q : Published) (keys : q.state.keys ≡ p.state.keys) (lists : ListsKeys p q) where
  key_alike : (k : KeyTerm) (word : ℕ) → Among p.state.keys k → is_term_word p k.holding word ≡ true → is_term_word q k.holding word ≡ true
  key_alike k word at e = word_alike p q k.holding word (λ serial a is. lists k serial a at is) e

  found_alike : TermsStand block p → (i : ℕ) (k : KeyTerm) → slice_get q.state.keys i ≡ Some k → IsSomeAnd (found_in block k.key.0) (λ word. IsTrue (is_term_word q k.holding word))
  found_alike stands i k at =
      let there : slice_get p.state.keys i ≡ Some k = ap (λ (ks : List KeyTerm). slice_get ks i) (sym keys) ∙ at in
      some_alike (λ word. IsTrue (is_term_word p k.holding word)) (λ word. IsTrue (is_term_word q k.holding word)) (found_in block k.key.0) (λ word e. key_alike k word (i, there) e) (stands.found i k there)

  only_alike : TermsStand block p → (key word : ℕ) → found_in block key ≡ Some word → IsTrue (list_any (is_word_of q key word) q.state.keys)
  only_alike stands key word is =
      let found = at_any (is_word_of p key word) p.state.keys (stands.only key word is) in
      let parts = and_parts (found.0.key.0 == key) (is_term_word p found.0.holding word) found.2 in
      any_at (is_word_of q key word) q.state.keys found.0 (subst (λ (ks : List KeyTerm). Among ks found.0) (sym keys) found.1)
      (and_from (found.0.key.0 == key) (is_term_word q found.0.holding word) parts.0 (key_alike found.0 word found.1 parts.1))

  terms_alike : TermsStand block p → TermsStand block q
  terms_alike stands = record { found = found_alike stands; only = only_alike stands }

-- ---- the keys of a state

area_of : (p : Persistent) (serial : ℕ) (o : Option ℕ) → p.area ≡ o → (key_term p).holding ≡ Area serial → p.area ≡ Some serial
area_of p serial None is e = absurd (let none = subst (λ (a : Option ℕ). (key_term (record p { area = a })).holding ≡ Area serial) is e in word_none none)
  where
    word_none : {v : ℕ} → Word v ≡ Area serial → ⊥
    word_none e = (cc)
area_of p serial (Some n) is e = is ∙ ap (λ (k : ℕ). Some k) (same n (subst (λ (a : Option ℕ). (key_term (record p { area = a })).holding ≡ Area serial) is e))
  where
    same : (n : ℕ) → Area n ≡ Area serial → n ≡ serial
    same n e = (cc)

-- so the area of one of them is used
key_used : (s : ServerState) (k : KeyTerm) (serial : ℕ) → AreKeysOnce s.keys → Among (map key_term s.keys) k → k.holding ≡ Area serial → IsUsed s serial
key_used s k serial once at is =
    let found = key_at s.keys at.0 k at.1 in
    let area = area_of found.0 serial found.0.area refl (ap (λ (x : KeyTerm). x.holding) found.2 ∙ is) in
    inr (inr (found.0.key, ap (λ (o : Option Persistent). option_and_then (λ (x : Persistent). x.area) o) (held_at s.keys at.0 found.0 once found.1) ∙ area))

-- ---- a change that leaves the keys

module _ (names : List Mfa) (s after : ServerState) (w : WriterView) (p : Published) (shown : IsShownBy names s (newest_of w)) (once : AreKeysOnce s.keys) (state : p.state ≡ generation_of names after) (keys : after.keys ≡ s.keys)
    (listed : (a : AreaRef) → Among (newest_of w).areas a → IsUsed s a.serial → Among p.areas a) where
  -- the next generation has the keys of the newest one
  pub keys_stay : p.state.keys ≡ (newest_of w).state.keys
  keys_stay = ap (λ (g : Generation). g.keys) state ∙ ap (λ (ks : List Persistent). map key_term ks) keys ∙ sym (newest_keys names s (newest_of w) shown)

  lists : ListsKeys (newest_of w) p
  lists k serial a at is here same = listed a here (subst (IsUsed s) (sym same) (key_used s k serial once (subst (λ (ks : List KeyTerm). Among ks k) (newest_keys names s (newest_of w) shown) at) is))

  -- so the term table that stands for the one stands for the other
  pub terms_stay : (block : ℕ → ℕ) → TermsStand block (newest_of w) → TermsStand block p
  terms_stay block stands = terms_alike block (newest_of w) p keys_stay lists stands
