-- What a put or an erase makes of the keys of the newest generation.
use Rattle.std.proofs.Common.{◌≡◌, ◌≢◌, ℕ, ◌/◌, ◌%◌, ◌<◌, inl, inr, Bool, true, ◌&&◌, List, map, Option, refl, sym, ap, subst, ◌∙◌, arith}
use Rattle.std.specs.Prelude.{◌==◌, slice_get}
use Rattle.std.proofs.lemmas.Bool.Decides.{nat_tests}
use Rattle.area_core.proofs.Tests.{some_passes}
use Rattle.term_core.specs.declared.area.AreaRef.{AreaRef}
use Rattle.term_core.specs.declared.atom.AtomId.{AtomId}
use Rattle.term_core.specs.declared.atom.Mfa.{Mfa}
use Rattle.term_core.specs.declared.generation.Generation.{Generation}
use Rattle.term_core.specs.declared.generation.Holding.TheVariants as holdings
use Rattle.term_core.specs.declared.generation.KeyTerm.{KeyTerm}
use Rattle.term_core.specs.PlainTerm.{PlainTerm}
use Rattle.area_core.specs.declared.table.Published.{Published}
use Rattle.area_core.specs.Blocks.{Among}
use Rattle.area_core.specs.Generations.{is_area_word, is_term_word}
use Rattle.server_core.specs.CommandTable.{with_key, without_key}
use Rattle.server_core.specs.Generations.{holding_of, key_term}
use Rattle.server_core.specs.ServerState.{Persistent, ServerState}
use Rattle.term_table.specs.declared.change.Change.TheVariants.{Put, Erase}
use Rattle.term_table.specs.Keys.{ChangesTo}
use Rattle.staging.specs.Keyed.{area_word}
use Rattle.staging.specs.Standing.{IsShownBy, ShowsState}
use Rattle.staging.proofs.KeyLists.{StandOnce, erase_kept, erased_was, put_here, put_kept, put_only, put_was}

-- ---- the newest generation

keys_shown : (names : List Mfa) (s : ServerState) (p : Published) → ShowsState names s p → p.state.keys ≡ map key_term s.keys
keys_shown names s p (inl is) = ap (λ (g : Generation). g.keys) is
keys_shown names s p (inr first) = ap (λ (q : Published). q.state.keys) first.0 ∙ sym (ap (λ (t : ServerState). map key_term t.keys) first.1)

-- it has the keys of the state
pub newest_keys : (names : List Mfa) (s : ServerState) (p : Published) → IsShownBy names s p → p.state.keys ≡ map key_term s.keys
newest_keys names s p shown = keys_shown names shown.stood p shown.shows ∙ sym (ap (λ (t : ServerState). map key_term t.keys) shown.since.same)

-- ---- the word of a key

same_number : (a b : ℕ) → a ≡ b → (a == b) ≡ true
same_number a b e = grind (arith, nat_tests)

both : (a b : Bool) → a ≡ true → b ≡ true → (a && b) ≡ true
both a b e f = subst (λ (x : Bool). (x && b) ≡ true) (sym e) f

pub word_leads : (a : AreaRef) → a.block < 512 → is_area_word a (area_word a) ≡ true
word_leads a small =
    let tag : area_word a % 16 ≡ 5 = omega (arith) in
    let block : area_word a / 16 % 512 ≡ a.block = omega (arith, small) in
    let serial : area_word a / 8192 ≡ a.serial = omega (arith, small) in
    both _ _ (both _ _ (same_number (area_word a % 16) 5 tag) (same_number (area_word a / 16 % 512) a.block block)) (same_number (area_word a / 8192) a.serial serial)

pub area_stands : (p : Published) (a : AreaRef) → Among p.areas a → a.block < 512 → is_term_word p (holdings.Area a.serial) (area_word a) ≡ true
area_stands p a among small = some_passes (λ (b : AreaRef). (b.serial == a.serial) && is_area_word b (area_word a)) p.areas among.0 a among.1 (both _ _ (same_number a.serial a.serial refl) (word_leads a small))

pub word_stands : (p : Published) (value word : ℕ) → word ≡ value → is_term_word p (holdings.Word value) word ≡ true
word_stands p value word same = same_number word value same

-- ---- the change

-- areas of the keys that stay are in the same blocks
abbrev pub KeepsAreas : ℕ → Published → Published → Type 0
KeepsAreas key p q = (k : KeyTerm) (serial : ℕ) (a : AreaRef) → Among p.state.keys k → k.key.0 ≢ key → k.holding ≡ holdings.Area serial → Among p.areas a → a.serial ≡ serial → Among q.areas a

-- what the key comes to hold
abbrev pub put_in : AtomId → PlainTerm → Option ℕ → Persistent
put_in key term area = record { key = key.0; term = term; area = area }

pub put_changes : (p q : Published) (ps : List Persistent) (key : AtomId) (term : PlainTerm) (area : Option ℕ) (word : ℕ) → StandOnce ps → p.state.keys ≡ map key_term ps → q.state.keys ≡ map key_term (with_key ps (put_in key term area))
    → is_term_word q (holding_of term area) word ≡ true → KeepsAreas key.0 p q → ChangesTo (Put key word) p q
put_changes p q ps key term area word once was now stands areas = record {
  here = (
    holding_of term area,
    record { term = key_term (put_in key term area); among = subst (λ (ks : List KeyTerm). Among ks (key_term (put_in key term area))) (sym now) (put_here ps (put_in key term area)); key_is = refl; holding_is = refl },
    λ k among same. subst (λ (x : KeyTerm). is_term_word q x.holding word ≡ true) (sym (put_only ps (put_in key term area) among.0 k once (ap (λ (ks : List KeyTerm). slice_get ks among.0) (sym now) ∙ among.1) same)) stands,
  );
  others = λ k differ. (λ among. came k differ among, λ among. subst (λ (ks : List KeyTerm). Among ks k) (sym now) (put_kept ps (put_in key term area) among.0 k differ (ap (λ (ks : List KeyTerm). slice_get ks among.0) (sym was) ∙ among.1)));
  placed = λ k serial a among differ. areas k serial a (came k differ among) differ;
}
  where
    came : (k : KeyTerm) → k.key.0 ≢ key.0 → Among q.state.keys k → Among p.state.keys k
    came k differ among = subst (λ (ks : List KeyTerm). Among ks k) (sym was) (put_was ps (put_in key term area) among.0 k differ (ap (λ (ks : List KeyTerm). slice_get ks among.0) (sym now) ∙ among.1))

pub erase_changes : (p q : Published) (ps : List Persistent) (key : AtomId) → p.state.keys ≡ map key_term ps → q.state.keys ≡ map key_term (without_key key.0 ps) → KeepsAreas key.0 p q → ChangesTo (Erase key) p q
erase_changes p q ps key was now areas = record {
  here = λ k among. (left k among).1;
  others = λ k differ. (λ among. (left k among).0, λ among. subst (λ (ks : List KeyTerm). Among ks k) (sym now) (erase_kept ps key.0 among.0 k differ (ap (λ (ks : List KeyTerm). slice_get ks among.0) (sym was) ∙ among.1)));
  placed = λ k serial a among differ. areas k serial a (left k among).0 differ;
}
  where
    left : (k : KeyTerm) → Among q.state.keys k → Among p.state.keys k × (k.key.0 ≢ key.0)
    left k among =
        let found = erased_was ps key.0 among.0 k (ap (λ (ks : List KeyTerm). slice_get ks among.0) (sym now) ∙ among.1) in
        (subst (λ (ks : List KeyTerm). Among ks k) (sym was) found.0, found.1)
