-- What a key holds in a generation that is served: no word that leads to an area; and what a look-up finds is what its first
-- entry holds.
use Rattle.std.proofs.Common.{◌≡◌, ◌≢◌, ℕ, zero, suc, ◌%◌, Bool, true, false, List, [], ◌∷◌, map, Option, Some, None, refl, sym, ap, subst, ◌∙◌, arith}
use Rattle.std.specs.Prelude.{◌==◌, slice_get, if◌then◌else◌}
use Rattle.std.proofs.lemmas.Bool.{eq-eqb, eqb-true, true≢false}
use Rattle.term_core.specs.declared.area.Found.{Found}
use Rattle.term_core.specs.declared.area.Found.TheVariants as founds
use Rattle.term_core.specs.declared.atom.Mfa.{Mfa}
use Rattle.term_core.specs.declared.generation.Holding.{Holding}
use Rattle.term_core.specs.declared.generation.Holding.TheVariants.{Word, Area}
use Rattle.term_core.specs.declared.generation.KeyTerm.{KeyTerm}
use Rattle.term_core.specs.declared.term.Term.{Term}
use Rattle.term_core.specs.declared.term.Term.TheVariants.{Int, Atom, Tuple, List as ListOf}
use Rattle.term_core.specs.Image.{immediate_word}
use Rattle.term_core.specs.Plain.{term_of}
use Rattle.area_core.specs.declared.table.Published.{Published}
use Rattle.area_core.specs.Blocks.{Among}
use Rattle.term_table.specs.Keys.{HasPlainWords, IsHeld}
use Rattle.server_core.specs.Generations.{holding_of, key_term}
use Rattle.server_core.specs.ServerState.{Persistent, found_as}
use Rattle.machine_core.specs.GenerationReads.{found_held, holding_among}
use Rattle.word_view.specs.Loaded.{IsFoundIn}
use Rattle.code_law.specs.Served.{IsOfServer}
use Rattle.code_law.proofs.States.{state_of}

-- ---- words

-- the word of a term leads to no area
plain_word : (t : Term) → immediate_word t % 16 ≢ 5
plain_word (Int z) is = absurd (omega (arith, is))
plain_word (Atom a) is = absurd (omega (arith, is))
plain_word (Tuple ts) is = absurd (omega (arith, is))
plain_word (ListOf ts) is = absurd (omega (arith, is))

same_word : (a b : ℕ) → ◌≡◌ {A = Holding} (Word a) (Word b) → a ≡ b
same_word a b e = cc

plain_held : (p : Persistent) (area : Option ℕ) (value : ℕ) → holding_of p.term area ≡ Word value → value % 16 ≢ 5
plain_held p None value e = subst (λ (n : ℕ). n % 16 ≢ 5) (same_word (immediate_word (term_of p.term)) value e) (plain_word (term_of p.term))
plain_held p (Some serial) value e = absurd (cc)

plain_among : (ps : List Persistent) (i : ℕ) (k : KeyTerm) (value : ℕ) → slice_get (map key_term ps) i ≡ Some k → k.holding ≡ Word value → value % 16 ≢ 5
plain_among [] i k value at is = absurd (cc)
plain_among (p ∷ ps) zero k value at is = let same : key_term p ≡ k = cc in plain_held p p.area value (ap (λ (x : KeyTerm). x.holding) same ∙ is)
plain_among (p ∷ ps) (suc i) k value at is = plain_among ps i k value at is

-- so a generation of the server holds no such word
pub served_plain : (names : List Mfa) (p : Published) → IsOfServer names p.state → HasPlainWords p
served_plain names p served key value h =
    let s = state_of names p.state served in
    plain_among s.state.keys h.among.0 h.term value (subst (λ (ks : List KeyTerm). slice_get ks h.among.0 ≡ Some h.term) s.keys h.among.1) h.holding_is

-- ---- what is found

-- where each entry of a key holds this, the first one does
held_each : (keys : List KeyTerm) (key : ℕ) (holding : Holding) (k : KeyTerm) → Among keys k → k.key.0 ≡ key → ((other : KeyTerm) → Among keys other → other.key.0 ≡ key → other.holding ≡ holding) → holding_among keys key ≡ Some holding
held_each [] key holding k (i, at) same each = absurd (cc)
held_each (x ∷ xs) key holding k (i, at) same each = choose (x.key.0 == key) refl (λ there. held_each xs key holding k there same (λ other (j, u) own. each other (suc j, u) own))
  where
    behind : (i : ℕ) → slice_get (x ∷ xs) i ≡ Some k → (x.key.0 ≡ key → ⊥) → Among xs k
    behind zero at differ = absurd (let own : x ≡ k = cc in differ (ap (λ (y : KeyTerm). y.key.0) own ∙ same))
    behind (suc j) at differ = (j, at)

    choose : (t : Bool) → (x.key.0 == key) ≡ t → (Among xs k → holding_among xs key ≡ Some holding) → (if t then Some x.holding else holding_among xs key) ≡ Some holding
    choose true e rest = ap Some (each x (0, refl) (eqb-true x.key.0 key e))
    choose false e rest = rest (behind i at (λ own. true≢false (sym (eq-eqb x.key.0 key own) ∙ e)))

held_none : (keys : List KeyTerm) (key : ℕ) → ((k : KeyTerm) → Among keys k → k.key.0 ≢ key) → holding_among keys key ≡ None
held_none [] key none = refl
held_none (x ∷ xs) key none = choose (x.key.0 == key) refl (held_none xs key (λ k (i, at). none k (suc i, at)))
  where
    choose : (t : Bool) → (x.key.0 == key) ≡ t → holding_among xs key ≡ None → (if t then Some x.holding else holding_among xs key) ≡ None
    choose true e rest = absurd (none x (0, refl) (eqb-true x.key.0 key e))
    choose false e rest = rest

-- so a look-up finds that
pub found_value : (p : Published) (key : ℕ) (r : Found) → IsHeld p key r → found_as r ≡ found_held (holding_among p.state.keys key)
found_value p key founds.Absent lacks = ap found_held (sym (held_none p.state.keys key lacks))
found_value p key (founds.Word value) h = ap found_held (sym (held_each p.state.keys key (Word value) h.0.term h.0.among h.0.key_is h.1))
found_value p key (founds.Area area) h = ap found_held (sym (held_each p.state.keys key (Area area.serial) h.0.term h.0.among h.0.key_is h.1))

-- and an area that is listed
pub found_listed : (p : Published) (key : ℕ) (r : Found) → IsHeld p key r → IsFoundIn p r
found_listed p key founds.Absent lacks = tt
found_listed p key (founds.Word value) h = tt
found_listed p key (founds.Area area) h = h.2
