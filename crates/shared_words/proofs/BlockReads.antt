-- Which words of blocks a generation reads, and that what it reads of a block for areas is of the area that is kept there.
use Rattle.std.proofs.Common.{◌≡◌, ℕ, ◌+◌, ◌-◌, ◌*◌, ◌/◌, ◌<◌, ◌≤◌, Bool, true, false, ◌&&◌, ◌||◌, List, refl, sym, ap, subst, ◌∙◌, arith}
use Rattle.std.specs.Prelude.{◌==◌, IsTrue}
use Rattle.std.proofs.lemmas.Bool.{and_parts, and_from, lt-ltb, le-ltb, eq-eqb, eqb-true}
use Rattle.term_core.specs.declared.area.AreaRef.{AreaRef}
use Rattle.area_core.specs.declared.map.TheConstants.{AREAS_START}
use Rattle.area_core.specs.declared.table.Published.{Published}
use Rattle.area_core.specs.declared.table.KeptArea.{KeptArea}
use Rattle.area_core.specs.Generations.{is_current, is_instance, is_key_area, is_reached, is_used, is_kept_as, has_area, has_image, has_serial}
use Rattle.area_core.specs.Blocks.{Among, KeptApart, UsedAreKept}
use Rattle.area_core.specs.Readers.{reaches_block, reads_in_block, has_instance_in}
use Rattle.area_core.proofs.Tests.{some_passes, passed_by, three_hold}
use Rattle.area_core.proofs.EntryStores.{same_area}
use Rattle.shared_words.specs.Rule.{AreAreasApart}

-- ---- indices and term tables

pub reads_code : (p : Published) (block at : ℕ) → block ≡ p.root.code → block < 3 → reads_in_block p block at ≡ true
reads_code p block at same low = rw (lt-ltb block 3 low) (eq-eqb block p.root.code same)

pub reads_breakpoint : (p : Published) (block at : ℕ) → block ≡ 3 + p.root.bp → block < 5 → has_instance_in p (9 + at / 16) ≡ true → reads_in_block p block at ≡ true
reads_breakpoint p block at same low has =
    let high : 3 ≤ block = omega (arith) in
    rw (le-ltb block 3 high, lt-ltb block 5 low, eq-eqb block (3 + p.root.bp) same) has

pub reads_term : (p : Published) (block at : ℕ) → block ≡ 5 + p.root.term → block < 9 → reads_in_block p block at ≡ true
reads_term p block at same low =
    let high : 3 ≤ block = omega (arith) in
    let higher : 5 ≤ block = omega (arith) in
    rw (le-ltb block 3 high, le-ltb block 5 higher, lt-ltb block 9 low) (eq-eqb block (5 + p.root.term) same)

pub has_instance_at : (p : Published) (a : AreaRef) (function at : ℕ) → Among p.areas a → IsTrue (is_instance p a.serial) → 9 ≤ a.block → function < 16 → at ≡ (a.block - 9) * 16 + function → has_instance_in p (9 + at / 16) ≡ true
has_instance_at p a function at among instance high few is =
    let row : a.block ≡ 9 + at / 16 = omega (arith) in
    some_passes (λ a. (a.block == 9 + at / 16) && is_instance p a.serial) p.areas among.0 a among.1 (and_from (a.block == 9 + at / 16) (is_instance p a.serial) (eq-eqb a.block (9 + at / 16) row) instance)

-- ---- areas

reads_area : (p : Published) (block at : ℕ) → AREAS_START ≤ block → reads_in_block p block at ≡ reaches_block p block
reads_area p block at high = rw (le-ltb block 3 (omega (arith, high)), le-ltb block 5 (omega (arith, high)), le-ltb block 9 high) refl

-- what is reached is used
used_reached : (p : Published) (serial : ℕ) → is_reached p serial ≡ true → is_used p serial ≡ true
used_reached p serial reached = choose (is_current p serial) (has_serial p.state.old serial) (is_key_area p serial) reached
  where
    choose : (c o k : Bool) → (c || k) ≡ true → ((c || o) || k) ≡ true
    choose true o k e = refl
    choose false true k e = refl
    choose false false k e = e

-- two blocks that are those of one area
same_place : (a b : AreaRef) (x y : ℕ) → a ≡ b → a.block ≡ x → b.block ≡ y → x ≡ y
same_place a b x y one at_a at_b = sym at_a ∙ ap (λ (r : AreaRef). r.block) one ∙ at_b

-- a generation that reads a word of a block uses the area that is kept in it
pub used_there : (kept : List KeptArea) (p : Published) → AreAreasApart p → UsedAreKept kept p → KeptApart kept → (k : KeptArea) → Among kept k → AREAS_START ≤ k.area.block → (block at : ℕ) → k.area.block ≡ block → reads_in_block p block at ≡ true → is_used p k.area.serial ≡ true
used_there kept p once used apart k among high block at same reads =
    let reaches : reaches_block p block ≡ true = sym (reads_area p block at (subst (λ (n : ℕ). 9 ≤ n) same high)) ∙ reads in
    let found = passed_by (λ (a : AreaRef). (a.block == block) && is_reached p a.serial) p.areas reaches in
    let parts = and_parts (found.0.block == block) (is_reached p found.0.serial) found.3 in
    let uses = used_reached p found.0.serial parts.1 in
    let own = passed_by (is_kept_as p found.0.serial) kept (used found.0.serial uses) in
    let says = three_hold (own.0.area.serial == found.0.serial) (has_area p.areas found.0.serial own.0.area.block) (has_image p.state.areas found.0.serial own.0.words) own.3 in
    let listed = passed_by (λ (a : AreaRef). (a.serial == found.0.serial) && (a.block == own.0.area.block)) p.areas says.1 in
    let is = and_parts (listed.0.serial == found.0.serial) (listed.0.block == own.0.area.block) listed.3 in
    let one : listed.0 ≡ found.0 = once listed.0 found.0 (listed.1, listed.2) (found.1, found.2) (eqb-true listed.0.serial found.0.serial is.0) in
    let here : own.0.area.block ≡ block = same_place listed.0 found.0 own.0.area.block block one (eqb-true listed.0.block own.0.area.block is.1) (eqb-true found.0.block block parts.0) in
    let area = same_area kept apart own.0 k (own.1, own.2) among (here ∙ sym same) in
    subst (λ (n : ℕ). is_used p n ≡ true) (sym (eqb-true own.0.area.serial found.0.serial says.0) ∙ ap (λ (x : KeptArea). x.area.serial) area) uses
