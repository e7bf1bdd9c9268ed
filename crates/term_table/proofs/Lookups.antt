-- A look-up: the words that it reads are those of one table, which stands for the generation that is held.
use Rattle.std.proofs.Common.{◌≡◌, ◌≢◌, ℕ, zero, suc, ◌+◌, ◌*◌, ◌/◌, ◌%◌, ◌<◌, inl, inr, true, false, cond, List, [], ◌∷◌, length, refl, sym, ap, subst, ◌∙◌, arith}
use Rattle.std.specs.Prelude.{◌==◌, ◌&&◌, ◌||◌, ◌↔◌, Bool, Some, None, slice_get, IsTrue}
use Rattle.std.specs.Option.{option_map}
use Rattle.std.proofs.lemmas.Bool.{eq-eqb, ne_eqb, cases_eq, eqb-true, and_parts}
use Rattle.atomic_table.specs.Seated.{TableId}
use Rattle.prgr_core.specs.Members as members
use Rattle.prgr_core.specs.declared.member.TheConstants.{ENTERING}
use Rattle.area_core.specs.Readers as readers
use Rattle.area_core.specs.Readers.{has_root}
use Rattle.term_core.specs.declared.area.AreaRef.{AreaRef}
use Rattle.term_core.specs.declared.area.Found.TheVariants as founds
use Rattle.term_core.specs.declared.generation.Holding.{Holding}
use Rattle.term_core.specs.declared.generation.Holding.TheVariants.{Word, Area}
use Rattle.area_core.specs.declared.table.Published.{Published}
use Rattle.area_core.specs.Map.{kind_at, term_place}
use Rattle.area_core.specs.Generations.{is_term_word, is_area_word}
use Rattle.area_core.specs.Blocks.{Blocks, BlockInvariant, Among, term_blocks_words}
use Rattle.area_core.specs.Terms.{bucket_value, looked, found_outcome, bucket_of, TermsStand}
use Rattle.area_core.specs.Readers.{is_read_under, held_by_member}
use Rattle.area_core.specs.Step.{opening_published}
use Rattle.area_core.proofs.Tests.{passed_by}
use Rattle.shared_words.specs.declared.seats.Member as tokens
use Rattle.shared_words.specs.declared.view.BlockWord.{BlockWord}
use Rattle.shared_words.specs.declared.view.MemberView.{MemberView}
use Rattle.shared_words.specs.declared.view.View.TheVariants.{Member}
use Rattle.shared_words.specs.Seats.{IsRooted}
use Rattle.shared_words.specs.Publishing.{IsSteady, MayLoadWord, ReadsHeld, WordTells, with_block_word}
use Rattle.shared_words.proofs.ShownMembers.{there_is}
use Rattle.shared_words.proofs.KeptWords.{steady_in_front}
use Rattle.progress_words.specs.Tokens.{view_of, IsMemberOf, IsSameMember}
use Rattle.progress_words.specs.Reports.{IsAwake}
use Rattle.term_table.specs.Keys.{Lacks, HoldsTerm, EachHolds, IsHeld, HasPlainWords}
use Rattle.term_table.specs.Looked.{found_of, MayReadTable, HasReadWord, HasRead}
use Rattle.term_table.proofs.Searching.{place_of, place_within, begun, looked_on, look_none, look_here, found_last}
use Rattle.term_table.proofs.TablePlaces.{table_kind, reads_own}
use Rattle.term_table.proofs.Words.{IsKeyOf, key_found, lacks}
use Rattle.shared_words.specs.Processes.{held_by_view}

-- ---- who may read

-- a member that is awake holds its generation
held_awake : (m : MemberView) → IsAwake m → held_by_member m.member ≡ Some m.member.generation
held_awake m awake = choose (members.is_value m.member.word) ((m.member.word == ENTERING) && has_root m.member.loaded) awake
  where
    choose : (a b : Bool) → a ≡ true → cond (a || b) (Some m.member.generation) None ≡ Some m.member.generation
    choose true b is = refl
    choose false b is = absurd (cc)

-- the generation stands at its number
held_there : (m : MemberView) → m.member.generation < length m.seen → slice_get m.seen m.member.generation ≡ Some (held_by_view m)
held_there m learnt = there_is m.seen m.member.generation opening_published learnt

-- the member may load a word of the table of the generation
pub may_read : (m : MemberView) (table at : ℕ) → MayReadTable table m → at < 1024 → MayLoadWord (term_place table at) (Member m)
may_read m table at may few = inl (subst (ReadsHeld (term_place table at) m.seen) (sym (held_awake m may.awake)) read)
  where
    read : is_read_under (kind_at (term_place table at)) (slice_get m.seen m.member.generation) ≡ true
    read = (λ i. is_read_under (table_kind table at may.fits few i) (held_there m may.learnt i)) ∙ reads_own (held_by_view m) table at may.fits may.table_is

-- and what it finds is a word under the generation
pub reads_word : (m : MemberView) (table at found : ℕ) → MayReadTable table m → WordTells (Member m) (term_place table at) found → HasReadWord table at found m (with_block_word (term_place table at) found m)
reads_word m table at found may tells = record { view = refl; tells = tells m.member.generation (held_by_view m) (held_awake m may.awake) (held_there m may.learnt) }

-- the table is the one that the root word names
pub may_read_rooted : (root table : ℕ) (m : MemberView) → IsAwake m → IsRooted root m → table ≡ root / 8 % 4 → MayReadTable table m
may_read_rooted root table m awake rooted is =
    let code = rooted.fits.code in
    let bp = rooted.fits.bp in
    let term = rooted.fits.term in
    let held = rooted.held in
    record { awake = awake; learnt = rooted.learnt; fits = omega (arith, is); table_is = omega (arith, is, held, code, bp, term) }

-- ---- the words of one table

-- the words that were found are those of blocks that stand for the generation
pub record AreUnder (g : ℕ) (p : Published) (read : List BlockWord) : Type 0 where
  pub blocks : Blocks
  pub stands : BlockInvariant blocks (λ h. h ≡ g)
  pub published : slice_get blocks.published g ≡ Some p
  pub all : (f : BlockWord) → Among read f → f.generation ≡ g → IsTrue (readers.reads_word (kind_at f.word) p) → IsSteady blocks f.word → blocks.word f.word ≡ f.value

-- this word was found in the table
abbrev pub IsFound : MemberView → ℕ → ℕ → ℕ → Type 0
IsFound m table at value = Among m.blocks (record { generation = m.member.generation; word = term_place table at; value = value })

module _ (m : MemberView) (table : ℕ) (may : MayReadTable table m) (under : AreUnder m.member.generation (held_by_view m) m.blocks) where
  abbrev p : Published
  p = held_by_view m

  abbrev block : ℕ → ℕ
  block = term_blocks_words under.blocks.word p.root

  stands : TermsStand block p
  stands = under.stands.terms_stand m.member.generation p refl under.published

  steady : (at : ℕ) → at < 1024 → IsSteady under.blocks (term_place table at)
  steady at few = let fits = may.fits in steady_in_front under.blocks (λ h. h ≡ m.member.generation) under.stands (term_place table at) (5 + table) at (table_kind table at may.fits few) (omega (arith, fits))

  reads : (at : ℕ) → at < 1024 → readers.reads_word (kind_at (term_place table at)) p ≡ true
  reads at few = (λ i. readers.reads_word (table_kind table at may.fits few i) p) ∙ reads_own p table at may.fits may.table_is

  -- what was found stands in the table
  word_found : (at value : ℕ) → at < 1024 → IsFound m table at value → block at ≡ value
  word_found at value few found =
      ap (λ (n : ℕ). under.blocks.word (term_place n at)) (sym may.table_is) ∙ under.all (record { generation = m.member.generation; word = term_place table at; value = value }) found refl (reads at few) (steady at few)

  -- a search that has found other keys goes on
  passed_none : (key n : ℕ) → ((i : ℕ) → i < n → (value : ℕ) × (value ≢ 0) × (value ≢ key + 1) × IsFound m table (place_of key i * 2) value) → looked block key n ≡ None
  passed_none key zero passed = begun block key
  passed_none key (suc n) passed =
      let last = passed n (omega (arith)) in
      let within = place_within key n in
      let is = word_found (place_of key n * 2) last.0 (omega (arith, within)) last.3 in
      let before = passed_none key n (λ i low. passed i (omega (arith, low))) in
      let e : suc n ≡ n + 1 = omega (arith) in
      ap (looked block key) e ∙ looked_on block key n before (λ none. last.1 (sym is ∙ none)) (λ own. last.2 (sym is ∙ own))

  none_found : (key : ℕ) → bucket_of block key ≡ None → Lacks p key
  none_found key none = lacks block p key stands (ap (option_map (bucket_value block)) none)

  -- an empty bucket, or no other one
  pub lacks_empty : (key n : ℕ) → n < 512 → ((i : ℕ) → i < n → (value : ℕ) × (value ≢ 0) × (value ≢ key + 1) × IsFound m table (place_of key i * 2) value) → IsFound m table (place_of key n * 2) 0 → Lacks p key
  lacks_empty key n few passed empty =
      let within = place_within key n in
      none_found key (found_last block key n None few (passed_none key n passed) (look_none block key (place_of key n) (word_found (place_of key n * 2) 0 (omega (arith, within)) empty)))

  pub lacks_all : (key : ℕ) → ((i : ℕ) → i < 512 → (value : ℕ) × (value ≢ 0) × (value ≢ key + 1) × IsFound m table (place_of key i * 2) value) → Lacks p key
  lacks_all key passed = none_found key (ap found_outcome (passed_none key 512 passed))

  -- a bucket of the key
  pub finds_key : (key n value : ℕ) → n < 512 → ((i : ℕ) → i < n → (value : ℕ) × (value ≢ 0) × (value ≢ key + 1) × IsFound m table (place_of key i * 2) value) → IsFound m table (place_of key n * 2) (key + 1) → IsFound m table (place_of key n * 2 + 1) value → IsKeyOf p key value
  finds_key key n value few passed own here =
      let within = place_within key n in
      let bucket = found_last block key n (Some (place_of key n)) few (passed_none key n passed) (look_here block key (place_of key n) (word_found (place_of key n * 2) (key + 1) (omega (arith, within)) own)) in
      let is = word_found (place_of key n * 2 + 1) value (omega (arith, within)) here in
      key_found block p key value stands (ap (option_map (bucket_value block)) bucket ∙ ap Some is)

-- ---- what is answered

module _ (p : Published) (key value : ℕ) (k : IsKeyOf p key value) where
  not_absent : (b : ℕ) → cond (b == 5) (founds.Area (record { serial = value / 8192; block = value / 16 % 512 })) (founds.Word value) ≡ founds.Absent → ⊥
  not_absent b is =
      elim (cases_eq b 5) as (λ _. ⊥) [
        | inl same ↦ absurd (let e = sym (ap (λ t. cond t (founds.Area (record { serial = value / 8192; block = value / 16 % 512 })) (founds.Word value)) (eq-eqb b 5 same)) ∙ is in cc)
        | inr differ ↦ absurd (let e = sym (ap (λ t. cond t (founds.Area (record { serial = value / 8192; block = value / 16 % 512 })) (founds.Word value)) (ne_eqb b 5 differ)) ∙ is in cc)
      ]

  -- something is answered where the generation has the key
  pub absent_not : (found_of value ≡ founds.Absent) ↔ Lacks p key
  absent_not = (λ is. absurd (not_absent (value % 16) is), λ lacks. absurd (lacks k.term k.among k.key_is))

  -- the word leads to an area
  area_of : (serial : ℕ) → is_term_word p (Area serial) value ≡ true → (value % 16 ≡ 5) × (value / 8192 ≡ serial) × Among p.areas (record { serial = value / 8192; block = value / 16 % 512 })
  area_of serial is =
      let found = passed_by (λ (a : AreaRef). (a.serial == serial) && is_area_word a value) p.areas is in
      let parts = and_parts (found.0.serial == serial) (is_area_word found.0 value) found.3 in
      let word = and_parts ((value % 16 == 5) && (value / 16 % 512 == found.0.block)) (value / 8192 == found.0.serial) parts.1 in
      let front = and_parts (value % 16 == 5) (value / 16 % 512 == found.0.block) word.0 in
      let block_is : value / 16 % 512 ≡ found.0.block = eqb-true (value / 16 % 512) found.0.block front.1 in
      let serial_is : value / 8192 ≡ found.0.serial = eqb-true (value / 8192) found.0.serial word.1 in
      let area_is : found.0 ≡ record { serial = value / 8192; block = value / 16 % 512 } = (λ i. record { serial = sym serial_is i; block = sym block_is i }) in
      (eqb-true (value % 16) 5 front.0, serial_is ∙ eqb-true found.0.serial serial parts.0, subst (Among p.areas) area_is (found.1, found.2))

  -- each entry of the key holds the word, where it leads to no area
  each_word : value % 16 ≢ 5 → EachHolds p key (Word value)
  each_word differ other among same = by_holding other.holding (k.each other among same)
    where
      by_holding : (holding : Holding) → is_term_word p holding value ≡ true → holding ≡ Word value
      by_holding (Word word) is = ap Word (sym (eqb-true value word is))
      by_holding (Area serial) is = absurd (differ (area_of serial is).0)

  -- and else the area
  each_area : HasPlainWords p → value % 16 ≡ 5 → EachHolds p key (Area (value / 8192))
  each_area plain five other among same = by_holding other.holding refl (k.each other among same)
    where
      by_holding : (holding : Holding) → other.holding ≡ holding → is_term_word p holding value ≡ true → other.holding ≡ Area (value / 8192)
      by_holding (Word word) holds is = absurd (plain key value (record { term = other; among = among; key_is = same; holding_is = holds ∙ ap Word (sym (eqb-true value word is)) }) five)
      by_holding (Area serial) holds is = holds ∙ ap Area (sym (area_of serial is).1)

  -- and it is what the key holds
  pub answered : HasPlainWords p → IsHeld p key (found_of value)
  answered plain = by_holding k.term.holding refl k.word_is
    where
      by_holding : (holding : Holding) → k.term.holding ≡ holding → is_term_word p holding value ≡ true → IsHeld p key (found_of value)
      by_holding (Word word) holds is =
          let same : value ≡ word = eqb-true value word is in
          let here : HoldsTerm p key (Word value) = record { term = k.term; among = k.among; key_is = k.key_is; holding_is = holds ∙ ap Word (sym same) } in
          let differ = plain key value here in
          subst (IsHeld p key) (sym (ap (λ t. cond t (founds.Area (record { serial = value / 8192; block = value / 16 % 512 })) (founds.Word value)) (ne_eqb (value % 16) 5 differ))) (here, each_word differ)
      by_holding (Area serial) holds is =
          let area = area_of serial is in
          let held : HoldsTerm p key (Area (value / 8192)) = record { term = k.term; among = k.among; key_is = k.key_is; holding_is = holds ∙ ap Area (sym area.1) } in
          subst (IsHeld p key) (sym (ap (λ t. cond t (founds.Area (record { serial = value / 8192; block = value / 16 % 512 })) (founds.Word value)) (eq-eqb (value % 16) 5 area.0))) (held, each_area plain area.0, area.2)

-- ---- the loop

-- what the member is once so many buckets of other keys are passed
pub record LooksOn (id : TableId) (table key tried : ℕ) (old now : tokens.Member) : Type 0 where
  pub token : IsMemberOf id now
  pub same : IsSameMember old now
  pub root : now.root ≡ old.root
  pub may : MayReadTable table (view_of now)
  pub read : HasRead (view_of old) (view_of now)
  pub passed : (i : ℕ) → i < tried → (value : ℕ) × (value ≢ 0) × (value ≢ key + 1) × IsFound (view_of now) table (place_of key i * 2) value
  pub under : 0 < tried → AreUnder (view_of now).member.generation (held_by_view (view_of now)) (view_of now).blocks

pub looks_none : (id : TableId) (table key : ℕ) (old : tokens.Member) → IsMemberOf id old → MayReadTable table (view_of old) → LooksOn id table key 0 old old
looks_none id table key old token may = record {
  token = token;
  same = record { seat = record { same_table = refl; same_number = refl; same_slots = refl }; number = refl; anchors = refl };
  root = refl;
  may = may;
  read = record { read = []; view = refl };
  passed = λ i low. absurd (omega (arith, low));
  under = λ low. absurd (omega (arith, low));
}

pub same_on : (old now next : tokens.Member) → IsSameMember old now → IsSameMember now next → IsSameMember old next
same_on old now next first last = record {
  seat = record {
    same_table = last.seat.same_table ∙ first.seat.same_table;
    same_number = last.seat.same_number ∙ first.seat.same_number;
    same_slots = last.seat.same_slots ∙ first.seat.same_slots;
  };
  number = last.number ∙ first.number;
  anchors = last.anchors ∙ first.anchors;
}

-- one word more
module _ (table at found : ℕ) (old now next : MemberView) (read : HasRead old now) (one : HasReadWord table at found now next) where
  pub read_more : HasRead old next
  read_more = record {
    read = record { generation = old.member.generation; word = term_place table at; value = found } ∷ read.read;
    view = one.view ∙ ap (with_block_word (term_place table at) found) read.view;
  }

  pub may_more : MayReadTable table now → MayReadTable table next
  may_more may = subst (MayReadTable table) (sym one.view) (record { awake = may.awake; learnt = may.learnt; fits = may.fits; table_is = may.table_is })

  pub found_more : (place value : ℕ) → IsFound now table place value → IsFound next table place value
  found_more place value is = subst (λ (m : MemberView). IsFound m table place value) (sym one.view) (suc is.0, is.1)

  pub found_now : IsFound next table at found
  found_now = subst (λ (m : MemberView). IsFound m table at found) (sym one.view) (0, refl)

  pub under_now : AreUnder next.member.generation (held_by_view next) next.blocks
  under_now = subst (λ (m : MemberView). AreUnder m.member.generation (held_by_view m) m.blocks) (sym one.view) (record { blocks = one.tells.blocks; stands = one.tells.stands; published = one.tells.published; all = one.tells.all })

abbrev Passed : ℕ → ℕ → ℕ → MemberView → Type 0
Passed table key tried m = (i : ℕ) → i < tried → (value : ℕ) × (value ≢ 0) × (value ≢ key + 1) × IsFound m table (place_of key i * 2) value

passed_on : (table key tried at found : ℕ) (now next : MemberView) → HasReadWord table at found now next → Passed table key tried now → Passed table key tried next
passed_on table key tried at found now next one passed i low = let was = passed i low in (was.0, was.1, was.2, found_more table at found now now next (record { read = []; view = refl }) one (place_of key i * 2) was.0 was.3)

-- one bucket of another key
pub looks_more : (id : TableId) (table key tried held : ℕ) (old now next : tokens.Member) → LooksOn id table key tried old now → IsMemberOf id next → IsSameMember now next → next.root ≡ now.root → HasReadWord table (place_of key tried * 2) held (view_of now) (view_of next) → held ≢ 0 → held ≢ key + 1 → LooksOn id table key (tried + 1) old next
looks_more id table key tried held old now next h token same root one full other = record {
  token = token;
  same = same_on old now next h.same same;
  root = root ∙ h.root;
  may = may_more table (place_of key tried * 2) held (view_of old) (view_of now) (view_of next) h.read one h.may;
  read = read_more table (place_of key tried * 2) held (view_of old) (view_of now) (view_of next) h.read one;
  passed = passed;
  under = λ _. under_now table (place_of key tried * 2) held (view_of old) (view_of now) (view_of next) h.read one;
}
  where
    passed : Passed table key (tried + 1) (view_of next)
    passed i low =
        elim (cases_eq i tried) as (λ _. (value : ℕ) × (value ≢ 0) × (value ≢ key + 1) × IsFound (view_of next) table (place_of key i * 2) value) [
          | inl equal ↦ (held, full, other, subst (λ (n : ℕ). IsFound (view_of next) table (place_of key n * 2) held) (sym equal) (found_now table (place_of key tried * 2) held (view_of old) (view_of now) (view_of next) h.read one))
          | inr differ ↦ passed_on table key tried (place_of key tried * 2) held (view_of now) (view_of next) one h.passed i (omega (arith, low, differ))
        ]

module _ (id : TableId) (table key tried : ℕ) (old now : tokens.Member) (h : LooksOn id table key tried old now) where
  abbrev held_first : Published
  held_first = held_by_view (view_of old)

  -- all buckets have other keys
  pub ends_all : tried ≡ 512 → Lacks held_first key
  ends_all all =
      subst (λ (p : Published). Lacks p key) (ap held_by_view h.read.view)
      (lacks_all (view_of now) table h.may (h.under (omega (arith, all))) key (λ i low. h.passed i (omega (arith, low, all))))

  module _ (held : ℕ) (mid : tokens.Member) (one : HasReadWord table (place_of key tried * 2) held (view_of now) (view_of mid)) (few : tried < 512) where
    pub may_mid : MayReadTable table (view_of mid)
    may_mid = may_more table (place_of key tried * 2) held (view_of old) (view_of now) (view_of mid) h.read one h.may

    pub read_mid : HasRead (view_of old) (view_of mid)
    read_mid = read_more table (place_of key tried * 2) held (view_of old) (view_of now) (view_of mid) h.read one

    found_mid : IsFound (view_of mid) table (place_of key tried * 2) held
    found_mid = found_now table (place_of key tried * 2) held (view_of old) (view_of now) (view_of mid) h.read one

    passed_mid : Passed table key tried (view_of mid)
    passed_mid = passed_on table key tried (place_of key tried * 2) held (view_of now) (view_of mid) one h.passed

    -- the bucket is empty
    pub ends_empty : held ≡ 0 → Lacks held_first key
    ends_empty none =
        subst (λ (p : Published). Lacks p key) (ap held_by_view read_mid.view)
        (lacks_empty (view_of mid) table may_mid (under_now table (place_of key tried * 2) held (view_of old) (view_of now) (view_of mid) h.read one) key tried few passed_mid
        (subst (IsFound (view_of mid) table (place_of key tried * 2)) none found_mid))

    -- the bucket has the key
    module _ (value : ℕ) (next : tokens.Member) (two : HasReadWord table (place_of key tried * 2 + 1) value (view_of mid) (view_of next)) where
      pub read_next : HasRead (view_of old) (view_of next)
      read_next = read_more table (place_of key tried * 2 + 1) value (view_of old) (view_of mid) (view_of next) read_mid two

      pub ends_found : held ≡ key + 1 → IsKeyOf held_first key value
      ends_found own =
          subst (λ (p : Published). IsKeyOf p key value) (ap held_by_view read_next.view)
          (finds_key (view_of next) table (may_more table (place_of key tried * 2 + 1) value (view_of old) (view_of mid) (view_of next) read_mid two may_mid)
          (under_now table (place_of key tried * 2 + 1) value (view_of old) (view_of mid) (view_of next) read_mid two) key tried value few
          (passed_on table key tried (place_of key tried * 2 + 1) value (view_of mid) (view_of next) two passed_mid)
          (found_more table (place_of key tried * 2 + 1) value (view_of old) (view_of mid) (view_of next) read_mid two (place_of key tried * 2) (key + 1) (subst (IsFound (view_of mid) table (place_of key tried * 2)) own found_mid))
          (found_now table (place_of key tried * 2 + 1) value (view_of old) (view_of mid) (view_of next) read_mid two))
