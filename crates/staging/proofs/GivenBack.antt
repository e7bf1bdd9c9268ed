-- The last area that was taken is given back: the pools are as they were before it.
use Rattle.std.proofs.Common.{◌≡◌, ℕ, zero, suc, ◌+◌, ◌-◌, ◌<◌, inl, inr, List, [], ◌∷◌, ◌++◌, length, length-append, refl, sym, ap, subst, ◌∙◌, arith}
use Rattle.std.specs.Prelude.{Some, slice_get, slice_set}
use Rattle.std.proofs.lemmas.Bool.{cases_lt, lt-ltb, le-ltb}
use Rattle.prgr_core.proofs.Parts.{some_same}
use Rattle.term_core.specs.declared.area.AreaRef.{AreaRef}
use Rattle.term_core.specs.declared.atom.Mfa.{Mfa}
use Rattle.atomic_table.specs.Seated.{TableId}
use Rattle.shared_words.specs.declared.opening.Opening.{Opening}
use Rattle.shared_words.specs.declared.view.WriterView.{WriterView}
use Rattle.progress_words.specs.Tokens.{written_by}
use Rattle.server_core.specs.declared.change.Change.{Change}
use Rattle.server_core.specs.ServerState.{ServerState}
use Rattle.literal_areas.specs.declared.areas.Areas.{Areas}
use Rattle.literal_areas.specs.declared.blocks.BlockUse.{BlockUse}
use Rattle.literal_areas.specs.declared.blocks.BlockUse.TheVariants.{Free, Live}
use Rattle.literal_areas.specs.Blocks.{IsLast, use_of, with_area, without_last}
use Rattle.literal_areas.specs.Owned.{AreOf, IsUnpublished}
use Rattle.literal_areas.proofs.Uses.{use_big, use_here, use_small, use_there}
use Rattle.staging.specs.declared.tables.Tables.{Tables}
use Rattle.change_laws.specs.Changes.{incoming}
use Rattle.staging.specs.Placed.{AreTaken, IsAreaOf, with_areas}
use Rattle.staging.specs.Stages.{HavePlaced}
use Rattle.staging.specs.Standing.{StandFor}
use Rattle.staging.proofs.PlaceLoops.{GivesBack}
use Rattle.staging.proofs.Taken.{with_one_more}

-- ---- one block

set_back : (xs : List BlockUse) (k : ℕ) (x y : BlockUse) → slice_get xs k ≡ Some y → slice_set (slice_set xs k x) k y ≡ xs
set_back [] k x y e = absurd (cc)
set_back (z ∷ xs) zero x y e = ap (λ (w : BlockUse). w ∷ xs) (sym (some_same z y e))
set_back (z ∷ xs) (suc k) x y e = ap (λ (ws : List BlockUse). z ∷ ws) (set_back xs k x y e)

-- what is taken and given back leaves the pools as they were
pub given_back : (s : Areas) (area : AreaRef) → area.serial ≡ s.next → use_of s area.block ≡ Some Free → without_last area (with_area area s) ≡ s
given_back s area serial free =
    elim (cases_lt area.block 64) as (λ _. without_last area (with_area area s) ≡ s) [
      | inl low ↦
          let back = set_back s.big (area.block - 9) (Live area.serial) Free (sym (use_big s area.block (use_there s area.block Free free) low) ∙ free) in
          rw (lt-ltb area.block 64 low) (λ i. record { next = serial i; big = back i; small = s.small })
      | inr high ↦
          let back = set_back s.small (area.block - 64) (Live area.serial) Free (sym (use_small s area.block high) ∙ free) in
          rw (le-ltb area.block 64 high) (λ i. record { next = serial i; big = s.big; small = back i })
    ]

-- ---- the last of those that were taken

pub record IsLastTaken (taken : List AreaRef) (area : AreaRef) (s : Areas) : Type 0 where
  pub before : AreTaken taken s
  pub serial : area.serial ≡ (with_areas taken s).next
  pub free : use_of (with_areas taken s) area.block ≡ Some Free

pub last_taken : (taken : List AreaRef) (area : AreaRef) (s : Areas) → AreTaken (taken ++ area ∷ []) s → IsLastTaken taken area s
last_taken [] area s were = record { before = tt; serial = were.0; free = were.1 }
last_taken (a ∷ taken) area s were = let last = last_taken taken area (with_area a s) were.2 in record { before = (were.0, were.1, last.before); serial = last.serial; free = last.free }

at_last : (taken : List AreaRef) (area : AreaRef) → slice_get (taken ++ area ∷ []) (length taken) ≡ Some area
at_last [] area = refl
at_last (a ∷ taken) area = at_last taken area

at_before : (taken : List AreaRef) (area a : AreaRef) (place : ℕ) → slice_get taken place ≡ Some a → slice_get (taken ++ area ∷ []) place ≡ Some a
at_before [] area a place e = absurd (cc)
at_before (b ∷ taken) area a zero e = e
at_before (b ∷ taken) area a (suc place) e = at_before taken area a place e

module _ (names : List Mfa) (s : ServerState) (change : Change) (old : Tables) (taken : List AreaRef) (area : AreaRef) (had : HavePlaced names s change old (taken ++ area ∷ [])) where
  last : IsLastTaken taken area had.rest
  last = last_taken taken area had.rest had.placed.taken_are

  pools_are : old.pools ≡ with_area area (with_areas taken had.rest)
  pools_are = had.placed.pools_are ∙ with_one_more taken area had.rest

  -- it may be given back
  pub is_last : IsLast old.pools area
  is_last = record {
    live = ap (λ (pools : Areas). use_of pools area.block) pools_are ∙ use_here (with_areas taken had.rest) area.block Free (Live area.serial) last.free;
    last = (let is = ap (λ (pools : Areas). pools.next) pools_are in let serial = last.serial in omega (arith, is, serial));
  }

  -- and those before it stay
  pub placed_less : (new : Tables) → new.pools ≡ without_last area old.pools → written_by new.writer ≡ written_by old.writer → new.terms ≡ old.terms → new.patch ≡ old.patch → HavePlaced names s change new taken
  placed_less new given view terms patch = record {
    rest = had.rest;
    stands = subst (StandFor names s had.rest) (sym view) had.stands;
    placed = record {
      few = (let few = had.placed.few in let long = length-append taken (area ∷ []) in omega (arith, few, long));
      taken_are = last.before;
      pools_are = given ∙ ap (without_last area) pools_are ∙ given_back (with_areas taken had.rest) area last.serial last.free;
      each = λ place i a comes at. subst (λ w. IsAreaOf w i a) (sym view) (had.placed.each place i a comes (at_before taken area a place at));
    };
    terms = ap (λ t. t.staged) terms ∙ had.terms;
    patch = patch ∙ had.patch;
  }

-- ---- one more is given back

pub get_at : {X : Type 0} (xs : List X) (k : ℕ) → k < length xs → (x : X) × (slice_get xs k ≡ Some x)
get_at [] k few = absurd (omega (arith, few))
get_at (x ∷ xs) zero few = (x, refl)
get_at (x ∷ xs) (suc k) few = get_at xs k (omega (arith, few))

module _ (names : List Mfa) (s : ServerState) (change : Change) (t : Tables) (next : List AreaRef) (area : AreaRef) (had : HavePlaced names s change t (next ++ area ∷ [])) where
  unpublished : IsUnpublished (written_by t.writer) area
  unpublished =
      let few = had.placed.few in
      let long = length-append next (area ∷ []) in
      let comes = get_at (incoming change) (length next) (omega (arith, few, long)) in
      (had.placed.each (length next) comes.0 area comes.1 (at_last next area)).unpublished

  pub gives_more : (table : TableId) (opening : Opening) (back : ℕ) (first : Tables) (taken left : List AreaRef) (pools : Areas) → GivesBack table opening names s change back first t taken left → left ≡ next ++ area ∷ [] → pools ≡ without_last area t.pools → ((w : WriterView) → AreOf t.pools w → IsUnpublished w area → AreOf pools w)
      → GivesBack table opening names s change (back + 1) first (record t { pools = pools }) taken next
  gives_more table opening back first taken left pools was left_is given owned = record {
    tables = record { token = was.tables.token; index = was.tables.index; terms = was.tables.terms; pools = owned (written_by t.writer) was.tables.pools unpublished; patch = was.tables.patch };
    placed = placed_less names s change t next area had (record t { pools = pools }) given refl refl refl;
    count = (let count = was.count in let long = length-append next (area ∷ []) in let same = ap length left_is in omega (arith, count, long, same));
    exports = was.exports;
    index = was.index;
    terms = was.terms;
    view = was.view;
  }
