-- The pools stay those of their writer: at first, over an area that is taken or given back, and over what is published.
use Rattle.std.proofs.Common.{◌≡◌, ◌≢◌, ℕ, ◌+◌, ◌<◌, inl, inr, sym, ap, subst, ◌∙◌, arith}
use Rattle.std.specs.Prelude.{Some}
use Rattle.std.proofs.lemmas.Bool.{cases_eq}
use Rattle.std.proofs.lemmas.Option.{none-some}
use Rattle.prgr_core.proofs.Parts.{some_same}
use Rattle.term_core.specs.declared.area.AreaRef.{AreaRef}
use Rattle.shared_words.specs.declared.view.WriterView.{WriterView}
use Rattle.literal_areas.specs.declared.blocks.Pool.{Pool}
use Rattle.literal_areas.specs.declared.blocks.BlockUse.TheVariants.{Free, Live, Retired}
use Rattle.literal_areas.specs.declared.areas.Areas.{Areas}
use Rattle.literal_areas.specs.declared.taking.Take.{Take}
use Rattle.literal_areas.specs.declared.taking.Take.TheVariants.{Area, AllLive, AwaitRelease}
use Rattle.literal_areas.specs.Blocks.{use_of, serial_at, IsLast, HasTaken, HasAnswered, with_area, without_last}
use Rattle.literal_areas.specs.Owned.{AreOf, IsPast, HasRetired, IsUnpublished}
use Rattle.literal_areas.proofs.Serials.{serial_here, serial_other, use_after, sound_taken, sound_given}

free_live : (n : ℕ) → Live n ≡ Free → ⊥
free_live n e = (cc)

free_retired : (n g : ℕ) → Retired n g ≡ Free → ⊥
free_retired n g e = (cc)

live_retired : (m n g : ℕ) → Retired n g ≡ Live m → ⊥
live_retired m n g e = (cc)

same_live : (m n : ℕ) → Live m ≡ Live n → m ≡ n
same_live m n e = (cc)

-- ---- an area is taken

module _ (s : Areas) (w : WriterView) (own : AreOf s w) (block : ℕ) (free : use_of s block ≡ Some Free) where
  abbrev taken : Areas
  taken = with_area (record { serial = s.next; block = block }) s

  -- the block was no area's
  unused : (b n : ℕ) → serial_at s b ≡ Some n → b ≡ block → ⊥
  unused b n at same = none-some n (sym (serial_here s block Free free) ∙ ap (serial_at s) (sym same) ∙ at)

  still : (b n : ℕ) → serial_at s b ≡ Some n → serial_at taken b ≡ Some n
  still b n at = serial_other (record s { next = s.next + 1 }) block b Free (Live s.next) free (unused b n at) ∙ at

  -- what is past stays so: the new area has a new serial
  past_still : (n : ℕ) → IsPast s n → IsPast taken n
  past_still n is = let below = is.below in record {
    below = omega (arith, below);
    dead = λ b live. elim (use_after (record s { next = s.next + 1 }) block b Free (Live s.next) (Live n) free live) as (λ _. ⊥) [
      | inl here ↦ (let same = same_live n s.next here.1 in omega (arith, below, same))
      | inr other ↦ is.dead b other.1
    ];
  }

  pub owned_taken : AreOf taken w
  owned_taken = record {
    sound = sound_taken s own.sound block free;
    all = own.all;
    kept = λ k among. still k.area.block k.area.serial (own.kept k among);
    reached = λ g p counts here area among reaches. still area.block area.serial (own.reached g p counts here area among reaches);
    taken = λ p area published among. (let below = own.taken p area published among in omega (arith, below));
    past = λ p n published is. past_still n (own.past p n published is);
    since = λ b n first g p is le here. elim (use_after (record s { next = s.next + 1 }) block b Free (Live s.next) (Retired n first) free is) as (λ _. HasRetired p n) [
      | inl now ↦ absurd (live_retired s.next n first now.1)
      | inr other ↦ own.since b n first g p other.1 le here
    ];
  }

  pub fresh_unpublished : IsUnpublished w (record { serial = s.next; block = block })
  fresh_unpublished = record {
    listed = λ p a published among same. (let below = own.taken p a published among in omega (arith, below, same));
    kept = λ k among same. (let below = own.sound.below k.area.block k.area.serial (own.kept k among) in omega (arith, below, same));
  }

-- the same of what was taken
as_taken : (area : AreaRef) (next : ℕ) → area.serial ≡ next → record { serial = next; block = area.block } ≡ area
as_taken area next same = λ i. record { serial = sym same i; block = area.block }

pub owned_after : (pool : Pool) (old new : Areas) (answer : Take) (w : WriterView) → HasAnswered pool old new answer → AreOf old w → AreOf new w
owned_after pool old new (Area area) w told own =
    let at : with_area (record { serial = old.next; block = area.block }) old ≡ new = ap (λ (a : AreaRef). with_area a old) (as_taken area old.next told.serial) ∙ sym told.after in
    subst (λ (s : Areas). AreOf s w) at (owned_taken old w own area.block told.block.free)
owned_after pool old new AllLive w told own = subst (λ (s : Areas). AreOf s w) (sym told.same) own
owned_after pool old new AwaitRelease w told own = subst (λ (s : Areas). AreOf s w) (sym told.same) own

pub unpublished_after : (pool : Pool) (old new : Areas) (answer : Take) (w : WriterView) (area : AreaRef) → HasAnswered pool old new answer → answer ≡ Area area → AreOf old w → IsUnpublished w area
unpublished_after pool old new answer w area told is own =
    let took : HasTaken pool area old new = subst (HasAnswered pool old new) is told in
    subst (IsUnpublished w) (as_taken area old.next took.serial) (fresh_unpublished old w own area.block took.block.free)

-- ---- an area is given back

module _ (s : Areas) (w : WriterView) (own : AreOf s w) (area : AreaRef) (last : IsLast s area) (new : IsUnpublished w area) where
  abbrev given : Areas
  given = without_last area s

  -- another area's block is another
  off : (b n : ℕ) → serial_at s b ≡ Some n → n ≢ area.serial → b ≡ area.block → ⊥
  off b n at differ same = differ (some_same n area.serial (sym at ∙ ap (serial_at s) same ∙ serial_here s area.block (Live area.serial) last.live))

  left : (b n : ℕ) → serial_at s b ≡ Some n → n ≢ area.serial → serial_at given b ≡ Some n
  left b n at differ = serial_other (record s { next = area.serial }) area.block b (Live area.serial) Free last.live (off b n at differ) ∙ at

  before : (n : ℕ) → n < s.next → n ≢ area.serial → n < area.serial
  before n below differ =
      let next = last.last in
      elim (cases_eq n area.serial) as (λ _. n < area.serial) [
        | inl same ↦ absurd (differ same)
        | inr other ↦ omega (arith, below, next, other)
      ]

  past_left : (n : ℕ) → IsPast s n → IsPast given n
  past_left n is = record {
    below = before n is.below (λ same. is.dead area.block (last.live ∙ ap (λ (x : ℕ). Some (Live x)) (sym same)));
    dead = λ b live. elim (use_after (record s { next = area.serial }) area.block b (Live area.serial) Free (Live n) last.live live) as (λ _. ⊥) [
      | inl here ↦ free_live n here.1
      | inr other ↦ is.dead b other.1
    ];
  }

  pub owned_given : AreOf given w
  owned_given = record {
    sound = sound_given s own.sound area last;
    all = own.all;
    kept = λ k among. left k.area.block k.area.serial (own.kept k among) (new.kept k among);
    reached = λ g p counts here a among reaches. left a.block a.serial (own.reached g p counts here a among reaches) (new.listed p a (g, here) among);
    taken = λ p a published among. before a.serial (own.taken p a published among) (new.listed p a published among);
    past = λ p n published is. past_left n (own.past p n published is);
    since = λ b n first g p is le here. elim (use_after (record s { next = area.serial }) area.block b (Live area.serial) Free (Retired n first) last.live is) as (λ _. HasRetired p n) [
      | inl now ↦ absurd (free_retired n first now.1)
      | inr other ↦ own.since b n first g p other.1 le here
    ];
  }

pub owned_back : (old new : Areas) (area : AreaRef) (w : WriterView) → new ≡ without_last area old → IsLast old area → AreOf old w → IsUnpublished w area → AreOf new w
owned_back old new area w is last own unpublished = subst (λ (s : Areas). AreOf s w) (sym is) (owned_given old w own area last unpublished)
