-- The pools stay those of the writer over what it publishes, over a load of the counter, over looks, and over a note.
use Rattle.std.proofs.Common.{◌≡◌, ℕ, zero, suc, ◌<◌, ◌≤◌, inl, inr, ⊎_elim, Bool, true, false, cond, List, [], ◌∷◌, ◌++◌, length, sym, ap, subst, ◌∙◌, arith}
use Rattle.std.specs.Prelude.{Option, Some, None, slice_get, IsTrue}
use Rattle.std.specs.List.{flat_map}
use Rattle.std.specs.Option.{option_map, option_to_list}
use Rattle.std.proofs.lemmas.Bool.{cases_Bool}
use Rattle.prgr_core.proofs.Parts.{some_same, slice_get-push_at}
use Rattle.term_core.specs.declared.area.AreaRef.{AreaRef}
use Rattle.term_core.specs.declared.generation.AreaWords.{AreaWords}
use Rattle.area_core.specs.declared.table.Published.{Published}
use Rattle.area_core.specs.declared.table.KeptArea.{KeptArea}
use Rattle.area_core.specs.Generations.{is_kept, is_reached, is_retired_area, is_used}
use Rattle.area_core.specs.Blocks.{Among}
use Rattle.area_core.specs.Roots.{serial_image, fresh_in, fresh_areas}
use Rattle.area_core.proofs.RootTests.{in_either}
use Rattle.marks.specs.declared.kept.WriterKept.{WriterKept}
use Rattle.shared_words.specs.declared.view.NamedAnchor.{NamedAnchor}
use Rattle.shared_words.specs.declared.view.WriterView.{WriterView}
use Rattle.shared_words.specs.Kinds.{counter_kept}
use Rattle.shared_words.specs.Notes.{with_note}
use Rattle.shared_words.specs.Rule.{MayBeRead}
use Rattle.shared_words.specs.Publishing.{kept_next, with_next}
use Rattle.shared_words.proofs.ShownMembers.{still_at}
use Rattle.progress_words.specs.Needs.{HasLoadedCounter}
use Rattle.literal_areas.specs.declared.blocks.BlockUse.TheVariants.{Live, Retired}
use Rattle.literal_areas.specs.declared.areas.Areas.{Areas}
use Rattle.literal_areas.specs.Blocks.{use_of, Stands}
use Rattle.literal_areas.specs.Owned.{AreOf, IsPast, HasRetired, IsListed}
use Rattle.literal_areas.proofs.Serials.{serial_here}

-- ---- the areas that are kept from now on

no_element : {X : Type 0} (k : ℕ) {x : X} → slice_get {X = X} [] k ≡ Some x → ⊥
no_element k e = (cc)

one_fresh : (b : Bool) (o : Option (List ℕ)) (a : AreaRef) (i : ℕ) (k : KeptArea) → slice_get (option_to_list (cond b None (option_map (λ words. record { area = a; words = words }) o))) i ≡ Some k → k.area ≡ a
one_fresh true o a i k at = absurd (no_element i at)
one_fresh false None a i k at = absurd (no_element i at)
one_fresh false (Some words) a zero k at = ap (λ (x : KeptArea). x.area) (sym (some_same (record { area = a; words = words }) k at))
one_fresh false (Some words) a (suc i) k at = absurd (no_element i at)

-- each is one of those that are published
fresh_listed : (kept : List KeptArea) (images : List AreaWords) (areas : List AreaRef) (i : ℕ) (k : KeptArea) → slice_get (flat_map (fresh_in kept images) areas) i ≡ Some k → Among areas k.area
fresh_listed kept images [] i k at = absurd (no_element i at)
fresh_listed kept images (a ∷ areas) i k at =
    elim (in_either (fresh_in kept images a) (flat_map (fresh_in kept images) areas) i k at) as (λ _. Among (a ∷ areas) k.area) [
      | inl here ↦ (0, ap Some (sym (one_fresh (is_kept kept a.serial) (serial_image images a.serial) a i k here)))
      | inr behind ↦ (let found = fresh_listed kept images areas behind.0 k behind.2 in (suc found.0, found.1))
    ]

-- ---- what is published

module _ (s : Areas) (w : WriterView) (own : AreOf s w) (p : Published) (listed : IsListed s p) where
  live_retired : (m n g : ℕ) → Some (Live m) ≡ Some (Retired n g) → ⊥
  live_retired m n g e = (cc)

  kept_stands : (k : KeptArea) → Among (kept_next w p) k → Stands s k.area
  kept_stands k among =
      elim (in_either w.kept (fresh_areas w.kept p) among.0 k among.1) as (λ _. Stands s k.area) [
        | inl was ↦ own.kept k (among.0, was)
        | inr new ↦ listed.stand k.area (fresh_listed w.kept p.state.areas p.areas new.0 k new.2)
      ]

  -- something holds of each generation
  each_of : (Holds : ℕ → Published → Type 0) → Holds (length w.published) p → ((g : ℕ) (q : Published) → slice_get w.published g ≡ Some q → Holds g q) → (g : ℕ) (q : Published) → slice_get (w.published ++ p ∷ []) g ≡ Some q → Holds g q
  each_of Holds new old g q at =
      ⊎_elim (λ (before : slice_get w.published g ≡ Some q). old g q before)
      (λ (last : (g ≡ length w.published) × (q ≡ p)). subst (λ (z : ℕ × Published). Holds z.0 z.1) (λ i. (sym last.0 i, sym last.1 i)) new)
      (slice_get-push_at w.published p g q at)

  has_retired : (block n first : ℕ) → use_of s block ≡ Some (Retired n first) → HasRetired p n
  has_retired block n first is = record {
    retired = listed.retired block n first is;
    unused = elim (cases_Bool (is_used p n)) as (λ _. is_used p n ≡ false) [
      | inl used ↦ (
          let live = listed.used n used in
          let same = own.sound.apart live.0 block n (serial_here s live.0 (Live n) live.1) (serial_here s block (Retired n first) is) in
          absurd (live_retired n n first (sym live.1 ∙ ap (use_of s) same ∙ is)))
      | inr not ↦ not
    ];
  }

  pub owned_next : AreOf s (with_next p w)
  owned_next = record {
    sound = own.sound;
    all = own.all;
    kept = kept_stands;
    reached = λ g q counts here. each_of (λ g q. MayBeRead w g → (area : AreaRef) → Among q.areas area → IsTrue (is_reached q area.serial) → Stands s area)
        (λ counts area among reaches. listed.stand area among) (λ g q at counts. own.reached g q counts at) g q here counts;
    taken = λ q area published among. each_of (λ g q. Among q.areas area → area.serial < s.next) (λ among. own.sound.below area.block area.serial (listed.stand area among)) (λ g q at among. own.taken q area (g, at) among) published.0 q published.1 among;
    past = λ q n published is. each_of (λ g q. IsTrue (is_retired_area q n) → IsPast s n) (λ is. listed.past n is) (λ g q at is. own.past q n (g, at) is) published.0 q published.1 is;
    since = λ block n first g q is le here. each_of (λ g q. first ≤ g → HasRetired q n) (λ le. has_retired block n first is) (λ g q at le. own.since block n first g q is le at) g q here le;
  }

-- ---- a load of the counter

-- a counter that did not fall lets the writer know of no fewer generations that they have passed
fewer_read : (w : WriterView) (counter : ℕ) → w.counter ≤ counter → (g : ℕ) → MayBeRead (counter_kept counter w) g → MayBeRead w g
fewer_read w counter rises g may pair among need =
    may pair (among.0, still_at w.pairs _ among.0 pair among.1) (omega (arith, rises, need))

pub kept_counted : (s : Areas) (w : WriterView) (counter : ℕ) → w.counter ≤ counter → AreOf s w → AreOf s (counter_kept counter w)
kept_counted s w counter rises own = record {
  sound = own.sound;
  all = own.all;
  kept = own.kept;
  reached = λ g p counts. own.reached g p (fewer_read w counter rises g counts);
  taken = own.taken;
  past = own.past;
  since = own.since;
}

pub owned_counted : (s : Areas) (old new : WriterView) → HasLoadedCounter old new → AreOf s old → AreOf s new
owned_counted s old new loaded own = subst (AreOf s) (sym loaded.view) (kept_counted s old loaded.counter loaded.rising own)

-- ---- a look

kept_looked : (s : Areas) (w : WriterView) (looks : WriterKept) (named : List NamedAnchor) → AreOf s w → AreOf s (record w { looks = looks; named = named })
kept_looked s w looks named own = record {
  sound = own.sound;
  all = own.all;
  kept = own.kept;
  reached = own.reached;
  taken = own.taken;
  past = own.past;
  since = own.since;
}

pub owned_looked : (s : Areas) (old new : WriterView) → new ≡ record old { looks = new.looks; named = new.named } → AreOf s old → AreOf s new
owned_looked s old new same own = subst (AreOf s) (sym same) (kept_looked s old new.looks new.named own)

-- ---- a note

pub owned_noted : (s : Areas) (w : WriterView) (process : ℕ) → AreOf s w → AreOf s (with_note process w)
owned_noted s w process own = record {
  sound = own.sound;
  all = own.all;
  kept = own.kept;
  reached = own.reached;
  taken = own.taken;
  past = own.past;
  since = own.since;
}
