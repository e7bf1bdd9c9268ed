-- What a look adds to what an observer saw.
use Rattle.std.proofs.Common.{◌≡◌, ℕ, ◌+◌, ◌-◌, ◌<◌, ◌≤◌, Bool, cond, List, [], ◌∷◌, ◌++◌, length, length-append, Option, Some, None, refl, sym, ap, subst, ◌∙◌, arith}
use Rattle.std.specs.Prelude.{unwrap_or}
use Rattle.std.specs.List.{AllByRecursion}
use Rattle.atomic_table.specs.Seated.{TableId}
use Rattle.term_core.specs.declared.atom.Mfa.{Mfa}
use Rattle.term_core.proofs.Places.{slice_get-append}
use Rattle.area_core.specs.declared.table.Published.{Published}
use Rattle.area_core.specs.Readers.{held_by_watcher}
use Rattle.area_core.specs.Step.{opening_published}
use Rattle.shared_words.specs.declared.seats.Watcher as watching
use Rattle.shared_words.specs.declared.view.View.{View}
use Rattle.shared_words.specs.declared.view.View.TheVariants as views
use Rattle.shared_words.specs.declared.view.WatcherView.{WatcherView}
use Rattle.shared_words.specs.Making.{IsWatcherBegun}
use Rattle.shared_words.specs.Rule.{HasItsAreas, IsBeginning}
use Rattle.shared_words.specs.Seats.{HoldsRoot, counts_held, generation_held, watcher_of}
use Rattle.shared_words.specs.Views.{newest_number, published_at}
use Rattle.progress_words.specs.Delays.{HasDelayed, IsIdle, IsSameWatcher}
use Rattle.progress_words.specs.Tokens.{IsWatcherOf, watched_by}
use Rattle.machine_core.specs.GenerationReads.{reads_in}
use Rattle.run_log.specs.declared.logs.Snapshot.{Snapshot}
use Rattle.run_log.specs.Legal.{AreRising}
use Rattle.code_law.specs.Served.{IsServed}
use Rattle.run_law.specs.Observing.{HaveSeen, IsSeenOf, exports_read}
use Rattle.run_law.specs.Reading.{reads_under}
use Rattle.observers.specs.declared.observer.Observer.{Observer}
use Rattle.observers.specs.Observing.{HasLooked, HasSeen, Observes, TakesOne}
use Rattle.observers.specs.Watching.{HoldsServed, IsReading, held_by_watching}

-- ---- one snapshot

-- a watcher that delays reads the generation of the root that it has loaded
module _ (names : List Mfa) (old : WatcherView) (root g : ℕ) (mid : WatcherView) (d : HasDelayed (IsServed names) old mid g) (rooted : HoldsRoot root mid) where
  pub reading_delayed : IsReading root mid
  reading_delayed = record { delaying = d.delaying; rooted = rooted }

  pub generation_is : generation_held mid ≡ g
  generation_is =
      let held : held_by_watcher mid.watcher ≡ Some (generation_held mid) = ap (λ (b : Bool). cond b mid.watcher.generation None) d.delaying.claimed ∙ rooted.holds in
      ap (λ (o : Option ℕ). unwrap_or o 0) (sym held ∙ d.holds)

  pub served_delayed : HoldsServed names mid
  served_delayed = record {
    served = subst (λ (n : ℕ). IsServed names (published_at mid.seen n)) (sym generation_is) d.served;
    areas = subst (λ (n : ℕ). HasItsAreas (published_at mid.seen n)) (sym generation_is) d.areas;
  }

  -- what was read under it is a snapshot
  pub has_seen : (functions : List Mfa) (last new : WatcherView) (shot : Snapshot) → last.seen ≡ mid.seen → IsSameWatcher last new → shot.generation ≡ g → shot.exports ≡ exports_read (reads_in names (held_by_watching mid).state) functions → HasSeen names functions old new shot
  has_seen functions last new shot kept same numbered exports =
      let seen : new.seen ≡ mid.seen = same.seen ∙ kept in
      record {
        newest = numbered ∙ d.newest ∙ ap newest_number (sym seen);
        learnt = subst (IsBeginning old.seen) (sym seen) d.learnt;
        seen = record {
          learnt = within shot.generation (length mid.seen) (length new.seen) (numbered ∙ d.newest) d.some (ap (λ (xs : List Published). length xs) seen);
          exports = exports
              ∙ ap (λ (n : ℕ). exports_read (reads_in names (published_at mid.seen n).state) functions) (generation_is ∙ sym numbered)
              ∙ ap (λ (xs : List Published). exports_read (reads_under names xs shot.generation) functions) (sym seen);
        };
        served = subst (λ (z : List Published × ℕ). IsServed names (published_at z.0 z.1)) (λ i. (sym seen i, sym numbered i)) d.served;
      }
    where
      within : (n many last : ℕ) → n ≡ many - 1 → 0 < many → last ≡ many → n < last
      within n many last is some same = omega (arith, is, some, same)

-- ---- and one more

-- of more generations that are learnt of, the first ones are the same
beginning_at : (seen more : List Published) (g : ℕ) → g < length seen → IsBeginning seen more → published_at more g ≡ published_at seen g
beginning_at seen more g within (rest, is) =
    ap (λ (xs : List Published). published_at xs g) is ∙ ap (λ (o : Option Published). unwrap_or o opening_published) (slice_get-append seen rest g within)

longer : (seen more : List Published) → IsBeginning seen more → length seen ≤ length more
longer seen more (rest, is) = let e = ap (λ (xs : List Published). length xs) is ∙ length-append seen rest in omega (arith, e)

module _ (names functions : List Mfa) (seen more : List Published) (home : IsBeginning seen more) where
  still_seen : (shot : Snapshot) → IsSeenOf names functions seen shot → IsSeenOf names functions more shot
  still_seen shot h = record {
    learnt = (let low = h.learnt in let long = longer seen more home in omega (arith, low, long));
    exports = h.exports ∙ ap (λ (p : Published). exports_read (reads_in names p.state) functions) (sym (beginning_at seen more shot.generation h.learnt home));
  }

  module _ (shot : Snapshot) (last : shot.generation ≡ newest_number more) (is : IsSeenOf names functions more shot) where
    all_seen : (shots : List Snapshot) → AllByRecursion (IsSeenOf names functions seen) shots → AllByRecursion (IsSeenOf names functions more) (shots ++ shot ∷ [])
    all_seen [] each = (is, tt)
    all_seen (x ∷ shots) each = (still_seen x each.0, all_seen shots each.1)

    not_older : (x : Snapshot) → IsSeenOf names functions seen x → x.generation ≤ shot.generation
    not_older x h = let low = h.learnt in let long = longer seen more home in let is_last : shot.generation ≡ length more - 1 = last in omega (arith, low, long, is_last)

    all_rising : (shots : List Snapshot) → AllByRecursion (IsSeenOf names functions seen) shots → AreRising shots → AreRising (shots ++ shot ∷ [])
    all_rising [] each rising = tt
    all_rising (x ∷ []) each rising = (not_older x each.0, tt)
    all_rising (x ∷ y ∷ shots) each rising = (rising.0, all_rising (y ∷ shots) each.1 rising.1)

    pub more_seen : (shots : List Snapshot) → HaveSeen names functions seen shots → HaveSeen names functions more (shots ++ shot ∷ [])
    more_seen shots h = record { each = all_seen shots h.each; rising = all_rising shots h.each h.rising }

-- ---- an observer

-- an observer has taken a snapshot
module _ (names functions : List Mfa) (table : TableId) (old new : Observer) (shot : Snapshot) (h : Observes names functions table old) (s : HasSeen names functions (watched_by old.watcher) (watched_by new.watcher) shot) (shots : new.shots ≡ old.shots ++ shot ∷ []) where
  pub observes_more : IsWatcherOf table new.watcher → IsIdle (watched_by new.watcher) → Observes names functions table new
  observes_more token idle = record {
    token = token;
    idle = idle;
    saw = subst (HaveSeen names functions (watched_by new.watcher).seen) (sym shots)
        (more_seen names functions (watched_by old.watcher).seen (watched_by new.watcher).seen s.learnt shot s.newest s.seen old.shots h.saw);
  }

  pub takes_one : old.left ≡ new.left + 1 → TakesOne names old new
  takes_one left = record { shot = shot; newest = s.newest; served = s.served; learnt = s.learnt; shots = shots; left = left }

-- with a token as it begins
pub observer_begins : (names functions : List Mfa) (table : TableId) (number left : ℕ) (token : watching.Watcher) → IsWatcherBegun table number token → Observes names functions table (record { watcher = token; left = left; shots = [] })
observer_begins names functions table number left token begun = record {
  token = record {
    of_table = begun.of_table;
    view = begun.view ∙ sym (ap (λ (v : View). views.Watcher (watcher_of v)) begun.view);
    counted = begun.holds_is ∙ sym (ap (λ (v : View). counts_held (watcher_of v)) begun.view);
  };
  idle = ap (λ (v : View). (watcher_of v).watcher.phase) begun.view;
  saw = record { each = tt; rising = tt };
}

-- ---- looks

-- where no snapshot is lacking, none is taken
pub nothing_lacking : (names : List Mfa) (o : Observer) → o.left ≡ 0 → HasLooked names o o
nothing_lacking names o none = (λ some. absurd (omega (arith, none, some)), λ is. (is, refl))

-- and where one is, one is taken
pub looked_one : (names : List Mfa) (old new : Observer) → TakesOne names old new → HasLooked names old new
looked_one names old new taken = (λ some. taken, λ none. absurd (let left = taken.left in omega (arith, none, left)))

-- so many looks were made, each with its snapshot
pub record HaveLooked (first : Observer) (looks : ℕ) (o : Observer) : Type 0 where
  pub left : o.left + looks ≡ first.left
  pub shots : length o.shots ≡ length first.shots + looks

pub not_looked : (o : Observer) → HaveLooked o 0 o
not_looked o = record { left = omega (arith); shots = omega (arith) }

pub looked_more : (names : List Mfa) (first old new : Observer) (looks : ℕ) → looks < first.left → HaveLooked first looks old → HasLooked names old new → HaveLooked first (looks + 1) new
looked_more names first old new looks more h (some, none) =
    let left = h.left in
    let taken = some (omega (arith, left, more)) in
    let less = taken.left in
    let shots = h.shots in
    let longer_by = ap (λ (xs : List Snapshot). length xs) taken.shots ∙ length-append old.shots (taken.shot ∷ []) in
    record { left = omega (arith, left, less); shots = one_more (length new.shots) (length old.shots) (length first.shots) looks longer_by shots }
  where
    one_more : (a b c k : ℕ) → a ≡ b + 1 → b ≡ c + k → a ≡ c + (k + 1)
    one_more a b c k longer shots = omega (arith, longer, shots)

-- all of them
pub looked_all : (first o : Observer) (looks : ℕ) → first.left ≤ looks → HaveLooked first looks o → (o.left + length o.shots ≡ first.left + length first.shots) × (o.left ≡ 0)
looked_all first o looks all h = let left = h.left in let shots = h.shots in (omega (arith, all, left, shots), omega (arith, all, left))
