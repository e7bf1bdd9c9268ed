-- An event of the progress machine that publishes nothing makes no generation readable that was not readable before.
use Rattle.std.proofs.Common.{◌≡◌, ◌⊎◌, inl, inr, ℕ, ◌+◌, Option, Some, None, refl, sym, ap, subst, ◌∙◌, arith, ◌&&◌}
use Rattle.std.proofs.lemmas.Bool.{cases_lt}
use Rattle.std.proofs.lemmas.Option.{cond_some}
use Rattle.std.specs.Prelude.{slice_get, slice_set, if◌then◌else◌}
use Rattle.prgr_core.specs.declared.member.TheConstants.{ENTERING}
use Rattle.prgr_core.specs.declared.member.Loaded.{Loaded}
use Rattle.prgr_core.specs.declared.member.Loaded.TheVariants.{CounterAndRoot}
use Rattle.prgr_core.specs.declared.member.Role.{Role}
use Rattle.prgr_core.specs.declared.member.Role.TheVariants.{Follows, Leads}
use Rattle.prgr_core.specs.declared.member.Scans.{Scans}
use Rattle.prgr_core.specs.declared.member.Member.{Member}
use Rattle.prgr_core.specs.declared.watcher.Watcher.{Watcher}
use Rattle.prgr_core.specs.declared.progress.Progress.{Progress}
use Rattle.prgr_core.specs.declared.event.PrgrEvent.{PrgrEvent}
use Rattle.prgr_core.specs.declared.event.PrgrEvent.TheVariants.{LoadCounter, LoadRoot, Report, Lead, Scan, ScanDelay, Advance, GiveUp, Wait, Enter, Publish, Retire, Release, WatchLoad, WatchAdd, WatchRoot, WatchSub}
use Rattle.prgr_core.specs.Needs.{need_of}
use Rattle.prgr_core.specs.Members.{HasLoadedRoot, is_waiting, counter_loaded, root_loaded, confirmed, leading, following, leading_with, waiting, entering, no_scans}
use Rattle.prgr_core.specs.Watchers.{delay_of, delay_numbered, holds_delay, may_look, may_add, is_claimed, may_leave, counter_watched, delay_added, root_watched, delay_dropped}
use Rattle.prgr_core.specs.Machine.{machine_of, MayRead, IsAmongWatchers, Readable}
use Rattle.prgr_core.specs.Step.{with_member, with_watcher, by_role, after, IsSound, reported, led, scan_of, scan_of_other, delay_scan_of, delay_count, advanced, given_up, progress_released, raised, lowered, with_retirement, with_pair}
use Rattle.prgr_core.proofs.Parts.{and_then_some, unless_some, unless_made, some_same, slice_get-slice_set}
use Rattle.prgr_core.proofs.GraceHolds.{loaded_before_root}
use Rattle.prgr_core.proofs.SoundParts.{is_member}

-- the newest generation stays, and what some thread may read afterwards some thread might read before
pub record ReadsNoMore (s t : Progress) : Type 0 where
  pub generation : t.generation ≡ s.generation
  pub reads : (g : ℕ) → Readable (machine_of t) g → Readable (machine_of s) g

-- what a member may read afterwards is the newest generation, or what it might read before
abbrev MemberReads : ℕ → Member → Member → Type 0
MemberReads newest a b = MayRead b → (b.generation ≡ newest) ⊎ (MayRead a × (b.generation ≡ a.generation))

-- what a watcher holds afterwards is the newest generation, or what it held before
abbrev WatcherReads : ℕ → Watcher → Watcher → Type 0
WatcherReads newest a b = (g : ℕ) → b.generation ≡ Some g → (g ≡ newest) ⊎ (a.generation ≡ Some g)

-- ---- what members may read

counter_reads : (newest counter : ℕ) (a : Member) → MemberReads newest a (counter_loaded counter a)
counter_reads newest counter a may =
    elim may as (λ _. (a.generation ≡ newest) ⊎ (MayRead a × (a.generation ≡ a.generation))) [
      | inl value ↦ inr (inl value, refl)
      | inr enters ↦ absurd enters.1.1
    ]

waiting_reads : (newest : ℕ) (a : Member) → MemberReads newest a (waiting a)
waiting_reads newest a may =
    elim may as (λ _. (a.generation ≡ newest) ⊎ (MayRead a × (a.generation ≡ a.generation))) [
      | inl value ↦ absurd (omega (arith, value))
      | inr enters ↦ absurd enters.1.1
    ]

entering_reads : (newest : ℕ) (a : Member) → MemberReads newest a (entering a)
entering_reads newest a may =
    elim may as (λ _. (a.generation ≡ newest) ⊎ (MayRead a × (a.generation ≡ a.generation))) [
      | inl value ↦ absurd (omega (arith, value))
      | inr enters ↦ absurd enters.1.1
    ]

module _ (s : Progress) (sound : IsSound s) where
  -- who has loaded the root since it loaded the counter might read
  might_read : (k : ℕ) (a : Member) → slice_get s.members k ≡ Some a → (c : ℕ) → HasLoadedRoot a.loaded c → MayRead a
  might_read k a at c root =
      let near = sound.invariant.loads_near a (is_member s sound k a at) c (loaded_before_root a.loaded c root) in
      let range = sound.invariant.counter_in_range in
      elim (cases_lt ENTERING a.word) as (λ _. MayRead a) [
        | inl above ↦ inl (above, omega (arith, near, range))
        | inr low ↦ inr (omega (arith, low), (c, root))
      ]

  -- ---- one member, or one watcher, becomes another

  written_reads : (k : ℕ) (a b : Member) → slice_get s.members k ≡ Some a → MemberReads s.generation a b → MayRead b → Readable (machine_of s) b.generation
  written_reads k a b at reads may =
      elim (reads may) as (λ _. Readable (machine_of s) b.generation) [
        | inl newest ↦ inl newest
        | inr same ↦ inr (inl (a, is_member s sound k a at, same.0, sym same.1))
      ]

  one_reads : (k : ℕ) (a b : Member) → slice_get s.members k ≡ Some a → MemberReads s.generation a b → (x : Member) → slice_get (slice_set s.members k b) x.number ≡ Some x → MayRead x → Readable (machine_of s) x.generation
  one_reads k a b at reads x is may =
      elim (slice_get-slice_set s.members k b x.number x is) as (λ _. Readable (machine_of s) x.generation) [
        | inl here ↦ subst (λ (y : Member). Readable (machine_of s) y.generation) (sym here.1) (written_reads k a b at reads (subst MayRead here.1 may))
        | inr other ↦ inr (inl (x, other.1, may, refl))
      ]

  member_event : (k : ℕ) (a b : Member) (leader : Option ℕ) (counter : ℕ) → slice_get s.members k ≡ Some a → MemberReads s.generation a b → ReadsNoMore s (record (with_member s k b) { leader = leader; counter = counter })
  member_event k a b leader counter at reads = record {
    generation = refl;
    reads = λ g may. elim may as (λ _. Readable (machine_of s) g) [
      | inl newest ↦ inl newest
      | inr others ↦ elim others as (λ _. Readable (machine_of s) g) [
        | inl read ↦ subst (λ (h : ℕ). Readable (machine_of s) h) read.3 (one_reads k a b at reads read.0 read.1 read.2)
        | inr read ↦ inr (inr read)
      ]
    ];
  }

  -- a watcher that holds a generation has a claim
  held_reads : (w g : ℕ) (a : Watcher) → slice_get s.watchers w ≡ Some a → a.generation ≡ Some g → Readable (machine_of s) g
  held_reads w g a at holds_delay = inr (inr (a, (w, at), (sound.invariant.each_watcher a (w, at)).root_claimed g holds_delay, holds_delay))

  watched_reads : (w : ℕ) (a b : Watcher) → slice_get s.watchers w ≡ Some a → WatcherReads s.generation a b → (x : Watcher) → IsAmongWatchers (slice_set s.watchers w b) x → (g : ℕ) → x.generation ≡ Some g → Readable (machine_of s) g
  watched_reads w a b at reads x is g holds_delay =
      elim (slice_get-slice_set s.watchers w b is.0 x is.1) as (λ _. Readable (machine_of s) g) [
        | inl here ↦ elim (reads g (sym (ap (λ (y : Watcher). y.generation) here.1) ∙ holds_delay)) as (λ _. Readable (machine_of s) g) [
          | inl newest ↦ inl newest
          | inr before ↦ held_reads w g a at before
        ]
        | inr other ↦ held_reads is.0 g x other.1 holds_delay
      ]

  watcher_event : (w : ℕ) (a b : Watcher) (even odd : ℕ) → slice_get s.watchers w ≡ Some a → WatcherReads s.generation a b → ReadsNoMore s (record s { watchers = slice_set s.watchers w b; delay_even = even; delay_odd = odd })
  watcher_event w a b even odd at reads = record {
    generation = refl;
    reads = λ g may. elim may as (λ _. Readable (machine_of s) g) [
      | inl newest ↦ inl newest
      | inr others ↦ elim others as (λ _. Readable (machine_of s) g) [
        | inl read ↦ inr (inl read)
        | inr read ↦ watched_reads w a b at reads read.0 read.1 g read.3
      ]
    ];
  }

  -- ---- the events of members

  load_counter : (k : ℕ) (t : Progress) → after s (LoadCounter k) ≡ Some t → ReadsNoMore s t
  load_counter k t e =
      let found = and_then_some _ _ t e in
      let a = found.0 in
      let made = unless_made (is_waiting a.word) (with_member s k (counter_loaded s.counter a)) t found.2 in
      subst (ReadsNoMore s) made.1 (member_event k a (counter_loaded s.counter a) s.leader s.counter found.1 (counter_reads s.generation s.counter a))

  load_root : (k : ℕ) (t : Progress) → after s (LoadRoot k) ≡ Some t → ReadsNoMore s t
  load_root k t e =
      let found = and_then_some _ _ t e in
      let a = found.0 in
      let made = cond_some _ _ t found.2 in
      subst (ReadsNoMore s) made.1 (member_event k a (root_loaded s.generation a) s.leader s.counter found.1 (λ may. inl refl))

  reported_by : (k : ℕ) (a : Member) → slice_get s.members k ≡ Some a → (loaded : Loaded) → a.loaded ≡ loaded → (t : Progress) → reported s k a loaded ≡ Some t → ReadsNoMore s t
  reported_by k a at (CounterAndRoot c) is t e =
      let root : HasLoadedRoot a.loaded c = subst (λ l. HasLoadedRoot l c) (sym is) refl in
      subst (ReadsNoMore s) (some_same (with_member s k (confirmed c a)) t e) (member_event k a (confirmed c a) s.leader s.counter at (λ may. inr (might_read k a at c root, refl)))
  reported_by k a at loaded is t e = absurd (cc)

  report : (k : ℕ) (t : Progress) → after s (Report k) ≡ Some t → ReadsNoMore s t
  report k t e = let found = and_then_some _ _ t e in reported_by k found.0 found.1 found.0.loaded refl t found.2

  lead : (k : ℕ) (t : Progress) → after s (Lead k) ≡ Some t → ReadsNoMore s t
  lead k t e =
      let found = and_then_some _ _ t e in
      let a = found.0 in
      let made = cond_some _ (led s k a) t found.2 in
      subst (ReadsNoMore s) made.1 (member_event k a (leading a) (Some k) s.counter found.1 (λ may. inr (may, refl)))

  -- what the scans of a leader lead to
  by_scans : (role : Role) (next : Scans → Option Progress) (t : Progress) → by_role role next ≡ Some t → ((scans : Scans) → next scans ≡ Some t → ReadsNoMore s t) → ReadsNoMore s t
  by_scans Follows next t e each = absurd (cc)
  by_scans (Leads scans) next t e each = each scans e

  -- a leader that goes on with these scans
  rescanned : (k : ℕ) (a : Member) (scans : Scans) (counter : ℕ) → slice_get s.members k ≡ Some a → ReadsNoMore s (record (with_member s k (leading_with scans a)) { counter = counter })
  rescanned k a scans counter at = member_event k a (leading_with scans a) s.leader counter at (λ may. inr (may, refl))

  scan : (k j : ℕ) (t : Progress) → after s (Scan k j) ≡ Some t → ReadsNoMore s t
  scan k j t e =
      let found = and_then_some _ _ t e in
      let a = found.0 in
      by_scans a.role _ t found.2 (λ scans looks.
      let awake = unless_some (is_waiting a.word) (scan_of_other s k a scans j) t looks in
      let other = and_then_some (λ (x : Member). Some (with_member s k (leading_with (scan_of s.counter scans j x.word) a))) (slice_get s.members j) t awake.1 in
      let seen = scan_of s.counter scans j other.0.word in
      subst (ReadsNoMore s) (some_same (with_member s k (leading_with seen a)) t other.2) (rescanned k a seen s.counter found.1))

  scan_delay : (k : ℕ) (t : Progress) → after s (ScanDelay k) ≡ Some t → ReadsNoMore s t
  scan_delay k t e =
      let found = and_then_some _ _ t e in
      let a = found.0 in
      by_scans a.role _ t found.2 (λ scans looks.
      let seen = delay_scan_of scans (delay_count s (delay_of (s.counter + 1))) in
      subst (ReadsNoMore s) (some_same (with_member s k (leading_with seen a)) t looks) (rescanned k a seen s.counter found.1))

  advance : (k : ℕ) (t : Progress) → after s (Advance k) ≡ Some t → ReadsNoMore s t
  advance k t e =
      let found = and_then_some _ _ t e in
      let a = found.0 in
      by_scans a.role _ t found.2 (λ scans raises. subst (ReadsNoMore s) (cond_some _ (advanced s k a) t raises).1 (rescanned k a (no_scans (Some (s.counter + 1))) (s.counter + 1) found.1))

  give_up : (k : ℕ) (t : Progress) → after s (GiveUp k) ≡ Some t → ReadsNoMore s t
  give_up k t e =
      let found = and_then_some _ _ t e in
      let a = found.0 in
      by_scans a.role _ t found.2 (λ scans gives. subst (ReadsNoMore s) (some_same (given_up s k a) t gives) (member_event k a (following a) None s.counter found.1 (λ may. inr (may, refl))))

  wait : (k : ℕ) (t : Progress) → after s (Wait k) ≡ Some t → ReadsNoMore s t
  wait k t e =
      let found = and_then_some _ _ t e in
      let a = found.0 in
      let made = cond_some _ _ t found.2 in
      subst (ReadsNoMore s) made.1 (member_event k a (waiting a) s.leader s.counter found.1 (waiting_reads s.generation a))

  enter : (k : ℕ) (t : Progress) → after s (Enter k) ≡ Some t → ReadsNoMore s t
  enter k t e =
      let found = and_then_some _ _ t e in
      let a = found.0 in
      let made = cond_some _ _ t found.2 in
      subst (ReadsNoMore s) made.1 (member_event k a (entering a) s.leader s.counter found.1 (entering_reads s.generation a))

  -- ---- the events of watchers

  watch_load : (w : ℕ) (t : Progress) → after s (WatchLoad w) ≡ Some t → ReadsNoMore s t
  watch_load w t e =
      let found = and_then_some _ _ t e in
      let a = found.0 in
      let made = cond_some (may_look a.phase) (with_watcher s w (counter_watched s.counter a)) t found.2 in
      subst (ReadsNoMore s) made.1 (watcher_event w a (counter_watched s.counter a) s.delay_even s.delay_odd found.1 (λ g holds. inr holds))

  watch_root : (w : ℕ) (t : Progress) → after s (WatchRoot w) ≡ Some t → ReadsNoMore s t
  watch_root w t e =
      let found = and_then_some _ _ t e in
      let a = found.0 in
      let made = cond_some (is_claimed a.phase) (with_watcher s w (root_watched s.generation a)) t found.2 in
      subst (ReadsNoMore s) made.1 (watcher_event w a (root_watched s.generation a) s.delay_even s.delay_odd found.1 (λ g holds. inl (sym (some_same s.generation g holds))))

  watch_add : (w which : ℕ) (t : Progress) → after s (WatchAdd w which) ≡ Some t → ReadsNoMore s t
  watch_add w which t e =
      let found = and_then_some _ _ t e in
      let a = found.0 in
      let named = and_then_some (λ delay. if may_add a.phase delay then Some (raised s w a delay) else None) (delay_numbered which) t found.2 in
      let d = named.0 in
      let made = cond_some (may_add a.phase d) (raised s w a d) t named.2 in
      subst (ReadsNoMore s) made.1 (watcher_event w a (delay_added d a) (raised s w a d).delay_even (raised s w a d).delay_odd found.1 (λ g holds. inr holds))

  watch_sub : (w which : ℕ) (t : Progress) → after s (WatchSub w which) ≡ Some t → ReadsNoMore s t
  watch_sub w which t e =
      let found = and_then_some _ _ t e in
      let a = found.0 in
      let named = and_then_some (λ delay. if may_leave a.phase && holds_delay delay a then Some (lowered s w a delay) else None) (delay_numbered which) t found.2 in
      let d = named.0 in
      let made = cond_some (may_leave a.phase && holds_delay d a) (lowered s w a d) t named.2 in
      subst (ReadsNoMore s) made.1 (watcher_event w a (delay_dropped d a) (lowered s w a d).delay_even (lowered s w a d).delay_odd found.1 (λ g holds. absurd (cc)))

  -- ---- the events of the writer

  retire : (t : Progress) → after s Retire ≡ Some t → ReadsNoMore s t
  retire t e =
      let made = cond_some _ (with_retirement s) t e in
      subst (ReadsNoMore s) made.1 (record { generation = refl; reads = λ g may. may })

  release_some : (g : ℕ) (need : Option ℕ) (t : Progress) → progress_released s g need ≡ Some t → ReadsNoMore s t
  release_some g None t e = absurd (cc)
  release_some g (Some need) t e =
      let kept : ReadsNoMore s (record s { needs = _ }) = record { generation = refl; reads = λ g may. may } in
      subst (ReadsNoMore s) (cond_some _ _ t e).1 kept

  -- a need that is kept besides
  pub pair_reads : ReadsNoMore s (with_pair s)
  pair_reads = record { generation = refl; reads = λ g may. may }

  -- what changes nothing
  pub same_reads : ReadsNoMore s s
  same_reads = record { generation = refl; reads = λ g may. may }

  -- each event but a publication
  pub reads_no_more : (event : PrgrEvent) (t : Progress) → (event ≡ Publish → ⊥) → after s event ≡ Some t → ReadsNoMore s t
  reads_no_more (LoadCounter k) t apart e = load_counter k t e
  reads_no_more (LoadRoot k) t apart e = load_root k t e
  reads_no_more (Report k) t apart e = report k t e
  reads_no_more (Lead k) t apart e = lead k t e
  reads_no_more (Scan k j) t apart e = scan k j t e
  reads_no_more (ScanDelay k) t apart e = scan_delay k t e
  reads_no_more (Advance k) t apart e = advance k t e
  reads_no_more (GiveUp k) t apart e = give_up k t e
  reads_no_more (Wait k) t apart e = wait k t e
  reads_no_more (Enter k) t apart e = enter k t e
  reads_no_more Publish t apart e = absurd (apart refl)
  reads_no_more Retire t apart e = retire t e
  reads_no_more (Release g) t apart e = release_some g (need_of s.needs g) t e
  reads_no_more (WatchLoad w) t apart e = watch_load w t e
  reads_no_more (WatchAdd w which) t apart e = watch_add w which t e
  reads_no_more (WatchRoot w) t apart e = watch_root w t e
  reads_no_more (WatchSub w which) t apart e = watch_sub w which t e
