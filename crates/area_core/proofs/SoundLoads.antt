-- The events that store no word and publish nothing keep a state sound.
use Rattle.std.proofs.Common.{◌≡◌, ℕ, ◌+◌, ◌%◌, Bool, true, false, Option, Some, None, option_map, refl, sym, ap, subst, ◌∙◌}
use Rattle.std.proofs.lemmas.Option.{cond_some}
use Rattle.std.specs.Prelude.{◌==◌, slice_get, if◌then◌else◌}
use Rattle.prgr_core.specs.declared.member.Member.{Member}
use Rattle.prgr_core.specs.declared.progress.Progress.{Progress}
use Rattle.prgr_core.specs.declared.event.PrgrEvent.{PrgrEvent}
use Rattle.prgr_core.specs.declared.event.PrgrEvent.TheVariants as prgr
use Rattle.prgr_core.specs.Step.{after as progress_after, with_pair, IsSound as IsProgressSound}
use Rattle.prgr_core.proofs.Parts.{and_then_some}
use Rattle.prgr_core.proofs.Sound.{keeps_sound, pair_sound}
use Rattle.area_core.specs.declared.event.SeatName.{SeatName}
use Rattle.area_core.specs.declared.event.SeatName.TheVariants as seats
use Rattle.area_core.specs.declared.table.Table.{Table}
use Rattle.area_core.specs.Step.{with_progress, after_progress, if_enabled, progress_if, has_seat, counter_loaded, root_event, root_loaded, confirms, confirmed, delay_loaded, blocks_of, IsReadable, IsSound}
use Rattle.area_core.proofs.Fewer.{fewer_count}
use Rattle.area_core.proofs.ReadsNoMore.{ReadsNoMore, reads_no_more, pair_reads, same_reads}

-- ---- choices

pub mapped_some : {T U : Type 0} (f : T → U) (o : Option T) (u : U) → option_map f o ≡ Some u → (x : T) × (o ≡ Some x) × (f x ≡ u)
mapped_some f None u e = absurd (cc)
mapped_some f (Some x) u e = (x, refl, cc)

pub chosen_some : {T : Type 0} (b : Bool) (o : Option T) (t : T) → (if b then o else None) ≡ Some t → o ≡ Some t
chosen_some true o t e = e
chosen_some false o t e = absurd (cc)

module _ (s : Table) (sound : IsSound s) where
  -- ---- the progress machine

  -- a state of the progress machine under which no more is readable leaves the words what they must be
  pub no_more_sound : (t : Progress) → IsProgressSound t → ReadsNoMore s.progress t → IsSound (with_progress s t)
  no_more_sound t progress no_more = record {
    progress = progress;
    blocks = fewer_count (blocks_of s) (IsReadable s) (IsReadable (with_progress s t)) sound.blocks no_more.reads;
    words = sound.words;
    published = sound.published ∙ ap (λ (n : ℕ). n + 1) (sym no_more.generation);
  }

  -- an event of the progress machine that publishes nothing
  made_sound : (event : PrgrEvent) (t : Progress) → (event ≡ prgr.Publish → ⊥) → progress_after s.progress event ≡ Some t → IsSound (with_progress s t)
  made_sound event t apart e = no_more_sound t (keeps_sound s.progress event t sound.progress e) (reads_no_more s.progress sound.progress event t apart e)

  pub progress_keeps : (event : PrgrEvent) (t : Table) → (event ≡ prgr.Publish → ⊥) → after_progress s event ≡ Some t → IsSound t
  progress_keeps event t apart e =
      let made = mapped_some (with_progress s) (progress_after s.progress event) t e in
      subst IsSound made.2 (made_sound event made.0 apart made.1)

  -- the same where the event need not be enabled
  reached_sound : (event : PrgrEvent) → (event ≡ prgr.Publish → ⊥) → (next : Option Progress) → progress_after s.progress event ≡ next → IsSound (with_progress s (progress_if s.progress next))
  reached_sound event apart None e = no_more_sound s.progress sound.progress (same_reads s.progress sound.progress)
  reached_sound event apart (Some t) e = made_sound event t apart e

  -- ---- loads of the counter and of the root

  pub load_counter_keeps : (seat : SeatName) (t : Table) → counter_loaded s seat ≡ Some t → IsSound t
  load_counter_keeps seats.Writer t e =
      let kept : IsSound (with_progress s (with_pair s.progress)) = no_more_sound (with_pair s.progress) (pair_sound s.progress sound.progress) (pair_reads s.progress sound.progress) in
      let made : with_progress s (with_pair s.progress) ≡ t = cc in
      subst IsSound made kept
  load_counter_keeps (seats.Member k) t e = progress_keeps (prgr.LoadCounter k) t (λ same. absurd (cc)) e
  load_counter_keeps (seats.Watcher k) t e = progress_keeps (prgr.WatchLoad k) t (λ same. absurd (cc)) e

  root_event_sound : (seat : SeatName) → IsSound (with_progress s (progress_if s.progress (root_event s.progress seat)))
  root_event_sound seats.Writer = no_more_sound s.progress sound.progress (same_reads s.progress sound.progress)
  root_event_sound (seats.Member k) = reached_sound (prgr.LoadRoot k) (λ same. absurd (cc)) (progress_after s.progress (prgr.LoadRoot k)) refl
  root_event_sound (seats.Watcher k) = reached_sound (prgr.WatchRoot k) (λ same. absurd (cc)) (progress_after s.progress (prgr.WatchRoot k)) refl

  pub load_root_keeps : (seat : SeatName) (t : Table) → root_loaded s seat ≡ Some t → IsSound t
  load_root_keeps seat t e = subst IsSound (cond_some (has_seat s.progress seat) _ t e).1 (root_event_sound seat)

  -- ---- the events that ask for more than their event of the progress machine

  pub confirm_keeps : (k value : ℕ) (t : Table) → confirmed s k value ≡ Some t → IsSound t
  confirm_keeps k value t e =
      let found = and_then_some (λ (member : Member). if confirms value member.loaded then after_progress s (prgr.Report k) else None) (slice_get s.progress.members k) t e in
      progress_keeps (prgr.Report k) t (λ same. absurd (cc)) (chosen_some (confirms value found.0.loaded) (after_progress s (prgr.Report k)) t found.2)

  pub load_delay_keeps : (k which : ℕ) (t : Table) → delay_loaded s k which ≡ Some t → IsSound t
  load_delay_keeps k which t e = progress_keeps (prgr.ScanDelay k) t (λ same. absurd (cc)) (chosen_some (which == (s.progress.counter + 1) % 2) (after_progress s (prgr.ScanDelay k)) t e)

  -- ---- what changes nothing

  pub unchanged_keeps : (enabled : Bool) (t : Table) → if_enabled enabled s ≡ Some t → IsSound t
  unchanged_keeps enabled t e = subst IsSound (cond_some enabled s t e).1 sound
