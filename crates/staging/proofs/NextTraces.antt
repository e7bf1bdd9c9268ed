-- The breakpoint index of the newest generation says what the next one traces, where no breakpoint is set or cleared between them.
use Rattle.std.proofs.Common.{◌≡◌, ℕ, ◌⊎◌, inl, inr, true, false, List, refl, sym, ◌∙◌}
use Rattle.std.proofs.lemmas.Bool.{false_from_ne_true, or_cases, true≢false}
use Rattle.term_core.specs.declared.area.AreaRef.{AreaRef}
use Rattle.term_core.specs.declared.atom.Mfa.{Mfa}
use Rattle.area_core.specs.declared.table.KeptArea.{KeptArea}
use Rattle.area_core.specs.declared.table.Published.{Published}
use Rattle.area_core.specs.Generations as generations
use Rattle.area_core.specs.Generations.{has_serial}
use Rattle.area_core.specs.Blocks.{Among}
use Rattle.area_core.specs.Roots.{fresh_areas}
use Rattle.shared_words.specs.declared.view.WriterView.{WriterView}
use Rattle.progress_words.specs.Roots.{newest_of}
use Rattle.server_core.specs.ServerState.{ServerState, is_traced}
use Rattle.breakpoints.specs.Indices.{BreakpointsRest, IsUnkept}
use Rattle.breakpoints.specs.Laws.{KeepsTraces, TracesStand}
use Rattle.breakpoints.proofs.Roots.{roots_keep}
use Rattle.change_laws.specs.Breakpoints.{IsLiveCode}
use Rattle.literal_areas.specs.declared.areas.Areas.{Areas}
use Rattle.literal_areas.specs.Blocks.{Stands}
use Rattle.staging.specs.Upcoming.{IsUpcoming}
use Rattle.staging.proofs.Coming.{ComesNext, IsFresh, TracesAlike, entry_in}
use Rattle.staging.proofs.Follows.{shown_traced}
use Rattle.staging.proofs.NextAreas.{apart_next, fresh_comes, listed_next, same_serial}
use Rattle.staging.proofs.NextReads.{shown_current, shown_old}
use Rattle.staging.proofs.NextWords.{fresh_fits, instances_next}

module _ (names : List Mfa) (s : ServerState) (pools : Areas) (w : WriterView) (p : Published) (next : ComesNext names s pools w) (up : IsUpcoming names s pools p) where
  -- its instances are current or old code
  pub live_next : (serial : ℕ) → generations.is_instance p serial ≡ true → IsLiveCode s serial
  live_next serial e =
      elim (or_cases (has_serial p.state.current serial) (has_serial p.state.old serial) e) as (λ _. IsLiveCode s serial) [
        | inl current ↦ let is = shown_current names s p up.state serial current in inl (is.m.name.0, is.is)
        | inr old ↦ let is = shown_old names s p up.state serial old in inr (is.m.name.0, is.is)
      ]

  -- in the block of an area that comes in none is kept
  fresh_unkept : (a : AreaRef) (words : List ℕ) → Stands pools a → IsFresh s pools w a words → IsUnkept w a.block
  fresh_unkept a words stands fresh k among same = fresh.unpublished.kept k among (same_serial names s pools w p next up k.area a (next.owned.kept k among) stands same)

  -- an instance was one, or comes in
  pub instance_next : (a : AreaRef) → Among p.areas a → generations.is_instance p a.serial ≡ true → (Among (newest_of w).areas a × (generations.is_instance (newest_of w) a.serial ≡ true)) ⊎ IsUnkept w a.block
  instance_next a among is =
      let stands = listed_next names s pools w p next up a among in
      let has = next.images a stands in
      elim has.stands as (λ _. (Among (newest_of w).areas a × (generations.is_instance (newest_of w) a.serial ≡ true)) ⊎ IsUnkept w a.block) [
        | inl kept ↦ inl (next.stay (record { area = a; words = has.words }) kept, next.lives (record { area = a; words = has.words }) kept (live_next a.serial is))
        | inr fresh ↦ inr (fresh_unkept a has.words stands fresh)
      ]

  module _ (alike : TracesAlike s w) where
    shown : (serial function : ℕ) → generations.is_traced_function p serial function ≡ is_traced s (entry_in serial function)
    shown = shown_traced names s p up.state

    fewer : (serial function : ℕ) → generations.is_traced_function p serial function ≡ true → generations.is_traced_function (newest_of w) serial function ≡ true
    fewer serial function e = alike.fewer serial function (sym (shown serial function) ∙ e)

    not_traced : (serial function : ℕ) → generations.is_traced_function (newest_of w) serial function ≡ false → generations.is_traced_function p serial function ≡ false
    not_traced serial function none = false_from_ne_true (generations.is_traced_function p serial function) (λ e. true≢false (sym (fewer serial function e) ∙ none))

    unplaced : (a : AreaRef) (function : ℕ) → IsUnkept w a.block → Among p.areas a → generations.is_instance p a.serial ≡ true → generations.is_traced_function p a.serial function ≡ false
    unplaced a function unkept among is =
        let has = next.images a (listed_next names s pools w p next up a among) in
        elim has.stands as (λ _. generations.is_traced_function p a.serial function ≡ false) [
          | inl kept ↦ absurd (unkept (record { area = a; words = has.words }) kept refl)
          | inr fresh ↦ not_traced a.serial function (fresh.untraced function)
        ]

    untraced : (k : KeptArea) (function : ℕ) → Among (fresh_areas w.kept p) k → generations.is_traced_function p k.area.serial function ≡ false
    untraced k function at = not_traced k.area.serial function ((fresh_comes names s pools w p next up k at).0.untraced function)

    keeps : p.root.bp ≡ (newest_of w).root.bp → KeepsTraces w p
    keeps bp = record {
      bp = bp;
      placed = instances_next names s pools w p next up;
      instances = instance_next;
      fewer = fewer;
      same = λ serial function is. shown serial function ∙ alike.same serial function (live_next serial is);
      fresh = fresh_fits names s pools w p next up;
      apart = apart_next names s pools w p next up;
      untraced = untraced;
      unplaced = unplaced;
    }

    -- so the words stand for it, and the indices are at rest behind it
    pub traces_next : BreakpointsRest w → p.root.bp ≡ (newest_of w).root.bp → TracesStand w p
    traces_next rest bp = roots_keep w p (keeps bp) rest
