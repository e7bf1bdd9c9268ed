-- What the next generation and the ones before it have dropped stays dropped, and the next one is served.
use Rattle.std.proofs.Common.{◌≡◌, ◌≢◌, ℕ, ◌<◌, ◌≤◌, ◌^◌, ◌⊎◌, inl, inr, true, false, List, [], ◌∷◌, ◌++◌, Option, Some, None, option_map, lit≤, refl, sym, ap, subst, ◌∙◌, arith}
use Rattle.std.specs.Prelude.{slice_get, unwrap_or}
use Rattle.std.proofs.lemmas.Bool.{false_from_ne_true, true≢false}
use Rattle.term_core.specs.declared.area.AreaRef.{AreaRef}
use Rattle.term_core.specs.Image as terms
use Rattle.term_core.specs.declared.atom.Mfa.{Mfa}
use Rattle.term_core.specs.declared.generation.Generation.{Generation}
use Rattle.mod_core.specs.declared.code.Module.{Module}
use Rattle.area_core.specs.declared.table.Published.{Published}
use Rattle.area_core.specs.Generations as generations
use Rattle.area_core.specs.Generations.{has_serial}
use Rattle.area_core.specs.Blocks.{Among}
use Rattle.shared_words.specs.declared.view.WriterView.{WriterView}
use Rattle.shared_words.specs.Rule.{OldStays, RetiredStays}
use Rattle.shared_words.proofs.ShownMembers.{within_get}
use Rattle.prgr_core.proofs.Parts.{slice_get-push_at}
use Rattle.server_core.specs.ServerState.{ServerState, code_of, current_of, first_words, instance_image, is_doomed, term_of_area, words_of_area}
use Rattle.machine_core.specs.GenerationReads.{is_term_image, words_in}
use Rattle.machine_core.proofs.ImageKinds.{instance_no_term}
use Rattle.code_law.specs.Served.{IsServed, TermsPlaced}
use Rattle.literal_areas.specs.declared.areas.Areas.{Areas}
use Rattle.literal_areas.specs.Blocks.{Stands}
use Rattle.change_laws.specs.Uses.{IsUsed}
use Rattle.change_laws.proofs.Dropped.{used_known}
use Rattle.staging.specs.Standing.{StaysDropped}
use Rattle.staging.specs.Upcoming.{IsUpcoming}
use Rattle.staging.proofs.Coming.{ComesNext}
use Rattle.staging.proofs.NextAreas.{image_next, listed_next}
use Rattle.staging.proofs.NextFresh.{image_same}
use Rattle.staging.proofs.NextReads.{code_known, dropped_unused, old_not_current, shown_current, shown_old, shown_retired, shown_used}

module _ (names : List Mfa) (s : ServerState) (pools : Areas) (w : WriterView) (p : Published) (next : ComesNext names s pools w) (up : IsUpcoming names s pools p) where
  -- what the next generation has as old code
  old_next : (serial : ℕ) → has_serial p.state.old serial ≡ true → (serial < s.next_serial) × ((name : ℕ) → current_of s name ≢ Some serial)
  old_next serial e =
      let old = shown_old names s p up.state serial e in
      ((code_known s next.sound serial old.m old.code_is).1, λ name current. old_not_current s next.sound old.m.name.0 name serial old.is current)

  doomed_next : (serial : ℕ) → has_serial p.state.doomed serial ≡ true → (serial < s.next_serial) × ((is_doomed s serial ≡ true) ⊎ (IsUsed s serial → ⊥))
  doomed_next serial e =
      let doomed : is_doomed s serial ≡ true = sym (ap (λ (g : Generation). has_serial g.doomed serial) up.state) ∙ e in
      (used_known s serial next.sound (inr (inl (next.sound.doomed serial doomed))), inl doomed)

  retired_next : (serial : ℕ) → generations.is_retired_area p serial ≡ true → (serial < s.next_serial) × (IsUsed s serial → ⊥)
  retired_next serial e =
      let dropped = next.sound.retired serial (sym (shown_retired names s p up.state serial) ∙ e) in
      (dropped.known, λ used. dropped_unused s next.sound serial dropped used)

  abbrev listed : List Published
  listed = w.published ++ p ∷ []

  old_each : (q : Published) (serial : ℕ) → Among listed q → has_serial q.state.old serial ≡ true → (serial < s.next_serial) × ((name : ℕ) → current_of s name ≢ Some serial)
  old_each q serial at e =
      elim (slice_get-push_at w.published p at.0 q at.1) as (λ _. (serial < s.next_serial) × ((name : ℕ) → current_of s name ≢ Some serial)) [
        | inl before ↦ next.dropped.old q serial (at.0, before) e
        | inr last ↦ old_next serial (subst (λ (x : Published). has_serial x.state.old serial ≡ true) last.1 e)
      ]

  doomed_each : (q : Published) (serial : ℕ) → Among listed q → has_serial q.state.doomed serial ≡ true → (serial < s.next_serial) × ((is_doomed s serial ≡ true) ⊎ (IsUsed s serial → ⊥))
  doomed_each q serial at e =
      elim (slice_get-push_at w.published p at.0 q at.1) as (λ _. (serial < s.next_serial) × ((is_doomed s serial ≡ true) ⊎ (IsUsed s serial → ⊥))) [
        | inl before ↦ next.dropped.doomed q serial (at.0, before) e
        | inr last ↦ doomed_next serial (subst (λ (x : Published). has_serial x.state.doomed serial ≡ true) last.1 e)
      ]

  retired_each : (q : Published) (serial : ℕ) → Among listed q → generations.is_retired_area q serial ≡ true → (serial < s.next_serial) × (IsUsed s serial → ⊥)
  retired_each q serial at e =
      elim (slice_get-push_at w.published p at.0 q at.1) as (λ _. (serial < s.next_serial) × (IsUsed s serial → ⊥)) [
        | inl before ↦ next.dropped.retired q serial (at.0, before) e
        | inr last ↦ retired_next serial (subst (λ (x : Published). generations.is_retired_area x serial ≡ true) last.1 e)
      ]

  none_current : (serial : ℕ) → ((name : ℕ) → current_of s name ≢ Some serial) → generations.is_current p serial ≡ false
  none_current serial none = false_from_ne_true (generations.is_current p serial) (λ e. let is = shown_current names s p up.state serial e in none is.m.name.0 is.is)

  none_used : (serial : ℕ) → (IsUsed s serial → ⊥) → generations.is_used p serial ≡ false
  none_used serial none = false_from_ne_true (generations.is_used p serial) (λ e. none (shown_used names s p up.state next.keys_once serial e))

  -- an earlier place than one of the list before is one of it
  front : (g later : ℕ) (q r : Published) → g ≤ later → slice_get listed g ≡ Some q → slice_get w.published later ≡ Some r → slice_get w.published g ≡ Some q
  front g later q r le here there =
      elim (slice_get-push_at w.published p g q here) as (λ _. slice_get w.published g ≡ Some q) [
        | inl before ↦ before
        | inr last ↦ absurd (let within = within_get w.published later r there in let is = last.0 in omega (arith, within, is, le))
      ]

  pub old_stays_next : OldStays (w.published ++ p ∷ [])
  old_stays_next g later q r serial le here there e =
      elim (slice_get-push_at w.published p later r there) as (λ _. generations.is_current r serial ≡ false) [
        | inl before ↦ next.dropped.old_stays g later q r serial le (front g later q r le here before) before e
        | inr last ↦ subst (λ (x : Published). generations.is_current x serial ≡ false) (sym last.1) (none_current serial (old_each q serial (g, here) e).1)
      ]

  pub retired_stays_next : RetiredStays (w.published ++ p ∷ [])
  retired_stays_next g later q r serial le here there e =
      elim (slice_get-push_at w.published p later r there) as (λ _. generations.is_used r serial ≡ false) [
        | inl before ↦ next.dropped.retired_stays g later q r serial le (front g later q r le here before) before e
        | inr last ↦ subst (λ (x : Published). generations.is_used x serial ≡ false) (sym last.1) (none_used serial (retired_each q serial (g, here) e).1)
      ]

  pub dropped_next : StaysDropped s (w.published ++ p ∷ [])
  dropped_next = record {
    old = old_each;
    doomed = doomed_each;
    retired = retired_each;
    old_stays = old_stays_next;
    retired_stays = retired_stays_next;
  }

  -- ---- it is served

  no_term : (a : AreaRef) → Stands pools a → is_term_image (words_in p.state a.serial) ≡ true → (m : Module) → code_of s a.serial ≡ Some m → ⊥
  no_term a stands term m code =
      let has = next.images a stands in
      let image : words_of_area s a.serial ≡ Some (instance_image a.serial m) = ap (λ (o : Option Module). first_words (option_map (instance_image a.serial) o) (option_map terms.image_of (term_of_area s a.serial))) code in
      let shown = image_next names s pools w p next up a (instance_image a.serial m) stands image in
      let words : words_in p.state a.serial ≡ instance_image a.serial m = ap (λ (o : Option (List ℕ)). unwrap_or o []) (sym (image_same p.state.areas a.serial) ∙ shown) in
      true≢false (sym term ∙ ap is_term_image words ∙ instance_no_term a.serial m)

  terms_placed : TermsPlaced p
  terms_placed a at term =
      let stands = listed_next names s pools w p next up a at in
      by stands (code_of s a.serial) refl
    where
      by : Stands pools a → (o : Option Module) → code_of s a.serial ≡ o → 64 ≤ a.block
      by stands None code = next.placed.terms a stands code
      by stands (Some m) code = absurd (no_term a stands term m code)

  pub served_next : IsServed names p
  served_next = record {
    of = inr (record { state = s; sound = next.sound; numbered = next.numbered; narrow = (let few = next.narrow in less s.next_serial (2 ^ 40) (2 ^ 62) few (lit≤ tt)); knows = next.knows; is = up.state });
    terms = terms_placed;
  }
    where
      less : (a b d : ℕ) → a ≤ b → b ≤ d → a ≤ d
      less a b d low high = omega (arith, low, high)
