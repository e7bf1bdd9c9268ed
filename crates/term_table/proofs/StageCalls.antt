-- What the steps of a staging tell, each of the view that the one before it left.
use Rattle.std.proofs.Common.{◌≡◌, ℕ, ◌+◌, ◌%◌, ◌<◌, ◌≤◌, true, false, List, length, sym, ap, subst, ◌∙◌, arith}
use Rattle.std.specs.Prelude.{Some, Ok, Err, IsErrOf, slice_index}
use Rattle.area_core.specs.declared.table.Published.{Published}
use Rattle.shared_words.specs.declared.view.WriterView.{WriterView}
use Rattle.progress_words.specs.declared.answers.NotYet.{NotYet}
use Rattle.progress_words.specs.declared.roots.RootParts.{RootParts}
use Rattle.progress_words.specs.Needs.{HasLoadedCounter, IsBelow}
use Rattle.progress_words.specs.Roots.{newest_of, IsNewestRoot}
use Rattle.term_table.specs.declared.answers.StageFault.{StageFault}
use Rattle.term_table.specs.declared.answers.StageFault.TheVariants as faults
use Rattle.term_table.specs.declared.buckets.Buckets.{Buckets}
use Rattle.term_table.specs.declared.change.Change.{Change}
use Rattle.term_table.specs.Keys.{ChangesTo, IsNewKey}
use Rattle.term_table.specs.Built.{held_in, words_of, AreBuilt, HasRebuilt, is_full_table}
use Rattle.term_table.specs.Tables.{Terms, active_table, staging_table, Stages, IsTableOf}
use Rattle.term_table.specs.Staged.{HasLoaded, IsFreeTable, HasStored, HasStaged, IsWaiting}
use Rattle.term_table.proofs.Fullness.{full_told, not_full}
use Rattle.term_table.proofs.Kept.{owned_counted}
use Rattle.term_table.proofs.Stagings.{held_built, held_few, held_stands, held_counted, free_now, has_staged, stages_changed, owned_staged}

-- ---- which answer it is

pub no_full_waits : (answer : NotYet) → IsErrOf {T = Unit {0}} {E = StageFault} (Err (faults.NotYet answer)) faults.Full → ⊥
no_full_waits answer is = absurd (cc)

pub no_full_staged : IsErrOf {T = Unit {0}} {E = StageFault} (Ok tt) faults.Full → ⊥
no_full_staged is = absurd (cc)

pub same_wait : (one other : NotYet) → IsErrOf {T = Unit {0}} {E = StageFault} (Err (faults.NotYet one)) (faults.NotYet other) → one ≡ other
same_wait one other is = cc

-- ---- the steps

module _ (t : Terms) (w : WriterView) (own : IsTableOf t w) (rooted now : WriterView) (first : rooted ≡ w) (second : now ≡ rooted) (parts : RootParts) (root : IsNewestRoot w parts) where
  pub call_fits : parts.term < 4
  call_fits = let is = root.term in let fits = own.fits in omega (arith, is, fits)

  pub call_active : parts.term ≡ active_table rooted
  call_active = root.term ∙ ap active_table (sym first)

  pub call_same : now ≡ w
  call_same = second ∙ first

  pub call_owned : IsTableOf t now
  call_owned = subst (IsTableOf t) (sym call_same) own

  table_is : (parts.term + 1) % 4 ≡ staging_table w
  table_is = ap (λ (n : ℕ). (n + 1) % 4) root.term

  module _ (held : Buckets) (loads : HasLoaded parts.term 1024 rooted held) where
    here : HasLoaded (active_table w) 1024 w held
    here = subst (λ (z : ℕ × WriterView). HasLoaded z.0 1024 z.1 held) (λ i. (root.term i, first i)) loads

    pub call_built : AreBuilt held
    call_built = held_built t w own held here

    pub call_few : held_in (words_of held) 512 ≤ 384
    call_few = held_few t w own held here

    pub call_full : (change : Change) → is_full_table change (words_of held) ≡ true → IsNewKey change (newest_of w) × (length (newest_of w).state.keys ≡ 384)
    call_full = full_told (words_of held) (newest_of w) (held_stands t w own held here) (held_counted t w own held here)

    pub call_room : (change : Change) → is_full_table change (words_of held) ≡ false → IsNewKey change (newest_of w) × (length (newest_of w).state.keys ≡ 384) → ⊥
    call_room = not_full (words_of held) (newest_of w) (held_stands t w own held here) (held_counted t w own held here)

  module _ (waited : WriterView) (asked : HasLoadedCounter now waited) where
    asked_here : HasLoadedCounter w waited
    asked_here = subst (λ (v : WriterView). HasLoadedCounter v waited) call_same asked

    pub call_counted : IsTableOf t waited
    call_counted = subst (IsTableOf t) (sym asked_here.view) (owned_counted t w asked_here.counter own)

    module _ (needs : List ℕ) (kept : needs ≡ t.needs) where
      need_is : slice_index needs ((parts.term + 1) % 4) ≡ slice_index t.needs (staging_table w)
      need_is i = slice_index (kept i) (table_is i)

      pub call_waits : (answer : NotYet) → IsBelow (slice_index needs ((parts.term + 1) % 4)) waited answer → IsWaiting t w waited answer
      call_waits answer below = record { asked = below.asked ∙ need_is; loaded = asked_here; current = below.loaded; below = below.below }

      module _ (enough : slice_index needs ((parts.term + 1) % 4) ≤ waited.counter) where
        enough_here : slice_index t.needs (staging_table w) ≤ waited.counter
        enough_here = subst (λ (n : ℕ). n ≤ waited.counter) need_is enough

        pub call_free : IsFreeTable ((parts.term + 1) % 4) waited
        call_free = subst (λ (n : ℕ). IsFreeTable n waited) (sym table_is) (free_now t w own waited asked_here enough_here)

        module _ (change : Change) (held built : Buckets) (loads : HasLoaded parts.term 1024 rooted held) (rebuilt : HasRebuilt change held built) (room : is_full_table change (words_of held) ≡ false) (new : WriterView) (stored : HasStored ((parts.term + 1) % 4) 1024 built waited new) where
          stored_here : HasStored (staging_table w) 1024 built waited new
          stored_here = subst (λ (n : ℕ). HasStored n 1024 built waited new) table_is stored

          abbrev after : Terms
          after = record { staged = Some ((parts.term + 1) % 4); needs = needs }

          after_is : after ≡ record { staged = Some (staging_table w); needs = t.needs }
          after_is i = record { staged = Some (table_is i); needs = kept i }

          pub call_staged : HasStaged change t after w new
          call_staged = has_staged t w own waited asked_here enough_here change held built (here held loads) rebuilt room new stored_here after after_is

          pub call_stands : (q : Published) → ChangesTo change (newest_of w) q → Stages after q new
          call_stands = stages_changed t w own waited asked_here enough_here change held built (here held loads) rebuilt room new stored_here after after_is

          pub call_owned_then : IsTableOf after new
          call_owned_then = owned_staged t w own waited asked_here enough_here change held built (here held loads) rebuilt room new stored_here after after_is
