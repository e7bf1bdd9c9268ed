-- What a run has published grows with its journal: an entry that publishes adds the generation behind it, and every other entry leaves them.
use Rattle.std.proofs.Common.{◌≡◌, ℕ, zero, suc, ◌+◌, ◌<◌, ◌≤◌, ◌==◌, List, [], ◌∷◌, ◌++◌, length-append, Some, slice_get, refl, sym, ap, ◌∙◌, arith}
use Rattle.std.proofs.lemmas.Bool.{cond-false, ne_eqb}
use Rattle.std.proofs.lemmas.Option.{slice_get_within}
use Rattle.term_core.specs.declared.atom.Mfa.{Mfa}
use Rattle.mod_core.specs.declared.code.Module.{Module}
use Rattle.area_core.specs.declared.table.Published.{Published}
use Rattle.server_core.specs.ServerState.{ServerState, empty_state}
use Rattle.run_log.specs.declared.logs.Entry.{Entry}
use Rattle.run_log.specs.Journal.{newest_state, next_state, published_count, publishes, state_at}
use Rattle.run_log.specs.Legal.{Replays}
use Rattle.run_log.proofs.Journals.{count-cons, counted, later, state_kept}
use Rattle.server_core.specs.Generations.{generation_of}
use Rattle.run_law.specs.Published.{ArePublished, shown_at}
use Rattle.word_permit.proofs.PushedLists.{PushedAt, at_end, before, pushed_at}

-- ---- states of a journal with one entry more

-- a generation past those before the last entry has the state behind that
pub last_at : (texts : List Module) (s : ServerState) (journal : List Entry) (e : Entry) (k : ℕ) → (newest_state texts s journal).generation < k → state_at texts s (journal ++ e ∷ []) k ≡ newest_state texts s (journal ++ e ∷ [])
last_at texts s [] e k h = cond-false (s.generation == k) s (next_state texts s e.cmd) (ne_eqb s.generation k (λ same. omega (arith, same, h)))
last_at texts s (x ∷ journal) e k h =
    let t = next_state texts s x.cmd in
    cond-false (s.generation == k) s (state_at texts t (journal ++ e ∷ []) k) (ne_eqb s.generation k (λ same. omega (arith, same, h, later texts s (x ∷ journal))))
    ∙ last_at texts t journal e k h

pub count_more : (journal : List Entry) (e : Entry) → published_count (journal ++ e ∷ []) ≡ published_count journal + publishes e
count_more [] e = omega (arith, count-cons e [])
count_more (x ∷ journal) e = omega (arith, count-cons x journal, count-cons x (journal ++ e ∷ []), count_more journal e)

module _ (names : List Mfa) (texts : List Module) (journal : List Entry) (e : Entry) (replays : Replays texts empty_state journal) where
  abbrev longer : List Entry
  longer = journal ++ e ∷ []

  newest_counted : (newest_state texts empty_state journal).generation ≡ published_count journal
  newest_counted = omega (arith, counted texts empty_state journal replays)

  -- generations that were published stay as they are shown
  shown_stay : (k : ℕ) → k ≤ published_count journal → shown_at names texts longer k ≡ shown_at names texts journal k
  shown_stay zero h = refl
  shown_stay (suc k) h = ap (generation_of names) (state_kept texts empty_state journal e (suc k) (omega arith) (omega (arith, h, newest_counted)))

  kept_at : (published : List Published) → ArePublished names texts journal published → (k : ℕ) (p : Published) → slice_get published k ≡ Some p → p.state ≡ shown_at names texts longer k
  kept_at published known k p h =
      known.each k p h ∙ sym (shown_stay k (omega (arith, slice_get_within published k p h, known.many)))

  -- an entry that publishes nothing leaves them
  pub published_same : (published : List Published) → ArePublished names texts journal published → publishes e ≡ 0 → ArePublished names texts longer published
  published_same published known none = record { many = omega (arith, known.many, none, count_more journal e); each = kept_at published known }

  -- the last one is of the state behind the entry
  shown_last : (n : ℕ) → n ≡ published_count journal → shown_at names texts longer (suc n) ≡ generation_of names (newest_state texts empty_state longer)
  shown_last n is = ap (generation_of names) (last_at texts empty_state journal e (suc n) (omega (arith, is, newest_counted)))

  each_more : (published : List Published) (next : Published) → ArePublished names texts journal published → next.state ≡ generation_of names (newest_state texts empty_state longer)
      → (k : ℕ) (p : Published) → PushedAt published next k p → p.state ≡ shown_at names texts longer k
  each_more published next known shows k p (before less h) = kept_at published known k p h
  each_more published next known shows k p (at_end is same) =
      let number : k ≡ suc (published_count journal) = omega (arith, is, known.many) in
      ap (λ (x : Published). x.state) (sym same) ∙ shows ∙ sym (shown_last (published_count journal) refl) ∙ ap (shown_at names texts longer) (sym number)

  -- one that publishes adds the generation behind it
  pub published_more : (published : List Published) (next : Published) → ArePublished names texts journal published → publishes e ≡ 1 → next.state ≡ generation_of names (newest_state texts empty_state longer)
      → ArePublished names texts longer (published ++ next ∷ [])
  published_more published next known one shows = record {
    many = omega (arith, known.many, one, count_more journal e, length-append published (next ∷ []));
    each = λ k p h. each_more published next known shows k p (pushed_at published next k p h);
  }
