-- What is kept of a purge, a soft purge and a process that lingers is what the journal tells of them.
use Rattle.std.proofs.Common.{◌≡◌, ℕ, suc, ◌<◌, Bool, true, false, ◌||◌, List, [], ◌∷◌, length, slice_get, get_or, Some, refl, sym, ap, subst, ◌∙◌, arith}
use Rattle.std.specs.List.{list_any}
use Rattle.std.proofs.lemmas.Bool.{false≢true}
use Rattle.std.proofs.lemmas.List.Folds.{list_any_at}
use Rattle.std.proofs.lemmas.Option.{get_or_from_slice_get, slice_get-get_or, slice_get_within}
use Rattle.area_core.specs.declared.map.TheConstants.{PROCESSES}
use Rattle.area_core.specs.Blocks.{Among}
use Rattle.server_core.specs.declared.command.Linger.{Linger}
use Rattle.marks.specs.declared.kept.DroppedArea.{DroppedArea}
use Rattle.marks.specs.declared.kept.LookKind.TheVariants.{Frame}
use Rattle.marks.specs.declared.kept.LookedAnchor.{LookedAnchor}
use Rattle.marks.specs.declared.kept.WriterKept.{WriterKept}
use Rattle.marks.specs.Names.{tells_kill}
use Rattle.marks.specs.Steps.{with_drop_kept, with_lingering}
use Rattle.anchors.specs.Scans.{AreClear, IsLoaded, tells_any}
use Rattle.script_core.proofs.JoinedPlaces.{get_front}
use Rattle.shared_words.specs.declared.view.WriterView.{WriterView}
use Rattle.shared_words.specs.Drops.{AgreesWithLooks, drop_of}
use Rattle.shared_words.specs.Lingering.{lingering_of}
use Rattle.shared_words.specs.Slots.{wait_for}
use Rattle.shared_words.specs.Views.{newest_number}
use Rattle.run_law.specs.Answers.{HasDrop, HasKilled, HasLingering, HasPurge}
use Rattle.word_permit.specs.Looks.{newest_wait}

-- ---- an instance that is dropped

module _ (before : WriterView) (after : WriterKept) (serial : ℕ) (kept : after ≡ with_drop_kept before.looks (drop_of before Frame serial)) where
  abbrev drop : DroppedArea
  drop = drop_of before Frame serial

  pub drop_told : HasDrop after Frame serial (newest_number before.published)
  drop_told = record {
    drop = drop;
    among = subst (λ (k : WriterKept). Among k.dropped drop) (sym kept) (0, refl);
    kind_is = refl;
    serial_is = refl;
    published_is = refl;
  }

-- ---- whom it has killed

any_found : {X : Type 0} (p : X → Bool) (xs : List X) → list_any p xs ≡ true → (i : ℕ) × ((x : X) × ((slice_get xs i ≡ Some x) × (p x ≡ true)))
any_found p [] h = absurd (false≢true h)
any_found {X} p (x ∷ xs) h = by_first (any_found p xs) (p x) refl h
  where
    by_first : (list_any p xs ≡ true → (i : ℕ) × ((y : X) × ((slice_get xs i ≡ Some y) × (p y ≡ true)))) → (b : Bool) → p x ≡ b → (b || list_any p xs) ≡ true → (i : ℕ) × ((y : X) × ((slice_get (x ∷ xs) i ≡ Some y) × (p y ≡ true)))
    by_first later true is found = (0, (x, (refl, is)))
    by_first later false is found = let rest = later found in (suc rest.0, (rest.1.0, rest.1.1))

any_from : {X : Type 0} (p : X → Bool) (xs : List X) (i : ℕ) (x : X) → slice_get xs i ≡ Some x → p x ≡ true → list_any p xs ≡ true
any_from p xs i x at passes = list_any_at p xs i x (slice_get_within xs i x at) (ap p (get_or_from_slice_get xs i x x at) ∙ passes)

module _ (begun before : WriterView) (serial : ℕ) (killed : Bool) (clear : AreClear (newest_wait before serial) PROCESSES killed begun before) (agree : AgreesWithLooks before.looks (drop_of before Frame serial)) where
  abbrev gone : DroppedArea
  gone = drop_of before Frame serial

  abbrev look_at : ℕ → ℕ → ℕ → LookedAnchor
  look_at process place word = record { wait = newest_wait before serial; process = process; place = place; told = tells_kill word serial }

  -- each anchor that was found is kept among the looks
  is_kept : (process place word : ℕ) (words : List ℕ) → slice_get clear.rows process ≡ Some words → slice_get words place ≡ Some word → Among before.looks.anchors (look_at process place word)
  is_kept process place word words row at =
      let found = clear.found process words row in
      let l : IsLoaded begun before (look_at process place word) = found.loaded place word at in
      subst (λ ls. Among ls (look_at process place word)) (sym l.kept) (l.among.0, get_front l.since begun.looks.anchors l.among.0 (look_at process place word) l.among.1)

  killed_one : killed ≡ true → HasKilled gone
  killed_one is_so =
      let row = any_found (tells_any serial) clear.rows (sym clear.told ∙ is_so) in
      let cell = any_found (λ word. tells_kill word serial) row.1.0 row.1.1.1 in
      let low : row.0 < 64 = omega (arith, slice_get_within clear.rows row.0 row.1.0 row.1.1.0, clear.all) in
      let few : cell.0 < 16 = omega (arith, slice_get_within row.1.0 cell.0 cell.1.0 cell.1.1.0, clear.wide row.0 row.1.0 row.1.1.0) in
      (row.0, (low, agree.told (look_at row.0 cell.0 cell.1.0) (is_kept row.0 cell.0 cell.1.0 row.1.0 row.1.1.0 cell.1.1.0) refl low few cell.1.1.1))

  one_killed : HasKilled gone → killed ≡ true
  one_killed one =
      let k = agree.killed one.0 one.1.1 in
      let words = get_or clear.rows one.0 [] in
      let low : one.0 < length clear.rows = omega (arith, one.1.0, clear.all) in
      let row : slice_get clear.rows one.0 ≡ Some words = slice_get-get_or clear.rows one.0 [] low in
      let few : k.0 < length words = omega (arith, k.1, clear.wide one.0 words row) in
      let word = get_or words k.0 0 in
      let at : slice_get words k.0 ≡ Some word = slice_get-get_or words k.0 0 few in
      let told : tells_kill word serial ≡ true = k.2 (look_at one.0 k.0 word) (is_kept one.0 k.0 word words row at) refl refl refl in
      clear.told ∙ any_from (tells_any serial) clear.rows one.0 words row (any_from (λ x. tells_kill x serial) words k.0 word at told)

  pub purge_told : (after : WriterKept) → after ≡ with_drop_kept before.looks (drop_of before Frame serial) → HasPurge after serial (newest_number before.published) killed
  unfolding drop_told
  purge_told after kept = record { dropped = drop_told before after serial kept; told = (killed_one, one_killed) }

-- ---- a process that lingers

pub linger_told : (before : WriterView) (after : WriterKept) (serial : ℕ) (linger : Linger) → linger.process < PROCESSES → wait_for before Frame serial ≡ newest_wait before serial
    → after ≡ with_lingering before.looks (lingering_of before linger.process serial linger.turn) → HasLingering after serial (newest_number before.published) linger
linger_told before after serial linger below wait kept = record {
  below = below;
  answer = lingering_of before linger.process serial linger.turn;
  among = subst (λ (k : WriterKept). Among k.lingering (lingering_of before linger.process serial linger.turn)) (sym kept) (0, refl);
  serial_is = refl;
  published_is = ap (λ w. w.generation) wait;
  process_is = refl;
  turn_is = refl;
}
