-- What the functions reach by the words of the active code index, and the list of those that reach an instance.
use Rattle.std.proofs.Common.{◌≡◌, ℕ, ◌+◌, ◌-◌, ◌/◌, ◌%◌, ◌<◌, ◌++◌, true, [], ◌∷◌, List, length, take, get_or, Option, Some, None, refl, sym, ap, ◌∙◌}
use Rattle.std.specs.Prelude.{option_and_then, option_map, slice_get, unwrap_or}
use Rattle.std.specs.List.{cons_option}
use Rattle.std.specs.Option.{option_to_list}
use Rattle.std.proofs.lemmas.List.{take_more}
use Rattle.std.proofs.lemmas.List.Elements.{filter_map-append}
use Rattle.term_core.specs.declared.area.CodeRef.{CodeRef}
use Rattle.term_core.specs.declared.atom.Mfa.{Mfa}
use Rattle.term_core.specs.declared.generation.FunctionRef.{FunctionRef}
use Rattle.area_core.specs.declared.table.Published.{Published}
use Rattle.area_core.specs.Generations.{is_code_word}
use Rattle.area_core.specs.Map.{block_place}
use Rattle.shared_words.specs.declared.seats.Watcher as watching
use Rattle.shared_words.specs.declared.view.WatcherView.{WatcherView}
use Rattle.progress_words.specs.Tokens.{watched_by}
use Rattle.server_core.specs.Generations.{number_of_name}
use Rattle.server_core.specs.ServerState.{Entry}
use Rattle.machine_core.specs.GenerationReads.{reads_in}
use Rattle.machine_core.specs.Reads.{Reads, dispatched}
use Rattle.code_law.proofs.States.{entry_ref, served_calls}
use Rattle.run_law.specs.Observing.{export_read, exports_read}
use Rattle.word_view.specs.Loaded.{IsCodeOf, IsFound, IsWordThere, export_at}
use Rattle.word_view.proofs.Calls.{leads_callable}
use Rattle.word_view.proofs.Exporting.{IsLed, code_reached, leads_on}
use Rattle.word_view.proofs.Standing.{begun_reader}
use Rattle.observers.specs.Watching.{HasRead, HoldsServed, LeadsFrom, as_member, held_by_watching, serial_at, serial_reached}
use Rattle.observers.proofs.Mirrored.{may_begin, of_one}
use Rattle.observers.proofs.Reading.{held_still}

-- ---- one function

-- what the code refers to tells the serial
pub serial_none : (p : Published) (o : Option FunctionRef) → IsCodeOf p o None → None ≡ option_map (λ (f : FunctionRef). f.serial) o
serial_none p None code = refl
serial_none p (Some to) code = absurd code

serial_some : (p : Published) (o : Option FunctionRef) (at : CodeRef) → IsCodeOf p o (Some at) → Some at.area.serial ≡ option_map (λ (f : FunctionRef). f.serial) o
serial_some p None at code = absurd code
serial_some p (Some to) at code = ap Some code.0

-- where the word of the code index is not 0, it tells block and function
pub led_on : (v : WatcherView) (entry word : ℕ) → is_code_word (held_by_watching v) (slice_get (held_by_watching v).state.exports entry) word ≡ true → (word ≡ 0 → ⊥) → IsFound (as_member v) (block_place (held_by_watching v).root.code entry) word → LeadsFrom (as_member v) entry
    → IsLed (as_member v) (export_at (held_by_watching v) entry) word
led_on v entry word is differs found leads =
    let p : Published = held_by_watching v in
    leads_on (as_member v) (slice_get p.state.exports entry) word is differs (leads (block_place p.root.code entry) word found)

-- and the first word of that block is the serial
pub serial_there : (v : WatcherView) (entry word serial : ℕ) → IsLed (as_member v) (export_at (held_by_watching v) entry) word → IsWordThere (as_member v) ((word - 1) / 16) 0 serial → Some serial ≡ serial_at (held_by_watching v) entry
serial_there v entry word serial led there =
    let p : Published = held_by_watching v in
    let at : CodeRef = record { area = record { serial = serial; block = (word - 1) / 16 }; function = (word - 1) % 16 } in
    serial_some p (export_at p entry) at (code_reached (as_member v) (export_at p entry) word serial led there)

module _ (names : List Mfa) (v : WatcherView) (h : HoldsServed names v) (to : Mfa) where
  -- a name with a number leads to a function that may be called, if it leads to one
  pub leads_from : (n : ℕ) → number_of_name names to ≡ Some n → LeadsFrom (as_member v) n
  leads_from n is word found f =
      leads_callable names of_one 0 (as_member v) (begun_reader names of_one 0 (as_member v) word found f (may_begin names v h)) to n is

  -- and to that of the code index
  pub reached_there : (n : ℕ) → number_of_name names to ≡ Some n → serial_at (held_by_watching v) n ≡ serial_reached (reads_in names (held_by_watching v).state) to
  reached_there n is =
      let g = (held_by_watching v).state in
      serial_of_entry (unwrap_or (slice_get g.exports n) None)
      ∙ ap (λ (o : Option ℕ). option_map (λ (e : Entry). e.serial) (option_map entry_ref (option_and_then (λ k. unwrap_or (slice_get g.exports k) None) o))) (sym is)
      ∙ ap (option_map (λ (e : Entry). e.serial)) (sym (served_calls names g h.served.of to))
    where
      serial_of_entry : (o : Option FunctionRef) → option_map (λ (f : FunctionRef). f.serial) o ≡ option_map (λ (e : Entry). e.serial) (option_map entry_ref o)
      serial_of_entry None = refl
      serial_of_entry (Some f) = refl

  -- a name without a number reaches nothing
  pub reached_nowhere : number_of_name names to ≡ None → None ≡ serial_reached (reads_in names (held_by_watching v).state) to
  reached_nowhere is =
      let g = (held_by_watching v).state in
      ap (λ (o : Option ℕ). option_map (λ (e : Entry). e.serial) (option_map entry_ref (option_and_then (λ k. unwrap_or (slice_get g.exports k) None) o))) (sym is)
      ∙ ap (option_map (λ (e : Entry). e.serial)) (sym (served_calls names g h.served.of to))

-- a function with its serial, if it has one
pub export_of : (r : Reads) (to : Mfa) → option_map {U = Mfa × ℕ} (λ (n : ℕ). (to, n)) (serial_reached r to) ≡ export_read r to
export_of r to = by (dispatched r to)
  where
    by : (o : Option Entry) → option_map {U = Mfa × ℕ} (λ (n : ℕ). (to, n)) (option_map (λ (e : Entry). e.serial) o) ≡ option_map {U = Mfa × ℕ} (λ (e : Entry). (to, e.serial)) o
    by None = refl
    by (Some e) = refl

-- ---- all of them

one_more : (r : Reads) (functions : List Mfa) (i : ℕ) (d : Mfa) → i < length functions → exports_read r (take (i + 1) functions) ≡ exports_read r (take i functions) ++ option_to_list (export_read r (get_or functions i d))
one_more r functions i d within =
    ap (exports_read r) (take_more functions i d within)
    ∙ filter_map-append (export_read r) (take i functions) (get_or functions i d ∷ [])
    ∙ ap (λ xs. exports_read r (take i functions) ++ xs) (alone (export_read r (get_or functions i d)))
  where
    alone : (o : Option (Mfa × ℕ)) → cons_option {X = Mfa × ℕ} o [] ≡ option_to_list o
    alone None = refl
    alone (Some x) = refl

-- one more function was read, of the generation that was held before
pub more_read : (names functions : List Mfa) (i : ℕ) (d : Mfa) (a b : watching.Watcher) (before after : List (Mfa × ℕ)) → HasRead a b → i < length functions → before ≡ exports_read (reads_in names (held_by_watching (watched_by a)).state) (take i functions)
    → after ≡ before ++ option_to_list (export_read (reads_in names (held_by_watching (watched_by b)).state) (get_or functions i d)) → after ≡ exports_read (reads_in names (held_by_watching (watched_by a)).state) (take (i + 1) functions)
more_read names functions i d a b before after read within is more =
    let still = held_still a b read in
    more
    ∙ (λ j. is j ++ option_to_list (export_read (reads_in names (still j).state) (get_or functions i d)))
    ∙ sym (one_more (reads_in names (held_by_watching (watched_by a)).state) functions i d within)
