-- That a process is the same under a later state of the server, where each area that was known has its words still.
use Rattle.std.proofs.Common.{◌≡◌, ◌≢◌, ◌⊎◌, ◌<◌, ◌+◌, ◌*◌, ◌∙◌, ℕ, true, refl, sym, ap, arith, inl, inr, subst, All, List, [], ◌∷◌, length, map, reverse, Option, Some, None, is_some, option_map, unwrap_or}
use Rattle.std.proofs.lemmas.List.Elements.{All-head, All-tail}
use Rattle.std.proofs.lemmas.List.{length-map, length-reverse}
use Rattle.term_core.specs.Image.{IsImageAt, term_at}
use Rattle.term_core.specs.Plain.{term_of}
use Rattle.term_core.specs.PlainTerm.{PlainTerm, atom_leaf, integer_leaf, list_of, term_words, tuple_of}
use Rattle.mod_core.specs.declared.code.Module.{Module}
use Rattle.server_core.specs.ServerState.{ServerState, code_of, term_of_area, words_of_area}
use Rattle.machine_core.specs.declared.process.Frame.{Frame}
use Rattle.machine_core.specs.declared.process.LitRef.{LitRef}
use Rattle.machine_core.specs.declared.process.Process.{Process}
use Rattle.machine_core.specs.declared.process.Value.{Value}
use Rattle.machine_core.specs.declared.process.Value.TheVariants.{Literal, Owned}
use Rattle.machine_core.specs.Process.{frame_of, frames_of, literal, process_of, value_shown, values_shown, Words}
use Rattle.machine_core.specs.View.{AreValues, HasValues, IsLiteral, IsNoEntry, IsReadable, IsValue, server_words, shown_of}
use Rattle.machine_core.specs.LaterStates.{HasAreas, HasWords}
use Rattle.machine_core.specs.ServerReads.{reads_of}

-- no frame stands for none
no_frames : (words : Words) (fs : List Frame) → frames_of words fs ≡ [] → fs ≡ []
no_frames words [] h = refl
no_frames words (f ∷ fs) h = absurd (omega (arith, ap length h, length-reverse (map (frame_of words) (f ∷ fs)), length-map (f ∷ fs) (frame_of words)))

-- a process without frames stands for the same whatever the words are
pub frameless_same : (words others : Words) (p : Process) → (process_of words p).frames ≡ [] → process_of others p ≡ process_of words p
frameless_same words others p h =
    let none = no_frames words p.frames h in
    ap (λ frames. record { number = p.number; target = p.target; args = p.args; turns = p.turns; frames = frames }) (ap (frames_of others) none ∙ ap (frames_of words) (sym none))

-- an area of these words
abbrev IsKnown : ServerState → ℕ → Type 0
IsKnown s serial = (words : List ℕ) × (words_of_area s serial ≡ Some words)

known_in : (s : ServerState) (serial at : ℕ) (o : Option (List ℕ)) → words_of_area s serial ≡ o → at < length (unwrap_or o []) → IsKnown s serial
known_in s serial at None e h = absurd (omega (arith, h))
known_in s serial at (Some words) e h = (words, e)

-- what may be read is a word of an area
readable_known : (s : ServerState) (serial at : ℕ) → IsReadable (shown_of s) serial at → IsKnown s serial
readable_known s serial at h = known_in s serial at (words_of_area s serial) refl h.within

some_word : (t : PlainTerm) → 0 < term_words t
some_word (integer_leaf z) = omega arith
some_word (atom_leaf a) = omega arith
some_word (tuple_of row) = omega arith
some_word (list_of row) = omega arith

words_case : (before after : ServerState) (serial : ℕ) (known : IsKnown before serial) → HasWords before after → server_words after serial ≡ server_words before serial
words_case before after serial known h = rw (h serial known.0 known.1, known.1) refl

module _ (before after : ServerState) (has : HasWords before after) where
  -- the words of a literal's area
  words_same : (at : LitRef) → IsLiteral (shown_of before) at → server_words after at.area.serial ≡ server_words before at.area.serial
  words_same at l = words_case before after at.area.serial (readable_known before at.area.serial (at.at + 0) (l.readable 0 (some_word l.term))) has

  value_same : (value : Value) → IsValue (shown_of before) value → value_shown (server_words after) value ≡ value_shown (server_words before) value
  value_same (Owned term) h = refl
  value_same (Literal at) h = ap (λ words. literal at.area.serial (term_of (term_at words at.at))) (words_same at h)

  values_same : (values : List Value) → All (IsValue (shown_of before)) values → values_shown (server_words after) values ≡ values_shown (server_words before) values
  values_same [] h = refl
  values_same (value ∷ values) h =
      ap (λ v. v ∷ values_shown (server_words after) values) (value_same value (All-head (IsValue (shown_of before)) value values h))
      ∙ ap (λ vs. value_shown (server_words before) value ∷ vs) (values_same values (All-tail (IsValue (shown_of before)) value values h))

  frame_same : (f : Frame) → HasValues (shown_of before) f → frame_of (server_words after) f ≡ frame_of (server_words before) f
  frame_same f h = ap (λ rs. record { serial = f.code.area.serial; function = f.code.function; place = f.place; back = f.back; registers = rs }) (values_same f.registers h.1)

  frames_same : (fs : List Frame) → AreValues (shown_of before) fs → map (frame_of (server_words after)) fs ≡ map (frame_of (server_words before)) fs
  frames_same [] h = refl
  frames_same (f ∷ fs) h =
      ap (λ g. g ∷ map (frame_of (server_words after)) fs) (frame_same f (All-head (HasValues (shown_of before)) f fs h))
      ∙ ap (λ gs. frame_of (server_words before) f ∷ gs) (frames_same fs (All-tail (HasValues (shown_of before)) f fs h))

  pub frames_later : (fs : List Frame) → AreValues (shown_of before) fs → frames_of (server_words after) fs ≡ frames_of (server_words before) fs
  frames_later fs h = ap reverse (frames_same fs h)

  -- a process stands for the same under the later state
  pub process_later : (p : Process) → AreValues (shown_of before) p.frames → process_of (server_words after) p ≡ process_of (server_words before) p
  process_later p h = ap (λ frames. record { number = p.number; target = p.target; args = p.args; turns = p.turns; frames = frames }) (frames_later p.frames h)

module _ (before after : ServerState) (has : HasAreas before after) where
  -- an area without code or term has no words
  nothing_known : (serial : ℕ) → code_of before serial ≡ None → term_of_area before serial ≡ None → IsKnown before serial → ⊥
  nothing_known serial c t known = let e : None ≡ Some known.0 = rw (c, t) at known.1 in cc

  no_entry_later : (serial at : ℕ) (o : Option Module) (r : Option PlainTerm) → code_of before serial ≡ o → term_of_area before serial ≡ r → IsKnown before serial →
      (is_some r ≡ true) ⊎ ((i : ℕ) → i < unwrap_or (option_map (λ m. length m.functions) o) 0 → at ≢ 4 + 4 * i + 2) →
      ((reads_of after).is_term serial ≡ true) ⊎ IsNoEntry (reads_of after) serial at
  no_entry_later serial at o (Some t) c e known h = inl (rw (has.terms serial t e) refl)
  no_entry_later serial at None None c e known h = absurd (nothing_known serial c e known)
  no_entry_later serial at (Some m) None c e known (inl h) = absurd (cc)
  no_entry_later serial at (Some m) None c e known (inr h) = inr (rw (has.instances serial m c) h)

  readable_later : (serial at : ℕ) → IsReadable (shown_of before) serial at → IsReadable (shown_of after) serial at
  readable_later serial at h =
      let known = readable_known before serial at h in
      record {
        within = subst (λ words. at < length words) (sym (words_case before after serial known has.words)) h.within;
        no_entry = no_entry_later serial at (code_of before serial) (term_of_area before serial) refl refl known h.no_entry;
      }

  literal_later : (at : LitRef) → IsLiteral (shown_of before) at → IsLiteral (shown_of after) at
  literal_later at l = record {
    stands = l.stands;
    term = l.term;
    image = subst (λ words. IsImageAt words at.at l.term) (sym (words_same before after has.words at l)) l.image;
    readable = λ i h. readable_later at.area.serial (at.at + i) (l.readable i h);
  }

  value_later : (value : Value) → IsValue (shown_of before) value → IsValue (shown_of after) value
  value_later (Owned term) h = tt
  value_later (Literal at) h = literal_later at h

  -- and its literals begin images still
  pub values_later : (fs : List Frame) → AreValues (shown_of before) fs → AreValues (shown_of after) fs
  values_later fs h k d l = ((h k d l).0, λ j e m. value_later _ ((h k d l).1 j e m))
