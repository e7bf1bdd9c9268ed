-- What a line's text leaves is what its form leaves; a text of no form is refused.
use Rattle.script_text.proofs.Common.{◌≡◌, ℕ, ◌≤◌, Bool, true, false, cond, not, nat_lt, nat_le, List, [], ◌∷◌, length, Option, Some, None}
use Rattle.script_text.proofs.Common.{option_map, Result, Ok, Err, bytes_eq, Texts, codes, refl, sym, ap, ◌∙◌, map, list_all, list_any, and_parts}
use Rattle.script_text.proofs.Types.{Mfa, ModRef, ScriptCmd, Load, Put, Trace, Spawn, LineCause, Place}
use Rattle.script_text.proofs.Types.{Loading, Unread, Between, Within, Observing, Finished, ScriptReader}
use Rattle.script_text.proofs.Texts.{is_atom_text, term_of, number_in, names_with_all, cut_at, bytes_are}
use Rattle.script_text.proofs.Modules.{LineForm, is_arity_text, is_function_form, line_reading}
use Rattle.script_text.proofs.Forms.{RefForm, AtomCommand, ScriptLine, code, observer, load, on_atom, is_term_form, is_snapshots_text}
use Rattle.script_text.proofs.Forms.{loader, go, onto_last, ref_in, command_of, or_else, is_wide_term, is_long_term, refs_reading}
use Rattle.script_text.proofs.Forms.{command_reading, PutForm, put_reading, TraceForm, trace_reading, CallForm, call_reading, or_syntax, atom_named}
use Rattle.script_text.proofs.Forms.{refs_named, put_named, trace_named, call_named, ref_words, put_words, trace_words, call_words, ◌>>=◌, is_among}
use Rattle.script_text.proofs.Forms.{mfa_added, process_added, step_named, block_step, end_step, step_at, step}
use Rattle.script_text.specs.Reading.{with_command, noted, load_step, atom_step, put_step, trace_step}
use Rattle.script_text.specs.Reading.{spawn_step, command_by, command_step, keyed_step, other_step, line_at}
use Rattle.script_text.specs.declared.fault.Which.TheVariants as which
use Rattle.script_text.specs.declared.reading.cause.LineCause.TheVariants as causes
use Rattle.term_core.proofs.Text.Items.{pass_all}
use Rattle.script_text.proofs.OneLine.{references, call_reader, trace_reader, put_reader, spawn_of, put_of, trace_of}
use Rattle.script_text.proofs.OneLine.{by_word, by_command, observer_of, by_parts, form_reading, by_others, reads}
use Rattle.script_text.proofs.Namings.{or_full, refs_named-is, traced_in, trace_named-is, atom_named-is, Called}
use Rattle.script_text.proofs.Namings.{names_after_call, call_named-is, Keyed, names_after_put, put_named-is}
use Rattle.script_text.proofs.FormSteps.{Stepped, read_step, IsKeyed, head_text, within_text, observing_text, between_text}

abbrev loaded : ScriptReader → ℕ → List ModRef × Texts → Stepped
loaded r number x = Ok (with_command (noted (record r { names = x.1 }) number x.0) (Load x.0))

abbrev done : {X : Type 0} → ScriptReader → (X → ScriptCmd) → X × Texts → Stepped
done r command x = Ok (with_command (record r { names = x.1 }) (command x.0))

-- a command whose names find room leaves what its line does, and any other is refused alike
by_names : {X : Type 0} (r : ScriptReader) (number : ℕ) (line : ScriptLine) (value : X) (leave : X → Stepped) (after : Texts) → leave value ≡ step_named r number line after → (t : Bool) → (cond t (Err (causes.Limit which.Names)) (Ok value) >>= leave) ≡ (cond t (Err (causes.Limit which.Names)) (Ok after) >>= step_named r number line)
by_names r number line value leave after same true = refl
by_names r number line value leave after same false = same

-- so it does behind the limits of its terms
by_limits : {X : Type 0} (r : ScriptReader) (number : ℕ) (line : ScriptLine) (value : X) (leave : X → Stepped) (after : Texts) → leave value ≡ step_named r number line after → (wide long t : Bool) → (cond wide (Err (causes.Limit which.Integer)) (cond long (Err (causes.Limit which.Term)) (cond t (Err (causes.Limit which.Names)) (Ok value))) >>= leave) ≡ cond wide (Err (causes.Limit which.Integer)) (cond long (Err (causes.Limit which.Term)) (cond t (Err (causes.Limit which.Names)) (Ok after) >>= step_named r number line))
by_limits r number line value leave after same true long t = refl
by_limits r number line value leave after same false true t = refl
by_limits r number line value leave after same false false t = by_names r number line value leave after same t

abbrev put_done : ScriptReader → Keyed → Stepped
put_done r x = Ok (with_command (record r { names = x.2 }) (Put (record { 0 = x.0 }) (term_of x.1)))

abbrev with_call : ScriptReader → Called → Stepped
with_call r x = mfa_added r.functions x.0 >>= λ functions. process_added r.processes >>= λ processes. Ok (with_command (record r { names = x.2; functions = functions; processes = processes }) (Spawn x.0 x.1))

module _ (r : ScriptReader) (number : ℕ) where
  -- a choice of two readings is one of their steps
  choose : (p : Place) (x y : Stepped) (a b : Option ScriptLine) (t : Bool) → x ≡ read_step r number p a → y ≡ read_step r number p b → cond t x y ≡ read_step r number p (cond t a b)
  choose p x y a b true e f = e
  choose p x y a b false e f = f

  no_code : (o : Option LineForm) → Err causes.Syntax ≡ read_step r number Loading (option_map (λ l. code l) o)
  no_code None = refl
  no_code (Some l) = refl

  no_observer : (o : Option (List ℕ)) → Err causes.Syntax ≡ read_step r number Loading (option_map (λ count. observer count) o)
  no_observer None = refl
  no_observer (Some count) = refl

  load_text : (rest : List ℕ) → length r.names ≤ 4096 → load_step r number rest ≡ read_step r number Loading (option_map (λ refs. load refs) (refs_reading rest))
  unfolding load_step
  load_text rest room = by_form (refs_reading rest) refl
    where
      by_given : (refs : List ModRef) (after : Texts) (t : Bool) → with_command (cond t (record r { names = after }) (record r { names = after; unknown = or_else r.unknown (Some number) })) (Load refs) ≡ record r { names = after; loaders = onto_last r.loaders (Load refs); unknown = cond t r.unknown (or_else r.unknown (Some number)) }
      by_given refs after true = refl
      by_given refs after false = refl

      by_form : (o : Option (List RefForm)) → refs_reading rest ≡ o → (or_syntax (option_map (map ref_words) o) >>= λ forms. refs_named r.names forms >>= loaded r number) ≡ read_step r number Loading (option_map (λ refs. load refs) o)
      by_form None e = refl
      by_form (Some refs) e =
          let after = names_with_all r.names (map (λ (f : RefForm). f.name) refs) in
          ap (λ (s : Result (List ModRef × Texts) LineCause). s >>= loaded r number) (refs_named-is _ refs (pass_all _ refs (references.is rest refs e).fits.1) room)
          ∙ by_names r number (load refs) (map (ref_in after) refs, after) (loaded r number) after (ap (λ (s : ScriptReader). let so : Stepped = Ok s in so) (by_given (map (ref_in after) refs) after (list_all (is_among r.titles) (map (ref_in after) refs)))) _

  atom_text : (text word rest : List ℕ) → atom_step r word rest ≡ read_step r number Loading (by_word (command_reading word) rest (option_map (λ l. code l) (line_reading text)))
  unfolding atom_step
  atom_text text word rest = by_command_of (command_reading word)
    where
      by_atom : (c : AtomCommand) (t : Bool) → is_atom_text rest ≡ t → (atom_named r.names rest >>= done r (λ n. command_of c (record { 0 = n }))) ≡ read_step r number Loading (option_map (λ n. on_atom c n) (cond t (Some rest) None))
      by_atom c true e =
          let after = names_with_all r.names (rest ∷ []) in
          ap (λ (s : Result (ℕ × Texts) LineCause). s >>= done r (λ n. command_of c (record { 0 = n }))) (atom_named-is r.names rest e)
          ∙ by_names r number (on_atom c rest) (number_in after rest, after) (done r (λ n. command_of c (record { 0 = n }))) after refl (nat_lt 4096 (length after))
      by_atom c false e = ap (λ t. cond (not t) (Err causes.Syntax) (or_full (λ names. number_in names rest) (names_with_all r.names (rest ∷ []))) >>= done r (λ n. command_of c (record { 0 = n }))) e

      by_command_of : (o : Option AtomCommand) → (or_syntax o >>= λ c. atom_named r.names rest >>= done r (λ n. command_of c (record { 0 = n }))) ≡ read_step r number Loading (by_word o rest (option_map (λ l. code l) (line_reading text)))
      by_command_of None = no_code (line_reading text)
      by_command_of (Some c) = by_atom c (is_atom_text rest) refl

  trace_text : (rest : List ℕ) → trace_step r rest ≡ read_step r number Loading (option_map trace_of (trace_reading rest))
  unfolding trace_step
  trace_text rest = by_form (trace_reading rest) refl
    where
      by_form : (o : Option TraceForm) → trace_reading rest ≡ o → (or_syntax (option_map trace_words o) >>= λ form. trace_named r.names form >>= done r (λ target. Trace target form.on)) ≡ read_step r number Loading (option_map trace_of o)
      by_form None e = refl
      by_form (Some t) e =
          let sound = and_parts (is_atom_text t.«module») (is_function_form t.name t.arity) (trace_reader.is rest t e).fits in
          let name = (and_parts (is_atom_text t.name) (is_arity_text t.arity) sound.1).0 in
          let after = names_with_all r.names (t.«module» ∷ t.name ∷ []) in
          ap (λ (s : Result (Mfa × Texts) LineCause). s >>= done r (λ target. Trace target t.on)) (trace_named-is r.names t sound.0 name)
          ∙ by_names r number (trace_of t) (traced_in after t, after) (done r (λ target. Trace target t.on)) after refl (nat_lt 4096 (length after))

  put_text : (rest : List ℕ) → put_step r rest ≡ read_step r number Loading (option_map put_of (put_reading rest))
  unfolding put_step
  put_text rest = by_form (put_reading rest) refl
    where
      by_form : (o : Option PutForm) → put_reading rest ≡ o → (or_syntax (option_map put_words o) >>= λ form. put_named r.names form >>= put_done r) ≡ read_step r number Loading (option_map put_of o)
      by_form None e = refl
      by_form (Some p) e =
          let sound = and_parts (is_atom_text p.key) (is_term_form p.term) (put_reader.is rest p e).fits in
          ap (λ (s : Result Keyed LineCause). s >>= put_done r) (put_named-is r.names p sound.0 sound.1) ∙ by_limits r number (put_of p) _ (put_done r) (names_after_put r.names p) refl (is_wide_term p.term) (is_long_term p.term) _

  spawn_text : (rest : List ℕ) → length r.names ≤ 4096 → spawn_step r rest ≡ read_step r number Loading (option_map spawn_of (call_reading rest))
  unfolding spawn_step
  spawn_text rest room = by_form (call_reading rest) refl
    where
      by_form : (o : Option CallForm) → call_reading rest ≡ o → (or_syntax (option_map call_words o) >>= λ form. call_named r.names form >>= with_call r) ≡ read_step r number Loading (option_map spawn_of o)
      by_form None e = refl
      by_form (Some c) e =
          let p = and_parts (is_atom_text c.«module») _ (call_reader.is rest c e).fits in
          let q = and_parts (is_atom_text c.name) _ p.1 in
          let s = and_parts (nat_le (length c.args) 15) (list_all is_term_form c.args) q.1 in
          ap (λ (s : Result Called LineCause). s >>= with_call r) (call_named-is r.names c p.0 q.0 s.1 room) ∙ by_limits r number (spawn_of c) _ (with_call r) (names_after_call r.names c) refl (list_any is_wide_term c.args) (list_any is_long_term c.args) _

  -- where the word is none of the place's
  no_word : (word rest : List ℕ) → word ≡ codes "observer" → command_by r number (Some (word, rest)) ≡ Err causes.Syntax
  unfolding atom_step
  no_word word rest e = ap (λ (w : List ℕ). command_by r number (Some (w, rest))) e

  words_text : (text word rest : List ℕ) → length r.names ≤ 4096 → command_by r number (Some (word, rest)) ≡ read_step r number Loading (by_parts text (Some (word, rest)))
  words_text text word rest room = by_observer (bytes_eq word (codes "observer")) refl
    where
      commands : command_by r number (Some (word, rest)) ≡ read_step r number Loading (by_command text (word, rest))
      commands =
          choose Loading (load_step r number rest) _ (option_map (λ refs. load refs) (refs_reading rest)) _ (bytes_eq word (codes "load")) (load_text rest room)
          (choose Loading (spawn_step r rest) _ (option_map spawn_of (call_reading rest)) _ (bytes_eq word (codes "spawn")) (spawn_text rest room)
          (choose Loading (trace_step r rest) _ (option_map trace_of (trace_reading rest)) _ (bytes_eq word (codes "trace")) (trace_text rest)
          (choose Loading (put_step r rest) (atom_step r word rest) (option_map put_of (put_reading rest)) _ (bytes_eq word (codes "put")) (put_text rest) (atom_text text word rest))))

      by_observer : (t : Bool) → bytes_eq word (codes "observer") ≡ t → command_by r number (Some (word, rest)) ≡ read_step r number Loading (cond t (observer_of rest) (by_command text (word, rest)))
      by_observer true e = no_word word rest (bytes_are word (codes "observer") e) ∙ no_observer (cond (is_snapshots_text rest) (Some rest) None)
      by_observer false e = commands

  pub command_text : (text : List ℕ) → length r.names ≤ 4096 → IsKeyed text → command_step r number text ≡ read_step r number Loading (form_reading text)
  unfolding atom_step
  command_text text room k = by_head (bytes_eq text (codes "beam script 1")) refl
    where
      differs : (key : List ℕ) → bytes_eq text key ≡ false → bytes_eq key key ≡ true → text ≡ key → ⊥
      differs key other itself is = let same : bytes_eq text key ≡ true = ap (λ (t : List ℕ). bytes_eq t key) is ∙ itself in cc

      by_cut : (o : Option (List ℕ × List ℕ)) → command_by r number o ≡ read_step r number Loading (by_parts text o)
      by_cut None = no_code (line_reading text)
      by_cut (Some (word, rest)) = words_text text word rest room

      by_head : (t : Bool) → bytes_eq text (codes "beam script 1") ≡ t → command_by r number (cut_at 32 text) ≡ read_step r number Loading (form_reading text)
      by_head true e =
          let is = bytes_are text (codes "beam script 1") e in
          ap (λ (t : List ℕ). command_by r number (cut_at 32 t)) is ∙ sym (ap (λ (t : List ℕ). read_step r number Loading (form_reading t)) is)
      by_head false e =
          by_cut (cut_at 32 text)
          ∙ sym (ap (read_step r number Loading) (by_others text (record { no_head = differs (codes "beam script 1") e refl; no_loader = differs (codes "loader") k.no_loader refl; no_go = differs (codes "go") k.no_go refl })))

  -- ---- what a line's text leaves is what its form leaves; a text of no form is refused

  -- a text that may be `loader` or `go`, or is another
  other_text : (text : List ℕ) (p : Place) → r.place ≡ p → step_at r number p loader ≡ block_step r → step_at r number p go ≡ end_step r → (IsKeyed text → keyed_step r number text p ≡ read_step r number p (form_reading text)) → other_step r number text ≡ read_step r number p (form_reading text)
  other_text text p place starts ends keyed = by_loader (bytes_eq text (codes "loader")) refl
    where
      by_go : (t : Bool) → bytes_eq text (codes "loader") ≡ false → bytes_eq text (codes "go") ≡ t → cond t (end_step r) (keyed_step r number text r.place) ≡ read_step r number p (form_reading text)
      by_go true no_loader e = sym (ap (read_step r number p) (reads text go (record { text_is = bytes_are text _ e; sound = refl })) ∙ ends)
      by_go false no_loader e = ap (keyed_step r number text) place ∙ keyed (record { no_loader = no_loader; no_go = e })

      by_loader : (t : Bool) → bytes_eq text (codes "loader") ≡ t → cond t (block_step r) (cond (bytes_eq text (codes "go")) (end_step r) (keyed_step r number text r.place)) ≡ read_step r number p (form_reading text)
      by_loader true e = sym (ap (read_step r number p) (reads text _ (record { text_is = bytes_are text _ e; sound = refl })) ∙ starts)
      by_loader false e = by_go _ e refl

  nothing_more : (o : Option ScriptLine) → Err causes.Syntax ≡ read_step r number Finished o
  nothing_more None = refl
  nothing_more (Some line) = refl

  -- what a text leaves is what the line that it is read as leaves
  pub line_text : (text : List ℕ) → length r.names ≤ 4096 → line_at r number text r.place ≡ (or_syntax (form_reading text) >>= step r number)
  line_text text room = by_place r.place refl
    where
      by_place : (p : Place) → r.place ≡ p → line_at r number text p ≡ read_step r number p (form_reading text)
      by_place Unread place = head_text r number text
      by_place Between place = other_text text Between place refl refl (between_text r number text)
      by_place Within place = within_text r number text
      by_place Observing place = other_text text Observing place refl refl (observing_text r number text)
      by_place Loading place = other_text text Loading place refl refl (command_text text room)
      by_place Finished place = nothing_more (form_reading text)
