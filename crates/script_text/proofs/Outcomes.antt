-- What a text comes to: the script that its lines say, or its fault; lines that are not refused are all read.
use Rattle.std.proofs.Common.{◌≡◌, ℕ, ◌+◌, Bool, true, false, not, ◌&&◌, nat_lt, List, [], ◌∷◌, ◌++◌, length, Result, Ok, Err}
use Rattle.std.proofs.Common.{bytes_eq, codes, IsTrue, refl, ap, ◌∙◌, arith, ◌<◌, ◌≤◌, ◌==◌, cond, Option, Some, None, ◌⊎◌}
use Rattle.std.proofs.Common.{inl, inr, sym, subst, append-nil, drop, slice_get, length-append, append_assoc}
use Rattle.script_text.proofs.Common.{AllByRecursion, nat_tests, map, Texts, take-append-drop, IfOk, IfErr}
use Rattle.script_text.proofs.Texts.{failed, bytes_are, lines_of_text, as_last_line, all_lines, some_is, passed}
use Rattle.script_text.proofs.Modules.{has_no_line, IsScript}
use Rattle.script_text.proofs.Types.{ScriptFault, Finished, Script, LineCause, Place}
use Rattle.script_text.proofs.Forms.{ScriptLine, go, script_line_written, is_script_line, IsLine, ◌>>=◌, or_syntax, Known, step, steps, opening}
use Rattle.script_text.proofs.Forms.{IsShort, AreAllLines, ScriptText, IsMisplaced, Reaches, MisplacedAt, FaultyAt, FaultOf, at_line, line_judged}
use Rattle.script_text.proofs.Forms.{go_on, text_on, line_at, script_known, ended_at, text_ended, bytes_on, script_reading, fault_at, FailsWith}
use Rattle.script_text.proofs.Forms.{GivesText}
use Rattle.script_text.proofs.OneLine.{reads, form_reading, one_line, form_is}
use Rattle.script_text.proofs.LineForms.{line_text}
use Rattle.script_text.proofs.TextSteps.{written, IsPrefix, at_front, room_of, one_more, reaches}
use Rattle.script_text.proofs.TextSteps.{all_count, ended_count, no_bytes, some_length, written_length}
use Rattle.script_text.proofs.StepMoves.{moves, AreSound, bind_ok, length-snoc, go_ends, go_fails, ok_is}
use Rattle.script_text.proofs.StepKept.{IsKept, kept_by, go_only, never_wanting, steps_kept, opening_kept}
use Rattle.term_core.specs.Gives.{GivesUnless, RefusesUnless}
use Rattle.script_text.specs.declared.fault.ScriptFault.TheVariants.{NoMemory}
use Rattle.script_text.specs.declared.fault.ScriptFault.TheVariants as faults
use Rattle.script_text.proofs.Sound.{sound_of}
use Rattle.script_text.specs.declared.reading.cause.LineCause.TheVariants as causes

-- a line that is not refused is read
one_step : (line : ScriptLine) (number : ℕ) (s next : Known) (last : Bool) → IsKept s number → IsTrue (is_script_line line) → IsShort line → step s number line ≡ Ok next → (last && not (bytes_eq (script_line_written line) (codes "go"))) ≡ false → line_judged s number last (script_line_written line) ≡ Ok next
one_step line number s next last h sound short e goes_on =
    let text = script_line_written line in
    let small : nat_lt 4096 (length text) ≡ false = grind (arith, nat_tests) in
    failed _ _ _ small ∙ failed _ _ _ goes_on
    ∙ ap (at_line number) (line_text s _ text h.room ∙ ap (λ o. or_syntax o >>= step s number) (reads text line (record { text_is = refl; sound = sound })) ∙ e)

last_step : (line : ScriptLine) (t : Bool) → (t ≡ true → line ≡ go) → (t && not (bytes_eq (script_line_written line) (codes "go"))) ≡ false
last_step line false is = refl
last_step line true is = ap (λ (l : ScriptLine). not (bytes_eq (script_line_written l) (codes "go"))) (is refl)

-- lines that are not refused are read, where the text goes on behind them or the script is finished
pub run : (todo : List ScriptLine) (number : ℕ) (others : Texts) (tail : List ℕ) (s known : Known) → IsKept s number → AreSound todo → AllByRecursion IsShort todo → steps s number todo ≡ Ok known → (has_no_line others tail ≡ true → known.place ≡ Finished) → text_on s number (written todo ++ others) tail ≡ text_on known (length todo + number) others tail
run [] number others tail s known h sound short e finished =
    let same = ok_is s known e in
    let none : number ≡ length {A = ScriptLine} [] + number = omega arith in
    λ i. text_on (same i) (none i) others tail
run (line ∷ []) number others tail s known h sound short e finished =
    let first = bind_ok (step s number line) (λ next. steps next (number + 1) []) known e in
    let same = ok_is first.0 known first.2 in
    let one : number + 1 ≡ length (line ∷ []) + number = omega arith in
    let is_go = λ (end : has_no_line others tail ≡ true). go_only s number (moves s number line first.0 first.1) (ap (λ (k : Known). k.place) same ∙ finished end) in
    ap (λ (x : Result Known ScriptFault). go_on x (λ n. text_on n (number + 1) others tail)) (one_step line number s first.0 (has_no_line others tail) h sound.0 short.0 first.1 (last_step line (has_no_line others tail) is_go))
    ∙ (λ i. text_on (same i) (one i) others tail)
run (line ∷ l ∷ todo) number others tail s known h sound short e finished =
    let first = bind_ok (step s number line) (λ next. steps next (number + 1) (l ∷ todo)) known e in
    let more : length (l ∷ todo) + (number + 1) ≡ length (line ∷ l ∷ todo) + number = omega arith in
    ap (λ (x : Result Known ScriptFault). go_on x (λ n. text_on n (number + 1) (written (l ∷ todo) ++ others) tail)) (one_step line number s first.0 false h sound.0 short.0 first.1 refl)
    ∙ run (l ∷ todo) (number + 1) others tail first.0 known (kept_by s number h (moves s number line first.0 first.1)) sound.1 short.1 first.2 finished
    ∙ ap (λ (n : ℕ). text_on known n others tail) more

-- ---- what a text comes to: the script that its lines say, or its fault

-- what a text comes to
abbrev pub Comes : List ℕ → Result Script ScriptFault → Type 0
Comes text (Ok s) = ScriptText text s
Comes text (Err fault) = FaultOf text fault

-- ---- the end of a text

module _ (text : List ℕ) (before : List ScriptLine) (known : Known) where
  all_read : IsPrefix text before known [] → (lines_of_text text).tail ≡ [] → known.place ≡ Finished → AreAllLines text before known
  all_read p none place = record {
    short = p.short;
    lines_are = record { written = p.cut ∙ append-nil _; sound = p.sound; short = p.short_lines; known_is = p.known_is };
    nothing_more = none;
    finished = place;
  }

  known_comes : (o : Option ℕ) → AreAllLines text before known → known.unknown ≡ o → Comes text (script_known known o)
  known_comes None a e = record { lines = before; known = known; whole = a; found = e; value = refl }
  known_comes (Some number) a e = record { lines = before; known = known; whole = a; first = e }

  no_text : IsPrefix text before known [] → (lines_of_text text).tail ≡ [] → before ≡ [] → FaultOf text (faults.Syntax (length before + 1))
  no_text p none empty = inl (no_bytes text (p.cut ∙ append-nil _ ∙ ap (map _) empty) none, ap (λ (ls : List ScriptLine). length ls + 1) empty)

  -- no line is left, and the text ends with a line feed, or is empty
  nothing_left : (p : Place) → known.place ≡ p → IsPrefix text before known [] → (lines_of_text text).tail ≡ [] → (before ≡ []) ⊎ (known.place ≡ Finished) → Comes text (ended_at known (length before + 1) p)
  nothing_left Finished place p none finished = known_comes known.unknown (all_read p none place) refl
  nothing_left now place p none (inr finished) = let other : now ≡ Finished = sym place ∙ finished in absurd cc
  nothing_left now place p none (inl empty) = no_text p none empty

  -- no line is left that ends with a line feed
  text_ends : (tail : List ℕ) → (lines_of_text text).tail ≡ tail → IsPrefix text before known [] → (has_no_line [] tail ≡ true → (before ≡ []) ⊎ (known.place ≡ Finished)) → Comes text (text_ended known (length before + 1) tail)
  text_ends [] e p finished = nothing_left known.place refl p e (finished refl)
  text_ends (b ∷ bytes) e p finished = by_long (nat_lt 4096 (length (b ∷ bytes))) refl
    where
      by_long : (t : Bool) → nat_lt 4096 (length (b ∷ bytes)) ≡ t → Comes text (cond t (Err (faults.LineTooLong (length before + 1))) (cond (length (b ∷ bytes) == 0) (ended_at known (length before + 1) known.place) (Err (faults.Syntax (length before + 1)))))
      by_long true long = record {
        before = before;
        known = known;
        line = b ∷ bytes;
        reached = reaches text before known [] [] (b ∷ bytes) p (ap as_last_line e);
        number_is = refl;
        long = grind (arith, nat_tests);
      }
      by_long false long =
          let count : length (lines_of_text text).ended ≡ length before = let c = ended_count text before known [] p in omega (arith, c) in
          let at : MisplacedAt text (length before + 1) = record {
            before = before;
            known = known;
            line = b ∷ bytes;
            reached = reaches text before known [] [] (b ∷ bytes) p (ap as_last_line e);
            number_is = refl;
            short = grind (arith, nat_tests);
            misplaced = inl count;
          } in
          subst (λ (t : Bool). Comes text (cond t (ended_at known (length before + 1) known.place) (Err (faults.Syntax (length before + 1))))) (sym (some_length b bytes)) (inr at)

-- ---- a line

-- a limit, or something given again
abbrev pub IsLate : LineCause → Type 0
IsLate causes.Syntax = ⊥
IsLate causes.NoMemory = ⊥
IsLate cause = Unit {0}

not_end : (texts : Texts) (tail : List ℕ) → has_no_line texts tail ≡ false → 0 < length texts + length (as_last_line tail)
not_end [] [] e = absurd cc
not_end [] (b ∷ bytes) e = omega arith
not_end (line ∷ texts) tail e = omega arith

-- a line that is refused behind lines that are not, and does not end the text
record IsAt (text : List ℕ) (before : List ScriptLine) (known : Known) (line : List ℕ) (texts : Texts) : Type 0 where
  prefix : IsPrefix text before known (line ∷ texts)
  short : length line ≤ 4096
  goes_on : (has_no_line texts (lines_of_text text).tail && not (bytes_eq line (codes "go"))) ≡ false

module _ (text : List ℕ) (before : List ScriptLine) (known : Known) (line : List ℕ) (texts : Texts) where
  at_reached : IsPrefix text before known (line ∷ texts) → Reaches text before known line
  at_reached p = reaches text _ known _ _ line p refl

  late_at : (form : ScriptLine) (cause : LineCause) → IsAt text before known line texts → IsLine line form → step known (length before + 1) form ≡ Err cause → IsLate cause → FaultyAt text (length before + 1) cause
  late_at form cause at is e late = by_end (has_no_line texts (lines_of_text text).tail) refl at.goes_on
    where
      by_go : (t : Bool) → bytes_eq line (codes "go") ≡ t → not t ≡ false → FaultyAt text (length before + 1) cause
      by_go true is_go g =
          let same : form ≡ go = one_line line form go is (record { text_is = bytes_are line (codes "go") is_go; sound = refl }) in
          absurd (subst IsLate (go_fails known (length before + 1) cause (ap (step known (length before + 1)) (sym same) ∙ e)) late)
      by_go false is_go g = absurd cc

      by_end : (t : Bool) → has_no_line texts (lines_of_text text).tail ≡ t → (t && not (bytes_eq line (codes "go"))) ≡ false → FaultyAt text (length before + 1) cause
      by_end true f g = by_go (bytes_eq line (codes "go")) refl g
      by_end false f g =
          let more = not_end texts (lines_of_text text).tail f in
          let all = all_count text before known (line ∷ texts) at.prefix in
          let ended = ended_count text before known (line ∷ texts) at.prefix in
          record {
            before = before;
            known = known;
            line = line;
            reached = at_reached at.prefix;
            number_is = refl;
            short = at.short;
            more = omega (arith, more, all);
            ended = omega (arith, ended);
            form = form;
            form_is = is;
            cause_is = e;
          }

-- what is known with a line more
record IsMore (text : List ℕ) (before : List ScriptLine) (known : Known) (line : List ℕ) (texts : Texts) (next : Known) : Type 0 where
  at : IsAt text before known line texts
  form : ScriptLine
  form_is : IsLine line form
  step_is : step known (length before + 1) form ≡ Ok next

last_alone : (texts : Texts) (tail : List ℕ) → has_no_line texts tail ≡ true → length texts + length (as_last_line tail) ≡ 0
last_alone [] [] e = refl
last_alone [] (b ∷ bytes) e = absurd cc
last_alone (line ∷ texts) tail e = absurd cc

module _ (text : List ℕ) (before : List ScriptLine) (known : Known) (line : List ℕ) (texts : Texts) where
  -- a line is read, or refused
  line_comes : IsAt text before known line texts → (more : Known → Result Script ScriptFault) → ((next : Known) → IsMore text before known line texts next → Comes text (more next)) → Comes text (go_on (at_line (length before + 1) (line_at known (length before + 1) line known.place)) more)
  line_comes at more rest =
      subst (λ (s : Result Known LineCause). Comes text (go_on (at_line (length before + 1) s) more)) (sym (line_text known (length before + 1) line (room_of text before known (line ∷ texts) at.prefix))) (by_form (form_reading line) refl)
    where
      misplaced : ((form : ScriptLine) → IsLine line form → step known (length before + 1) form ≡ Err causes.Syntax) → MisplacedAt text (length before + 1)
      misplaced none = record { before = before; known = known; line = line; reached = at_reached text before known line texts at.prefix; number_is = refl; short = at.short; misplaced = inr (inr none) }

      by_step : (form : ScriptLine) → IsLine line form → (s : Result Known LineCause) → step known (length before + 1) form ≡ s → Comes text (go_on (at_line (length before + 1) s) more)
      by_step form is (Ok next) e = rest next (record { at = at; form = form; form_is = is; step_is = e })
      by_step form is (Err causes.Syntax) e = inr (misplaced (λ other other_is. ap (step known (length before + 1)) (one_line line other form other_is is) ∙ e))
      by_step form is (Err (causes.Limit limit)) e = late_at text before known line texts form (causes.Limit limit) at is e tt
      by_step form is (Err causes.Duplicate) e = late_at text before known line texts form causes.Duplicate at is e tt
      by_step form is (Err causes.NoMemory) e = absurd (never_wanting known (length before + 1) form e)

      by_form : (o : Option ScriptLine) → form_reading line ≡ o → Comes text (go_on (at_line (length before + 1) (or_syntax o >>= step known (length before + 1))) more)
      by_form None e = inr (misplaced (λ form is. let both = sym e ∙ reads line form is in absurd cc))
      by_form (Some form) e = by_step form (form_is line form e) (step known (length before + 1) form) refl

  -- a line is judged, and then those behind it
  judged_comes : IsPrefix text before known (line ∷ texts) → (more : Known → Result Script ScriptFault) → ((next : Known) → IsMore text before known line texts next → Comes text (more next)) → Comes text (go_on (line_judged known (length before + 1) (has_no_line texts (lines_of_text text).tail) line) more)
  judged_comes p more rest = by_long (nat_lt 4096 (length line)) refl
    where
      reached : Reaches text before known line
      reached = at_reached text before known line texts p

      stops_at : (end go_is : Bool) → has_no_line texts (lines_of_text text).tail ≡ end → bytes_eq line (codes "go") ≡ go_is → (end && not go_is) ≡ true → IsMisplaced text before known line
      stops_at false go_is e f g = absurd cc
      stops_at true true e f g = absurd cc
      stops_at true false e f g =
          let alone = last_alone texts _ e in
          let all = all_count text _ known _ p in
          inr (inl (omega arith, λ is. let yes : bytes_eq line (codes "go") ≡ true = ap (λ (l : List ℕ). bytes_eq l (codes "go")) is in absurd cc))

      by_last : (t : Bool) → length line ≤ 4096 → (has_no_line texts (lines_of_text text).tail && not (bytes_eq line (codes "go"))) ≡ t → Comes text (go_on (cond t (Err (faults.Syntax (length before + 1))) (at_line (length before + 1) (line_at known (length before + 1) line known.place))) more)
      by_last true short e = inr (record { before = before; known = known; line = line; reached = reached; number_is = refl; short = short; misplaced = stops_at (has_no_line texts (lines_of_text text).tail) (bytes_eq line (codes "go")) refl refl e })
      by_last false short e = line_comes (record { prefix = p; short = short; goes_on = e }) more rest

      by_long : (t : Bool) → nat_lt 4096 (length line) ≡ t → Comes text (go_on (cond t (Err (faults.LineTooLong (length before + 1))) (cond (has_no_line texts (lines_of_text text).tail && not (bytes_eq line (codes "go"))) (Err (faults.Syntax (length before + 1))) (at_line (length before + 1) (line_at known (length before + 1) line known.place)))) more)
      by_long true long = record { before = before; known = known; line = line; reached = reached; number_is = refl; long = grind (arith, nat_tests) }
      by_long false long = by_last (has_no_line texts (lines_of_text text).tail && not (bytes_eq line (codes "go"))) (grind (arith, nat_tests)) refl

-- ---- the whole text

-- the line that the text ends with finishes it
last_finishes : (known next : Known) (number : ℕ) (line : List ℕ) (form : ScriptLine) → IsLine line form → step known number form ≡ Ok next → (true && not (bytes_eq line (codes "go"))) ≡ false → next.place ≡ Finished
last_finishes known next number line form is step_is e = by_go _ refl e
  where
    by_go : (t : Bool) → bytes_eq line (codes "go") ≡ t → not t ≡ false → next.place ≡ Finished
    by_go true f g =
        go_ends known _ next (ap (step known number) (sym (one_line line form go is (record { text_is = bytes_are line _ f; sound = refl }))) ∙ step_is)
    by_go false f g = absurd cc

comes_on : (text : List ℕ) (before : List ScriptLine) (known : Known) (texts : Texts) → IsPrefix text before known texts → (has_no_line texts (lines_of_text text).tail ≡ true → (before ≡ []) ⊎ (known.place ≡ Finished)) → Comes text (text_on known (length before + 1) texts (lines_of_text text).tail)
comes_on text before known [] p finished = text_ends text before known (lines_of_text text).tail refl p finished
comes_on text before known (line ∷ texts) p finished =
    judged_comes text before known line texts p (λ next. text_on next (length before + 1 + 1) texts (lines_of_text text).tail)
    (λ next m.
    let number : length (before ++ m.form ∷ []) + 1 ≡ length before + 1 + 1 = ap (λ (n : ℕ). n + 1) (length-snoc before m.form) in
    subst (λ (n : ℕ). Comes text (text_on next n texts (lines_of_text text).tail)) number
    (comes_on text (before ++ m.form ∷ []) next texts (one_more text before known next line texts m.form p m.form_is m.at.short m.step_is)
    (λ e. inr (last_finishes known next (length before + 1) line m.form m.form_is m.step_is (ap (λ t. t && not (bytes_eq line (codes "go"))) (sym e) ∙ m.at.goes_on)))))

-- what is read is the text's script, and a refusal its fault
pub comes : (text : List ℕ) → Comes text (script_reading text)
comes text = by_long (nat_lt 1048576 (length text)) refl
  where
    by_long : (t : Bool) → nat_lt 1048576 (length text) ≡ t → Comes text (cond t (Err faults.FileTooLong) (bytes_on opening 1 text))
    by_long true long = grind (arith, nat_tests)
    by_long false long = comes_on text [] opening (lines_of_text text).ended (at_front text (grind (arith, nat_tests))) (λ e. inl refl)

-- ---- the script of a text is read, and each fault of a text is the one that is found

-- ---- how far a text is read

get_behind : {X : Type 0} (xs ys : List X) → slice_get (xs ++ ys) (length xs) ≡ slice_get ys 0
get_behind [] ys = refl
get_behind (x ∷ xs) ys = get_behind xs ys

-- the lines before the one at hand were read
pub record IsReached (text : List ℕ) (before : List ScriptLine) (known : Known) (line : List ℕ) (others : Texts) (tail : List ℕ) : Type 0 where
  pub cut : (lines_of_text text).ended ≡ written before ++ others
  pub tail_is : (lines_of_text text).tail ≡ tail
  pub at : slice_get (others ++ as_last_line tail) 0 ≡ Some line
  pub room : length known.names ≤ 4096
  pub same : script_reading text ≡ text_on known (length before + 1) others tail

short_reading : (text : List ℕ) → length text ≤ 1048576 → script_reading text ≡ bytes_on opening 1 text
short_reading text short = let small : nat_lt 1048576 (length text) ≡ false = grind (arith, nat_tests) in failed _ _ _ small

module _ (text : List ℕ) (before : List ScriptLine) (known : Known) where
  line_cut : (line : List ℕ) (h : Reaches text before known line) → (lines_of_text text).ended ≡ written before ++ drop (length before) (lines_of_text text).ended
  line_cut line h = sym (take-append-drop _ _) ∙ ap (λ (ls : Texts). ls ++ drop (length before) (lines_of_text text).ended) h.before_are.written

  reached : (line : List ℕ) → Reaches text before known line → IsReached text before known line (drop (length before) (lines_of_text text).ended) (lines_of_text text).tail
  reached line h =
      let others = drop (length before) (lines_of_text text).ended in
      let tail = (lines_of_text text).tail in
      let cut = line_cut line h in
      let all : all_lines text ≡ written before ++ (others ++ as_last_line tail) = ap (λ (ls : Texts). ls ++ as_last_line tail) cut ∙ append_assoc (written before) others (as_last_line tail) in
      let back = sym all in
      let at : slice_get (others ++ as_last_line tail) 0 ≡ Some line = sym (get_behind (written before) (others ++ as_last_line tail)) ∙ (λ i. slice_get (back i) (written_length before i)) ∙ h.line_at in
      let are = h.before_are in
      record {
        cut = cut;
        tail_is = refl;
        at = at;
        room = (steps_kept opening 1 before known opening_kept are.known_is).room;
        same =
            short_reading text h.short
            ∙ ap (λ (ls : Texts). text_on opening 1 ls tail) cut
            ∙ run before 1 others tail opening known opening_kept are.sound are.short are.known_is (λ e. absurd (some_behind others tail line at e));
      }
    where
      some_behind : (others : Texts) (tail line : List ℕ) → slice_get (others ++ as_last_line tail) 0 ≡ Some line → has_no_line others tail ≡ true → ⊥
      some_behind [] [] line at e = cc
      some_behind [] (b ∷ bytes) line at e = cc
      some_behind (l ∷ others) tail line at e = cc

  -- ---- a line that is too long

  too_long : (line : List ℕ) (others : Texts) (tail : List ℕ) → IsReached text before known line others tail → 4096 < length line → script_reading text ≡ Err (faults.LineTooLong (length before + 1))
  too_long line [] [] r long = let nothing = r.at in absurd cc
  too_long line [] (b ∷ bytes) r long =
      let big : length (b ∷ bytes) ≡ length line = ap (λ (l : List ℕ). length l) (some_is _ line r.at) in
      r.same ∙ passed (nat_lt 4096 (length (b ∷ bytes))) (Err (faults.LineTooLong (length before + 1))) _ (grind (arith, nat_tests))
  too_long line (l ∷ others) tail r long =
      let big : length l ≡ length line = ap (λ (l : List ℕ). length l) (some_is l line r.at) in
      let test : nat_lt 4096 (length l) ≡ true = grind (arith, nat_tests) in
      r.same ∙ ap (λ (s : Result Known ScriptFault). go_on s (λ next. text_on next (length before + 1 + 1) others tail)) (passed (nat_lt 4096 (length l)) (Err (faults.LineTooLong (length before + 1))) _ test)

  -- ---- a line that is no line there

  -- a short tail is no line
  tail_stops : (line : List ℕ) (b : ℕ) (bytes : List ℕ) → IsReached text before known line [] (b ∷ bytes) → length line ≤ 4096 → script_reading text ≡ Err (faults.Syntax (length before + 1))
  tail_stops line b bytes r short =
      let same = some_is (b ∷ bytes) line r.at in
      let small : length (b ∷ bytes) ≡ length line = ap (λ (l : List ℕ). length l) same in
      let test : nat_lt 4096 (length (b ∷ bytes)) ≡ false = grind (arith, nat_tests) in
      r.same
      ∙ failed (nat_lt 4096 (length (b ∷ bytes))) (Err (faults.LineTooLong (length before + 1))) _ test
      ∙ failed (length (b ∷ bytes) == 0) (ended_at known (length before + 1) known.place) (Err (faults.Syntax (length before + 1))) (some_length b bytes)

-- a short line, by what its place says of it
line_judged_is : (s : Known) (number : ℕ) (last : Bool) (line : List ℕ) (x : Result Known ScriptFault) → length line ≤ 4096 → cond (last && not (bytes_eq line (codes "go"))) (Err (faults.Syntax number)) (at_line number (line_at s number line s.place)) ≡ x → line_judged s number last line ≡ x
line_judged_is s number last line x short e =
    let test : nat_lt 4096 (length line) ≡ false = grind (arith, nat_tests) in
    failed _ _ _ test ∙ e

module _ (known : Known) (number : ℕ) (line : List ℕ) where
  -- a line of a form that is refused
  form_stops : (form : ScriptLine) (cause : LineCause) → length known.names ≤ 4096 → IsLine line form → step known number form ≡ Err cause → at_line number (line_at known number line known.place) ≡ Err (fault_at number cause)
  form_stops form cause room is e = ap (at_line number) (line_text known number line room ∙ ap (λ o. or_syntax o >>= step known number) (reads line form is) ∙ e)

  -- no form of the line may stand there
  no_form_stops : length known.names ≤ 4096 → ((form : ScriptLine) → IsLine line form → step known number form ≡ Err causes.Syntax) → at_line number (line_at known number line known.place) ≡ Err (faults.Syntax number)
  no_form_stops room none = by_form (form_reading line) refl
    where
      by_form : (o : Option ScriptLine) → form_reading line ≡ o → at_line number (line_at known number line known.place) ≡ Err (faults.Syntax number)
      by_form None e = ap (at_line number) (line_text known number line room ∙ ap (λ o. or_syntax o >>= step known number) e)
      by_form (Some form) e = let is = form_is line form e in form_stops form causes.Syntax room is (none form is)

module _ (text : List ℕ) (before : List ScriptLine) (known : Known) (line : List ℕ) where
  -- the fault of a line is the text's
  line_stops : (l : List ℕ) (others : Texts) (tail : List ℕ) (fault : ScriptFault) → IsReached text before known line (l ∷ others) tail → line_judged known (length before + 1) (has_no_line others tail) line ≡ Err fault → script_reading text ≡ Err fault
  line_stops l others tail fault r e =
      let same = some_is l line r.at in
      r.same ∙ ap (λ (s : Result Known ScriptFault). go_on s (λ next. text_on next (length before + 1 + 1) others tail)) (ap (line_judged known (length before + 1) (has_no_line others tail)) same ∙ e)

  misplaced_line : (l : List ℕ) (others : Texts) (tail : List ℕ) → IsReached text before known line (l ∷ others) tail → length line ≤ 4096 → IsMisplaced text before known line → cond (has_no_line others tail && not (bytes_eq line (codes "go"))) (Err (faults.Syntax (length before + 1))) (at_line (length before + 1) (line_at known (length before + 1) line known.place)) ≡ Err (faults.Syntax (length before + 1))
  misplaced_line l others tail r short (inl count) =
      let ended : length (lines_of_text text).ended ≡ length (written before ++ l ∷ others) = ap (λ (ls : Texts). length ls) r.cut in
      let sum : length (written before ++ l ∷ others) ≡ length (written before) + (length others + 1) = simp length-append (omega arith) in
      absurd (omega (arith, written_length before, ended, sum, count))
  misplaced_line l others tail r short (inr (inl (count, other))) =
      let all : length (all_lines text) ≡ length ((written before ++ l ∷ others) ++ as_last_line tail) = (λ i. length (r.cut i ++ as_last_line (r.tail_is i))) in
      let sum : length ((written before ++ l ∷ others) ++ as_last_line tail) ≡ length (written before) + (length others + 1 + length (as_last_line tail)) = simp length-append (omega arith) in
      let none : length others + length (as_last_line tail) ≡ 0 = omega (arith, written_length before, all, sum, count) in
      let at_end = ends others tail none in
      let no_go = other_text line other in
      passed (has_no_line others tail && not (bytes_eq line (codes "go"))) (Err (faults.Syntax (length before + 1))) _ (λ i. at_end i && not (no_go i))
    where
      ends : (others : Texts) (tail : List ℕ) → length others + length (as_last_line tail) ≡ 0 → has_no_line others tail ≡ true
      ends [] [] e = refl
      ends [] (b ∷ bytes) e = absurd (omega (arith, e))
      ends (l ∷ others) tail e = absurd (omega (arith, e))

      other_text : (line : List ℕ) → (line ≡ codes "go" → ⊥) → bytes_eq line (codes "go") ≡ false
      other_text line other = by_test (bytes_eq line (codes "go")) refl
        where
          by_test : (t : Bool) → bytes_eq line (codes "go") ≡ t → t ≡ false
          by_test true e = absurd (other (bytes_are line (codes "go") e))
          by_test false e = refl
  misplaced_line l others tail r short (inr (inr none)) = by_last (has_no_line others tail && not (bytes_eq line (codes "go")))
    where
      by_last : (t : Bool) → cond t (Err (faults.Syntax (length before + 1))) (at_line (length before + 1) (line_at known (length before + 1) line known.place)) ≡ Err (faults.Syntax (length before + 1))
      by_last true = refl
      by_last false = no_form_stops known (length before + 1) line r.room none

  misplaced : (others : Texts) (tail : List ℕ) → IsReached text before known line others tail → length line ≤ 4096 → IsMisplaced text before known line → script_reading text ≡ Err (faults.Syntax (length before + 1))
  misplaced [] [] r short is = let nothing = r.at in absurd cc
  misplaced [] (b ∷ bytes) r short is = tail_stops text before known line b bytes r short
  misplaced (l ∷ others) tail r short is = line_stops l others tail (faults.Syntax (length before + 1)) r (line_judged_is known (length before + 1) (has_no_line others tail) line _ short (misplaced_line l others tail r short is))

-- ---- a limit, or something that is given again

late_line : (text : List ℕ) (number : ℕ) (cause : LineCause) (f : FaultyAt text number cause) (others : Texts) (tail : List ℕ) → IsReached text f.before f.known f.line others tail → script_reading text ≡ Err (fault_at number cause)
late_line text number cause f [] tail r =
    let ended : length (lines_of_text text).ended ≡ length (written f.before ++ []) = ap (λ (ls : Texts). length ls) r.cut in
    let sum : length (written f.before ++ []) ≡ length (written f.before) = ap (λ (ls : Texts). length ls) (append-nil (written f.before)) in
    let more = f.ended in
    absurd (omega (arith, written_length f.before, ended, sum, more))
late_line text number cause f (l ∷ others) tail r =
    let all : length (all_lines text) ≡ length ((written f.before ++ l ∷ others) ++ as_last_line tail) = (λ i. length (r.cut i ++ as_last_line (r.tail_is i))) in
    let sum : length ((written f.before ++ l ∷ others) ++ as_last_line tail) ≡ length (written f.before) + (length others + 1 + length (as_last_line tail)) = simp length-append (omega arith) in
    let more = f.more in
    let some : 0 < length others + length (as_last_line tail) = omega (arith, written_length f.before, all, sum, more) in
    let goes_on = not_end others tail some in
    line_stops text f.before f.known f.line l others tail (fault_at (length f.before + 1) cause) r (line_judged_is f.known (length f.before + 1) (has_no_line others tail) f.line _ f.short
    (ap (λ t. cond (t && not (bytes_eq f.line (codes "go"))) (Err (faults.Syntax (length f.before + 1))) (at_line (length f.before + 1) (line_at f.known (length f.before + 1) f.line f.known.place))) goes_on
    ∙ form_stops f.known (length f.before + 1) f.line f.form cause r.room f.form_is f.cause_is))
    ∙ ap (λ (n : ℕ). let so : Result Script ScriptFault = Err (fault_at n cause) in so) (sym f.number_is)
  where
    not_end : (others : Texts) (tail : List ℕ) → 0 < length others + length (as_last_line tail) → has_no_line others tail ≡ false
    not_end [] [] e = absurd (omega arith)
    not_end [] (b ∷ bytes) e = refl
    not_end (l ∷ others) tail e = refl

-- ---- what `read_script` answers, from what the text is read as

-- a fault with which a step fails is want of memory, or that of the step
fails_so : {A : Type 0} (step : Result A ScriptFault) (fault : ScriptFault) → FailsWith step fault → (step ≡ Err fault) ⊎ (fault ≡ NoMemory)
fails_so step NoMemory h = inr refl
fails_so step fault h = inl h

only_here : {A : Type 0} (r : Result A ScriptFault) (s : A) (fault : ScriptFault) → r ≡ Ok s → (r ≡ Err fault) ⊎ (fault ≡ NoMemory) → fault ≡ NoMemory
only_here r s fault e (inl f) = absurd cc
only_here r s fault e (inr f) = f

refused_here : {A : Type 0} (r : Result A ScriptFault) (f fault : ScriptFault) → r ≡ Err f → (r ≡ Err fault) ⊎ (fault ≡ NoMemory) → (fault ≡ f) ⊎ (fault ≡ NoMemory)
refused_here r f fault e (inl h) = let same : fault ≡ f = cc in inl same
refused_here r f fault e (inr h) = inr h

apart : {A : Type 0} (r : Result A ScriptFault) (x : A) (f : ScriptFault) → r ≡ Ok x → r ≡ Err f → ⊥
apart r x f e h = cc

-- ---- all lines

module _ (text : List ℕ) where
  -- the whole text was read
  whole : (lines : List ScriptLine) (known : Known) → AreAllLines text lines known → script_reading text ≡ script_known known known.unknown
  whole lines known a =
      let are = a.lines_are in
      let cut = are.written ∙ sym (append-nil (written lines)) in
      let tail = a.nothing_more in
      short_reading text a.short
      ∙ (λ i. text_on opening 1 (cut i) (tail i))
      ∙ run lines 1 [] [] opening known opening_kept are.sound are.short are.known_is (λ e. a.finished)
      ∙ ap (ended_at known (length lines + 1)) a.finished

  -- the script of a text is read
  pub script_found : (s : Script) → ScriptText text s → script_reading text ≡ Ok s
  script_found s t = whole t.lines t.known t.whole ∙ ap (script_known t.known) t.found ∙ ap (λ (s : Script). let so : Result Script ScriptFault = Ok s in so) (sym t.value)

  -- the fault of a text is found
  pub fault_found : (fault : ScriptFault) → FaultOf text fault → script_reading text ≡ Err fault
  fault_found faults.FileTooLong f = let long : nat_lt 1048576 (length text) ≡ true = grind (arith, nat_tests) in passed (nat_lt 1048576 (length text)) (Err faults.FileTooLong) (bytes_on opening 1 text) long
  fault_found (faults.LineTooLong number) f =
      too_long text f.before f.known f.line _ _ (reached text f.before f.known f.line f.reached) f.long ∙ ap (λ (n : ℕ). let so : Result Script ScriptFault = Err (faults.LineTooLong n) in so) (sym f.number_is)
  fault_found (faults.Syntax number) (inl (none, one)) =
      ap script_reading none ∙ ap (λ (n : ℕ). let so : Result Script ScriptFault = Err (faults.Syntax n) in so) (sym one)
  fault_found (faults.Syntax number) (inr f) =
      misplaced text f.before f.known f.line _ _ (reached text f.before f.known f.line f.reached) f.short f.misplaced ∙ ap (λ (n : ℕ). let so : Result Script ScriptFault = Err (faults.Syntax n) in so) (sym f.number_is)
  fault_found (faults.UnknownName number) f = whole f.lines f.known f.whole ∙ ap (script_known f.known) f.first
  fault_found (faults.Duplicate number) f = late_line text number causes.Duplicate f _ _ (reached text f.before f.known f.line f.reached)
  fault_found (faults.Limit number limit) f = late_line text number (causes.Limit limit) f _ _ (reached text f.before f.known f.line f.reached)
  fault_found faults.NoMemory f = absurd f

  pub found_so : (result : Result Script ScriptFault) → GivesText (λ s. s) result (script_reading text) → IfOk result (λ s. ScriptText text s)
  found_so (Ok s) g = subst (λ (r : Result Script ScriptFault). Comes text r) g (comes text)
  found_so (Err fault) g = tt

  pub sound_so : (result : Result Script ScriptFault) → GivesText (λ s. s) result (script_reading text) → IfOk result IsScript
  sound_so (Ok s) g = sound_of text s (found_so (Ok s) g)
  sound_so (Err fault) g = tt

  fault_here : (fault : ScriptFault) → (script_reading text ≡ Err fault) ⊎ (fault ≡ NoMemory) → FaultOf text fault ⊎ (fault ≡ NoMemory)
  fault_here fault (inl e) = inl (subst (λ (r : Result Script ScriptFault). Comes text r) e (comes text))
  fault_here fault (inr e) = inr e

  pub fault_so : (result : Result Script ScriptFault) → GivesText (λ s. s) result (script_reading text) → IfErr result (λ f. FaultOf text f ⊎ (f ≡ NoMemory))
  fault_so (Ok s) g = tt
  fault_so (Err fault) g = fault_here fault (fails_so (script_reading text) fault g)

  pub only_so : (result : Result Script ScriptFault) → GivesText (λ s. s) result (script_reading text) → (s : Script) → ScriptText text s → GivesUnless NoMemory result s
  only_so (Ok x) g s t = let e : Ok x ≡ Ok s = sym g ∙ script_found s t in cc
  only_so (Err fault) g s t = only_here (script_reading text) s fault (script_found s t) (fails_so (script_reading text) fault g)

  pub refused_so : (result : Result Script ScriptFault) → GivesText (λ s. s) result (script_reading text) → (f : ScriptFault) → FaultOf text f → RefusesUnless NoMemory result f
  refused_so (Ok x) g f t = apart (script_reading text) x f g (fault_found f t)
  refused_so (Err fault) g f t = refused_here (script_reading text) f fault (fault_found f t) (fails_so (script_reading text) fault g)
