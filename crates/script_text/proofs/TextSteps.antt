-- A text's lines, one after another: what is known before each, and that no number of a line is too large.
use Rattle.std.proofs.Common.{◌≡◌, ℕ, ◌+◌, ◌<◌, ◌≤◌, ◌==◌, Bool, true, false, cond, not, ◌&&◌, nat_lt, List, [], ◌∷◌}
use Rattle.std.proofs.Common.{length, Option, Some, None, Result, Ok, Err, bytes_eq, codes, refl, sym, ap, ◌∙◌}
use Rattle.std.proofs.Common.{subst, arith, length-append, ◌++◌, take, slice_get, IsTrue, append_assoc}
use Rattle.script_text.proofs.Common.{IfSome, map, nat_tests, AllByRecursion, map-append, length-map, Texts}
use Rattle.script_text.proofs.Texts.{cut_at, lines, before_lines, lines_of_text, cut_is, uncut_is}
use Rattle.script_text.proofs.Texts.{lines_of_cut, lines_of_tail, as_last_line, all_lines}
use Rattle.script_text.proofs.Modules.{has_no_line}
use Rattle.script_text.proofs.Types.{Script, ScriptFault, LineCause, Place, Within, ScriptReader}
use Rattle.script_text.proofs.Forms.{ScriptLine, script_line_written, is_script_line, IsLine, ◌>>=◌}
use Rattle.script_text.proofs.Forms.{FailsWith, GivesText, or_syntax, step, Known, steps, IsShort, Reaches}
use Rattle.script_text.specs.Reading.{line_at, IsCounted, at_line, line_judged, text_ended, go_on, text_on, bytes_on, opening}
use Rattle.script_text.specs.declared.fault.ScriptFault.TheVariants as faults
use Rattle.script_text.proofs.OneLine.{form_reading}
use Rattle.script_text.proofs.LineForms.{line_text}
use Rattle.script_text.proofs.StepMoves.{moves, ok_is, steps-snoc}
use Rattle.script_text.proofs.StepKept.{IsOpenAt, IsKept, kept_by, opening_kept, steps_kept}

-- ---- a line

-- behind a line that was judged well
judged_kept : (r : ScriptReader) (number : ℕ) (last : Bool) (text : List ℕ) (next : ScriptReader) → IsKept r number → line_judged r number last text ≡ Ok next → IsKept next (number + 1)
judged_kept r number last text next h e = by_long (nat_lt 4096 (length text)) e
  where
    by_step : (line : ScriptLine) (x : Result ScriptReader LineCause) → step r number line ≡ x → at_line number x ≡ Ok next → IsKept next (number + 1)
    by_step line (Ok k) f e = kept_by r _ h (moves r _ line next (f ∙ ap (λ (s : ScriptReader). let so : Result ScriptReader LineCause = Ok s in so) (ok_is k next e)))
    by_step line (Err cause) f e = absurd cc

    by_form : (o : Option ScriptLine) → at_line number (or_syntax o >>= step r number) ≡ Ok next → IsKept next (number + 1)
    by_form None e = absurd cc
    by_form (Some line) e = by_step line _ refl e

    by_last : (t : Bool) → cond t (Err (faults.Syntax number)) (at_line number (line_at r number text r.place)) ≡ Ok next → IsKept next (number + 1)
    by_last true e = absurd cc
    by_last false e = by_form (form_reading text) (sym (ap (at_line number) (line_text r number text h.room)) ∙ e)

    by_long : (t : Bool) → cond t (Err (faults.LineTooLong number)) (cond (last && not (bytes_eq text (codes "go"))) (Err (faults.Syntax number)) (at_line number (line_at r number text r.place))) ≡ Ok next → IsKept next (number + 1)
    by_long true e = absurd cc
    by_long false e = by_last (last && not (bytes_eq text (codes "go"))) e

-- ---- the bytes

pub some_length : {X : Type 0} (x : X) (xs : List X) → (length (x ∷ xs) == 0) ≡ false
some_length x xs = grind (arith, nat_tests)

pub end_test : (bytes : List ℕ) → has_no_line (lines_of_text bytes).ended (lines_of_text bytes).tail ≡ (length bytes == 0)
end_test [] = refl
end_test (b ∷ bytes) = by_line_feed _ ∙ sym (some_length b bytes)
  where
    by_lines : (ended : Texts) (tail : List ℕ) → has_no_line (before_lines b ended tail).ended (before_lines b ended tail).tail ≡ false
    by_lines [] tail = refl
    by_lines (line ∷ others) tail = refl

    by_line_feed : (t : Bool) → (let ls = cond t (lines ([] ∷ (lines_of_text bytes).ended) (lines_of_text bytes).tail) (before_lines b (lines_of_text bytes).ended (lines_of_text bytes).tail) in has_no_line ls.ended ls.tail) ≡ false
    by_line_feed true = refl
    by_line_feed false = by_lines _ _

-- ---- how far the reading is

-- some lines were read, and the rest of the bytes goes on as the whole text does
pub record AtLine (text : List ℕ) (r : ScriptReader) (number : ℕ) (rest : List ℕ) : Type 0 where
  pub kept : IsKept r number
  pub same : bytes_on r number rest ≡ bytes_on opening 1 text
  pub room : number + length rest ≤ length text + 1

pub at_first : (text : List ℕ) → AtLine text opening 1 text
at_first text = record { kept = opening_kept; same = refl; room = omega arith }

module _ (r : ScriptReader) (number : ℕ) where
  -- the lines from one on are that line and those behind it
  pub bytes_cut : (rest : List ℕ) (x : List ℕ × List ℕ) → cut_at 10 rest ≡ Some x → bytes_on r number rest ≡ go_on (line_judged r number (length x.1 == 0) x.0) (λ next. bytes_on next (number + 1) x.1)
  bytes_cut rest x e =
      ap (λ ls. text_on r number ls.ended ls.tail) (lines_of_cut rest x e)
      ∙ ap (λ last. go_on (line_judged r number last x.0) (λ next. bytes_on next (number + 1) x.1)) (end_test x.1)

  pub bytes_uncut : (rest : List ℕ) → cut_at 10 rest ≡ None → bytes_on r number rest ≡ text_ended r number rest
  bytes_uncut rest e = ap (λ ls. text_on r number ls.ended ls.tail) (lines_of_tail rest (uncut_is 10 rest e))

  -- where a module's text is open, its title has its number
  pub is_counted : (p : Place) → IsOpenAt r number p → IsCounted r number p
  is_counted Within h = h
  is_counted p h = tt

pub cut_length : (rest : List ℕ) (x : List ℕ × List ℕ) → cut_at 10 rest ≡ Some x → length x.1 + 1 ≤ length rest
cut_length rest x e =
    let whole : length rest ≡ length x.0 + (1 + length x.1) = ap (λ (bytes : List ℕ). length bytes) (cut_is 10 rest x e).whole ∙ simp length-append (omega arith) in
    omega (arith, whole)

-- a line more was read
pub at_next : (text : List ℕ) (r : ScriptReader) (number : ℕ) (rest : List ℕ) (x : List ℕ × List ℕ) (next : ScriptReader) → AtLine text r number rest → cut_at 10 rest ≡ Some x → line_judged r number (length x.1 == 0) x.0 ≡ Ok next → AtLine text next (number + 1) x.1
at_next text r number rest x next a cut judged =
    let shorter = cut_length rest x cut in
    record {
      kept = judged_kept r _ _ x.0 next a.kept judged;
      same = sym (ap (λ (s : Result ScriptReader ScriptFault). go_on s (λ next. bytes_on next (number + 1) x.1)) judged) ∙ sym (bytes_cut r _ rest x cut) ∙ a.same;
      room = omega (arith, a.room, shorter);
    }

go_on-fails : (s : Result ScriptReader ScriptFault) (more : ScriptReader → Result Script ScriptFault) (fault : ScriptFault) → FailsWith s fault → FailsWith (go_on s more) fault
go_on-fails s more faults.NoMemory e = tt
go_on-fails s more fault e = ap (λ (s : Result ScriptReader ScriptFault). go_on s more) e

module _ (text : List ℕ) (r : ScriptReader) (number : ℕ) (rest : List ℕ) where
  -- a line was refused
  pub at_fault : (x : List ℕ × List ℕ) (fault : ScriptFault) → AtLine text r number rest → cut_at 10 rest ≡ Some x → FailsWith (line_judged r number (length x.1 == 0) x.0) fault → FailsWith (bytes_on opening 1 text) fault
  at_fault x fault a cut e =
      subst (λ (s : Result Script ScriptFault). FailsWith s fault) (sym (bytes_cut r _ rest x cut) ∙ a.same) (go_on-fails _ (λ next. bytes_on next (number + 1) x.1) fault e)

  -- no line is left
  pub at_end : (result : Result Script ScriptFault) → AtLine text r number rest → cut_at 10 rest ≡ None → GivesText (λ s. s) result (text_ended r number rest) → GivesText (λ s. s) result (bytes_on opening 1 text)
  at_end result a uncut e = subst (λ (s : Result Script ScriptFault). GivesText (λ s. s) result s) (sym (bytes_uncut r _ rest uncut) ∙ a.same) e

  -- the line that is noted has a small number
  pub unknown_small : AtLine text r number rest → length text ≤ 1048576 → IfSome r.unknown (λ line. line < 4294967296)
  unknown_small a short = by_unknown _ a.kept.noted
    where
      by_unknown : (o : Option ℕ) → IfSome o (λ line. line < number) → IfSome o (λ line. line < 4294967296)
      by_unknown None h = tt
      by_unknown (Some line) h = let room = a.room in omega (arith, short)

-- ---- the first lines of a text, of which none is refused; the texts behind them

abbrev pub written : List ScriptLine → Texts
written lines = map script_line_written lines

pub written_length : (lines : List ScriptLine) → length (written lines) ≡ length lines
written_length lines = length-map lines _

-- these lines stand in front of a text, none is refused, and this is known with them; these texts with a line feed stand behind them
pub record IsPrefix (text : List ℕ) (before : List ScriptLine) (known : Known) (texts : Texts) : Type 0 where
  pub short : length text ≤ 1048576
  pub cut : (lines_of_text text).ended ≡ written before ++ texts
  pub sound : AllByRecursion (λ line. IsTrue (is_script_line line)) before
  pub short_lines : AllByRecursion IsShort before
  pub known_is : steps opening 1 before ≡ Ok known

pub at_front : (text : List ℕ) → length text ≤ 1048576 → IsPrefix text [] opening (lines_of_text text).ended
at_front text short = record { short = short; cut = refl; sound = tt; short_lines = tt; known_is = refl }

-- the table of names has room there
pub room_of : (text : List ℕ) (before : List ScriptLine) (known : Known) (texts : Texts) → IsPrefix text before known texts → length known.names ≤ 4096
room_of text before known texts p = (steps_kept _ 1 before known opening_kept p.known_is).room

-- ---- lists

all_snoc : {X : Type 0} (P : X → Type 0) (xs : List X) (x : X) → AllByRecursion P xs → P x → AllByRecursion P (xs ++ x ∷ [])
all_snoc P [] x h p = (p, tt)
all_snoc P (y ∷ ys) x h p = (h.0, all_snoc P ys x h.1 p)

pub take_first : {X : Type 0} (xs ys : List X) → take (length xs) (xs ++ ys) ≡ xs
take_first [] ys = refl
take_first (x ∷ xs) ys = ap (λ (zs : List _). x ∷ zs) (take_first xs ys)

pub get_behind : {X : Type 0} (xs ys : List X) (y : X) → slice_get (xs ++ y ∷ ys) (length xs) ≡ Some y
get_behind [] ys y = refl
get_behind (x ∷ xs) ys y = get_behind xs ys y

-- ---- a line more

pub one_more : (text : List ℕ) (before : List ScriptLine) (known next : Known) (line : List ℕ) (texts : Texts) (form : ScriptLine) → IsPrefix text before known (line ∷ texts) → IsLine line form → length line ≤ 4096 → step known (length before + 1) form ≡ Ok next → IsPrefix text (before ++ form ∷ []) next texts
one_more text before known next line texts form p is short e = record {
  short = p.short;
  cut =
      p.cut
      ∙ ap (λ (l : List ℕ). written before ++ l ∷ texts) is.text_is
      ∙ sym (append_assoc (written before) (script_line_written form ∷ []) texts)
      ∙ ap (λ (ls : Texts). ls ++ texts) (sym (map-append script_line_written before (form ∷ [])));
  sound = all_snoc (λ line. IsTrue (is_script_line line)) before form p.sound is.sound;
  short_lines = all_snoc IsShort before form p.short_lines (subst (λ (l : List ℕ). length l ≤ 4096) is.text_is short);
  known_is = steps-snoc opening 1 before form known p.known_is ∙ e;
}

module _ (text : List ℕ) (before : List ScriptLine) (known : Known) (texts : Texts) where
  -- the line behind them is reached
  pub reaches : (more : Texts) (line : List ℕ) → IsPrefix text before known texts → texts ++ as_last_line (lines_of_text text).tail ≡ line ∷ more → Reaches text before known line
  reaches more line p e =
      let all : all_lines text ≡ written before ++ line ∷ more =
      ap (λ (ls : Texts). ls ++ as_last_line (lines_of_text text).tail) p.cut ∙ append_assoc _ texts _ ∙ ap (λ (ls : Texts). written before ++ ls) e in
      record {
        short = p.short;
        before_are = record {
          written = ap (λ (ls : Texts). take (length before) ls) p.cut ∙ ap (λ n. take n (written before ++ texts)) (sym (written_length before)) ∙ take_first _ texts;
          sound = p.sound;
          short = p.short_lines;
          known_is = p.known_is;
        };
        line_at = (λ i. slice_get (all i) (sym (written_length before) i)) ∙ get_behind (written before) more line;
      }

  -- how many lines there are
  pub all_count : IsPrefix text before known texts → length (all_lines text) ≡ length before + (length texts + length (as_last_line (lines_of_text text).tail))
  all_count p =
      let all : length (all_lines text) ≡ length ((written before ++ texts) ++ as_last_line (lines_of_text text).tail) = ap (λ (ls : Texts). length (ls ++ as_last_line (lines_of_text text).tail)) p.cut in
      let sum : length ((written before ++ texts) ++ as_last_line (lines_of_text text).tail) ≡ length (written before) + (length texts + length (as_last_line (lines_of_text text).tail)) = simp length-append (omega arith) in
      omega (arith, written_length before, all, sum)

  pub ended_count : IsPrefix text before known texts → length (lines_of_text text).ended ≡ length before + length texts
  ended_count p =
      let all : length (lines_of_text text).ended ≡ length (written before ++ texts) = ap (λ (ls : Texts). length ls) p.cut in
      let sum : length (written before ++ texts) ≡ length (written before) + length texts = simp length-append (omega arith) in
      omega (arith, written_length before, all, sum)

-- a text without lines has no bytes
pub no_bytes : (text : List ℕ) → (lines_of_text text).ended ≡ [] → (lines_of_text text).tail ≡ [] → text ≡ []
no_bytes [] e f = refl
no_bytes (b ∷ bytes) e f = absurd (by_line_feed _ e f)
  where
    by_lines : (ended : Texts) (tail : List ℕ) → (before_lines b ended tail).ended ≡ [] → (before_lines b ended tail).tail ≡ [] → ⊥
    by_lines [] tail e f = cc
    by_lines (line ∷ others) tail e f = cc

    by_line_feed : (t : Bool) → (let ls = cond t (lines ([] ∷ (lines_of_text bytes).ended) (lines_of_text bytes).tail) (before_lines b (lines_of_text bytes).ended (lines_of_text bytes).tail) in ls.ended ≡ []) → (let ls = cond t (lines ([] ∷ (lines_of_text bytes).ended) (lines_of_text bytes).tail) (before_lines b (lines_of_text bytes).ended (lines_of_text bytes).tail) in ls.tail ≡ []) → ⊥
    by_line_feed true e f = cc
    by_line_feed false e f = by_lines _ _ e f
