-- How an input is parted at its first line that is `go`, and that a script's text ends with that line.
use Rattle.std.proofs.Common.{◌≡◌, ℕ, ◌+◌, ◌≤◌, ◌==◌, Bool, true, false, cond, List, [], ◌∷◌, ◌++◌, map, length, take, drop, Option, Some, None, Ok, Err, option_map, bytes_eq, codes, refl, sym, ap, ◌∙◌, subst, arith, append_assoc, append-nil, length-append, eqb-true}
use lib.Seq.{take-append_seam}
use Rattle.std.specs.Prelude.{unwrap_or, IsTrue}
use Rattle.std.specs.List.{AllByRecursion}
use Rattle.term_core.specs.Text.Cuts.{cut_at, Lines, lines, before_lines}
use Rattle.term_core.proofs.Text.Cuts.{lacks, cut_is, uncut_is, lines_behind, lines_of_cut, lines_of_tail}
use Rattle.term_core.proofs.Text.Options.{some_is, bytes_are}
use Rattle.script_core.specs.declared.script.Script.{Script}
use Rattle.script_text.specs.ScriptLine.{ScriptLine, go, script_line_written, is_script_line}
use Rattle.script_text.specs.ScriptText.{ScriptText}
use Rattle.term_core.specs.Text.Parts.{lines_of_text, lines_joined}
use Rattle.term_core.proofs.Text.Parts.{ended_lack}
use Rattle.script_text.specs.declared.reading.cause.LineCause.TheVariants as causes
use Rattle.script_text.specs.declared.reading.reader.Place.{Place}
use Rattle.script_text.specs.declared.reading.reader.Place.TheVariants.{Unread, Finished}
use Rattle.script_text.specs.LineStep.{Known, opening, step_at, step, steps}
use Rattle.script_text.proofs.OneLine.{one_line}
use Rattle.script_text.proofs.StepKept.{go_only}
use Rattle.script_text.proofs.StepMoves.{ok_is, bind_ok, go_ends, moves}
use Rattle.outside.specs.Parting.{lines_to_go, script_part, report_part}

-- ---- line by line

at_go : (t : Bool) (line text : List ℕ) (o : Option (List (List ℕ))) → t ≡ true → unwrap_or (option_map lines_joined (cond t (Some (line ∷ [])) o)) text ≡ line ++ 10 ∷ []
at_go true line text o e = refl
at_go false line text o e = absurd cc

at_other : (t : Bool) (line text rest : List ℕ) (o : Option (List (List ℕ))) → t ≡ false → text ≡ line ++ 10 ∷ rest
    → unwrap_or (option_map lines_joined (cond t (Some (line ∷ [])) (option_map (λ others. line ∷ others) o))) text ≡ line ++ 10 ∷ unwrap_or (option_map lines_joined o) rest
at_other true line text rest o e whole = absurd cc
at_other false line text rest None e whole = whole
at_other false line text rest (Some others) e whole = refl

-- the script's part where the first line is `go`
part_at_go : (text : List ℕ) (x : List ℕ × List ℕ) → cut_at 10 text ≡ Some x → bytes_eq x.0 (codes "go") ≡ true → script_part text ≡ x.0 ++ 10 ∷ []
part_at_go text x cut is =
    ap (λ (w : Lines). unwrap_or (option_map lines_joined (lines_to_go w.ended)) text) (lines_of_cut text x cut)
    ∙ at_go (bytes_eq x.0 (codes "go")) x.0 text (option_map (λ others. x.0 ∷ others) (lines_to_go (lines_of_text x.1).ended)) is

-- the script's part where it is another line
part_behind : (text : List ℕ) (x : List ℕ × List ℕ) → cut_at 10 text ≡ Some x → bytes_eq x.0 (codes "go") ≡ false → script_part text ≡ x.0 ++ 10 ∷ script_part x.1
part_behind text x cut is =
    ap (λ (w : Lines). unwrap_or (option_map lines_joined (lines_to_go w.ended)) text) (lines_of_cut text x cut)
    ∙ at_other (bytes_eq x.0 (codes "go")) x.0 text x.1 (lines_to_go (lines_of_text x.1).ended) is (cut_is 10 text x cut).whole

-- the script's part where no line ends
pub part_at_end : (text : List ℕ) → cut_at 10 text ≡ None → script_part text ≡ text
part_at_end text cut = ap (λ (w : Lines). unwrap_or (option_map lines_joined (lines_to_go w.ended)) text) (lines_of_tail text (uncut_is 10 text cut))

-- ---- the same of lengths

pub cut_lengths : (text : List ℕ) (x : List ℕ × List ℕ) → cut_at 10 text ≡ Some x → length text ≡ length x.0 + (1 + length x.1)
cut_lengths text x cut = ap (λ (bytes : List ℕ). length bytes) (cut_is 10 text x cut).whole ∙ simp length-append (omega arith)

pub length_at_go : (text : List ℕ) (x : List ℕ × List ℕ) → cut_at 10 text ≡ Some x → bytes_eq x.0 (codes "go") ≡ true → length (script_part text) ≡ length x.0 + 1
length_at_go text x cut is = ap (λ (bytes : List ℕ). length bytes) (part_at_go text x cut is) ∙ simp length-append (omega arith)

pub length_behind : (text : List ℕ) (x : List ℕ × List ℕ) → cut_at 10 text ≡ Some x → bytes_eq x.0 (codes "go") ≡ false → length (script_part text) ≡ length x.0 + (1 + length (script_part x.1))
length_behind text x cut is = ap (λ (bytes : List ℕ). length bytes) (part_behind text x cut is) ∙ simp length-append (omega arith)

-- ---- the two parts are the whole

joined_with : (b : ℕ) (ended : List (List ℕ)) (tail : List ℕ) → lines_joined (before_lines b ended tail).ended ++ (before_lines b ended tail).tail ≡ b ∷ (lines_joined ended ++ tail)
joined_with b [] tail = refl
joined_with b (line ∷ ended) tail = refl

-- a text is its lines, each with its line feed, and the bytes behind them
text_is_lines : (text : List ℕ) → lines_joined (lines_of_text text).ended ++ (lines_of_text text).tail ≡ text
text_is_lines [] = refl
text_is_lines (b ∷ bs) =
    let w = lines_of_text bs in
    elim (b == 10) as (λ (t : Bool). (b == 10) ≡ t → lines_joined (cond t (lines ([] ∷ w.ended) w.tail) (before_lines b w.ended w.tail)).ended ++ (cond t (lines ([] ∷ w.ended) w.tail) (before_lines b w.ended w.tail)).tail ≡ b ∷ bs) [
      | true ↦ λ is. ap (λ k. k ∷ (lines_joined w.ended ++ w.tail)) (sym (eqb-true b 10 is)) ∙ ap (λ l. b ∷ l) (text_is_lines bs)
      | false ↦ λ _. joined_with b w.ended w.tail ∙ ap (λ l. b ∷ l) (text_is_lines bs)
    ] refl

lines_joined-append : (xs ys : List (List ℕ)) → lines_joined (xs ++ ys) ≡ lines_joined xs ++ lines_joined ys
lines_joined-append [] ys = refl
lines_joined-append (x ∷ xs) ys = ap (λ l. x ++ 10 ∷ l) (lines_joined-append xs ys) ∙ sym (append_assoc x (10 ∷ lines_joined xs) (lines_joined ys))

-- some lines are the first of these
record IsFront (front whole : List (List ℕ)) : Type 0 where
  others : List (List ℕ)
  is : whole ≡ front ++ others

front_step : (t : Bool) (line : List ℕ) (lines found : List (List ℕ)) (o : Option (List (List ℕ))) → ((ls : List (List ℕ)) → o ≡ Some ls → IsFront ls lines) → cond t (Some (line ∷ [])) (option_map (λ others. line ∷ others) o) ≡ Some found → IsFront found (line ∷ lines)
front_step true line lines found o more e = record { others = lines; is = ap (λ ls. ls ++ lines) (some_is (line ∷ []) found e) }
front_step false line lines found None more e = absurd cc
front_step false line lines found (Some ls) more e =
    let rest = more ls refl in
    record { others = rest.others; is = ap (λ l. line ∷ l) rest.is ∙ ap (λ l. l ++ rest.others) (some_is (line ∷ ls) found e) }

to_go_front : (lines found : List (List ℕ)) → lines_to_go lines ≡ Some found → IsFront found lines
to_go_front [] found e = absurd cc
to_go_front (line ∷ lines) found e = front_step (bytes_eq line (codes "go")) line lines found (lines_to_go lines) (to_go_front lines) e

-- bytes stand at the front of others
record Begins (part whole : List ℕ) : Type 0 where
  rest : List ℕ
  is : whole ≡ part ++ rest

begins_step : (text : List ℕ) (o : Option (List (List ℕ))) → lines_to_go (lines_of_text text).ended ≡ o → Begins (unwrap_or (option_map lines_joined o) text) text
begins_step text None e = record { rest = []; is = sym (append-nil text) }
begins_step text (Some found) e =
    let front = to_go_front (lines_of_text text).ended found e in
    record {
      rest = lines_joined front.others ++ (lines_of_text text).tail;
      is =
          sym (text_is_lines text) ∙ ap (λ ls. lines_joined ls ++ (lines_of_text text).tail) front.is ∙ ap (λ l. l ++ (lines_of_text text).tail) (lines_joined-append found front.others)
          ∙ append_assoc (lines_joined found) (lines_joined front.others) (lines_of_text text).tail;
    }

drop_front : (part rest : List ℕ) → drop (length part) (part ++ rest) ≡ rest
drop_front [] rest = refl
drop_front (b ∷ part) rest = drop_front part rest

-- an input is its two parts
pub parts_are_whole : (bytes : List ℕ) → bytes ≡ script_part bytes ++ report_part bytes
parts_are_whole bytes =
    let b = begins_step bytes (lines_to_go (lines_of_text bytes).ended) refl in
    b.is ∙ ap (λ l. script_part bytes ++ l) (sym (drop_front (script_part bytes) b.rest) ∙ ap (drop (length (script_part bytes))) (sym b.is))

-- so many bytes of it are the script's part
pub taken_part : (bytes : List ℕ) → take (length (script_part bytes)) bytes ≡ script_part bytes
taken_part bytes = ap (take (length (script_part bytes))) (parts_are_whole bytes) ∙ take-append_seam (script_part bytes) (report_part bytes)

pub part_within : (bytes : List ℕ) → length (script_part bytes) ≤ length bytes
part_within bytes = let both : length bytes ≡ length (script_part bytes ++ report_part bytes) = ap length (parts_are_whole bytes) in omega (arith, both, length-append (script_part bytes) (report_part bytes))

-- ---- a script's text ends with its first `go`

-- a line with others behind it is not `go`
no_early_go : (s k : Known) (number : ℕ) (line next : ScriptLine) (known : Known) → IsTrue (is_script_line line) → step s number line ≡ Ok k → step k (number + 1) next ≡ Ok known → bytes_eq (script_line_written line) (codes "go") ≡ true → ⊥
no_early_go s k number line next known sound e more is =
    let same : line ≡ go = one_line (codes "go") line go (record { text_is = sym (bytes_are (script_line_written line) (codes "go") is); sound = sound }) (record { text_is = refl; sound = refl }) in
    let place = go_ends s number k (ap (step s number) (sym same) ∙ e) in
    let stops : Err causes.Syntax ≡ Ok known = sym (ap (λ (p : Place). step_at k (number + 1) p next) place) ∙ more in
    absurd cc

other_line : (t : Bool) (line : List ℕ) (others : List (List ℕ)) (o : Option (List (List ℕ))) → (t ≡ true → ⊥) → o ≡ Some others → cond t (Some (line ∷ [])) (option_map (λ ls. line ∷ ls) o) ≡ Some (line ∷ others)
other_line true line others o never e = absurd (never refl)
other_line false line others o never e = ap (option_map (λ ls. line ∷ ls)) e

-- the lines of a script are those up to its first `go`
script_to_go : (s : Known) (number : ℕ) (lines : List ScriptLine) (known : Known) → AllByRecursion (λ line. IsTrue (is_script_line line)) lines → steps s number lines ≡ Ok known → known.place ≡ Finished → (s.place ≡ Finished → ⊥) → lines_to_go (map script_line_written lines) ≡ Some (map script_line_written lines)
script_to_go s number [] known sound e finished still = absurd (still (ap (λ (k : Known). k.place) (ok_is s known e) ∙ finished))
script_to_go s number (line ∷ []) known sound e finished still =
    let first = bind_ok (step s number line) (λ next. steps next (number + 1) []) known e in
    let last : line ≡ go = go_only s number (moves s number line first.0 first.1) (ap (λ (k : Known). k.place) (ok_is first.0 known first.2) ∙ finished) in
    subst (λ (l : ScriptLine). lines_to_go (script_line_written l ∷ []) ≡ Some (script_line_written l ∷ [])) (sym last) refl
script_to_go s number (line ∷ next ∷ lines) known sound e finished still =
    let first = bind_ok (step s number line) (λ k. steps k (number + 1) (next ∷ lines)) known e in
    let second = bind_ok (step first.0 (number + 1) next) (λ k. steps k (number + 1 + 1) lines) known first.2 in
    let goes_on : first.0.place ≡ Finished → ⊥ = λ place. let stops : Err causes.Syntax ≡ Ok second.0 = sym (ap (λ (p : Place). step_at first.0 (number + 1) p next) place) ∙ second.1 in absurd cc in
    other_line (bytes_eq (script_line_written line) (codes "go")) (script_line_written line) (map script_line_written (next ∷ lines)) (lines_to_go (map script_line_written (next ∷ lines)))
    (no_early_go s first.0 number line next second.0 sound.0 first.1 second.1) (script_to_go first.0 (number + 1) (next ∷ lines) known sound.1 first.2 finished goes_on)

-- the lines of lines with a text behind them
lines_of_both : (texts : List (List ℕ)) (behind : List ℕ) → AllByRecursion (λ line. lacks 10 line ≡ true) texts → (lines_of_text (lines_joined texts ++ behind)).ended ≡ texts ++ (lines_of_text behind).ended
lines_of_both [] behind lack = refl
lines_of_both (line ∷ texts) behind lack =
    ap (λ bytes. (lines_of_text bytes).ended) (append_assoc line (10 ∷ lines_joined texts) behind)
    ∙ ap (λ (w : Lines). w.ended) (lines_behind line (lines_joined texts ++ behind) lack.0)
    ∙ ap (λ ls. line ∷ ls) (lines_of_both texts behind lack.1)

more_step : (t : Bool) (line : List ℕ) (found : List (List ℕ)) (o p : Option (List (List ℕ))) → ((ls : List (List ℕ)) → o ≡ Some ls → p ≡ Some ls) → cond t (Some (line ∷ [])) (option_map (λ ls. line ∷ ls) o) ≡ Some found → cond t (Some (line ∷ [])) (option_map (λ ls. line ∷ ls) p) ≡ Some found
more_step true line found o p more e = e
more_step false line found None p more e = absurd cc
more_step false line found (Some ls) p more e = ap (option_map (λ ls. line ∷ ls)) (more ls refl) ∙ e

-- lines behind the first `go` do not matter
to_go_more : (texts more found : List (List ℕ)) → lines_to_go texts ≡ Some found → lines_to_go (texts ++ more) ≡ Some found
to_go_more [] more found e = absurd cc
to_go_more (line ∷ texts) more found e =
    more_step (bytes_eq line (codes "go")) line found (lines_to_go texts) (lines_to_go (texts ++ more)) (to_go_more texts more) e

unread : Unread ≡ Finished → ⊥
unread e = cc

-- a script's text is the script's part of itself with any bytes behind it
pub part_of_script : (front behind : List ℕ) (s : Script) → ScriptText front s → script_part (front ++ behind) ≡ front
part_of_script front behind s t =
    let texts = (lines_of_text front).ended in
    let are = t.whole.lines_are in
    let joined : lines_joined texts ≡ front = sym (append-nil (lines_joined texts)) ∙ ap (λ tail. lines_joined texts ++ tail) (sym t.whole.nothing_more) ∙ text_is_lines front in
    let ended : (lines_of_text (front ++ behind)).ended ≡ texts ++ (lines_of_text behind).ended = ap (λ bytes. (lines_of_text (bytes ++ behind)).ended) (sym joined) ∙ lines_of_both texts behind (ended_lack front) in
    let to_go : lines_to_go texts ≡ Some texts = ap lines_to_go are.written ∙ script_to_go opening 1 t.lines t.known are.sound are.known_is t.whole.finished unread ∙ ap (λ (ls : List (List ℕ)). let so : Option (List (List ℕ)) = Some ls in so) (sym are.written) in
    ap (λ o. unwrap_or (option_map lines_joined o) (front ++ behind)) (ap lines_to_go ended ∙ to_go_more texts (lines_of_text behind).ended texts to_go) ∙ joined

-- and what stands behind it is the report's part
pub part_behind_script : (front behind : List ℕ) (s : Script) → ScriptText front s → report_part (front ++ behind) ≡ behind
part_behind_script front behind s t = ap (λ part. drop (length part) (front ++ behind)) (part_of_script front behind s t) ∙ drop_front front behind
