-- What is read is the text of its lines, and the text of lines is read.
use Rattle.mod_text.proofs.Common.{◌≡◌, ℕ, suc, Bool, true, false, cond, not, ◌&&◌, ◌==◌, List, [], ◌∷◌, ◌++◌}
use Rattle.mod_text.proofs.Common.{length, map, Option, Some, None, Result, Ok, Err, bytes_eq, codes, Texts}
use Rattle.mod_text.proofs.Common.{refl, sym, ap, ◌∙◌, subst, arith, append_assoc, eqb-true, nat_tests, append-nil}
use Rattle.std.proofs.lemmas.List.Concat.{flat_map-cons}
use Rattle.mod_text.proofs.Types.{LineFault, LineStop}
use Rattle.mod_text.proofs.Forms.{IsTitled, LineForm, title, end, line_written, lines_written, LineText}
use Rattle.mod_text.proofs.Forms.{line_reading, may_follow, last_line, names_after, fault_of_line}
use Rattle.mod_text.proofs.Forms.{StandsBehind, HasLineFault, of_no_form, over_limit, IsNext, FollowOn}
use Rattle.mod_text.proofs.Forms.{names_behind, AreModuleLines, FaultAtFront, unended, stops, faulty, FirstFault}
use Rattle.mod_text.proofs.Forms.{Step, kept, judged, line_step, Read, stop_at, has_no_line, go_on, text_on, bytes_on, read_behind}
use Rattle.mod_text.proofs.Texts.{cut_at, Lines, lines, before_lines, lines_of_text, some_is, passed}
use Rattle.mod_text.proofs.Texts.{bytes_are, lacks, lacks-cons, cut_here, lines_behind, lines_of_tail}
use Rattle.mod_text.proofs.Stepping.{front_read, bytes_on-cut}
use Rattle.mod_text.proofs.Keepings.{last_line-push}
use Rattle.mod_text.proofs.LineLaws.{line_is, text_again, line_lacks}
use Rattle.mod_text.specs.declared.fault.LineFault.TheVariants as faults

-- ---- one line

-- the line of a text is one
pub same_line : (text : List ℕ) (line other : LineForm) → LineText text line → LineText text other → line ≡ other
same_line text line other is too = some_is line other (sym (text_again text line is) ∙ text_again text other too)

-- what a step that was made tells
pub record IsStep (names : Texts) (before : List LineForm) (text : List ℕ) (named : Texts) (read : List LineForm) : Type 0 where
  pub line : LineForm
  pub next : IsNext names before text line
  pub lines_are : read ≡ before ++ line ∷ []
  pub names_are : named ≡ names_after names line

-- answers that are one have one value
pub ok_is : {A : Type 0} {E : Type 0} (x y : A) → ◌≡◌ {A = Result A E} (Ok x) (Ok y) → x ≡ y
ok_is x y e = cc

module _ (names : Texts) (before : List LineForm) (text : List ℕ) (line : LineForm) where
  kept_is : (o : Option LineFault) (named : Texts) (read : List LineForm) → LineText text line → may_follow (last_line before) line ≡ true → fault_of_line names before line ≡ o → kept names before line o ≡ Ok (named, read) → IsStep names before text named read
  kept_is None named read is place none e =
      let same : ◌≡◌ {A = Texts × List LineForm} (names_after names line, before ++ line ∷ []) (named, read) = ok_is _ _ e in
      record { line = line; next = record { stands = record { is_text = is; place = place }; within = none }; lines_are = sym (ap (λ p. p.1) same); names_are = sym (ap (λ p. p.0) same) }
  kept_is (Some fault) named read is place none e = absurd cc

  placed_is : (named : Texts) (read : List LineForm) (t : Bool) → LineText text line → may_follow (last_line before) line ≡ t → cond {A = Step} t (kept names before line (fault_of_line names before line)) (Err faults.Syntax) ≡ Ok (named, read) → IsStep names before text named read
  placed_is named read true is place e = kept_is _ named read is place refl e
  placed_is named read false is place e = absurd cc

module _ (names : Texts) (before : List LineForm) (text : List ℕ) (named : Texts) (read : List LineForm) where
  step_by : (o : Option LineForm) → line_reading text ≡ o → judged names before o ≡ Ok (named, read) → IsStep names before text named read
  step_by None is e = absurd cc
  step_by (Some line) is e = placed_is names _ text line named read _ (line_is text line is) refl e

  -- a line that was read may follow those before it
  pub step_is : line_step names before text ≡ Ok (named, read) → IsStep names before text named read
  step_is e = step_by _ refl e

module _ (names : Texts) (before : List LineForm) (text : List ℕ) (line : LineForm) where
  -- how a line of a form is judged
  judged_at : (o : Option LineFault) → StandsBehind before text line → fault_of_line names before line ≡ o → line_step names before text ≡ kept names before line o
  judged_at o stands is =
      ap (judged names before) (text_again text line stands.is_text)
      ∙ passed (may_follow (last_line before) line) (kept names before line (fault_of_line names before line)) (Err faults.Syntax) stands.place
      ∙ ap (kept names before line) is

  -- a line that may follow is read
  pub step_again : IsNext names before text line → line_step names before text ≡ Ok (names_after names line, before ++ line ∷ [])
  step_again next = judged_at None next.stands next.within

  -- a step that was refused has its cause
  fault_by : (fault : LineFault) (o : Option LineFault) → StandsBehind before text line → fault_of_line names before line ≡ o → kept names before line o ≡ Err fault → HasLineFault names before text fault
  fault_by fault None stands is e = absurd cc
  fault_by fault (Some other) stands is e = let same : other ≡ fault = cc in over_limit line fault stands (is ∙ ap (λ f. Some f) same)

no_place : (before : List LineForm) (text : List ℕ) (line : LineForm) → LineText text line → may_follow (last_line before) line ≡ false → (other : LineForm) → StandsBehind before text other → ⊥
no_place before text line is misplaced other stands =
    let same = ap (may_follow (last_line before)) (same_line text line other is stands.is_text) in
    let place = stands.place in
    absurd cc

place_fault_is : (names : Texts) (before : List LineForm) (text : List ℕ) (line : LineForm) (fault : LineFault) (t : Bool) → LineText text line → may_follow (last_line before) line ≡ t → cond {A = Step} t (kept names before line (fault_of_line names before line)) (Err faults.Syntax) ≡ Err fault → HasLineFault names before text fault
place_fault_is names before text line fault true is place e = fault_by names _ text line fault _ (record { is_text = is; place = place }) refl e
place_fault_is names before text line fault false is place e = let same : faults.Syntax ≡ fault = cc in subst (HasLineFault names before text) same (of_no_form (no_place _ text line is place))

no_line : (text : List ℕ) (before : List LineForm) → line_reading text ≡ None → (line : LineForm) → StandsBehind before text line → ⊥
no_line text before none line stands = let read = text_again text line stands.is_text in absurd cc

module _ (names : Texts) (before : List LineForm) (text : List ℕ) where
  step_fault_by : (fault : LineFault) (o : Option LineForm) → line_reading text ≡ o → judged names before o ≡ Err fault → HasLineFault names before text fault
  step_fault_by fault None is e = let same : faults.Syntax ≡ fault = cc in subst (HasLineFault names before text) same (of_no_form (no_line text _ is))
  step_fault_by fault (Some line) is e = place_fault_is names _ text line fault _ (line_is text line is) refl e

  pub step_fault : (fault : LineFault) → line_step names before text ≡ Err fault → HasLineFault names before text fault
  step_fault fault e = step_fault_by fault _ refl e

  -- and each cause its refusal
  formless_by : (o : Option LineForm) → ((line : LineForm) → StandsBehind before text line → ⊥) → line_reading text ≡ o → judged names before o ≡ Err faults.Syntax
  formless_by None never is = refl
  formless_by (Some line) never is =
      elim (may_follow (last_line before) line) as (λ t. may_follow (last_line before) line ≡ t → cond {A = Step} t (kept names before line (fault_of_line names before line)) (Err faults.Syntax) ≡ Err faults.Syntax) [
        | true ↦ λ place. absurd (never line (record { is_text = line_is text line is; place = place }))
        | false ↦ λ _. refl
      ] refl

  pub fault_step : (fault : LineFault) → HasLineFault names before text fault → line_step names before text ≡ Err fault
  fault_step _ (of_no_form never) = formless_by _ never refl
  fault_step _ (over_limit line fault stands is) = judged_at names _ text line _ stands is

-- ---- the bytes of lines

-- lines, each with its line feed, and what is behind them
pub joined : Texts → List ℕ → List ℕ
joined [] tail = tail
joined (text ∷ others) tail = text ++ 10 ∷ joined others tail

joined_before : (b : ℕ) (ended : Texts) (tail : List ℕ) → joined (before_lines b ended tail).ended (before_lines b ended tail).tail ≡ b ∷ joined ended tail
unfolding joined
joined_before b [] tail = refl
joined_before b (line ∷ others) tail = refl

-- a text is its lines joined
pub joined_lines : (bytes : List ℕ) → joined (lines_of_text bytes).ended (lines_of_text bytes).tail ≡ bytes
unfolding joined
joined_lines [] = refl
joined_lines (b ∷ bs) =
    elim (b == 10) as (λ (t : Bool). (b == 10) ≡ t → joined (cond t (lines ([] ∷ (lines_of_text bs).ended) (lines_of_text bs).tail) (before_lines b (lines_of_text bs).ended (lines_of_text bs).tail)).ended (cond t (lines ([] ∷ (lines_of_text bs).ended) (lines_of_text bs).tail) (before_lines b (lines_of_text bs).ended (lines_of_text bs).tail)).tail ≡ b ∷ bs) [
      | true ↦ λ is. ap (λ k. k ∷ joined (lines_of_text bs).ended (lines_of_text bs).tail) (sym (eqb-true b 10 is)) ∙ ap (λ l. b ∷ l) (joined_lines bs)
      | false ↦ λ _. joined_before b _ _ ∙ ap (λ l. b ∷ l) (joined_lines bs)
    ] refl

joined-append : (xs ys : Texts) (tail : List ℕ) → joined (xs ++ ys) tail ≡ joined xs (joined ys tail)
unfolding joined
joined-append [] ys tail = refl
joined-append (x ∷ xs) ys tail = ap (λ l. x ++ 10 ∷ l) (joined-append xs ys tail)

-- the bytes of lines of forms
pub joined_forms : (forms : List LineForm) (tail : List ℕ) → joined (map line_written forms) tail ≡ lines_written forms ++ tail
unfolding joined
joined_forms [] tail = refl
joined_forms (line ∷ forms) tail =
    ap (λ l. line_written line ++ 10 ∷ l) (joined_forms forms tail)
    ∙ sym (ap (λ l. l ++ tail) (flat_map-cons (λ l. line_written l ++ 10 ∷ []) line forms) ∙ append_assoc (line_written line ++ 10 ∷ []) (lines_written forms) tail ∙ append_assoc (line_written line) (10 ∷ []) (lines_written forms ++ tail))

-- the lines of the bytes of forms, and of what is behind them
pub lines_of_forms : (names : Texts) (before forms : List LineForm) (rest : List ℕ) → FollowOn names before forms → lines_of_text (lines_written forms ++ rest) ≡ lines (map line_written forms ++ (lines_of_text rest).ended) (lines_of_text rest).tail
lines_of_forms names before [] rest follow = refl
lines_of_forms names before (line ∷ forms) rest follow =
    let text = line_written line in
    let whole : lines_written (line ∷ forms) ++ rest ≡ text ++ 10 ∷ (lines_written forms ++ rest) =
    ap (λ l. l ++ rest) (flat_map-cons (λ l. line_written l ++ 10 ∷ []) line forms) ∙ append_assoc (text ++ 10 ∷ []) (lines_written forms) rest ∙ append_assoc text (10 ∷ []) (lines_written forms ++ rest) in
    ap lines_of_text whole ∙ lines_behind text (lines_written forms ++ rest) (line_lacks line follow.0.stands.is_text.sound)
    ∙ ap (λ (w : Lines). lines (text ∷ w.ended) w.tail) (lines_of_forms (names_after names line) (before ++ line ∷ []) forms rest follow.1)

-- ---- what is read

-- what a reading that came to the end tells
pub record IsReadOn (names : Texts) (before : List LineForm) (ended : Texts) (tail : List ℕ) (named : Texts) (read : List LineForm) : Type 0 where
  pub more : List LineForm
  pub whole : read ≡ before ++ more
  pub texts : ended ≡ map line_written more
  pub no_tail : tail ≡ []
  pub follow : FollowOn names before more
  pub closed : last_line read ≡ Some end
  pub names_are : named ≡ names_behind names more

end_line : (text : List ℕ) (line : LineForm) → LineText text line → bytes_eq text (codes "end") ≡ true → line ≡ end
end_line text line is ends = some_is line end (sym (text_again text line is) ∙ ap line_reading (bytes_are text _ ends))

nothing_left : (ended : Texts) (tail : List ℕ) → has_no_line ended tail ≡ true → (ended ≡ []) × (tail ≡ [])
nothing_left [] [] h = (refl, refl)
nothing_left ended tail h = absurd cc

both_false : (a b : Bool) → a ≡ true → (a && not b) ≡ false → b ≡ true
both_false true true e h = refl
both_false a b e h = absurd cc

both_true_first : (a b : Bool) → (a && not b) ≡ true → a ≡ true
both_true_first true b h = refl
both_true_first false b h = absurd cc

both_true_second : (a b : Bool) → (a && not b) ≡ true → b ≡ false
both_true_second true false h = refl
both_true_second a b h = absurd cc

next_of_text : (names : Texts) (before : List LineForm) (text : List ℕ) (line : LineForm) → IsNext names before text line → IsNext names before (line_written line) line
next_of_text names before text line next = subst (λ t. IsNext names before t line) next.stands.is_text.text_is next

pair_is : (n : Texts) (r : List LineForm) (n' : Texts) (r' : List LineForm) → n ≡ n' → r ≡ r' → ◌≡◌ {A = Texts × List LineForm} (n, r) (n', r')
pair_is n r n' r' e f = λ i. (e i, f i)

module _ (names : Texts) (before : List LineForm) (text : List ℕ) (others : Texts) (tail : List ℕ) (named : Texts) (read : List LineForm) where
  last_is_read : (n : Texts) (r : List LineForm) → IsStep names before text n r → has_no_line others tail ≡ true → bytes_eq text (codes "end") ≡ true → ◌≡◌ {A = Read} (Ok (n, r)) (Ok (named, read)) → IsReadOn names before (text ∷ others) tail named read
  last_is_read n r step last ends e =
      let left = nothing_left _ tail last in
      let same : ◌≡◌ {A = Texts × List LineForm} (n, r) (named, read) = ok_is _ _ e in
      let reads : read ≡ before ++ step.line ∷ [] = sym (ap (λ p. p.1) same) ∙ step.lines_are in
      record {
        more = step.line ∷ [];
        whole = reads;
        texts = (λ i. step.next.stands.is_text.text_is i ∷ left.0 i);
        no_tail = left.1;
        follow = (next_of_text names _ text _ step.next, tt);
        closed = ap last_line reads ∙ last_line-push before _ ∙ ap (λ l. Some l) (end_line text _ step.next.stands.is_text ends);
        names_are = sym (ap (λ p. p.0) same) ∙ step.names_are;
      }

  more_is_read : (n : Texts) (r : List LineForm) → IsStep names before text n r → IsReadOn n r others tail named read → IsReadOn names before (text ∷ others) tail named read
  more_is_read n r step rest =
      let follow : FollowOn (names_after names step.line) (before ++ step.line ∷ []) rest.more = subst (λ p. FollowOn p.0 p.1 rest.more) (pair_is n r (names_after names step.line) (before ++ step.line ∷ []) step.names_are step.lines_are) rest.follow in
      record {
        more = step.line ∷ rest.more;
        whole = rest.whole ∙ ap (λ l. l ++ rest.more) step.lines_are ∙ append_assoc before (step.line ∷ []) rest.more;
        texts = (λ i. step.next.stands.is_text.text_is i ∷ rest.texts i);
        no_tail = rest.no_tail;
        follow = (next_of_text names before text step.line step.next, follow);
        closed = rest.closed;
        names_are = rest.names_are ∙ ap (λ ns. names_behind ns rest.more) step.names_are;
      }

  step_is_read : (s : Step) → ((n : Texts) (r : List LineForm) → text_on n r others tail ≡ Ok (named, read) → IsReadOn n r others tail named read) → line_step names before text ≡ s → (has_no_line others tail && not (bytes_eq text (codes "end"))) ≡ false → go_on (length before) s (λ n r. cond (has_no_line others tail) (Ok (n, r)) (text_on n r others tail)) ≡ Ok (named, read) → IsReadOn names before (text ∷ others) tail named read
  step_is_read (Err fault) again is goes h = absurd cc
  step_is_read (Ok x) again is goes h =
      let step = step_is names before text x.0 x.1 is in
      elim (has_no_line others tail) as (λ t. has_no_line others tail ≡ t → cond {A = Read} t (Ok (x.0, x.1)) (text_on x.0 x.1 others tail) ≡ Ok (named, read) → IsReadOn names before (text ∷ others) tail named read) [
        | true ↦ λ last k. last_is_read x.0 x.1 step last (both_false (has_no_line others tail) (bytes_eq text (codes "end")) last goes) k
        | false ↦ λ _ k. more_is_read x.0 x.1 step (again x.0 x.1 k)
      ] refl h

-- what was read to its end are lines in a row, the last of which is the end
pub text_is_read : (names : Texts) (before : List LineForm) (ended : Texts) (tail : List ℕ) (named : Texts) (read : List LineForm) → text_on names before ended tail ≡ Ok (named, read) → IsReadOn names before ended tail named read
text_is_read names before [] tail named read e = absurd cc
text_is_read names before (text ∷ others) tail named read e =
    elim (has_no_line others tail && not (bytes_eq text (codes "end"))) as (λ t. (has_no_line others tail && not (bytes_eq text (codes "end"))) ≡ t → cond {A = Read} t (stop_at (length before) faults.Syntax) (go_on (length before) (line_step names before text) (λ n r. cond (has_no_line others tail) (Ok (n, r)) (text_on n r others tail))) ≡ Ok (named, read) → IsReadOn names before (text ∷ others) tail named read) [
      | true ↦ λ _ h. absurd cc
      | false ↦ λ goes h. step_is_read names before text others tail named read (line_step names before text) (λ n r. text_is_read n r others tail named read) refl goes h
    ] refl e

-- the text of lines in a row is read, the last of which is the end
more_again : (names : Texts) (before : List LineForm) (line : LineForm) (rest : List LineForm) → FollowOn names before (line ∷ rest) → last_line (before ++ line ∷ rest) ≡ Some end → text_on names before (map line_written (line ∷ rest)) [] ≡ Ok (names_behind names (line ∷ rest), before ++ line ∷ rest)
more_again names before line [] follow closed =
    let is_end_line : line ≡ end = some_is line end (sym (last_line-push before line) ∙ closed) in
    let ends : bytes_eq (line_written line) (codes "end") ≡ true = ap (λ l. bytes_eq (line_written l) (codes "end")) is_end_line in
    ap (λ t. cond {A = Read} (not t) (stop_at (length before) faults.Syntax) (go_on (length before) (line_step names before (line_written line)) (λ n r. Ok (n, r)))) ends
    ∙ ap (λ s. go_on (length before) s (λ n r. Ok (n, r))) (step_again names before (line_written line) line follow.0)
more_again names before line (next ∷ rest) follow closed =
    let after = before ++ line ∷ [] in
    let whole : after ++ next ∷ rest ≡ before ++ line ∷ next ∷ rest = append_assoc before (line ∷ []) (next ∷ rest) in
    ap (λ s. go_on (length before) s (λ n r. text_on n r (map line_written (next ∷ rest)) [])) (step_again names before (line_written line) line follow.0)
    ∙ more_again (names_after names line) after next rest follow.1 (ap last_line whole ∙ closed)
    ∙ ap (λ ls. Ok (names_behind names (line ∷ next ∷ rest), ls)) whole

pub lines_again : (names : Texts) (forms : List LineForm) → AreModuleLines names forms → last_line forms ≡ Some end → bytes_on names [] (lines_written forms) ≡ Ok (names_behind names forms, forms)
lines_again names [] follow closed = absurd cc
lines_again names (line ∷ forms) follow closed =
    let whole = line ∷ forms in
    ap (bytes_on names []) (sym (append-nil (lines_written whole)))
    ∙ ap (λ (w : Lines). text_on names [] w.ended w.tail) (lines_of_forms names [] whole [] follow)
    ∙ ap (λ ts. text_on names [] ts []) (append-nil (map line_written whole))
    ∙ more_again names [] line forms follow closed

-- what is read of bytes
pub record IsRead (names : Texts) (bytes : List ℕ) (named : Texts) (forms : List LineForm) : Type 0 where
  pub spelled : bytes ≡ lines_written forms
  pub faultless : AreModuleLines names forms
  pub closed : last_line forms ≡ Some end
  pub names_are : named ≡ names_behind names forms

pub bytes_are_read : (names : Texts) (bytes : List ℕ) (named : Texts) (forms : List LineForm) → bytes_on names [] bytes ≡ Ok (named, forms) → IsRead names bytes named forms
bytes_are_read names bytes named forms e =
    let is = text_is_read names [] (lines_of_text bytes).ended (lines_of_text bytes).tail named forms e in
    let same : is.more ≡ forms = sym is.whole in
    record {
      spelled = sym (joined_lines bytes) ∙ (λ i. joined (is.texts i) (is.no_tail i)) ∙ joined_forms _ [] ∙ append-nil _ ∙ ap lines_written same;
      faultless = subst (FollowOn names []) same is.follow;
      closed = is.closed;
      names_are = is.names_are ∙ ap (names_behind names) same;
    }

-- ---- the first fault

-- what stops a reading at a line
data FrontFault (names : Texts) (before : List LineForm) (tail : List ℕ) : Texts → LineFault → Type 0 where
  no_line_feed : (has_no_line [] tail ≡ true → before ≡ []) → FrontFault names before tail [] faults.Syntax
  no_end : (text : List ℕ) (others : Texts) → has_no_line others tail ≡ true → bytes_eq text (codes "end") ≡ false → FrontFault names before tail (text ∷ others) faults.Syntax
  refused : (text : List ℕ) (others : Texts) (fault : LineFault) → (has_no_line others tail && not (bytes_eq text (codes "end"))) ≡ false → line_step names before text ≡ Err fault → FrontFault names before tail (text ∷ others) fault

-- what a reading that stopped tells
record IsStopped (names : Texts) (before : List LineForm) (ended : Texts) (tail : List ℕ) (stop : LineStop) : Type 0 where
  more : List LineForm
  left : Texts
  texts : ended ≡ map line_written more ++ left
  follow : FollowOn names before more
  counted : stop.number ≡ length (before ++ more)
  here : FrontFault (names_behind names more) (before ++ more) tail left stop.fault

err_is : {A : Type 0} {E : Type 0} (x y : E) → ◌≡◌ {A = Result A E} (Err x) (Err y) → x ≡ y
err_is x y e = cc

stops_here : (names : Texts) (before : List LineForm) (ended : Texts) (tail : List ℕ) (fault : LineFault) (stop : LineStop) → FrontFault names before tail ended fault → stop_at (length before) fault ≡ Err stop → IsStopped names before ended tail stop
stops_here names before ended tail fault stop here e =
    let same : ◌≡◌ {A = LineStop} (record { number = length before; fault = fault }) stop = err_is _ stop e in
    record {
      more = [];
      left = ended;
      texts = refl;
      follow = tt;
      counted = sym (ap (λ (s : LineStop). s.number) same) ∙ ap length (sym (append-nil _));
      here = subst (λ b. FrontFault names b tail ended stop.fault) (sym (append-nil _)) (subst (FrontFault names before tail ended) (ap (λ (s : LineStop). s.fault) same) here);
    }

never_last : (before : List LineForm) (line : LineForm) (others : Texts) (tail : List ℕ) → has_no_line others tail ≡ false → has_no_line others tail ≡ true → before ++ line ∷ [] ≡ []
never_last before line others tail further last = absurd cc

module _ (names : Texts) (before : List LineForm) (text : List ℕ) (others : Texts) (tail : List ℕ) (stop : LineStop) where
  stops_later : (n : Texts) (r : List LineForm) → IsStep names before text n r → IsStopped n r others tail stop → IsStopped names before (text ∷ others) tail stop
  stops_later n r step rest =
      let whole : r ++ rest.more ≡ before ++ step.line ∷ rest.more = ap (λ l. l ++ rest.more) step.lines_are ∙ append_assoc before (step.line ∷ []) rest.more in
      let follow : FollowOn (names_after names step.line) (before ++ step.line ∷ []) rest.more = subst (λ p. FollowOn p.0 p.1 rest.more) (pair_is n r (names_after names step.line) (before ++ step.line ∷ []) step.names_are step.lines_are) rest.follow in
      record {
        more = step.line ∷ rest.more;
        left = rest.left;
        texts = (λ i. step.next.stands.is_text.text_is i ∷ rest.texts i);
        follow = (next_of_text names before text step.line step.next, follow);
        counted = rest.counted ∙ ap length whole;
        here = subst (λ p. FrontFault p.0 p.1 tail rest.left stop.fault) (pair_is (names_behind n rest.more) (r ++ rest.more) (names_behind (names_after names step.line) rest.more) (before ++ step.line ∷ rest.more) (ap (λ ns. names_behind ns rest.more) step.names_are) whole) rest.here;
      }

  step_stops : (s : Step) → ((n : Texts) (r : List LineForm) → (has_no_line others tail ≡ true → r ≡ []) → text_on n r others tail ≡ Err stop → IsStopped n r others tail stop) → line_step names before text ≡ s → (has_no_line others tail && not (bytes_eq text (codes "end"))) ≡ false → go_on (length before) s (λ n r. cond (has_no_line others tail) (Ok (n, r)) (text_on n r others tail)) ≡ Err stop → IsStopped names before (text ∷ others) tail stop
  step_stops (Err fault) again is goes h = stops_here names _ _ tail fault stop (refused text _ fault goes is) h
  step_stops (Ok x) again is goes h =
      let step = step_is names before text x.0 x.1 is in
      elim (has_no_line others tail) as (λ t. has_no_line others tail ≡ t → cond {A = Read} t (Ok (x.0, x.1)) (text_on x.0 x.1 others tail) ≡ Err stop → IsStopped names before (text ∷ others) tail stop) [
        | true ↦ λ _ k. absurd cc
        | false ↦ λ further k. stops_later x.0 x.1 step (again x.0 x.1 (λ yes. step.lines_are ∙ never_last before step.line others tail further yes) k)
      ] refl h

text_is_stopped : (names : Texts) (before : List LineForm) (ended : Texts) (tail : List ℕ) (stop : LineStop) → (has_no_line ended tail ≡ true → before ≡ []) → text_on names before ended tail ≡ Err stop → IsStopped names before ended tail stop
text_is_stopped names before [] tail stop opens e = stops_here names _ [] tail faults.Syntax stop (no_line_feed opens) e
text_is_stopped names before (text ∷ others) tail stop opens e =
    elim (has_no_line others tail && not (bytes_eq text (codes "end"))) as (λ t. (has_no_line others tail && not (bytes_eq text (codes "end"))) ≡ t → cond {A = Read} t (stop_at (length before) faults.Syntax) (go_on (length before) (line_step names before text) (λ n r. cond (has_no_line others tail) (Ok (n, r)) (text_on n r others tail))) ≡ Err stop → IsStopped names before (text ∷ others) tail stop) [
      | true ↦ λ early h. stops_here names before (text ∷ others) tail faults.Syntax stop (no_end text others (both_true_first (has_no_line others tail) (bytes_eq text (codes "end")) early) (both_true_second (has_no_line others tail) (bytes_eq text (codes "end")) early)) h
      | false ↦ λ goes h. step_stops names before text others tail stop (line_step names before text) (λ n r opens_too. text_is_stopped n r others tail stop opens_too) refl goes h
    ] refl e

-- ---- the lines of a text have no line feeds

-- each text lacks a line feed
abbrev AllLack : Texts → Type 0
AllLack [] = Unit {0}
AllLack (text ∷ others) = (lacks 10 text ≡ true) × AllLack others

record LinesLack (w : Lines) : Type 0 where
  ended : AllLack w.ended
  tail : lacks 10 w.tail ≡ true

before_lack : (b : ℕ) (ended : Texts) (tail : List ℕ) → (b == 10) ≡ false → AllLack ended → lacks 10 tail ≡ true → LinesLack (before_lines b ended tail)
before_lack b [] tail other all last = record { ended = tt; tail = lacks-cons 10 b tail other last }
before_lack b (line ∷ others) tail other all last = record { ended = (lacks-cons 10 b line other all.0, all.1); tail = last }

lines_lack : (bytes : List ℕ) → LinesLack (lines_of_text bytes)
lines_lack [] = record { ended = tt; tail = refl }
lines_lack (b ∷ bs) =
    let rest = lines_lack bs in
    elim (b == 10) as (λ (t : Bool). (b == 10) ≡ t → LinesLack (cond t (lines ([] ∷ (lines_of_text bs).ended) (lines_of_text bs).tail) (before_lines b (lines_of_text bs).ended (lines_of_text bs).tail))) [
      | true ↦ λ _. record { ended = (refl, rest.ended); tail = rest.tail }
      | false ↦ λ other. before_lack b _ _ other rest.ended rest.tail
    ] refl

left_lack : (xs ys : Texts) → AllLack (xs ++ ys) → AllLack ys
left_lack [] ys all = all
left_lack (x ∷ xs) ys all = left_lack xs ys all.1

-- ---- the first fault, both ways

ended_none : (tail : List ℕ) → tail ≡ [] → has_no_line [] tail ≡ true
ended_none tail none = ap (has_no_line []) none

nothing_joined : (others : Texts) (tail : List ℕ) → joined others tail ≡ [] → has_no_line others tail ≡ true
unfolding joined
nothing_joined [] tail none = ended_none tail none
nothing_joined ([] ∷ others) tail none = absurd cc
nothing_joined ((b ∷ text) ∷ others) tail none = absurd cc

differs : (text : List ℕ) → bytes_eq text (codes "end") ≡ false → text ≡ codes "end" → ⊥
differs text other same = let equal : bytes_eq text (codes "end") ≡ true = ap (λ t. bytes_eq t (codes "end")) same in absurd cc

front_fault : (names : Texts) (before : List LineForm) (tail : List ℕ) (left : Texts) (fault : LineFault) → lacks 10 tail ≡ true → AllLack left → FrontFault names before tail left fault → FaultAtFront names before (joined left tail) fault
unfolding joined
front_fault names before tail _ _ tail_lacks all (no_line_feed opens) = unended tail_lacks (λ none. opens (ended_none tail none))
front_fault names before tail _ _ tail_lacks all (no_end text others last other) =
    let left = nothing_left _ tail last in
    stops text all.0 (λ i. text ++ 10 ∷ joined (left.0 i) (left.1 i)) (differs text other)
front_fault names before tail _ _ tail_lacks all (refused text others fault goes step) =
    faulty text _ fault all.0 refl (λ none. bytes_are text _ (both_false _ _ (nothing_joined _ tail none) goes)) (step_fault names _ text fault step)

-- what stops a reading is the first fault
pub first_fault : (names : Texts) (bytes : List ℕ) (stop : LineStop) → bytes_on names [] bytes ≡ Err stop → FirstFault names bytes stop.number stop.fault
first_fault names bytes stop e =
    let tail = (lines_of_text bytes).tail in
    let is = text_is_stopped names [] ((lines_of_text bytes).ended) tail stop (λ _. refl) e in
    let lack = lines_lack bytes in
    record {
      lines = is.more;
      rest = joined is.left tail;
      cut = sym (joined_lines bytes) ∙ ap (λ ts. joined ts tail) is.texts ∙ joined-append _ _ tail ∙ joined_forms _ _;
      faultless = is.follow;
      counted = is.counted;
      here = front_fault _ _ tail _ _ lack.tail (left_lack _ _ (subst AllLack is.texts lack.ended)) is.here;
    }

further_end : (more : List LineForm) (left : Texts) (tail : List ℕ) → has_no_line left tail ≡ false → has_no_line (map line_written more ++ left) tail ≡ false
further_end [] left tail h = h
further_end (line ∷ more) left tail h = refl

-- lines in a row are read, where more follows them
run_on : (names : Texts) (before more : List LineForm) (left : Texts) (tail : List ℕ) → FollowOn names before more → has_no_line left tail ≡ false → text_on names before (map line_written more ++ left) tail ≡ text_on (names_behind names more) (before ++ more) left tail
run_on names before [] left tail follow further = ap (λ b. text_on names b left tail) (sym (append-nil _))
run_on names before (line ∷ more) left tail follow further =
    let others = map line_written more ++ left in
    ap (λ t. cond {A = Read} (t && not (bytes_eq (line_written line) (codes "end"))) (stop_at (length before) faults.Syntax) (go_on (length before) (line_step names before (line_written line)) (λ n r. cond t (Ok (n, r)) (text_on n r others tail)))) (further_end more left tail further)
    ∙ ap (λ s. go_on (length before) s (λ n r. text_on n r others tail)) (step_again names before (line_written line) line follow.0)
    ∙ run_on (names_after names line) (before ++ line ∷ []) more left tail follow.1 further
    ∙ ap (λ b. text_on (names_behind names (line ∷ more)) b left tail) (append_assoc before (line ∷ []) more)

module _ (names : Texts) (forms : List LineForm) (bytes : List ℕ) where
  run_to : (rest : List ℕ) → bytes ≡ lines_written forms ++ rest → AreModuleLines names forms → bytes_on names [] bytes ≡ text_on names [] (map line_written forms ++ (lines_of_text rest).ended) (lines_of_text rest).tail
  run_to rest cut follow = ap (bytes_on names []) cut ∙ ap (λ (w : Lines). text_on names [] w.ended w.tail) (lines_of_forms names [] forms rest follow)

  -- the reading of what follows lines in a row
  run_behind : (rest : List ℕ) → bytes ≡ lines_written forms ++ rest → AreModuleLines names forms → has_no_line (lines_of_text rest).ended (lines_of_text rest).tail ≡ false → bytes_on names [] bytes ≡ bytes_on (names_behind names forms) forms rest
  run_behind rest cut follow further = run_to rest cut follow ∙ run_on names [] forms (lines_of_text rest).ended (lines_of_text rest).tail follow further

  unended_again : (rest : List ℕ) → bytes ≡ lines_written forms ++ rest → AreModuleLines names forms → lacks 10 rest ≡ true → (rest ≡ [] → forms ≡ []) → bytes_on names [] bytes ≡ stop_at (length forms) faults.Syntax
  unended_again [] cut follow lacking opens =
      let none = opens refl in
      ap (bytes_on names []) (cut ∙ ap (λ fs. lines_written fs ++ []) none) ∙ ap (λ (fs : List LineForm). stop_at (length fs) faults.Syntax) (sym none)
  unended_again (b ∷ rest) cut follow lacking opens =
      let tail = lines_of_tail (b ∷ rest) lacking in
      run_behind (b ∷ rest) cut follow (ap (λ (w : Lines). has_no_line w.ended w.tail) tail)
      ∙ ap (λ (w : Lines). text_on (names_behind names forms) forms w.ended w.tail) tail

  front_again : (rest text behind : List ℕ) → bytes ≡ lines_written forms ++ rest → AreModuleLines names forms → lacks 10 text ≡ true → rest ≡ text ++ 10 ∷ behind → bytes_on names [] bytes ≡ front_read (names_behind names forms) forms text behind
  front_again rest text behind cut follow lacking at =
      let first = ap lines_of_text at ∙ lines_behind text behind lacking in
      run_behind rest cut follow (ap (λ (w : Lines). has_no_line w.ended w.tail) first)
      ∙ bytes_on-cut (names_behind names forms) forms rest text behind (ap (cut_at 10) at ∙ cut_here 10 text behind lacking)

other_text : (text : List ℕ) → (text ≡ codes "end" → ⊥) → bytes_eq text (codes "end") ≡ false
other_text text differs_is = elim (bytes_eq text (codes "end")) as (λ t. bytes_eq text (codes "end") ≡ t → t ≡ false) [
  | true ↦ λ e. absurd (differs_is (bytes_are text (codes "end") e))
  | false ↦ λ _. refl
] refl

goes_by : (text behind : List ℕ) → (behind ≡ [] → text ≡ codes "end") → ((length behind == 0) && not (bytes_eq text (codes "end"))) ≡ false
goes_by text [] ends = ap (λ t. not (bytes_eq t (codes "end"))) (ends refl)
goes_by text (b ∷ behind) ends = let some : (suc (length behind) == 0) ≡ false = grind (arith, nat_tests) in ap (λ t. t && not (bytes_eq text (codes "end"))) some

fault_at_front : (names : Texts) (forms : List LineForm) (bytes rest : List ℕ) (fault : LineFault) → bytes ≡ lines_written forms ++ rest → AreModuleLines names forms → FaultAtFront (names_behind names forms) forms rest fault → bytes_on names [] bytes ≡ stop_at (length forms) fault
fault_at_front names forms bytes rest _ cut follow (unended lacking opens) = unended_again names forms bytes rest cut follow lacking opens
fault_at_front names forms bytes rest _ cut follow (stops text lacking at other) =
    front_again names forms bytes rest text [] cut follow lacking at
    ∙ ap (λ t. cond {A = Read} (not t) (stop_at (length forms) faults.Syntax) (go_on (length forms) (line_step (names_behind names forms) forms text) (λ n r. read_behind n r []))) (other_text text other)
fault_at_front names forms bytes rest _ cut follow (faulty text behind fault lacking at ends has) =
    front_again names forms bytes rest text behind cut follow lacking at
    ∙ ap (λ t. cond {A = Read} t (stop_at (length forms) faults.Syntax) (go_on (length forms) (line_step (names_behind names forms) forms text) (λ n r. read_behind n r behind))) (goes_by text behind ends)
    ∙ ap (λ s. go_on (length forms) s (λ n r. read_behind n r behind)) (fault_step (names_behind names forms) forms text fault has)

-- the first fault stops the reading
pub fault_again : (names : Texts) (bytes : List ℕ) (number : ℕ) (fault : LineFault) → FirstFault names bytes number fault → bytes_on names [] bytes ≡ stop_at number fault
fault_again names bytes number fault is = fault_at_front names is.lines bytes is.rest fault is.cut is.faultless is.here ∙ ap (λ n. stop_at n fault) (sym is.counted)

-- the first line of a module is its title
pub titled_is : (names : Texts) (forms : List LineForm) → AreModuleLines names forms → last_line forms ≡ Some end → IsTitled forms
titled_is names [] follow closed = absurd cc
titled_is names (title name version ∷ lines) follow closed = tt
titled_is names forms follow closed = absurd (let place = follow.0.stands.place in cc)
