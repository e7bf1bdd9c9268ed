-- What stays true of what is known, line by line, without looking back: room for names, the count of an open text, what is noted.
use Rattle.script_text.proofs.Common.{◌≡◌, ℕ, ◌+◌, ◌<◌, ◌≤◌, Bool, true, false, cond, List, [], ◌∷◌, ◌++◌, length, Option, Some, None, Ok, refl, sym}
use Rattle.script_text.proofs.Common.{subst, arith, length-append, Texts, nat_le, nat_lt, Result, Err, ◌∙◌, IfSome}
use Rattle.script_text.proofs.Texts.{test_not_lt, names_with_all}
use Rattle.script_text.proofs.Modules.{LineForm, title, names_after}
use Rattle.script_text.proofs.Modules.{fault_of_line, counted_name, IsTitled, unsettled_line, judged, kept}
use Rattle.script_text.proofs.Types.{Place, Between, Within, Observing, Loading, Unread, Finished, Mfa, LineFault, ModRef, LineCause}
use Rattle.script_text.proofs.Forms.{ScriptLine, RefForm, head, code, observer, loader, load, on_atom, put, trace, spawn, go, script_line_atoms}
use Rattle.script_text.proofs.Forms.{or_else, is_wide, is_long, ◌>>=◌, passes_functions, ref_added, counted_added}
use Rattle.script_text.specs.LineStep.{Known, opening, closed_by, text_closed, loads_given, step, steps, by_code, step_titled}
use Rattle.script_text.specs.LineStep.{step_title, code_judged, step_code, names_added, spawned_in, processes_with, step_named}
use Rattle.script_text.specs.LineStep.{step_command, step_head, step_within, step_observing, step_between, step_loading, step_at}
use Rattle.script_text.specs.declared.reading.cause.LineCause.TheVariants as causes
use Rattle.script_text.proofs.TextLines.{titled_more}
use Rattle.script_text.proofs.FormSteps.{unsettled_within}
use Rattle.script_text.proofs.StepMoves.{IsOutside, front_outside, with_command, Move, begins, opens, writes}
use Rattle.script_text.proofs.StepMoves.{observes, blocks, ends, commands, moves, with_line, bind_ok, ok_is}
use Rattle.script_text.specs.declared.fault.Which.{Which}
use Rattle.script_text.specs.declared.fault.Which.TheVariants as which
use Rattle.mod_text.specs.declared.fault.LineFault.TheVariants as line_faults

-- where a text is open, it begins with its title, which has its number; elsewhere none is open
abbrev pub IsOpenAt : Known → ℕ → Place → Type 0
IsOpenAt s number Within = IsTitled s.lines × (s.title + length s.lines ≡ number)
IsOpenAt s number place = s.lines ≡ []

-- in front of the line of this number
pub record IsKept (s : Known) (number : ℕ) : Type 0 where
  pub room : length s.names ≤ 4096
  pub open_at : IsOpenAt s number s.place
  pub noted : IfSome s.unknown (λ line. line < number)

later : (number : ℕ) (o : Option ℕ) → IfSome o (λ line. line < number) → IfSome o (λ line. line < number + 1)
later number None h = tt
later number (Some line) h = omega arith

noted_too : (number : ℕ) (o : Option ℕ) (line : ℕ) → IfSome o (λ l. l < number) → line < number + 1 → IfSome (or_else o (Some line)) (λ l. l < number + 1)
noted_too number None line h k = k
noted_too number (Some l) line h k = omega arith

noted_if : (number : ℕ) (o : Option ℕ) (t : Bool) → IfSome o (λ l. l < number) → IfSome (cond t o (or_else o (Some number))) (λ l. l < number + 1)
noted_if number o true h = later _ o h
noted_if number o false h = noted_too _ o _ h (omega arith)

own_names : (high wide big names functions long repeated : Bool) → cond high (Some line_faults.Register) (cond wide (Some line_faults.Int) (cond big (Some line_faults.Term) (cond names (Some line_faults.Names) (cond functions (Some line_faults.TooManyFunctions) (cond long (Some line_faults.TooLong) (cond repeated (Some line_faults.Duplicate) None)))))) ≡ None → names ≡ false
own_names false false false false functions long repeated e = refl
own_names high wide big names functions long repeated e = absurd cc

pub room_after : (names : Texts) (lines : List LineForm) (line : LineForm) → fault_of_line names lines line ≡ None → length (names_after names line) ≤ 4096
room_after names lines line e = test_not_lt 4096 _ (own_names _ _ _ _ _ _ _ e)

-- outside of module texts none is open
pub none_open : (s : Known) (number : ℕ) (p : Place) → IsOutside p → IsOpenAt s number p → s.lines ≡ []
none_open s number Between out h = h
none_open s number Observing out h = h
none_open s number Loading out h = h
none_open s number p out h = absurd out

opened : (number : ℕ) (line : LineForm) (ls : List LineForm) → ls ≡ [] → IsTitled (line ∷ []) → IsTitled (ls ++ line ∷ []) × (number + length (ls ++ line ∷ []) ≡ number + 1)
opened number line [] e t = (t, refl)
opened number line (l ∷ ls) e t = absurd cc

closed_kept : (s : Known) (number : ℕ) → length s.names ≤ 4096 → IsTitled s.lines × (s.title + length s.lines ≡ number + 1) → s.place ≡ Within → IfSome s.unknown (λ line. line < number) → IsKept (text_closed s) (number + 1)
closed_kept s number room open_at within noted = by_end _ _ refl
  where
    by_end : (t : Bool) (o : Option ℕ) → unsettled_line s.lines ≡ o → IsKept (cond t (closed_by s o) s) (number + 1)
    by_end true None e = record { room = room; open_at = refl; noted = later _ _ noted }
    by_end true (Some place) e =
        let inside = unsettled_within s.lines place e in
        record { room = room; open_at = refl; noted = noted_too number s.unknown (s.title + place) noted (omega (arith, open_at.1)) }
    by_end false o e = record { room = room; open_at = subst (IsOpenAt s (number + 1)) (sym within) open_at; noted = later _ _ noted }

-- what is known with a line more
pub kept_by : (s : Known) (number : ℕ) {line : ScriptLine} {next : Known} → IsKept s number → Move s number line next → IsKept next (number + 1)
kept_by s number h (begins place) = record { room = h.room; open_at = subst (IsOpenAt s number) place h.open_at; noted = later _ _ h.noted }
kept_by s number h (opens r place is new) = record {
  room = room_after s.names s.lines (title r.name r.version) is.within;
  open_at = opened number (title r.name r.version) s.lines (subst (IsOpenAt s number) place h.open_at) tt;
  noted = later number s.unknown h.noted;
}
kept_by s number h (writes line functions place is few) =
    let o = subst (IsOpenAt s number) place h.open_at in
    let sum = o.1 in
    closed_kept (record s { names = names_after s.names line; lines = s.lines ++ line ∷ []; functions = functions }) number (room_after s.names s.lines line is.within) (titled_more s.lines line o.0, omega (arith, length-append s.lines (line ∷ []))) place h.noted
kept_by s number h (observes count front few) = record { room = h.room; open_at = none_open s _ _ (front_outside _ front) h.open_at; noted = later _ _ h.noted }
kept_by s number h (blocks out few) = record { room = h.room; open_at = none_open s _ _ out h.open_at; noted = later _ _ h.noted }
kept_by s number h (ends out) = record { room = h.room; open_at = none_open s _ _ out h.open_at; noted = later _ _ h.noted }
kept_by s number h (commands line functions processes place is passed few some) = record {
  room = passed.room;
  open_at = subst (IsOpenAt (with_command s number line functions processes) (number + 1)) (sym place) (subst (IsOpenAt s number) place h.open_at);
  noted = noted_if number s.unknown (loads_given s.titles (names_with_all s.names (script_line_atoms line)) line) h.noted;
}

-- what is known before the first line
pub opening_kept : IsKept opening 1
opening_kept = record { room = omega arith; open_at = refl; noted = tt }

-- what is known with lines more
pub steps_kept : (s : Known) (number : ℕ) (lines : List ScriptLine) (known : Known) → IsKept s number → steps s number lines ≡ Ok known → IsKept known (length lines + number)
steps_kept s number [] known h e = subst (λ (k : Known). IsKept k (0 + number)) (ok_is s known e) (subst (IsKept s) (omega arith) h)
steps_kept s number (line ∷ lines) known h e =
    let first = bind_ok (step s number line) (λ next. steps next (number + 1) lines) known e in
    subst (IsKept known) (omega arith) (steps_kept first.0 (number + 1) lines known (kept_by s number h (moves s number line first.0 first.1)) first.2)

-- ---- only `go` ends a script, and no line is refused for want of memory

-- ---- the end

text_goes_on : (s : Known) (t : Bool) (o : Option ℕ) → s.place ≡ Within → (cond t (closed_by s o) s).place ≡ Finished → ⊥
text_goes_on s true None within e = cc
text_goes_on s true (Some place) within e = cc
text_goes_on s false o within e = let both : Within ≡ Finished = sym within ∙ e in cc

-- what ends a script is `go`
pub go_only : (s : Known) (number : ℕ) {line : ScriptLine} {next : Known} → Move s number line next → next.place ≡ Finished → line ≡ go
go_only s number (writes line functions place is few) e = absurd (text_goes_on (with_line s line functions) _ (unsettled_line (s.lines ++ line ∷ [])) place e)
go_only s number (ends out) e = refl
go_only s number (commands line functions processes place is passed few some) e = let both : Loading ≡ Finished = sym place ∙ e in absurd cc
go_only s number m e = absurd cc

-- ---- want of memory

-- not for want of memory
abbrev IsPart : {A : Type 0} → Result A LineCause → Type 0
IsPart (Err causes.NoMemory) = ⊥
IsPart x = Unit {0}

part_if : {A : Type 0} (limit : Which) (x : Result A LineCause) (t : Bool) → IsPart x → IsPart (cond t (Err (causes.Limit limit)) x)
part_if limit x true h = tt
part_if limit x false h = h

part_on : {A B : Type 0} (x : Result A LineCause) (f : A → Result B LineCause) → IsPart x → ((a : A) → IsPart (f a)) → IsPart (x >>= f)
part_on (Ok a) f h k = k a
part_on (Err causes.Syntax) f h k = tt
part_on (Err (causes.Limit limit)) f h k = tt
part_on (Err causes.Duplicate) f h k = tt
part_on (Err causes.NoMemory) f h k = absurd h

title_part : (titles : List ModRef) (r : ModRef) → IsPart (ref_added titles r)
title_part titles r = by_test _
  where
    by_test : (t : Bool) → IsPart (cond {A = Result (List ModRef) LineCause} t (Err causes.Duplicate) (Ok (titles ++ r ∷ [])))
    by_test true = tt
    by_test false = tt

counted_part : (fs : List Mfa) (o : Option Mfa) → IsPart (counted_added fs o)
counted_part fs None = tt
counted_part fs (Some f) = part_if which.Exports (Ok _) (passes_functions fs f) tt

processes_part : (n : ℕ) (line : ScriptLine) → IsPart (processes_with n line)
processes_part n (spawn name f args) = part_if which.Processes (Ok (n + 1)) (nat_le 64 n) tt
processes_part n line = tt

-- the fault of a line of a module's text is another
IsOwn : Option LineFault → Type 0
IsOwn (Some line_faults.NoMemory) = ⊥
IsOwn o = Unit {0}

own_fault_is : (a b c d e f g : Bool) → IsOwn (cond a (Some line_faults.Register) (cond b (Some line_faults.Int) (cond c (Some line_faults.Term) (cond d (Some line_faults.Names) (cond e (Some line_faults.TooManyFunctions) (cond f (Some line_faults.TooLong) (cond g (Some line_faults.Duplicate) None)))))))
unfolding IsOwn
own_fault_is true b c d e f g = tt
own_fault_is false true c d e f g = tt
own_fault_is false false true d e f g = tt
own_fault_is false false false true e f g = tt
own_fault_is false false false false true f g = tt
own_fault_is false false false false false true g = tt
own_fault_is false false false false false false true = tt
own_fault_is false false false false false false false = tt

own_is : (names : Texts) (lines : List LineForm) (line : LineForm) → IsOwn (fault_of_line names lines line)
own_is names lines line = own_fault_is _ _ _ _ _ _ _

title_step_part : (s : Known) (number : ℕ) (r : RefForm) → IsPart (step_title s number r)
unfolding IsOwn
title_step_part s number r = by_fault _ _ (own_is s.names s.lines (title r.name r.version))
  where
    by_fault : (t : Bool) (o : Option LineFault) → IsOwn o → IsPart (by_code (cond t (kept s.names s.lines (title r.name r.version) o) (judged s.names s.lines None)) >>= step_titled s number r)
    by_fault true None own = part_on (ref_added s.titles _) _ (title_part s.titles _) (λ titles. tt)
    by_fault true (Some line_faults.NoMemory) own = absurd own
    by_fault true (Some fault) own = tt
    by_fault false o own = tt

code_step_part : (s : Known) (line : LineForm) → IsPart (step_code s line)
unfolding IsOwn
code_step_part s line = by_fault _ _ (own_is _ s.lines line)
  where
    again : (t : Bool) → IsPart {A = Known} (Err (cond t (causes.Limit which.Exports) causes.Duplicate))
    again true = tt
    again false = tt

    by_fault : (t : Bool) (o : Option LineFault) → IsOwn o → IsPart (code_judged s line (cond t (kept s.names s.lines line o) (judged s.names s.lines None)))
    by_fault true None own = part_on (counted_added s.functions (counted_name (names_after s.names line) (s.lines ++ line ∷ []) line)) (λ functions. Ok (text_closed (with_line s line functions))) (counted_part s.functions (counted_name (names_after s.names line) (s.lines ++ line ∷ []) line)) (λ functions. tt)
    by_fault true (Some line_faults.NoMemory) own = absurd own
    by_fault true (Some line_faults.Duplicate) own = again _
    by_fault true (Some fault) own = tt
    by_fault false o own = tt

observing_part : (s : Known) (line : ScriptLine) → IsPart (step_observing s line)
observing_part s (observer count) = part_if which.Observers (Ok _) (nat_le 4 (length s.observers)) tt
observing_part s loader = part_if which.Loaders (Ok _) (nat_le 8 (length s.loaders)) tt
observing_part s go = tt
observing_part s line = tt

module _ (s : Known) (number : ℕ) where
  command_part : (line : ScriptLine) → IsPart (step_command s number line)
  command_part line =
      part_if which.Integer _ (is_wide line) (part_if which.Term (names_added s.names line >>= step_named s number line) (is_long line)
      (part_on (names_added s.names line) (step_named s number line) (part_if which.Names (Ok after) (nat_lt 4096 (length after)) tt)
      (λ names. part_on (counted_added s.functions (spawned_in names line)) _ (counted_part s.functions (spawned_in names line)) (λ functions. part_on _ _ (processes_part s.processes line) (λ processes. tt)))))
    where
      after : Texts
      after = names_with_all s.names (script_line_atoms line)

  between_part : (line : ScriptLine) → IsPart (step_between s number line)
  between_part (code (title name version)) = title_step_part s _ _
  between_part (observer count) = observing_part s (observer count)
  between_part loader = observing_part s loader
  between_part go = tt
  between_part line = tt

  loading_part : (line : ScriptLine) → IsPart (step_loading s number line)
  loading_part loader = observing_part s loader
  loading_part (load refs) = command_part (load refs)
  loading_part (on_atom c name) = command_part (on_atom c name)
  loading_part (put key t) = command_part (put key t)
  loading_part (trace name f arity on) = command_part (trace name f arity on)
  loading_part (spawn name f args) = command_part (spawn name f args)
  loading_part line = tt

head_part : (s : Known) (line : ScriptLine) → IsPart (step_head s line)
head_part s head = tt
head_part s line = tt

within_part : (s : Known) (line : ScriptLine) → IsPart (step_within s line)
within_part s (code line) = code_step_part s line
within_part s line = tt

-- want of memory is no cause of a line
pub never_wanting : (s : Known) (number : ℕ) (line : ScriptLine) → step s number line ≡ Err causes.NoMemory → ⊥
never_wanting s number line e = subst IsPart e (by_place _)
  where
    by_place : (p : Place) → IsPart (step_at s number p line)
    by_place Unread = head_part s line
    by_place Between = between_part s _ line
    by_place Within = within_part s line
    by_place Observing = observing_part s line
    by_place Loading = loading_part s _ line
    by_place Finished = tt
