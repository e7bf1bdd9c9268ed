-- What a line does that is not refused: one of seven moves, each with what it passed and what is known behind it.
use Rattle.std.proofs.Common.{◌≡◌, Result, Ok, ℕ, ◌+◌, List, [], ◌∷◌, ◌++◌, length, Err, refl, sym, ap, ◌∙◌, arith}
use Rattle.std.proofs.Common.{length-append, IsTrue, ◌≤◌, Bool, true, false, cond, nat_le, nat_lt, Option, Some, None, subst}
use Rattle.script_text.proofs.Common.{AllByRecursion, fold}
use Rattle.script_text.proofs.Types.{LineCause, Place, Between, Observing, Loading, Finished, Unread, Within, Mfa, LineFault, ModRef}
use Rattle.script_text.proofs.Forms.{ScriptLine, go, is_script_line, RefForm, head, code, observer, loader, load, on_atom, put, trace, spawn, ◌>>=◌}
use Rattle.script_text.proofs.Forms.{onto_last, script_line_atoms, ref_in, commands_on, or_else, is_wide, is_long, is_among, counted_added}
use Rattle.script_text.specs.LineStep.{Known, step_at, step, steps, by_code, step_titled, step_title, text_closed, code_judged}
use Rattle.script_text.specs.LineStep.{step_code, spawned_in, processes_with, loads_given, step_named}
use Rattle.script_text.specs.LineStep.{step_command, step_head, step_within, step_observing, step_between, step_loading}
use Rattle.script_text.specs.declared.reading.cause.LineCause.TheVariants as causes
use Rattle.script_text.specs.declared.fault.Which.TheVariants as which
use Rattle.script_text.proofs.Texts.{number_value, names_with_all, test_not_lt}
use Rattle.script_text.proofs.Modules.{LineForm, title, last_line, may_follow, names_after, fault_of_line, counted_name, judged, kept}

pub ok_is : {A E : Type 0} (x y : A) → ◌≡◌ {A = Result A E} (Ok x) (Ok y) → x ≡ y
ok_is x y e = cc

-- ---- lines one after another, and the end of a script, by what is known

-- each has its text
abbrev pub AreSound : List ScriptLine → Type 0
AreSound lines = AllByRecursion (λ line. IsTrue (is_script_line line)) lines

-- ---- one after another

pub length-snoc : {X : Type 0} (xs : List X) (x : X) → length (xs ++ x ∷ []) ≡ length xs + 1
length-snoc xs x = simp length-append

pub bind_ok : {A B : Type 0} (x : Result A LineCause) (f : A → Result B LineCause) (y : B) → (x >>= f) ≡ Ok y → (a : A) × (x ≡ Ok a) × (f a ≡ Ok y)
bind_ok (Ok a) f y e = (a, refl, e)
bind_ok (Err cause) f y e = absurd cc

-- lines behind lines
pub steps-append : (s : Known) (number : ℕ) (xs ys : List ScriptLine) (known : Known) → steps s number xs ≡ Ok known → steps s number (xs ++ ys) ≡ steps known (length xs + number) ys
steps-append s number [] ys known e =
    let same : s ≡ known = ok_is s known e in
    let here : number ≡ length {A = ScriptLine} [] + number = omega arith in
    λ i. steps (same i) (here i) ys
steps-append s number (l ∷ xs) ys known e =
    let first = bind_ok (step s number l) (λ next. steps next (number + 1) xs) known e in
    ap (λ (x : Result Known LineCause). x >>= λ next. steps next (number + 1) (xs ++ ys)) first.1 ∙ steps-append first.0 (number + 1) xs ys known first.2
    ∙ ap (λ (n : ℕ). steps known n ys) (omega arith)

bind_self : {A : Type 0} (x : Result A LineCause) → (x >>= λ y. Ok y) ≡ x
bind_self (Ok a) = refl
bind_self (Err cause) = refl

-- a line more
pub steps-snoc : (s : Known) (number : ℕ) (lines : List ScriptLine) (line : ScriptLine) (known : Known) → steps s number lines ≡ Ok known → steps s number (lines ++ line ∷ []) ≡ step known (length lines + number) line
steps-snoc s number lines line known e = steps-append s _ lines _ known e ∙ bind_self _

-- ---- the end

ended : (s next : Known) → ◌≡◌ {A = Result Known LineCause} (Ok (record s { place = Finished })) (Ok next) → next.place ≡ Finished
ended s next e = ap (λ (k : Known). k.place) (sym (ok_is _ next e))

-- `go` ends the script
pub go_ends : (s : Known) (number : ℕ) (next : Known) → step s number go ≡ Ok next → next.place ≡ Finished
go_ends s number next e = by_place _ e
  where
    by_place : (p : Place) → step_at s number p go ≡ Ok next → next.place ≡ Finished
    by_place Between e = ended s next e
    by_place Observing e = ended s next e
    by_place Loading e = ended s next e
    by_place p e = absurd cc

-- or may not stand there
pub go_fails : (s : Known) (number : ℕ) (cause : LineCause) → step s number go ≡ Err cause → cause ≡ causes.Syntax
go_fails s number cause e = by_place _ e
  where
    by_place : (p : Place) → step_at s number p go ≡ Err cause → cause ≡ causes.Syntax
    by_place Between e = absurd cc
    by_place Observing e = absurd cc
    by_place Loading e = absurd cc
    by_place p e = cc

-- ---- what a line does that is not refused: one of seven moves, each with what it passed and what is known behind it

-- ---- the moves

-- where an observer may stand
abbrev pub IsFront : Place → Type 0
IsFront Between = Unit {0}
IsFront Observing = Unit {0}
IsFront place = ⊥

-- where a loader block or the end may stand
abbrev pub IsOutside : Place → Type 0
IsOutside Between = Unit {0}
IsOutside Observing = Unit {0}
IsOutside Loading = Unit {0}
IsOutside place = ⊥

pub front_outside : (p : Place) → IsFront p → IsOutside p
front_outside Between h = tt
front_outside Observing h = tt
front_outside p h = absurd h

-- a command of a loader block
abbrev pub IsCommand : ScriptLine → Type 0
IsCommand head = ⊥
IsCommand (code line) = ⊥
IsCommand (observer count) = ⊥
IsCommand loader = ⊥
IsCommand go = ⊥
IsCommand line = Unit {0}

-- a line of a module's text that may stand there, and passes no limit of its text
pub record IsJudged (s : Known) (line : LineForm) : Type 0 where
  pub place : may_follow (last_line s.lines) line ≡ true
  pub within : fault_of_line s.names s.lines line ≡ None

-- a line that passes no limit of its own
pub record IsPassed (s : Known) (line : ScriptLine) : Type 0 where
  pub narrow : is_wide line ≡ false
  pub brief : is_long line ≡ false
  pub room : length (names_with_all s.names (script_line_atoms line)) ≤ 4096

-- what is known with a title
abbrev pub with_title : Known → ℕ → RefForm → Known
with_title s number r =
    let names = names_after s.names (title r.name r.version) in
    record s { names = names; lines = s.lines ++ title r.name r.version ∷ []; titles = s.titles ++ ref_in names r ∷ []; title = number; place = Within }

-- with a line behind it, before its text is closed
abbrev pub with_line : Known → LineForm → List Mfa → Known
with_line s line functions = record s { names = names_after s.names line; lines = s.lines ++ line ∷ []; functions = functions }

-- with a command
abbrev pub with_command : Known → ℕ → ScriptLine → List Mfa → ℕ → Known
with_command s number line functions processes =
    let names = names_with_all s.names (script_line_atoms line) in
    record s { names = names; functions = functions; processes = processes; loaders = fold onto_last s.loaders (commands_on names line); unknown = cond (loads_given s.titles names line) s.unknown (or_else s.unknown (Some number)) }

-- what is known next, with a line of this number
pub data Move (s : Known) (number : ℕ) : ScriptLine → Known → Type 0 where
  begins : s.place ≡ Unread → Move s number head (record s { place = Between })
  opens : (r : RefForm) → s.place ≡ Between → IsJudged s (title r.name r.version) → is_among s.titles (ref_in (names_after s.names (title r.name r.version)) r) ≡ false → Move s number (code (title r.name r.version)) (with_title s number r)
  writes : (line : LineForm) (functions : List Mfa) → s.place ≡ Within → IsJudged s line → counted_added s.functions (counted_name (names_after s.names line) (s.lines ++ line ∷ []) line) ≡ Ok functions → Move s number (code line) (text_closed (with_line s line functions))
  observes : (count : List ℕ) → IsFront s.place → nat_le 4 (length s.observers) ≡ false → Move s number (observer count) (record s { observers = s.observers ++ number_value count ∷ []; place = Observing })
  blocks : IsOutside s.place → nat_le 8 (length s.loaders) ≡ false → Move s number loader (record s { loaders = s.loaders ++ [] ∷ []; place = Loading })
  ends : IsOutside s.place → Move s number go (record s { place = Finished })
  commands : (line : ScriptLine) (functions : List Mfa) (processes : ℕ) → s.place ≡ Loading → IsCommand line → IsPassed s line → counted_added s.functions (spawned_in (names_with_all s.names (script_line_atoms line)) line) ≡ Ok functions → processes_with s.processes line ≡ Ok processes → Move s number line (with_command s number line functions processes)

-- ---- each step is a move

abbrev Moves : Known → ℕ → ScriptLine → Result Known LineCause → Type 0
Moves s number line (Ok next) = Move s number line next
Moves s number line (Err cause) = Unit {0}

moves_if : (s : Known) (number : ℕ) (line : ScriptLine) (cause : LineCause) (x : Result Known LineCause) (t : Bool) → (t ≡ false → Moves s number line x) → Moves s number line (cond t (Err cause) x)
moves_if s number line cause x true h = tt
moves_if s number line cause x false h = h refl

moves_on : {A : Type 0} (s : Known) (number : ℕ) (line : ScriptLine) (x : Result A LineCause) (f : A → Result Known LineCause) → ((a : A) → x ≡ Ok a → Moves s number line (f a)) → Moves s number line (x >>= f)
moves_on s number line (Ok a) f h = h a refl
moves_on s number line (Err cause) f h = tt

title_moves : (s : Known) (number : ℕ) (r : RefForm) → s.place ≡ Between → Moves s number (code (title r.name r.version)) (step_title s number r)
title_moves s number r place = by_fault _ _ refl refl
  where
    line : LineForm
    line = title r.name r.version

    after : List (List ℕ)
    after = names_after s.names (title r.name r.version)

    by_new : (t : Bool) → is_among s.titles (ref_in (names_after s.names (title r.name r.version)) r) ≡ t → IsJudged s (title r.name r.version) → Moves s number (code (title r.name r.version)) (cond {A = Result (List ModRef) LineCause} t (Err causes.Duplicate) (Ok (s.titles ++ ref_in (names_after s.names (title r.name r.version)) r ∷ [])) >>= λ titles. Ok (record s { names = names_after s.names (title r.name r.version); lines = s.lines ++ title r.name r.version ∷ []; titles = titles; title = number; place = Within }))
    by_new true e is = tt
    by_new false e is = opens r place is e

    by_fault : (t : Bool) (o : Option LineFault) → may_follow (last_line s.lines) (title r.name r.version) ≡ t → fault_of_line s.names s.lines (title r.name r.version) ≡ o → Moves s number (code (title r.name r.version)) (by_code (cond t (kept s.names s.lines (title r.name r.version) o) (judged s.names s.lines None)) >>= step_titled s number r)
    by_fault true None may e = by_new _ refl (record { place = may; within = e })
    by_fault true (Some fault) may e = tt
    by_fault false o may e = tt

code_moves : (s : Known) (number : ℕ) (line : LineForm) → s.place ≡ Within → Moves s number (code line) (step_code s line)
code_moves s number line place = by_fault _ _ refl refl
  where
    by_fault : (t : Bool) (o : Option LineFault) → may_follow (last_line s.lines) line ≡ t → fault_of_line s.names s.lines line ≡ o → Moves s number (code line) (code_judged s line (cond t (kept s.names s.lines line o) (judged s.names s.lines None)))
    by_fault true None may e = moves_on s _ _ _ (λ functions. Ok _) (λ functions f. writes line functions place (record { place = may; within = e }) f)
    by_fault true (Some fault) may e = tt
    by_fault false o may e = tt

command_moves : (s : Known) (number : ℕ) (line : ScriptLine) → s.place ≡ Loading → IsCommand line → Moves s number line (step_command s number line)
command_moves s number line place is = moves_if s _ line _ _ _ (λ narrow. moves_if s _ line _ _ _ (λ brief. by_room narrow brief _ refl))
  where
    after : List (List ℕ)
    after = names_with_all s.names (script_line_atoms line)

    by_room : is_wide line ≡ false → is_long line ≡ false → (t : Bool) → nat_lt 4096 (length after) ≡ t → Moves s number line (cond t (Err (causes.Limit which.Names)) (Ok after) >>= step_named s number line)
    by_room narrow brief true e = tt
    by_room narrow brief false e =
        let passed : IsPassed s line = record { narrow = narrow; brief = brief; room = test_not_lt 4096 _ e } in
        moves_on s _ line _ (λ functions. processes_with s.processes line >>= λ processes. Ok _)
        (λ functions f. moves_on s number line (processes_with s.processes line) (λ processes. Ok _) (λ processes p. commands line functions processes place is passed f p))

module _ (s : Known) (number : ℕ) where
  observing_moves : (line : ScriptLine) → IsFront s.place → Moves s number line (step_observing s line)
  observing_moves (observer count) front = moves_if s number (observer count) (causes.Limit which.Observers) _ (nat_le 4 (length s.observers)) (λ few. observes count front few)
  observing_moves loader front = moves_if s number loader (causes.Limit which.Loaders) _ (nat_le 8 (length s.loaders)) (λ few. blocks (front_outside _ front) few)
  observing_moves go front = ends (front_outside _ front)
  observing_moves line front = tt

  between_moves : (line : ScriptLine) → s.place ≡ Between → IsFront s.place → Moves s number line (step_between s number line)
  between_moves (code (title name version)) place front = title_moves s _ _ place
  between_moves (observer count) place front = observing_moves (observer count) front
  between_moves loader place front = observing_moves loader front
  between_moves go place front = observing_moves go front
  between_moves line place front = tt

  loading_moves : (line : ScriptLine) → s.place ≡ Loading → IsOutside s.place → Moves s number line (step_loading s number line)
  loading_moves head place out = tt
  loading_moves (code line) place out = tt
  loading_moves (observer count) place out = tt
  loading_moves loader place out = moves_if s number loader (causes.Limit which.Loaders) _ (nat_le 8 (length s.loaders)) (λ few. blocks out few)
  loading_moves go place out = ends out
  loading_moves (load refs) place out = command_moves s number (load refs) place tt
  loading_moves (on_atom c name) place out = command_moves s number (on_atom c name) place tt
  loading_moves (put key t) place out = command_moves s number (put key t) place tt
  loading_moves (trace name f arity on) place out = command_moves s number (trace name f arity on) place tt
  loading_moves (spawn name f args) place out = command_moves s number (spawn name f args) place tt

  head_moves : (line : ScriptLine) → s.place ≡ Unread → Moves s number line (step_head s line)
  head_moves head place = begins place
  head_moves line place = tt

  within_moves : (line : ScriptLine) → s.place ≡ Within → Moves s number line (step_within s line)
  within_moves (code line) place = code_moves s _ line place
  within_moves line place = tt

  -- what is known next is what a move leaves
  pub moves : (line : ScriptLine) (next : Known) → step s number line ≡ Ok next → Move s number line next
  moves line next e = subst (Moves s number line) e (by_place s.place refl)
    where
      by_place : (p : Place) → s.place ≡ p → Moves s number line (step_at s number p line)
      by_place Unread place = head_moves line place
      by_place Between place = between_moves line place (subst IsFront (sym place) tt)
      by_place Within place = within_moves line place
      by_place Observing place = observing_moves line (subst IsFront (sym place) tt)
      by_place Loading place = loading_moves line place (subst IsOutside (sym place) tt)
      by_place Finished place = tt
