-- Steps and turns of a process whose values a text can say: so are those after them, and so is what they show.
use Rattle.std.proofs.Common.{◌≡◌, ℕ, zero, suc, ◌+◌, ◌≤◌, ◌==◌, nat_le, ℤ, ◌+ℤ◌, ◌-ℤ◌, int_lt, Bool, cond, true, false, List, [], ◌∷◌, ◌++◌, length, map, find, slice_set, Option, Some, None, IfSome, unwrap_or, Result, Ok, Err, IfOk, if◌then◌else◌, refl, sym, ap, subst, ◌∙◌}
use Rattle.std.specs.List.{AllByRecursion}
use Rattle.std.proofs.lemmas.Option.{none-some, same_Some}
use Rattle.term_core.specs.declared.atom.Mfa.{Mfa}
use Rattle.term_core.specs.declared.term.Term.{Term}
use Rattle.term_core.specs.declared.term.Term.TheVariants.{Int}
use Rattle.term_core.specs.Plain.{term_of as plain_to_term}
use Rattle.term_core.specs.Plain.{plain}
use Rattle.term_core.specs.PlainTerm.{PlainTerm}
use Rattle.mod_core.specs.declared.code.Instr.{Instr}
use Rattle.mod_core.specs.declared.code.Instr.TheVariants as instrs
use Rattle.mod_core.specs.declared.code.TheConstants.{REGISTERS}
use Rattle.server_core.specs.ServerState.{Entry}
use Rattle.machine_core.specs.declared.process.TheConstants.{MOST_FRAMES, MOST_TURNS, TURN_INSTRUCTIONS}
use Rattle.machine_core.specs.declared.process.End.{End}
use Rattle.machine_core.specs.declared.process.End.TheVariants.{Badarg, Badarith, SystemLimit}
use Rattle.machine_core.specs.declared.process.Line.{Line}
use Rattle.machine_core.specs.declared.process.Line.TheVariants as lines
use Rattle.machine_core.specs.declared.process.TurnEnd.{TurnEnd}
use Rattle.machine_core.specs.declared.process.TurnEnd.TheVariants.{Again, Ended}
use Rattle.machine_core.specs.Holds.{Holds, is_full}
use Rattle.machine_core.specs.Process.{PlainFrame, PlainProcess, PlainValue, arguments_at, first_registers, frame_names, literal, names_of, owned, owned_values}
use Rattle.machine_core.specs.Reads.{Reads, dispatched, entry_at, instr_at, mfa_of}
use Rattle.machine_core.specs.Turn.{Ran, Step, after_step, begun, branched, called, called_by_name, called_out, computed, copied, copied_value, doomed_serial, ended_with, ends, entered, executed, frame_at, goes_on, held_with, moved_past, put_found, put_value, ran_of, ran_unless_doomed, returned, run_of, stacked, step_of, stored, terms_of, tested, trace_of, turn_by, with_register, yields}
use Rattle.machine_core.specs.Values.{difference_of, element_of, fits, fitting, integer_of, is_same, less_of, of_integers, operand_term, sum_of, term_of, value_of}
use Rattle.machine_core.proofs.TurnLaws.{turn_same_by}
use Rattle.script_core.specs.Sound.{IsTermOf}
use Rattle.run_log.specs.WellFormed.{IsCallOf, IsEndOf, IsFunctionOf, IsLineOf, IsWide}
use Rattle.log_forms.proofs.SaidValues.{AreSaid, IsSaid, IsSaidOperand, length_arguments, said_arguments, said_difference, said_first, said_found, said_join, said_operand, said_owned, said_stored, said_sum, said_terms}

count_map : {X Y : Type 0} (f : X → Y) (xs : List X) → length (map f xs) ≡ length xs
count_map f [] = refl
count_map f (x ∷ xs) = ap suc (count_map f xs)

module _ (names : List (List ℕ)) where
  -- what an instruction names, and its constants, can be said; so many arguments stand in registers
  abbrev pub IsSaidInstr : Instr → Type 0
  IsSaidInstr (instrs.Move from to) = IsSaidOperand names from
  IsSaidInstr (instrs.CallExt to at) = IsFunctionOf names to × (at + to.arity ≤ REGISTERS)
  IsSaidInstr (instrs.Ret value) = IsSaidOperand names value
  IsSaidInstr (instrs.PgetOr key other to) = IsSaidOperand names other
  IsSaidInstr (instrs.Elem index from to) = IsSaidOperand names from
  IsSaidInstr (instrs.Print value) = IsSaidOperand names value
  IsSaidInstr i = Unit {0}

  -- what a turn reads can be said
  pub record IsSaidCode (r : Reads) : Type 0 where
    pub instr : (e : Entry) (place : ℕ) → IsSaidInstr (r.instr e place)
    pub local : (e : Entry) (place function at : ℕ) → r.instr e place ≡ instrs.Call function at → IsFunctionOf names (mfa_of r (record { serial = e.serial; function = function })) × (at + r.arity (record { serial = e.serial; function = function }) ≤ REGISTERS)
    pub key : (key : ℕ) → IfSome (r.key key) (IsSaid names)
    pub doomed : (serial : ℕ) → r.doomed serial ≡ true → IsWide serial

  -- the values of frames can be said
  abbrev pub AreSaidFrames : List PlainFrame → Type 0
  AreSaidFrames frames = AllByRecursion (λ f. AreSaid names f.registers) frames

  abbrev AreSaidLines : List Line → Type 0
  AreSaidLines shown = AllByRecursion (IsLineOf names) shown

  -- what a step comes to can be said
  abbrev IsSaidStep : Step → Type 0
  IsSaidStep (goes_on frames held shown) = AreSaidFrames frames × AreSaidLines shown
  IsSaidStep (yields frames) = AreSaidFrames frames
  IsSaidStep (ends end) = IsEndOf names end

  stored_said : (f : PlainFrame) (below : List PlainFrame) (o : Option Holds) → AreSaid names f.registers → AreSaidFrames below → IsSaidStep (stored f below o)
  stored_said f below None h b = tt
  stored_said f below (Some held) h b = ((h, b), tt)

  put_said : (f : PlainFrame) (below : List PlainFrame) (held : Holds) (i : Instr) (to : ℕ) (value : PlainValue) → AreSaid names f.registers → AreSaidFrames below → IsSaid names value → IsSaidStep (put_value f below held i to value)
  put_said f below held i to value h b v = stored_said (with_register f i to value) below (held_with held value) (said_stored names f.registers to value h v) b

  found_said : (f : PlainFrame) (below : List PlainFrame) (held : Holds) (i : Instr) (to : ℕ) (o : Option PlainValue) → AreSaid names f.registers → AreSaidFrames below → IfSome o (IsSaid names) → IsSaidStep (put_found f below held i to o)
  found_said f below held i to None h b v = tt
  found_said f below held i to (Some value) h b v = put_said f below held i to value h b v

  -- an end that a computation makes names no function
  abbrev IsPlainFault : {A : Type 0} → Result A End → Type 0
  IsPlainFault (Ok value) = Unit {0}
  IsPlainFault (Err end) = IsEndOf names end

  fitting_plain : (z : ℤ) (b : Bool) → IsPlainFault {A = Term} (if b then Ok (Int z) else Err SystemLimit)
  fitting_plain z true = tt
  fitting_plain z false = tt

  integers_plain : {A : Type 0} (give : ℤ → ℤ → Result A End) (end : End) (a b : Option ℤ) → ((x y : ℤ) → IsPlainFault (give x y)) → IsEndOf names end → IsPlainFault (of_integers give end a b)
  integers_plain give end (Some x) (Some y) h e = h x y
  integers_plain give end (Some x) None h e = e
  integers_plain give end None y h e = e

  sum_plain : (a b : Term) → IsPlainFault (sum_of a b)
  sum_plain a b = integers_plain {A = Term} (λ x y. fitting (x +ℤ y)) Badarith (integer_of a) (integer_of b) (λ x y. fitting_plain (x +ℤ y) (fits (x +ℤ y))) tt

  difference_plain : (a b : Term) → IsPlainFault (difference_of a b)
  difference_plain a b = integers_plain {A = Term} (λ x y. fitting (x -ℤ y)) Badarith (integer_of a) (integer_of b) (λ x y. fitting_plain (x -ℤ y) (fits (x -ℤ y))) tt

  less_plain : (a b : Term) → IsPlainFault (less_of a b)
  less_plain a b = integers_plain {A = Bool} (λ x y. Ok (int_lt x y)) Badarg (integer_of a) (integer_of b) (λ x y. tt {0}) tt

  computed_said : (f : PlainFrame) (below : List PlainFrame) (held : Holds) (i : Instr) (to : ℕ) (r : Result Term End) → AreSaid names f.registers → AreSaidFrames below → IfOk r (λ term. IsTermOf names (plain term)) → IsPlainFault r → IsSaidStep (computed f below held i to r)
  computed_said f below held i to (Ok term) h b v e = ((said_stored names f.registers to (owned term) h v, b), tt)
  computed_said f below held i to (Err end) h b v e = e

  branched_said : (f : PlainFrame) (i : Instr) (target : ℕ) (b : Bool) → AreSaid names f.registers → AreSaid names (branched f i target b).registers
  branched_said f i target true h = h
  branched_said f i target false h = h

  tested_said : (f : PlainFrame) (below : List PlainFrame) (held : Holds) (i : Instr) (target : ℕ) (r : Result Bool End) → AreSaid names f.registers → AreSaidFrames below → IsPlainFault r → IsSaidStep (tested f below held i target r)
  tested_said f below held i target (Ok b) h below_said e = ((branched_said f i target b h, below_said), tt)
  tested_said f below held i target (Err end) h below_said e = e

  returned_said : (below : List PlainFrame) (held : Holds) (back : ℕ) (value : PlainValue) → AreSaidFrames below → IsSaid names value → IsSaidStep (returned below held back value)
  returned_said [] held back value b v = tt
  returned_said (caller ∷ below) held back value b v = stored_said (record caller { registers = slice_set caller.registers back value }) below (held_with held value) (said_stored names caller.registers back value b.0 v) b.1

  otherwise : {A : Type 0} (P : A → Type 0) (o : Option A) (d : A) → IfSome o P → P d → P (unwrap_or o d)
  otherwise P None d h p = p
  otherwise P (Some x) d h p = h

  -- an end of a turn that can be said
  abbrev pub IsSaidTurnEnd : TurnEnd → Type 0
  IsSaidTurnEnd Again = Unit {0}
  IsSaidTurnEnd (Ended end) = IsEndOf names end

  -- what instructions left of a process, and what they showed, can be said
  pub record IsSaidRan (ran : Ran) : Type 0 where
    pub frames : AreSaidFrames ran.frames
    pub made : AreSaidLines ran.made
    pub end : IsSaidTurnEnd ran.end

  -- a process whose call and whose values can be said
  pub record IsSaidProcess (p : PlainProcess) : Type 0 where
    pub call : IsCallOf names p.target p.args
    pub frames : AreSaidFrames p.frames

  module _ (r : Reads) where
    trace_said : (e : Entry) (to : Mfa) (args : List PlainValue) (b : Bool) → IsFunctionOf names to → length args ≡ to.arity → AllByRecursion (IsSaid names) args → AreSaidLines (if b then lines.Trace to (terms_of args) ∷ [] else [])
    trace_said e to args true f n h = (record { function = f; arity_is = count_map (λ v. plain (term_of v)) args ∙ n; each = said_terms names args h }, tt)
    trace_said e to args false f n h = tt

    stacked_said : (frames : List PlainFrame) (held : Holds) (serial : ℕ) (line : List Line) (o : Option PlainFrame) → AreSaidFrames frames → AreSaidLines line → IfSome o (λ f. AreSaid names f.registers) → IsSaidStep (stacked frames held serial line o)
    stacked_said frames held serial line None h l f = tt
    stacked_said frames held serial line (Some frame) h l f = ((f, h), l)

    entered_choice : (frame : PlainFrame) (a b : Bool) → AreSaid names frame.registers → IfSome (if a then None else if b then None else Some frame) (λ f. AreSaid names f.registers)
    entered_choice frame true b h = tt
    entered_choice frame false true h = tt
    entered_choice frame false false h = h

    called_said : (frames : List PlainFrame) (held : Holds) (e : Entry) (to : Mfa) (back : ℕ) (args : List PlainValue) → AreSaidFrames frames → IsFunctionOf names to → length args ≡ to.arity → AllByRecursion (IsSaid names) args → IsSaidStep (called r frames held e to back args)
    called_said frames held e to back args h f n a =
        stacked_said frames held e.serial (trace_of r e to args) (entered r (length frames) held e back (first_registers args)) h (trace_said e to args (r.traced e) f n a)
        (entered_choice (frame_at r e back (first_registers args)) (nat_le MOST_FRAMES (length frames)) (is_full held e.serial) (said_first names args a))

    by_name_said : (frames : List PlainFrame) (held : Holds) (to : Mfa) (back : ℕ) (args : List PlainValue) (o : Option Entry) → AreSaidFrames frames → IsFunctionOf names to → length args ≡ to.arity → AllByRecursion (IsSaid names) args → IsSaidStep (called_by_name r frames held to back args o)
    by_name_said frames held to back args None h f n a = f
    by_name_said frames held to back args (Some e) h f n a = called_said frames held e to back args h f n a

    pub out_said : (frames : List PlainFrame) (held : Holds) (to : Mfa) (back : ℕ) (args : List PlainValue) → AreSaidFrames frames → IsFunctionOf names to → length args ≡ to.arity → AllByRecursion (IsSaid names) args → IsSaidStep (called_out r frames held to back args)
    out_said frames held to back args h f n a = by_name_said frames held to back args (dispatched r to) h f n a

    -- so many arguments of a frame
    arguments_count : (registers : List PlainValue) (at count : ℕ) → AreSaid names registers → at + count ≤ REGISTERS → length (arguments_at registers at count) ≡ count
    arguments_count registers at count h within = length_arguments registers at count (subst (λ n. at + count ≤ n) (sym h.count) within)

    executed_said : (code : IsSaidCode r) (f : PlainFrame) (below : List PlainFrame) (held : Holds) (i : Instr) → instr_at r f ≡ i → IsSaidInstr i → AreSaid names f.registers → AreSaidFrames below → IsSaidStep (executed r f below held i)
    executed_said code f below held (instrs.Move from to) e s h b = put_said f below held (instrs.Move from to) to (value_of f from) h b (said_operand names f from h s)
    executed_said code f below held (instrs.Add x y to) e s h b = computed_said f below held (instrs.Add x y to) to (sum_of (operand_term f x) (operand_term f y)) h b (said_sum names (operand_term f x) (operand_term f y)) (sum_plain (operand_term f x) (operand_term f y))
    executed_said code f below held (instrs.Sub x y to) e s h b = computed_said f below held (instrs.Sub x y to) to (difference_of (operand_term f x) (operand_term f y)) h b (said_difference names (operand_term f x) (operand_term f y)) (difference_plain (operand_term f x) (operand_term f y))
    executed_said code f below held (instrs.Eq x y target) e s h b = tested_said f below held (instrs.Eq x y target) target (Ok (is_same (operand_term f x) (operand_term f y))) h b tt
    executed_said code f below held (instrs.Less x y target) e s h b = tested_said f below held (instrs.Less x y target) target (less_of (operand_term f x) (operand_term f y)) h b (less_plain (operand_term f x) (operand_term f y))
    executed_said code f below held (instrs.Jump target) e s h b = ((h, b), tt)
    executed_said code f below held (instrs.Call function at) e s h b =
        let callee : Entry = record { serial = f.serial; function = function } in
        let l = code.local (entry_at f) f.place function at e in
        called_said (moved_past f (instrs.Call function at) ∷ below) held callee (mfa_of r callee) at (arguments_at f.registers at (r.arity callee)) (h, b) l.0 (arguments_count f.registers at (r.arity callee) h l.1) (said_arguments names f.registers at (r.arity callee) h)
    executed_said code f below held (instrs.CallExt to at) e s h b =
        out_said (moved_past f (instrs.CallExt to at) ∷ below) held to at (arguments_at f.registers at to.arity) (h, b) s.0 (arguments_count f.registers at to.arity h s.1) (said_arguments names f.registers at to.arity h)
    executed_said code f below held (instrs.Ret value) e s h b = returned_said below held f.back (value_of f value) b (said_operand names f value h s)
    executed_said code f below held (instrs.Pget key to) e s h b = found_said f below held (instrs.Pget key to) to (r.key key.0) h b (code.key key.0)
    executed_said code f below held (instrs.PgetOr key other to) e s h b =
        put_said f below held (instrs.PgetOr key other to) to (unwrap_or (r.key key.0) (value_of f other)) h b (otherwise (IsSaid names) (r.key key.0) (value_of f other) (code.key key.0) (said_operand names f other h s))
    executed_said code f below held (instrs.Elem index from to) e s h b =
        found_said f below held (instrs.Elem index from to) to (element_of (operand_term f index) (value_of f from)) h b (said_found names (operand_term f index) (value_of f from) (said_operand names f from h s))
    executed_said code f below held (instrs.Print value) e s h b = ((h, b), (said_operand names f value h s, tt))
    executed_said code f below held instrs.Yield e s h b = (h, b)

    step_said : (code : IsSaidCode r) (frames : List PlainFrame) (held : Holds) → AreSaidFrames frames → IsSaidStep (step_of r frames held)
    step_said code [] held h = tt
    step_said code (f ∷ below) held h = executed_said code f below held (instr_at r f) refl (code.instr (entry_at f) f.place) h.0 h.1

    after_said : (rest : List PlainFrame → Holds → List Line → Ran) (held : Holds) (made : List Line) (step : Step) → AreSaidLines made → IsSaidStep step
        → ((frames : List PlainFrame) (held : Holds) (made : List Line) → AreSaidFrames frames → AreSaidLines made → IsSaidRan (rest frames held made)) → IsSaidRan (after_step rest held made step)
    after_said rest held made (goes_on frames now line) m k next = next frames now (made ++ line) k.0 (said_join (IsLineOf names) made line m k.1)
    after_said rest held made (yields frames) m k next = record { frames = k; made = m; end = tt }
    after_said rest held made (ends end) m k next = record { frames = tt; made = m; end = k }

    run_said : (code : IsSaidCode r) (n : ℕ) (frames : List PlainFrame) (held : Holds) (made : List Line) → AreSaidFrames frames → AreSaidLines made → IsSaidRan (run_of r n frames held made)
    unfolding run_of
    run_said code zero frames held made h m = record { frames = h; made = m; end = tt }
    run_said code (suc n) frames held made h m = after_said (run_of r n) held made (step_of r frames held) m (step_said code frames held h) (λ f k l g q. run_said code n f k l g q)

    begun_said : (p : PlainProcess) (held : Holds) (frames : List PlainFrame) → IsCallOf names p.target p.args → AreSaidFrames frames → IsSaidStep (begun r p.target p.args held frames)
    begun_said p held [] call h = out_said [] held p.target 0 (owned_values p.args) tt call.function (count_map (λ t. owned (plain_to_term t)) p.args ∙ call.arity_is) (said_owned names p.args call.each)
    begun_said p held (f ∷ below) call h = (h, tt)

    copied_is : (serial : ℕ) (term : Term) (b : Bool) → IsTermOf names (plain term) → IsSaid names (if b then owned term else literal serial term)
    copied_is serial term true h = h
    copied_is serial term false h = h

    value_copied : (value : PlainValue) → IsSaid names value → IsSaid names (copied_value r value)
    value_copied (owned term) h = h
    value_copied (literal serial term) h = copied_is serial term (r.retired serial) h

    values_copied : (values : List PlainValue) → AllByRecursion (IsSaid names) values → AllByRecursion (IsSaid names) (map (copied_value r) values)
    values_copied [] h = tt
    values_copied (value ∷ values) h = (value_copied value h.0, values_copied values h.1)

    frames_copied : (frames : List PlainFrame) → AreSaidFrames frames → AreSaidFrames (copied r frames)
    frames_copied [] h = tt
    frames_copied (f ∷ frames) h =
        let top = h.0 in
        (record { count = count_map (copied_value r) f.registers ∙ top.count; values = values_copied f.registers top.values }, frames_copied frames h.1)

    found_passes : (test : ℕ → Bool) (xs : List ℕ) (x : ℕ) → find test xs ≡ Some x → test x ≡ true
    found_passes test [] x h = absurd (none-some x h)
    found_passes test (y ∷ xs) x h = by (test y) refl h (λ k. found_passes test xs x k)
      where
        by : (b : Bool) → test y ≡ b → cond b (Some y) (find test xs) ≡ Some x → (find test xs ≡ Some x → test x ≡ true) → test x ≡ true
        by true e k later = ap test (sym (same_Some y x k)) ∙ e
        by false e k later = later k

    unless_said : (code : IsSaidCode r) (p : PlainProcess) (o : Option ℕ) → doomed_serial r p.frames ≡ o → IsSaidProcess p → IsSaidRan (ran_unless_doomed r p o)
    unless_said code p None e h =
        let now = copied r p.frames in
        after_said (run_of r TURN_INSTRUCTIONS) (frame_names now) [] (begun r p.target p.args (frame_names now) now) tt (begun_said p (frame_names now) now h.call (frames_copied p.frames h.frames))
        (λ f k l g q. run_said code TURN_INSTRUCTIONS f k l g q)
    unless_said code p (Some serial) e h = record { frames = tt; made = tt; end = code.doomed serial (found_passes r.doomed (map (λ f. f.serial) p.frames) serial e) }

    ran_said : (code : IsSaidCode r) (p : PlainProcess) → IsSaidProcess p → IsSaidRan (ran_of r p)
    ran_said code p h = by (p.turns == MOST_TURNS)
      where
        by : (b : Bool) → IsSaidRan (if b then ended_with (names_of p) [] SystemLimit else ran_unless_doomed r p (doomed_serial r p.frames))
        by true = record { frames = tt; made = tt; end = tt }
        by false = unless_said code p (doomed_serial r p.frames) refl h

    call_same : (p q : PlainProcess) → q.target ≡ p.target → q.args ≡ p.args → IsCallOf names p.target p.args → IsCallOf names q.target q.args
    call_same p q t a h = subst (λ (to : Mfa). IsCallOf names to q.args) (sym t) (subst (λ (args : List PlainTerm). IsCallOf names p.target args) (sym a) h)

    -- a turn leaves such a process, and what it shows can be said
    pub turn_said : (code : IsSaidCode r) (p : PlainProcess) → IsSaidProcess p → IsSaidProcess (turn_by r p).process × AreSaidLines (turn_by r p).made × IsSaidTurnEnd (turn_by r p).end
    turn_said code p h =
        let ran = ran_said code p h in
        let same = turn_same_by r p in
        (record { call = call_same p (turn_by r p).process same.target same.args h.call; frames = ran.frames }, ran.made, ran.end)
