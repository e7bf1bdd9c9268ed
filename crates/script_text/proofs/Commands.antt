-- The line of a command, under names that hold its atoms: the command that it says can be made, and is written as that line.
use Rattle.std.proofs.Common.{◌≡◌, ℕ, ◌+◌, ◌<◌, ◌≤◌, ◌==◌, ◌&&◌, ◌||◌, Bool, true, false, cond, nat_le, List, [], ◌∷◌, map}
use Rattle.std.proofs.Common.{length, Some, is_some, Result, Ok, Err, refl, sym, ap, ◌∙◌, subst, arith, Option, None, ◌++◌}
use Rattle.script_text.proofs.Common.{IsTrue, AllByRecursion, flat_map, list_all, list_any, and_parts, or_parts, Decides-eqb, nat_tests, length-map}
use Rattle.script_text.proofs.Common.{slice_get_within, Texts, sum_by}
use Rattle.script_text.proofs.Types.{AtomId, Module, ModRef, ScriptCmd, Load, Put, Trace, Spawn, LineCause, Place}
use Rattle.script_text.proofs.Texts.{Extends, is_atom_text, term_of, TermOf, RowOf, integer_leaf, atom_leaf, tuple_of, list_of, no_terms, term_then}
use Rattle.script_text.proofs.Texts.{EachLeaf, EachInRow, map_row, atoms_of, row_atoms, term_words, number_in, is_number_text, number_value}
use Rattle.script_text.proofs.Texts.{WrittenTerm, IsTermInteger, IntegersFit, integer_of, HasNumber, slice_get-number_of, plain-term_of, lacks}
use Rattle.script_text.proofs.Texts.{test_not_lt, IsNames, names_with, names_with_all, names_with-IsNames}
use Rattle.term_core.proofs.LeafFacts.{term_words-map}
use Rattle.script_text.proofs.Modules.{is_arity_text, atom_in, IsTermOf, IsCmdOf, spawns_in}
use Rattle.script_text.proofs.Modules.{are_atoms, both_atoms, line_atoms_are, names_with_all-append, more_names_all, spawn_count}
use Rattle.server_core.specs.CommandTable.{text_of}
use Rattle.script_text.proofs.Forms.{RefForm, AtomCommand, delete, ScriptLine, load, on_atom, put, trace, spawn, go, script_line_written}
use Rattle.script_text.proofs.Forms.{is_ref_form, is_term_form, is_script_line, script_line_atoms, is_wide, is_long, is_wide_term, is_long_term}
use Rattle.script_text.proofs.Forms.{ref_in, argument_in, command_of, commands_on, ref_form, term_form, command_line, is_among}
use Rattle.script_text.proofs.Forms.{loads_given, processes_with, code, Known, closed_by, step, steps, ◌>>=◌}
use Rattle.script_text.proofs.StepMoves.{ok_is, IsCommand, with_line, Move, writes, moves, AreSound, bind_ok, steps-append}
use Rattle.script_text.proofs.HeldNames.{number_is, number_in-after, Extends-all}
use Rattle.script_text.proofs.ModuleNames.{AreHeld, held_first, held_second}
use Rattle.script_text.proofs.TermLines.{each_first, term_after, terms_after, narrow_fits, term_again, atom_again}
use Rattle.script_text.proofs.Modules.{term_atoms_are}
use Rattle.script_text.proofs.TermLines.{version_again, arity_again, terms_atoms_are}
use Rattle.script_text.proofs.StepKept.{IsKept, kept_by}
use Rattle.script_text.proofs.FunctionNames.{script_line_functions, home_after, home_of, home_of-append}
use Rattle.script_text.proofs.FunctionNames.{functions_named, mfas_on, mfas_on-append, mfas_more, mfa_named}
use Rattle.script_text.specs.declared.fault.Which.TheVariants as which
use Rattle.script_text.specs.declared.reading.cause.LineCause.TheVariants as causes

-- ---- the parts of a line

-- what a spawn has that is the line of a text
record IsSpawnLine (m f : List ℕ) (args : List WrittenTerm) : Type 0 where
  module_is : is_atom_text m ≡ true
  name_is : is_atom_text f ≡ true
  few : nat_le (length args) 15 ≡ true
  args_are : list_all is_term_form args ≡ true

spawn_line : (m f : List ℕ) (args : List WrittenTerm) → is_script_line (spawn m f args) ≡ true → IsSpawnLine m f args
spawn_line m f args h =
    let first = and_parts _ _ h in
    let second = and_parts _ _ first.1 in
    let third = and_parts _ _ second.1 in
    record { module_is = first.0; name_is = second.0; few = third.0; args_are = third.1 }

trace_arity : (f g arity : List ℕ) (on : Bool) → is_script_line (trace f g arity on) ≡ true → is_arity_text arity ≡ true
trace_arity f g arity on h = (and_parts _ _ (and_parts _ _ h).1).1

some_refs : (refs : List RefForm) → is_script_line (load refs) ≡ true → (0 < length refs) × (list_all is_ref_form refs ≡ true)
some_refs [] h = absurd cc
some_refs (r ∷ refs) h = (omega arith, h)

arguments_held : (names : Texts) (args : List WrittenTerm) → AreHeld names (flat_map atoms_of args) → AllByRecursion (λ arg. AreHeld names (atoms_of arg)) args
arguments_held names [] h = tt
arguments_held names (arg ∷ args) h = let p = each_first _ _ _ h in (p.0, arguments_held names args p.1)

pub each_map : {X Y : Type 0} (P : Y → Type 0) (f : X → Y) (xs : List X) → AllByRecursion (λ x. P (f x)) xs → AllByRecursion P (map f xs)
each_map P f [] h = tt
each_map P f (x ∷ xs) h = (h.0, each_map P f xs h.1)

-- ---- what is given

abbrev pub ref_of : Module → ModRef
ref_of m = record { name = m.name; version = m.version }

pub flipped : (a b : ℕ) → (a == b) ≡ (b == a)
flipped a b = by_tests _ _ refl refl
  where
    by_tests : (p q : Bool) → (a == b) ≡ p → (b == a) ≡ q → p ≡ q
    by_tests true true e f = refl
    by_tests false false e f = refl
    by_tests true false e f = let back = (Decides-eqb b a).1 (sym ((Decides-eqb a b).0 e)) in absurd cc
    by_tests false true e f = let back = (Decides-eqb a b).1 (sym ((Decides-eqb b a).0 f)) in absurd cc

-- a module is found by its name and version where these are among those of all
found_is : (texts : List Module) (r : ModRef) → is_some (text_of texts r) ≡ is_among (map ref_of texts) r
found_is [] r = refl
found_is (m ∷ texts) r =
    (λ i. is_some (cond ((flipped m.name.0 r.name.0) i && (flipped m.version r.version) i) (Some m) (text_of texts r))) ∙ by_test _ (found_is texts r)
  where
    by_test : (t : Bool) → is_some (text_of texts r) ≡ is_among (map ref_of texts) r → is_some (cond t (Some m) (text_of texts r)) ≡ (t || is_among (map ref_of texts) r)
    by_test true rest = refl
    by_test false rest = rest

pub given_found : (texts : List Module) (rs : List ModRef) → list_all (is_among (map ref_of texts)) rs ≡ true → AllByRecursion (λ r. IsTrue (is_some (text_of texts r))) rs
given_found texts [] h = tt
given_found texts (r ∷ rs) h =
    let p = and_parts _ _ h in
    (found_is texts r ∙ p.0, given_found texts rs p.1)

-- ---- what is said can be made

-- what a line has that is one of a script with these modules
pub record IsLineOf (names : Texts) (texts : List Module) (line : ScriptLine) : Type 0 where
  pub sound : is_script_line line ≡ true
  pub narrow : is_wide line ≡ false
  pub brief : is_long line ≡ false
  pub held : AreHeld names (script_line_atoms line)
  pub given : loads_given (map ref_of texts) names line ≡ true

held_below : (names : Texts) (text : List ℕ) → HasNumber names text → number_in names text < length names
held_below names text h = let within = slice_get_within names _ text (slice_get-number_of names text _ h.is) in omega (arith, number_is names text h)

mutual
  -- its atoms have names
  held_leaves : (names : Texts) (t : TermOf (List ℕ) (List ℕ)) → IntegersFit t → AreHeld names (atoms_of t) → EachLeaf IsTermInteger (λ atom. atom < length names) (argument_in names t)
  held_leaves names (integer_leaf text) fits held = fits
  held_leaves names (atom_leaf text) fits held = held_below names text held.0
  held_leaves names (tuple_of row) fits held = held_row names row fits held
  held_leaves names (list_of row) fits held = held_row names row fits held

  held_row : (names : Texts) (row : RowOf (List ℕ) (List ℕ)) → EachInRow (λ text. IsTermInteger (integer_of text)) (λ _. Unit {0}) row → AreHeld names (row_atoms row) → EachInRow IsTermInteger (λ atom. atom < length names) (map_row integer_of (number_in names) row)
  held_row names no_terms fits held = tt
  held_row names (term_then t row) fits held = (held_leaves names t fits.0 (held_first names _ _ held), held_row names row fits.1 (held_second names _ _ held))

argument_is : (names : Texts) (arg : WrittenTerm) → is_wide_term arg ≡ false → is_long_term arg ≡ false → AreHeld names (atoms_of arg) → IsTermOf names (argument_in names arg)
argument_is names arg narrow brief held = record {
  leaves = held_leaves names arg (narrow_fits arg narrow) held;
  short = let same = term_words-map integer_of (number_in names) arg in let few = test_not_lt 64 (term_words arg) brief in omega arith;
}

arguments_are : (names : Texts) (args : List WrittenTerm) → list_any is_wide_term args ≡ false → list_any is_long_term args ≡ false → AllByRecursion (λ arg. AreHeld names (atoms_of arg)) args → AllByRecursion (λ arg. IsTermOf names (argument_in names arg)) args
arguments_are names [] narrow brief held = tt
arguments_are names (arg ∷ args) narrow brief held =
    let n = or_parts _ _ narrow in
    let b = or_parts _ _ brief in
    (argument_is names arg n.0 b.0 held.0, arguments_are names args n.1 b.1 held.1)

at_most : (n : ℕ) → nat_le n 15 ≡ true → n ≤ 15
at_most n h = grind (arith, nat_tests)

module _ (names : Texts) where
  named_is : (texts : List Module) (command : AtomCommand) (name : List ℕ) → HasNumber names name → IsCmdOf names texts (command_of command (atom_in names name))
  named_is texts delete name held = held_below names name held
  named_is texts command name held = held_below names name held

  command_is : (texts : List Module) (line : ScriptLine) → IsLineOf names texts line → AllByRecursion (IsCmdOf names texts) (commands_on names line)
  command_is texts (load refs) l = (
    record { some = let some = (some_refs refs l.sound).0 in omega (arith, length-map refs (ref_in names)); given = given_found texts (map (ref_in names) refs) l.given },
    tt,
  )
  command_is texts (on_atom command name) l = (named_is texts _ name l.held.0, tt)
  command_is texts (put key term) l = (
    record { key_named = held_below names key l.held.0; is_term = subst (IsTermOf names) (sym (plain-term_of (argument_in names term))) (argument_is names term l.narrow l.brief l.held.1) },
    tt,
  )
  command_is texts (trace f g arity on) l = (
    record {
      module_named = held_below names f l.held.0;
      name_named = held_below names g l.held.1.0;
      few = at_most (number_value arity) (and_parts (is_number_text arity) (nat_le (number_value arity) 15) (trace_arity f g arity on l.sound)).1;
    },
    tt,
  )
  command_is texts (spawn m f args) l =
      let s = spawn_line m f args l.sound in (
        record {
          module_named = held_below names m l.held.0;
          name_named = held_below names f l.held.1.0;
          arity_is = sym (length-map args _);
          few = at_most _ s.few;
          each = each_map _ _ args (arguments_are names args l.narrow l.brief (arguments_held names args l.held.1.1));
        },
        tt,
      )
  command_is texts line l = tt

  -- ---- and is written as the line

  refs_again : (refs : List RefForm) → list_all is_ref_form refs ≡ true → AreHeld names (map (λ r. r.name) refs) → map (ref_form names) (map (ref_in names) refs) ≡ refs
  refs_again [] form held = refl
  refs_again (r ∷ refs) form held =
      let p = and_parts _ _ form in
      let n = atom_again names _ held.0 in
      let v = version_again _ (and_parts _ _ p.0).1 in
      let more = refs_again refs p.1 held.1 in
      λ k. record { name = n k; version = v k } ∷ more k

  arguments_again : (args : List WrittenTerm) → list_all is_term_form args ≡ true → list_any is_wide_term args ≡ false → AllByRecursion (λ arg. AreHeld names (atoms_of arg)) args → map (term_form names) (map (argument_in names) args) ≡ args
  arguments_again [] form narrow held = refl
  arguments_again (arg ∷ args) form narrow held =
      let f = and_parts _ _ form in
      let n = or_parts _ _ narrow in
      λ k. (term_again names arg f.0 (narrow_fits arg n.0) held.0) k ∷ (arguments_again args f.1 n.1 held.1) k

  command_again : (command : AtomCommand) (name : List ℕ) → HasNumber names name → command_line names (command_of command (atom_in names name)) ≡ on_atom command name
  command_again delete name held = ap (on_atom delete) (atom_again names name held)
  command_again command name held = ap (on_atom command) (atom_again names name held)

  line_back : (texts : List Module) (line : ScriptLine) → IsCommand line → IsLineOf names texts line → map (command_line names) (commands_on names line) ≡ line ∷ []
  line_back texts (load refs) is l = ap (λ (rs : List RefForm). load rs ∷ []) (refs_again refs (some_refs refs l.sound).1 l.held)
  line_back texts (on_atom command name) is l = ap (λ (line : ScriptLine). line ∷ []) (command_again _ name l.held.0)
  line_back texts (put key term) is l =
      let p = atom_again names key l.held.0 in
      λ k. put (p k) ((ap (term_form names) (plain-term_of _) ∙ term_again names term ((and_parts _ _ l.sound).1) (narrow_fits term l.narrow) l.held.1) k) ∷ []
  line_back texts (trace f g arity on) is l =
      λ k. trace ((atom_again names f l.held.0) k) ((atom_again names g l.held.1.0) k) ((arity_again arity (trace_arity f g arity on l.sound)) k) on ∷ []
  line_back texts (spawn m f args) is l =
      let s = spawn_line m f args l.sound in
      let p = atom_again names m l.held.0 in
      λ k. spawn (p k) ((atom_again names f l.held.1.0) k) ((arguments_again args s.args_are l.narrow (arguments_held names args l.held.1.1)) k) ∷ []
  line_back texts line is l = absurd is

  -- ---- and stays as the names grow

  refs_after : (after : Texts) (refs : List RefForm) → Extends names after → AreHeld names (map (λ (r : RefForm). r.name) refs) → map (ref_in after) refs ≡ map (ref_in names) refs
  refs_after after [] e h = refl
  refs_after after (r ∷ refs) e h =
      λ i. record { name = record { 0 = (number_in-after names after _ e h.0) i }; version = number_value r.version } ∷ (refs_after after refs e h.1) i

  pub same_commands : (after : Texts) (line : ScriptLine) → Extends names after → AreHeld names (script_line_atoms line) → commands_on after line ≡ commands_on names line
  same_commands after (load refs) e held = ap (λ (rs : List ModRef). Load rs ∷ []) (refs_after after refs e held)
  same_commands after (on_atom c n) e held = ap (λ (k : ℕ). let atom : AtomId = record { 0 = k } in command_of c atom ∷ []) (number_in-after names after n e held.0)
  same_commands after (put key t) e held =
      λ i. Put (record { 0 = (number_in-after names after key e held.0) i }) (term_of ((term_after names after t e held.1) i)) ∷ []
  same_commands after (trace n f arity on) e held =
      let p = number_in-after names after n e held.0 in
      let q = number_in-after names after f e held.1.0 in
      λ i. Trace (record { «module» = record { 0 = p i }; name = record { 0 = q i }; arity = number_value arity }) on ∷ []
  same_commands after (spawn n f args) e held =
      let p = number_in-after names after n e held.0 in
      let q = number_in-after names after f e held.1.0 in
      λ i. Spawn (record { «module» = record { 0 = p i }; name = record { 0 = q i }; arity = length args }) ((terms_after names after args e held.1.1) i) ∷ []
  same_commands after line e held = refl

-- so does what it loads
pub same_given : (titles : List ModRef) (names after : Texts) (line : ScriptLine) → Extends names after → AreHeld names (script_line_atoms line) → loads_given titles after line ≡ loads_given titles names line
same_given titles names after (load refs) e held = ap (list_all (is_among titles)) (refs_after names after refs e held)
same_given titles names after line e held = refl

-- ---- one command a line

-- how many processes a line makes
abbrev pub spawned : ScriptLine → ℕ
spawned (spawn m f args) = 1
spawned line = 0

pub record IsOne (names : Texts) (line : ScriptLine) : Type 0 where
  pub command : ScriptCmd
  pub is : commands_on names line ≡ command ∷ []
  pub spawns : spawns_in command ≡ spawned line

no_spawn : (command : AtomCommand) (atom : AtomId) → spawns_in (command_of command atom) ≡ 0
no_spawn delete atom = refl
no_spawn command atom = refl

pub one_command : (names : Texts) (line : ScriptLine) → IsCommand line → IsOne names line
one_command names (load refs) is = record { command = _; is = refl; spawns = refl }
one_command names (on_atom command name) is = record { command = command_of command (atom_in names name); is = refl; spawns = no_spawn _ _ }
one_command names (put key t) is = record { command = _; is = refl; spawns = refl }
one_command names (trace m f arity on) is = record { command = _; is = refl; spawns = refl }
one_command names (spawn m f args) is = record { command = _; is = refl; spawns = refl }
one_command names line is = absurd is

-- the processes after a line, where they were few enough
pub processes_are : (n next : ℕ) (line : ScriptLine) → processes_with n line ≡ Ok next → n ≤ 64 → (next ≡ n + spawned line) × (next ≤ 64)
processes_are n next (spawn m f args) e few = by_test _ refl e
  where
    by_test : (t : Bool) → nat_le 64 n ≡ t → cond {A = Result ℕ LineCause} t (Err (causes.Limit which.Processes)) (Ok (n + 1)) ≡ Ok next → (next ≡ n + 1) × (next ≤ 64)
    by_test true full e = absurd cc
    by_test false room e =
        let same = ok_is _ next e in
        let small : n + 1 ≤ 64 = grind (arith, nat_tests) in
        (sym same, omega (arith, same, small))
processes_are n next line e few = let same = ok_is n next e in (omega arith, omega arith)

pub processes_run : (n : ℕ) (line : ScriptLine) → n + spawned line ≤ 64 → processes_with n line ≡ Ok (n + spawned line)
processes_run n (spawn m f args) few =
    let room : nat_le 64 n ≡ false = grind (arith, nat_tests) in
    ap (λ t. cond {A = Result ℕ LineCause} t (Err (causes.Limit which.Processes)) (Ok (n + 1))) room
processes_run n line few = let same : n ≡ n + 0 = omega arith in ap (λ (k : ℕ). let so : Result ℕ LineCause = Ok k in so) same

-- ---- commands that are told by their lines

-- the line of a command says it, and passes every test of a line of a loader block
pub record IsToldBy (names : Texts) (texts : List Module) (c : ScriptCmd) : Type 0 where
  pub is : IsCommand (command_line names c)
  pub line : IsLineOf names texts (command_line names c)
  pub says : commands_on names (command_line names c) ≡ c ∷ []
  pub lacks_feed : lacks 10 (script_line_written (command_line names c)) ≡ true

pub told_command : (names : Texts) (texts : List Module) (c : ScriptCmd) → IsToldBy names texts c → IsCmdOf names texts c
told_command names texts c t = (subst (AllByRecursion (IsCmdOf names texts)) t.says (command_is names texts _ t.line)).0

abbrev first_line : List ScriptLine → ScriptLine
first_line [] = go
first_line (line ∷ lines) = line

module _ (names : Texts) (texts : List Module) (line : ScriptLine) (c : ScriptCmd) (is : IsCommand line) (l : IsLineOf names texts line) where
  -- a line that says a command is its line
  pub told_by_line : commands_on names line ≡ c ∷ [] → command_line names c ≡ line
  told_by_line says = ap first_line (sym (ap (map _) says) ∙ line_back names texts line is l)

  pub is_told : lacks 10 (script_line_written line) ≡ true → commands_on names line ≡ c ∷ [] → command_line names c ≡ line → IsToldBy names texts c
  is_told feed says back =
      let own = sym back in
      record {
        is = subst IsCommand own is;
        line = subst (IsLineOf names texts) own l;
        says = ap (commands_on names) back ∙ says;
        lacks_feed = ap (λ (l : ScriptLine). lacks 10 (script_line_written l)) back ∙ feed;
      }

-- ---- lines that run one after another: what is named and what is still to be named is known in front of each

-- ---- a line more

pub closed_names : (s : Known) (t : Bool) (o : Option ℕ) → (cond t (closed_by s o) s).names ≡ s.names
closed_names s true None = refl
closed_names s true (Some place) = refl
closed_names s false o = refl

-- the names after a line are those of the line too
pub names_by : (s : Known) (number : ℕ) {line : ScriptLine} {next : Known} → Move s number line next → next.names ≡ names_with_all s.names (script_line_atoms line)
names_by s number (writes line functions place is few) = let w = with_line s line functions in closed_names w _ _
names_by s number m = refl

pub grows_by : (s : Known) (number : ℕ) {line : ScriptLine} {next : Known} → Move s number line next → Extends s.names next.names
grows_by s number {line} m = subst (Extends s.names) (sym (names_by s _ m)) (Extends-all _ (script_line_atoms line))

-- ---- the atoms of a line

refs_atoms : (refs : List RefForm) → list_all is_ref_form refs ≡ true → are_atoms (map (λ (r : RefForm). r.name) refs) ≡ true
refs_atoms [] e = refl
refs_atoms (r ∷ refs) e =
    let p = and_parts _ _ e in
    let atom = (and_parts _ _ p.0).0 in
    let rest = refs_atoms refs p.1 in
    λ i. atom i && rest i

-- they are texts of atoms
pub atoms_are : (line : ScriptLine) → is_script_line line ≡ true → are_atoms (script_line_atoms line) ≡ true
atoms_are (code line) h = line_atoms_are line h
atoms_are (load []) h = absurd cc
atoms_are (load (r ∷ refs)) h = refs_atoms (r ∷ refs) h
atoms_are (on_atom command name) h = λ i. h i && true
atoms_are (put key t) h =
    let p = and_parts (is_atom_text key) (is_term_form t) h in
    both_atoms (key ∷ []) (atoms_of t) (λ i. p.0 i && true) (term_atoms_are t p.1)
atoms_are (trace m f arity on) h =
    let p = and_parts _ _ h in
    let q = and_parts _ _ p.1 in
    λ i. p.0 i && (q.0 i && true)
atoms_are (spawn m f args) h =
    let p = and_parts (is_atom_text m) _ h in
    let q = and_parts (is_atom_text f) _ p.1 in
    let s = and_parts (nat_le (length args) 15) _ q.1 in
    both_atoms (m ∷ f ∷ []) (flat_map atoms_of args) (λ i. p.0 i && (q.0 i && true)) (terms_atoms_are args s.1)
atoms_are line h = refl

names_all-IsNames : (names texts : Texts) → IsNames names → are_atoms texts ≡ true → length (names_with_all names texts) ≤ 4096 → IsNames (names_with_all names texts)
names_all-IsNames names [] sound h room = sound
names_all-IsNames names (text ∷ texts) sound h room =
    let p = and_parts (is_atom_text text) (list_all is_atom_text texts) h in
    let few : length (names_with names text) ≤ 4096 = omega (arith, more_names_all (names_with names text) texts) in
    names_all-IsNames (names_with names text) texts (names_with-IsNames names text sound p.0 few) p.1 room

-- ---- all lines

pub steps_names : (s : Known) (number : ℕ) (lines : List ScriptLine) (known : Known) → steps s number lines ≡ Ok known → known.names ≡ names_with_all s.names (flat_map script_line_atoms lines)
steps_names s number [] known e = ap (λ (k : Known). k.names) (sym (ok_is s known e))
steps_names s number (line ∷ lines) known e =
    let first = bind_ok (step s number line) (λ next. steps next (number + 1) lines) known e in
    steps_names first.0 (number + 1) lines known first.2
    ∙ ap (λ (ns : Texts). names_with_all ns (flat_map script_line_atoms lines)) (names_by s number (moves s number line first.0 first.1))
    ∙ sym (names_with_all-append s.names (script_line_atoms line) (flat_map script_line_atoms lines))

-- the names stay a table
pub steps_table : (s : Known) (number : ℕ) (lines : List ScriptLine) (known : Known) → IsNames s.names → IsKept s number → AreSound lines → steps s number lines ≡ Ok known → IsNames known.names
steps_table s number [] known table h sound e = subst (λ (k : Known). IsNames k.names) (ok_is s known e) table
steps_table s number (line ∷ lines) known table h sound e =
    let first = bind_ok (step s number line) (λ next. steps next (number + 1) lines) known e in
    let m = moves s number line first.0 first.1 in
    let kept = kept_by s number h m in
    let names = sym (names_by s number m) in
    let now = subst IsNames names (names_all-IsNames s.names (script_line_atoms line) table (atoms_are line sound.0) (subst (λ (ns : Texts). length ns ≤ 4096) (sym names) kept.room)) in
    steps_table first.0 (number + 1) lines known now kept sound.1 first.2

-- ---- lines that run one after another: what is still to be named is known in front of each, and the parts of a script follow each other

-- ---- what is gathered

-- what is known besides names, functions, the open text and the place
pub record Gathered : Type 0 where
  pub modules : List Module
  pub titles : List ModRef
  pub observers : List ℕ
  pub loaders : List (List ScriptCmd)
  pub processes : ℕ
  pub unknown : Option ℕ

abbrev pub gathered_of : Known → Gathered
gathered_of v = record { modules = v.modules; titles = v.titles; observers = v.observers; loaders = v.loaders; processes = v.processes; unknown = v.unknown }

-- that of the first parts of a script
abbrev pub gathered : List Module → List ℕ → List (List ScriptCmd) → Gathered
gathered ms os ls = record { modules = ms; titles = map ref_of ms; observers = os; loaders = ls; processes = sum_by spawn_count ls; unknown = None }

-- no text is open, and this is gathered
pub record Built (at : Place → Type 0) (g : Gathered) (v : Known) : Type 0 where
  pub place : at v.place
  pub none_open : v.lines ≡ []
  pub is : gathered_of v ≡ g

-- ---- what is to come

-- behind these lines the names are those of the script, and the functions are few enough
pub record Coming (names : Texts) (home : List ℕ) (v : Known) (lines : List ScriptLine) : Type 0 where
  pub names_are : names_with_all v.names (flat_map script_line_atoms lines) ≡ names
  pub few : length (mfas_on names v.functions (functions_named home lines)) ≤ 1024

module _ (names : Texts) (home : List ℕ) (v : Known) (line : ScriptLine) (more : List ScriptLine) (c : Coming names home v (line ∷ more)) where
  pub grown : Extends (names_with_all v.names (script_line_atoms line)) names
  grown =
      let after = names_with_all v.names (script_line_atoms line) in
      subst (Extends after) (sym (names_with_all-append v.names (script_line_atoms line) (flat_map script_line_atoms more)) ∙ c.names_are) (Extends-all after (flat_map script_line_atoms more))

  -- the functions with a line more are few enough
  pub few_now : length (mfas_on names v.functions (script_line_functions home line)) ≤ 1024
  few_now =
      let now = mfas_on names v.functions (script_line_functions home line) in
      let rest = functions_named (home_after home line) more in
      omega (arith, ap length (mfas_on-append names v.functions (script_line_functions home line) rest), c.few, mfas_more now (map (mfa_named names) rest))

-- ---- lines that run

-- lines are not refused, where more come behind them
pub record Ran (names : Texts) (home : List ℕ) (v : Known) (number : ℕ) (lines more : List ScriptLine) (P : Known → Type 0) : Type 0 where
  pub next : Known
  pub steps_is : steps v number lines ≡ Ok next
  pub coming : Coming names (home_of home lines) next more
  pub holds : P next

module _ (names : Texts) (home : List ℕ) (v : Known) where
  pub coming_next : (next : Known) (line : ScriptLine) (more : List ScriptLine) → Coming names home v (line ∷ more) → next.names ≡ names_with_all v.names (script_line_atoms line) → next.functions ≡ mfas_on names v.functions (script_line_functions home line) → Coming names (home_after home line) next more
  coming_next next line more c named functions =
      let rest = functions_named (home_after home line) more in
      record {
        names_are = ap (λ (ns : Texts). names_with_all ns (flat_map script_line_atoms more)) named ∙ sym (names_with_all-append v.names (script_line_atoms line) (flat_map script_line_atoms more)) ∙ c.names_are;
        few = let all = ap length (ap (λ fs. mfas_on names fs rest) functions ∙ sym (mfas_on-append names v.functions (script_line_functions home line) rest)) in omega (arith, c.few);
      }

  pub ran_none : (number : ℕ) (more : List ScriptLine) (P : Known → Type 0) → Coming names home v more → P v → Ran names home v number [] more P
  ran_none number more P c p = record { next = v; steps_is = refl; coming = c; holds = p }

  pub ran_line : (w : Known) (number : ℕ) (line : ScriptLine) (lines more : List ScriptLine) (P : Known → Type 0) → step v number line ≡ Ok w → Ran names (home_after home line) w (number + 1) lines more P → Ran names home v number (line ∷ lines) more P
  ran_line w number line lines more P e r = record {
    next = r.next;
    steps_is = ap (λ x. x >>= λ next. steps next (number + 1) lines) e ∙ r.steps_is;
    coming = r.coming;
    holds = r.holds;
  }

  pub ran_append : (number : ℕ) (xs ys more : List ScriptLine) (P Q : Known → Type 0) → Ran names home v number xs (ys ++ more) P → ((w : Known) → P w → Coming names (home_of home xs) w (ys ++ more) → Ran names (home_of home xs) w (length xs + number) ys more Q) → Ran names home v number (xs ++ ys) more Q
  ran_append number xs ys more P Q r go_on =
      let s = go_on r.next r.holds r.coming in
      record {
        next = s.next;
        steps_is = steps-append v _ xs ys _ r.steps_is ∙ s.steps_is;
        coming = subst (λ (h : List ℕ). Coming names h s.next more) (sym (home_of-append home xs ys)) s.coming;
        holds = s.holds;
      }
