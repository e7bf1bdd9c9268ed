-- What the line of each command of a made script says, and what it passes.
use Rattle.std.proofs.Common.{◌≡◌, ℕ, zero, suc, ◌+◌, ◌<◌, ◌≤◌, ◌==◌, ◌&&◌, nat_le, Bool, true, false, List, [], ◌∷◌, map, pos, is_some, refl, sym, ap, ◌∙◌, subst, arith, lit<, lit≤, codes}
use Rattle.std.proofs.lemmas.Bool.{and_from}
use Rattle.std.proofs.lemmas.Bool.Decides.{nat_tests}
use Rattle.std.specs.Fmt.{decimal, signed_decimal}
use Rattle.std.specs.List.{AllByRecursion, range_with_len}
use Rattle.term_core.specs.Names.{is_atom_text}
use Rattle.term_core.specs.declared.term.Term.TheVariants.{Tuple}
use Rattle.term_core.specs.PlainTerm.{PlainTerm, integer_leaf, no_terms, term_then, tuple_of}
use Rattle.term_core.specs.TermText.{atom_text, number_in}
use Rattle.term_core.specs.Text.Numbers.{is_number_text, number_value}
use Rattle.term_core.specs.Written.{WrittenTerm, IntegersFit, IsTermInteger, is_integer_text}
use Rattle.term_core.proofs.IntegerTexts.{signed_decimal-says}
use Rattle.term_core.proofs.Text.Numbers.{decimal-writes}
use Rattle.term_core.proofs.Ranges.{none_of_fits}
use Rattle.mod_text.specs.ModuleLine.{is_function_form, is_version_text}
use Rattle.script_core.specs.declared.script.ScriptCmd.{ScriptCmd}
use Rattle.script_core.specs.declared.script.ScriptCmd.TheVariants.{Load, SoftPurge, CheckOld, Put, Erase, Trace, Spawn}
use Rattle.script_maker.specs.declared.subject.Subject.{Subject}
use Rattle.script_maker.specs.Generator.{number_after, picked}
use Rattle.script_maker.specs.MadeScript.{command_at, made_command, command_of_kind, made_load, made_names, main_of, put_by_maker, spawns_at, subject_of, version_at, version_of}
use Rattle.script_maker.proofs.MadeCommands.{either}
use Rattle.script_maker.proofs.MadeModules.{is_integer}
use Rattle.script_text.specs.Canonical.{command_line}
use Rattle.mod_text.specs.ModuleLine.{is_term_form}
use Rattle.script_text.specs.ScriptLine.{is_script_line}
use Rattle.script_text.specs.ScriptValue.{commands_on}
use Rattle.script_text.specs.Counts.{script_line_atoms}
use Rattle.script_text.specs.LineFaults.{is_wide, is_long}
use Rattle.script_text.specs.LineStep.{loads_given}
use Rattle.script_text.specs.Sets.{is_among}
use Rattle.script_text.proofs.ModuleNames.{AreHeld}
use Rattle.script_text.proofs.StepMoves.{IsCommand}
use Rattle.server_core.specs.declared.command.ModRef.{ModRef}
use Rattle.term_core.proofs.GrownTerms.{HasNumber}

-- a version of a subject's module
abbrev pub version_ref : Subject → ℕ → ModRef
version_ref about version = record { name = about.«module»; version = version }

-- a subject whose atoms are read back, and whose versions are given
pub record IsToldSubject (titles : List ModRef) (about : Subject) : Type 0 where
  pub module_again : number_in made_names (atom_text made_names about.«module».0) ≡ about.«module».0
  pub key_again : number_in made_names (atom_text made_names about.key.0) ≡ about.key.0
  pub module_held : HasNumber made_names (atom_text made_names about.«module».0)
  pub key_held : HasNumber made_names (atom_text made_names about.key.0)
  pub module_text : is_atom_text (atom_text made_names about.«module».0) ≡ true
  pub key_text : is_atom_text (atom_text made_names about.key.0) ≡ true
  pub given : (version : ℕ) → 1 ≤ version → version ≤ 8 → is_among titles (version_ref about version) ≡ true

-- the line of a command says this command, and passes all tests of a line in a loader block
pub record IsSaidBy (titles : List ModRef) (cmd : ScriptCmd) : Type 0 where
  pub again : commands_on made_names (command_line made_names cmd) ≡ cmd ∷ []
  pub is : IsCommand (command_line made_names cmd)
  pub sound : is_script_line (command_line made_names cmd) ≡ true
  pub narrow : is_wide (command_line made_names cmd) ≡ false
  pub brief : is_long (command_line made_names cmd) ≡ false
  pub held : AreHeld made_names (script_line_atoms (command_line made_names cmd))
  pub given : loads_given titles made_names (command_line made_names cmd) ≡ true

-- ---- numbers

-- the text of a small number says it
pub number_again : (n : ℕ) → n ≤ 999999 → number_value (decimal n) ≡ n
number_again n small = (decimal-writes n (omega (arith, small))).value

-- a version's text is one
version_text : (n : ℕ) → 1 ≤ n → n ≤ 8 → is_version_text (decimal n) ≡ true
version_text n least most =
    let writes = decimal-writes n (omega (arith, most)) in
    let value = number_again n (omega (arith, most)) in
    and_from (is_number_text (decimal n)) (nat_le 1 (number_value (decimal n)) && nat_le (number_value (decimal n)) 999999) writes.form
    (ap (λ (v : ℕ). nat_le 1 v && nat_le v 999999) value ∙ and_from (nat_le 1 n) (nat_le n 999999) (grind (arith, nat_tests, least)) (grind (arith, nat_tests, most)))

-- ---- commands

module _ (titles : List ModRef) (about : Subject) (is : IsToldSubject titles about) where
  load_told : (version : ℕ) → 1 ≤ version → version ≤ 8 → IsSaidBy titles (made_load about version)
  load_told version least most =
      let named = is.module_again in
      let numbered = number_again version (omega (arith, most)) in
      record {
        again = λ i. Load ((record { name = record { 0 = named i }; version = numbered i }) ∷ []) ∷ [];
        is = tt;
        sound = and_from (is_atom_text (atom_text made_names about.«module».0) && is_version_text (decimal version)) true (and_from (is_atom_text (atom_text made_names about.«module».0)) (is_version_text (decimal version)) is.module_text (version_text version least most)) refl;
        narrow = refl;
        brief = refl;
        held = (is.module_held, tt);
        given = and_from (is_among titles (record { name = record { 0 = number_in made_names (atom_text made_names about.«module».0) }; version = number_value (decimal version) })) true (ap (is_among titles) (λ i. record { name = record { 0 = named i }; version = numbered i }) ∙ is.given version least most) refl;
      }

  soft_purge_told : IsSaidBy titles (SoftPurge about.«module»)
  soft_purge_told =
      let named = is.module_again in
      record { again = λ i. SoftPurge (record { 0 = named i }) ∷ []; is = tt; sound = is.module_text; narrow = refl; brief = refl; held = (is.module_held, tt); given = refl }

  check_old_told : IsSaidBy titles (CheckOld about.«module»)
  check_old_told =
      let named = is.module_again in
      record { again = λ i. CheckOld (record { 0 = named i }) ∷ []; is = tt; sound = is.module_text; narrow = refl; brief = refl; held = (is.module_held, tt); given = refl }

  erase_told : IsSaidBy titles (Erase about.key)
  erase_told =
      let named = is.key_again in
      record { again = λ i. Erase (record { 0 = named i }) ∷ []; is = tt; sound = is.key_text; narrow = refl; brief = refl; held = (is.key_held, tt); given = refl }

  put_told : (place version : ℕ) → place ≤ 999999 → version ≤ 999999 → IsSaidBy titles (put_by_maker about place version)
  put_told place version below small =
      let named = is.key_again in
      let first = signed_decimal-says (pos place) (is_integer place below) in
      let second = signed_decimal-says (pos version) (is_integer version small) in
      let p = first.value in
      let q = second.value in
      let form : WrittenTerm = tuple_of (term_then (integer_leaf (signed_decimal (pos place))) (term_then (integer_leaf (signed_decimal (pos version))) no_terms)) in
      let fits : IntegersFit form = (subst IsTermInteger (sym p) (is_integer place below), (subst IsTermInteger (sym q) (is_integer version small), tt)) in
      record {
        again = λ i. Put (record { 0 = named i }) (Tuple ((let u : PlainTerm = integer_leaf (p i) in u) ∷ (let v : PlainTerm = integer_leaf (q i) in v) ∷ [])) ∷ [];
        is = tt;
        sound = and_from (is_atom_text (atom_text made_names about.key.0)) (is_term_form form) is.key_text
            (and_from (is_integer_text (signed_decimal (pos place))) (is_integer_text (signed_decimal (pos version)) && true) first.form (and_from (is_integer_text (signed_decimal (pos version))) true second.form refl));
        narrow = ap is_some (none_of_fits form fits);
        brief = refl;
        held = (is.key_held, tt);
        given = refl;
      }

  trace_told : (on : Bool) → IsSaidBy titles (Trace (version_of about) on)
  trace_told on =
      let named = is.module_again in
      let none = number_again 0 (lit≤ tt) in
      record {
        again = λ i. Trace (record { «module» = record { 0 = named i }; name = (version_of about).name; arity = none i }) on ∷ [];
        is = tt;
        sound = and_from (is_atom_text (atom_text made_names about.«module».0)) (is_function_form (codes "ver") (decimal 0)) is.module_text (and_from (is_number_text (decimal 0)) (nat_le (number_value (decimal 0)) 15) (decimal-writes 0 (lit< tt)).form (ap (λ n. nat_le n 15) none));
        narrow = refl;
        brief = refl;
        held = (is.module_held, (record { number = _; is = refl }, tt));
        given = refl;
      }

  spawn_told : IsSaidBy titles (Spawn (main_of about) [])
  spawn_told =
      let named = is.module_again in
      record {
        again = λ i. Spawn (record { «module» = record { 0 = named i }; name = (main_of about).name; arity = 0 }) [] ∷ [];
        is = tt;
        sound = and_from (is_atom_text (atom_text made_names about.«module».0)) true is.module_text refl;
        narrow = refl;
        brief = refl;
        held = (is.module_held, (record { number = _; is = refl }, tt));
        given = refl;
      }

  kind_told : (place kind : ℕ) → place < 4000 → IsSaidBy titles (command_of_kind about place kind)
  kind_told place kind below =
      let turn : version_at place ≤ 8 = omega arith in
      either (IsSaidBy titles) (kind == 0) _ _ (load_told (version_at place) (omega arith) turn)
      (either (IsSaidBy titles) (kind == 1) _ _ soft_purge_told
      (either (IsSaidBy titles) (kind == 2) _ _ check_old_told
      (either (IsSaidBy titles) (kind == 3) _ _ (put_told place (version_at place) (omega (arith, below)) (omega (arith, turn)))
      (either (IsSaidBy titles) (kind == 4) _ _ erase_told
      (either (IsSaidBy titles) (kind == 5) _ _ (trace_told true) (trace_told false))))))

  -- each command is told by its line
  pub command_told : (place number : ℕ) → place < 4000 → IsSaidBy titles (made_command about place number)
  command_told place number below =
      either (IsSaidBy titles) (place == 0) _ _ (load_told 1 (lit≤ tt) (lit≤ tt))
      (either (IsSaidBy titles) (spawns_at place) _ _ spawn_told (kind_told place (picked number) below))

-- so are all commands of a loader
pub commands_told : (titles : List ModRef) (seed turn a n : ℕ) → IsToldSubject titles (subject_of turn) → a + n ≤ 4000 → AllByRecursion (IsSaidBy titles) (map (command_at seed turn) (range_with_len a n))
commands_told titles seed turn a zero is fits = tt
commands_told titles seed turn a (suc n) is fits =
    (command_told titles (subject_of turn) is a (number_after seed turn (a + 1)) (omega (arith, fits)), commands_told titles seed turn (a + 1) n is (omega (arith, fits)))
