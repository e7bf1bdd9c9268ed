-- The canonical text of a script is a text of it, unless it is too long.
use Rattle.std.proofs.Common.{◌≡◌, ℕ, ◌<◌, ◌≤◌, ◌&&◌, true, false, nat_le, List, [], ◌∷◌, ◌++◌, length, map, All}
use Rattle.std.proofs.Common.{inl, inr, refl, sym, ap, ◌∙◌, subst, arith, append-nil, append_assoc}
use Rattle.script_text.proofs.Common.{IsTrue, AllByRecursion, flat_map, list_any, and_from, or_parts}
use Rattle.script_text.proofs.Common.{false_from_ne_true, cases_lt, nat_tests, flat_map-append, map-append, Texts}
use Rattle.std.specs.Fmt.{decimal}
use Rattle.script_text.proofs.Texts.{given_names, names_with_all, Lines, lines_of_text, is_number_text, number_value}
use Rattle.script_text.proofs.Texts.{each_append, lacks, number_lacks, decimal-writes, test_not_lt}
use Rattle.script_text.proofs.Modules.{IsModuleHeld, IsModule, names_after, LineForm, lines_written, FollowOn, line_lacks}
use Rattle.script_text.proofs.Types.{Module, Script, ScriptCmd}
use Rattle.mod_text.specs.Canonical.{canonical as module_lines}
use Rattle.script_text.proofs.Forms.{ScriptLine, head, code, observer, go, script_line_written, is_script_line, counted_names, opening, script_of}
use Rattle.script_text.proofs.Forms.{IsShort, ScriptText, IsOfSomeText, command_line, block_form, observer_form, code_form, canonical}
use Rattle.script_text.proofs.Forms.{script_line_bytes, canonical_text, is_long_line, IsTooLongToPrint}
use Rattle.script_text.proofs.Alike.{Alike, lines_same, lines_then, lines_back, lines_append, AreAlike, alike_back}
use Rattle.script_text.proofs.CanonicalRuns.{lines_with, IsReady, script_runs, Readings, readings, texts_alike}
use Rattle.script_text.proofs.Commands.{IsToldBy, steps_names}
use Rattle.script_text.proofs.FunctionNames.{functions_named, mfas_on}
use Rattle.script_text.proofs.PrintedText.{lines_of_bytes, codes_bytes, modules_written}
use Rattle.script_text.proofs.Sound.{text_told, none_open, titles_are, script_is, sound_of}
use Rattle.script_text.proofs.TextLines.{AreClosed}
use Rattle.script_text.proofs.Told.{AreApart, front_of}

-- ---- what each line has

-- it has its text, without a line feed
record IsGood (line : ScriptLine) : Type 0 where
  sound : is_script_line line ≡ true
  lacks_feed : lacks 10 (script_line_written line) ≡ true

abbrev AreGood : List ScriptLine → Type 0
AreGood lines = AllByRecursion IsGood lines

follow_good : (names : Texts) (before text : List LineForm) → FollowOn names before text → AreGood (code_form text)
follow_good names before [] follow = tt
follow_good names before (line ∷ text) follow =
    let sound = follow.0.stands.is_text.sound in
    (record { sound = sound; lacks_feed = line_lacks line sound }, follow_good (names_after names line) (before ++ line ∷ []) text follow.1)

texts_good : (names : Texts) (texts : List (List LineForm)) (more : List ScriptLine) → AreClosed names texts → AreGood more → AreGood (code_form (flat_map (λ text. text) texts) ++ more)
texts_good names [] more closed good = good
texts_good names (text ∷ texts) more closed good =
    let others = flat_map (λ (t : List LineForm). t) texts in
    subst AreGood (sym (ap (λ (ls : List ScriptLine). ls ++ more) (map-append (λ l. code l) text others) ∙ append_assoc _ _ more))
    (each_append IsGood _ _ (follow_good _ [] text closed.0.follow) (texts_good names texts more closed.1 good))

observers_good : (counts : List ℕ) → AllByRecursion (λ n. (0 < n) × (n ≤ 16)) counts → AreGood (observer_form counts)
observers_good [] small = tt
observers_good (n ∷ counts) small =
    let least = small.0.0 in
    let most = small.0.1 in
    let w = decimal-writes n (omega arith) in (
      record {
        sound = and_from (is_number_text (decimal n)) (nat_le 1 (number_value (decimal n)) && nat_le (number_value (decimal n)) 16) w.form
            (ap (λ (v : ℕ). nat_le 1 v && nat_le v 16) w.value ∙ and_from (nat_le 1 n) (nat_le n 16) (grind (arith, nat_tests, least)) (grind (arith, nat_tests, most)));
        lacks_feed = number_lacks 10 (decimal n) refl w.form;
      },
      observers_good counts small.1,
    )

module _ (names : Texts) (ms : List Module) where
  commands_good : (cs : List ScriptCmd) → AllByRecursion (IsToldBy names ms) cs → AreGood (map (command_line names) cs)
  commands_good [] told = tt
  commands_good (c ∷ cs) told = (record { sound = told.0.line.sound; lacks_feed = told.0.lacks_feed }, commands_good cs told.1)

  blocks_good : (ls : List (List ScriptCmd)) → AllByRecursion (AllByRecursion (IsToldBy names ms)) ls → AreGood (flat_map (block_form names) ls)
  blocks_good [] told = tt
  blocks_good (cs ∷ ls) told = each_append IsGood (block_form names cs) (flat_map (block_form names) ls) (record { sound = refl; lacks_feed = refl }, commands_good cs told.0) (blocks_good ls told.1)

all_good : (s : Script) → IsReady s → (r : Readings s.names s.modules) → AreGood (lines_with s (flat_map (λ text. text) r.texts))
all_good s ready r =
    let seen = observer_form s.observers in
    let blocks = flat_map (block_form s.names) s.loaders in (
      record { sound = refl; lacks_feed = refl },
      texts_good _ _ _ r.closed
          (each_append IsGood seen _ (observers_good _ ready.sound.snapshots) (each_append IsGood _ _ (blocks_good _ _ _ ready.told) (record { sound = refl; lacks_feed = refl }, tt))),
    )

all_sound : (lines : List ScriptLine) → AreGood lines → AllByRecursion (λ line. IsTrue (is_script_line line)) lines
all_sound [] good = tt
all_sound (line ∷ lines) good = (good.0.sound, all_sound lines good.1)

all_lack : (lines : List ScriptLine) → AreGood lines → AllByRecursion (λ line. lacks 10 (script_line_written line) ≡ true) lines
all_lack [] good = tt
all_lack (line ∷ lines) good = (good.0.lacks_feed, all_lack lines good.1)

not_longer : (n : ℕ) → (1048576 < n → ⊥) → n ≤ 1048576
not_longer n h = elim (cases_lt 1048576 n) [
  | inl longer ↦ absurd (h longer)
  | inr within ↦ within
]

all_short : (forms : List ScriptLine) → list_any is_long_line (map script_line_written forms) ≡ false → AllByRecursion IsShort forms
all_short [] none = tt
all_short (line ∷ forms) none =
    let p = or_parts _ _ none in
    (test_not_lt 4096 _ p.0, all_short forms p.1)

-- ---- the bytes

texts_written : (texts : List (List LineForm)) → lines_written (flat_map (λ text. text) texts) ≡ flat_map (λ text. lines_written text) texts
texts_written [] = refl
texts_written (text ∷ texts) = flat_map-append _ text (flat_map (λ (t : List LineForm). t) texts) ∙ ap (λ (l : List ℕ). lines_written text ++ l) (texts_written texts)

bytes_are : (s : Script) (r : Readings s.names s.modules) → canonical_text s ≡ flat_map script_line_bytes (lines_with s (flat_map (λ text. text) r.texts))
bytes_are s r =
    let rest = observer_form s.observers ++ (flat_map (block_form s.names) s.loaders ++ go ∷ []) in
    ap (λ (l : List ℕ). script_line_bytes head ++ l) (codes_bytes _ rest
    ∙ ap (λ (l : List ℕ). l ++ flat_map script_line_bytes rest) (modules_written _ _ ∙ r.spelled ∙ sym (texts_written r.texts))
    ∙ sym (codes_bytes (flat_map (λ (text : List LineForm). text) r.texts) rest))

-- ---- the text of a script

own_alike : (s : Script) (r : Readings s.names s.modules) → Alike (lines_with s (flat_map (λ text. text) r.texts)) (canonical s)
own_alike s r =
    let rest = observer_form s.observers ++ (flat_map (block_form s.names) s.loaders ++ go ∷ []) in
    let own = flat_map (λ (text : List LineForm). text) r.texts in
    let written = flat_map (module_lines s.names) s.modules in
    let like : AreAlike own written = alike_back written own (subst (λ (ms : List Module). AreAlike (flat_map (module_lines s.names) ms) own) r.value (texts_alike s.names r.texts r.closed r.settled)) in
    lines_append (head ∷ code_form own) (head ∷ code_form written) rest rest (lines_append (head ∷ []) (head ∷ []) (code_form own) (code_form written) (lines_same (head ∷ [])) like) (lines_same rest)

-- where the canonical lines of a script name its names in order, and few enough functions, its canonical text is a text of it
pub canonical_law : (s : Script) → IsReady s → counted_names (canonical s) ≡ s.names → length (mfas_on s.names [] (functions_named [] (canonical s))) ≤ 1024 → (IsTooLongToPrint s → ⊥) → ScriptText (canonical_text s) s
canonical_law s ready named few fits =
    let r = readings s.names s.modules ready.sound.names ready.sound.texts.sound ready.sound.held in
    let forms = lines_with s (flat_map (λ (text : List LineForm). text) r.texts) in
    let like = own_alike s r in
    let run = script_runs s ready r (record { names_are = ap (names_with_all given_names) like.atoms ∙ named; few = subst (λ fs. length (mfas_on s.names [] fs) ≤ 1024) (sym (like.functions [])) few }) in
    let good = all_good s ready r in
    let cut = ap lines_of_text (bytes_are s r) ∙ lines_of_bytes forms (all_lack forms good) in
    let none_long = false_from_ne_true (list_any is_long_line (map script_line_written forms)) (λ long. fits (inr (ap (λ (w : Lines). list_any is_long_line w.ended) cut ∙ long))) in
    record {
      lines = forms;
      known = run.known;
      whole = record {
        short = not_longer (length (canonical_text s)) (λ long. fits (inl long));
        lines_are = record { written = ap (λ (w : Lines). w.ended) cut; sound = all_sound forms good; short = all_short forms none_long; known_is = run.known_is };
        nothing_more = ap (λ (w : Lines). w.tail) cut;
        finished = run.finished;
      };
      found = run.found;
      value = run.value;
    }

-- ---- a script of some text

quiet_observers : (counts : List ℕ) → Alike (observer_form counts) []
quiet_observers [] = lines_same []
quiet_observers (n ∷ counts) = lines_append (observer (decimal n) ∷ []) [] (observer_form counts) [] (record { atoms = refl; homes = λ home. refl; functions = λ home. refl }) (quiet_observers counts)

-- the canonical lines name what is known in order
front_alike : (s : Script) → Alike (canonical s) (front_of s.names s.modules [] s.loaders)
front_alike s =
    let written = flat_map (module_lines s.names) s.modules in
    let blocks = flat_map (block_form s.names) s.loaders in
    let last : Alike (blocks ++ go ∷ []) blocks = subst (Alike _) (append-nil _) (lines_append _ _ _ [] (lines_same _) (record { atoms = refl; homes = λ home. refl; functions = λ home. refl })) in
    let first : Alike (head ∷ code_form written) (code_form written) = lines_append (head ∷ []) [] (code_form written) (code_form written) (record { atoms = refl; homes = λ home. refl; functions = λ home. refl }) (lines_same _) in
    subst (λ (ls : List LineForm). Alike (canonical s) (code_form ls ++ blocks)) (sym (append-nil _))
    (lines_append _ _ _ _ first (lines_append (observer_form s.observers) [] (blocks ++ go ∷ []) blocks (quiet_observers _) last))

canonical_of_text : (text : List ℕ) (s : Script) (t : ScriptText text s) → (IsTooLongToPrint (script_of t.known) → ⊥) → ScriptText (canonical_text (script_of t.known)) (script_of t.known)
canonical_of_text text s t =
    let h = text_told text s t in
    let x = script_of t.known in
    let names = t.known.names in
    let told = subst (λ (ls : List LineForm). Alike t.lines (front_of names t.known.modules ls t.known.loaders)) (none_open text s t) h.like in
    let like = lines_then (canonical x) (front_of names t.known.modules [] t.known.loaders) t.lines (front_alike x) (lines_back t.lines (front_of names t.known.modules [] t.known.loaders) told) in
    let named = ap (names_with_all given_names) like.atoms ∙ sym (steps_names opening 1 t.lines t.known t.whole.lines_are.known_is) in
    let functions = ap (mfas_on names []) (like.functions []) ∙ sym h.functions.are in
    let few = h.functions.few in
    canonical_law x (record { sound = script_is text s t; told = h.loaders.told; apart = subst AreApart (titles_are text s t) h.titles.apart }) named (omega (arith, ap length functions, few))

-- the modules of a script that is the value of some text
pub modules_sound : (s : Script) → IsOfSomeText s → All IsModule s.modules
modules_sound s o = (sound_of o.text s o.is_text).texts.sound

-- and their atoms
pub modules_held : (s : Script) → IsOfSomeText s → All (IsModuleHeld s.names) s.modules
modules_held s o = (sound_of o.text s o.is_text).held

-- its canonical text is a text of it, unless it is too long
pub canonical_reads : (s : Script) → IsOfSomeText s → (IsTooLongToPrint s → ⊥) → ScriptText (canonical_text s) s
canonical_reads s o = subst (λ (x : Script). (IsTooLongToPrint x → ⊥) → ScriptText (canonical_text x) x) (sym o.is_text.value) (canonical_of_text o.text s o.is_text)
