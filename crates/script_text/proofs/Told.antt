-- What lines tell of a script, move by move, where nothing is lacking: it is one, and its canonical lines name what they name.
use Rattle.std.proofs.Common.{◌≡◌, ℕ, ◌+◌, ◌<◌, ◌≤◌, Bool, true, false, cond, List, [], ◌∷◌, ◌++◌, length, map, Option, Some}
use Rattle.std.proofs.Common.{None, All, Ok, refl, sym, ap, ◌∙◌, subst, arith, append_assoc, append-nil, length-append}
use Rattle.script_text.proofs.Common.{fold, sum_by, AllByRecursion, flat_map, or_parts, nat_tests, flat_map-append, map-append, All-nil}
use Rattle.script_text.proofs.Common.{All-push, sum_by-append, Texts, sum_by-cons}
use Rattle.script_text.proofs.Types.{Mfa, Module, ModRef, ScriptCmd, Place, Between, Within, Observing, Loading, Finished}
use Rattle.script_text.proofs.Texts.{IsNames, Extends, number_value, names_with_all, Extends-refl}
use Rattle.script_text.proofs.Texts.{Extends-trans, given_names-IsNames, each_append, lacks}
use Rattle.script_text.proofs.Modules.{IsModuleHeld, IsModule, last_line, line_atoms, names_after, counted_name}
use Rattle.script_text.proofs.Modules.{IsNext, LineForm, title, line_written, is_line_form, FollowOn}
use Rattle.script_text.proofs.Modules.{names_behind, title_of, IsTitled, module_of, unsettled_line, spawns_in, spawn_count}
use Rattle.mod_text.specs.Canonical.{canonical as module_lines}
use Rattle.mod_text.proofs.ModuleHeld.{module_held, some_names, sound_lines}
use Rattle.script_text.proofs.Forms.{RefForm, ScriptLine, head, code, observer, loader, go, script_line_written, is_script_line, onto_last}
use Rattle.script_text.proofs.Forms.{script_line_atoms, ref_in, commands_on, command_line, block_form, code_form, or_else, is_same_mod_ref, is_among}
use Rattle.script_text.proofs.Forms.{Known, opening, is_text_end, closed_by, processes_with, spawned_in, loads_given, step, steps, counted_added}
use Rattle.script_text.proofs.FunctionNames.{line_functions, script_line_functions, home_of, home_of-append}
use Rattle.script_text.proofs.FunctionNames.{functions_named, mfas_on, mfas_on-line, added_is, counted_line, counted_command}
use Rattle.script_text.proofs.Alike.{Alike, lines_same, lines_then, lines_back, lines_append}
use Rattle.script_text.proofs.Alike.{quiet_more, AreAlike, alike_same, alike_back, alike_append}
use Rattle.script_text.proofs.AlikeModules.{module_alike}
use Rattle.script_text.proofs.HeldNames.{held_all, all_held_in, number_in-after}
use Rattle.script_text.proofs.ModuleNames.{HaveHeld}
use Rattle.script_text.proofs.TextLines.{IsClosed, follow_more, names_behind-more, next_is, titled_more, title_of-more}
use Rattle.script_text.proofs.TextLines.{home_stays, title_held, end_is, held_behind, same_module, text_module}
use Rattle.script_text.proofs.TermLines.{snapshots_bounds}
use Rattle.script_text.proofs.Commands.{ref_of, IsLineOf, same_commands, same_given, one_command, processes_are}
use Rattle.script_text.proofs.Commands.{IsToldBy, told_by_line, is_told, closed_names, grows_by, steps_table}
use Rattle.script_text.proofs.StepMoves.{IsFront, IsOutside, IsCommand, IsJudged, IsPassed, with_title, with_line, with_command, Move}
use Rattle.script_text.proofs.StepMoves.{begins, opens, writes, observes, blocks, ends, commands, moves, AreSound, bind_ok, ok_is}
use Rattle.script_text.proofs.StepKept.{IsKept, kept_by, opening_kept}

-- ---- what is told

-- the canonical lines of what is known, with those of the text that is open
abbrev pub front_of : Texts → List Module → List LineForm → List (List ScriptCmd) → List ScriptLine
front_of names ms lines loaders = code_form (flat_map (module_lines names) ms ++ lines) ++ flat_map (block_form names) loaders

-- the module of the text that is open
abbrev pub open_ref : Texts → List LineForm → List ModRef
open_ref names (title name version ∷ lines) = ref_in names (record { name = name; version = version }) ∷ []
open_ref names lines = []

-- none behind another is the same
abbrev pub AreApart : List ModRef → Type 0
AreApart [] = Unit {0}
AreApart (r ∷ refs) = AllByRecursion (λ s. is_same_mod_ref s r ≡ false) refs × AreApart refs

-- a text is open
pub record IsOpen (done : List ScriptLine) (names : Texts) (lines : List LineForm) : Type 0 where
  pub before : Texts
  pub room : length before ≤ 4096
  pub follow : FollowOn before [] lines
  pub names_are : names ≡ names_behind before lines
  pub titled : IsTitled lines
  pub home : home_of [] done ≡ (title_of lines).0

-- loader blocks come behind all texts
abbrev pub Stands : List ScriptLine → Known → Place → Type 0
Stands done s Within = IsOpen done s.names s.lines × (s.loaders ≡ [])
Stands done s Loading = s.lines ≡ []
Stands done s Finished = s.lines ≡ []
Stands done s place = (s.lines ≡ []) × (s.loaders ≡ [])

-- modules that can be loaded, whose atoms have names
pub record AreModules (names : Texts) (ms : List Module) : Type 0 where
  pub sound : All IsModule ms
  pub held : All (IsModuleHeld names) ms

-- the titles are those of the modules and of the text that is open
pub record AreTitles (names : Texts) (ms : List Module) (lines : List LineForm) (titles : List ModRef) : Type 0 where
  pub are : map ref_of ms ++ open_ref names lines ≡ titles
  pub apart : AreApart titles

-- loader blocks, whose commands are told by their lines, and the processes that they make
pub record AreLoaders (names : Texts) (ms : List Module) (loaders : List (List ScriptCmd)) (processes : ℕ) : Type 0 where
  pub told : AllByRecursion (AllByRecursion (IsToldBy names ms)) loaders
  pub few : length loaders ≤ 8
  pub spawns : sum_by spawn_count loaders ≡ processes
  pub few_processes : processes ≤ 64

pub record AreObservers (observers : List ℕ) : Type 0 where
  pub few : length observers ≤ 4
  pub snapshots : AllByRecursion (λ n. (0 < n) × (n ≤ 16)) observers

-- the functions are those that the lines name
pub record AreFunctions (names : Texts) (done : List ScriptLine) (functions : List Mfa) : Type 0 where
  pub are : functions ≡ mfas_on names [] (functions_named [] done)
  pub few : length functions ≤ 1024

-- under these names, which hold those that are known
pub record IsTold (names : Texts) (done : List ScriptLine) (s : Known) : Type 0 where
  pub modules : AreModules names s.modules
  pub titles : AreTitles names s.modules s.lines s.titles
  pub loaders : AreLoaders names s.modules s.loaders s.processes
  pub observers : AreObservers s.observers
  pub functions : AreFunctions names done s.functions
  pub like : Alike done (front_of names s.modules s.lines s.loaders)
  pub stands : Stands done s s.place

-- ---- lists

each_snoc : {X : Type 0} (P : X → Type 0) (xs : List X) (x : X) → AllByRecursion P xs → P x → AllByRecursion P (xs ++ x ∷ [])
each_snoc P xs x h p = each_append P xs _ h (p, tt)

each_onto_last : {X : Type 0} (P : X → Type 0) (groups : List (List X)) (x : X) → AllByRecursion (AllByRecursion P) groups → P x → AllByRecursion (AllByRecursion P) (onto_last groups x)
each_onto_last P [] x hs h = ((h, tt), tt)
each_onto_last P (group ∷ []) x hs h = (each_append P group _ hs.0 (h, tt), tt)
each_onto_last P (group ∷ next ∷ groups) x hs h = (hs.0, each_onto_last P (next ∷ groups) x hs.1 h)

length-onto_last : {X : Type 0} (group : List X) (groups : List (List X)) (x : X) → length (onto_last (group ∷ groups) x) ≡ length (group ∷ groups)
length-onto_last group [] x = refl
length-onto_last group (next ∷ groups) x = let rest = length-onto_last next groups x in omega arith

few_onto_last : {X : Type 0} (groups : List (List X)) (x : X) → length groups ≤ 8 → length (onto_last groups x) ≤ 8
few_onto_last [] x few = omega arith
few_onto_last (group ∷ groups) x few = omega (arith, length-onto_last group groups x)

spawns-onto_last : (groups : List (List ScriptCmd)) (c : ScriptCmd) → sum_by spawn_count (onto_last groups c) ≡ sum_by spawn_count groups + spawns_in c
spawns-onto_last [] c = omega (arith, sum_by-cons spawn_count (c ∷ []) [], sum_by-cons spawns_in c [])
spawns-onto_last (group ∷ []) c =
    let a = sum_by-cons spawn_count (group ++ c ∷ []) [] in
    omega (arith, sum_by-cons spawn_count group [], sum_by-append spawns_in group (c ∷ []), sum_by-cons spawns_in c [])
spawns-onto_last (group ∷ next ∷ groups) c =
    let a = sum_by-cons spawn_count group (onto_last (next ∷ groups) c) in
    omega (arith, sum_by-cons spawn_count group (next ∷ groups), spawns-onto_last (next ∷ groups) c)

apart_push : (r s : ModRef) (refs : List ModRef) → AllByRecursion (λ t. is_same_mod_ref t r ≡ false) refs → is_same_mod_ref s r ≡ false → AllByRecursion (λ t. is_same_mod_ref t r ≡ false) (refs ++ s ∷ [])
apart_push r s refs h k = each_snoc (λ t. is_same_mod_ref t r ≡ false) refs s h k

apart_more : (refs : List ModRef) (s : ModRef) → AreApart refs → is_among refs s ≡ false → AreApart (refs ++ s ∷ [])
apart_more [] s h none = (tt, tt)
apart_more (r ∷ refs) s h none =
    let p = or_parts _ _ none in
    (apart_push r s refs h.0 p.0, apart_more refs s h.1 p.1)

-- ---- the canonical lines of what is known, with a line more

same_by : (xs ys zs : List ScriptLine) → ys ≡ zs → Alike xs ys → Alike xs zs
same_by xs ys zs e p = subst (Alike xs) e p

front_code : (names : Texts) (ms : List Module) (lines : List LineForm) (line : LineForm) (loaders : List (List ScriptCmd)) → loaders ≡ [] → front_of names ms lines loaders ++ code line ∷ [] ≡ front_of names ms (lines ++ line ∷ []) loaders
front_code names ms lines line [] none =
    let cs = flat_map (module_lines names) ms in
    ap (λ (ls : List ScriptLine). ls ++ code line ∷ []) (append-nil _) ∙ sym (map-append (λ l. code l) (cs ++ lines) (line ∷ []))
    ∙ ap (λ (ls : List LineForm). code_form ls) (append_assoc cs lines _) ∙ sym (append-nil _)
front_code names ms lines line (c ∷ loaders) none = absurd cc

quiet_loader : Alike (loader ∷ []) []
quiet_loader = record { atoms = refl; homes = λ home. refl; functions = λ home. refl }

onto_alike : (names : Texts) (groups : List (List ScriptCmd)) (c : ScriptCmd) → Alike (flat_map (block_form names) groups ++ command_line names c ∷ []) (flat_map (block_form names) (onto_last groups c))
onto_alike names [] c = lines_append [] (loader ∷ []) (command_line names c ∷ []) (command_line names c ∷ []) (lines_back _ [] quiet_loader) (lines_same _)
onto_alike names (group ∷ []) c =
    same_by _ _ _
    (ap (λ (ls : List ScriptLine). ls ++ command_line names c ∷ []) (append-nil (block_form names group))
    ∙ ap (λ (ls : List ScriptLine). loader ∷ ls) (sym (map-append (command_line names) group (c ∷ [])))
    ∙ sym (append-nil (block_form names (group ++ c ∷ []))))
    (lines_same (flat_map (block_form names) (group ∷ []) ++ command_line names c ∷ []))
onto_alike names (group ∷ next ∷ groups) c =
    let b = block_form names group in
    let rest = flat_map (block_form names) (next ∷ groups) in
    subst (λ (ls : List ScriptLine). Alike ls (b ++ flat_map (block_form names) (onto_last (next ∷ groups) c))) (sym (append_assoc b rest (command_line names c ∷ [])))
    (lines_append b b (rest ++ command_line names c ∷ []) (flat_map (block_form names) (onto_last (next ∷ groups) c)) (lines_same b) (onto_alike names (next ∷ groups) c))

module _ (names : Texts) (done : List ScriptLine) (ms : List Module) (lines : List LineForm) where
  code_more : (line : LineForm) (loaders : List (List ScriptCmd)) → loaders ≡ [] → Alike done (front_of names ms lines loaders) → Alike (done ++ code line ∷ []) (front_of names ms (lines ++ line ∷ []) loaders)
  code_more line loaders none like = same_by _ _ _ (front_code names ms lines line _ none) (lines_append done _ _ _ like (lines_same _))

  loader_more : (loaders : List (List ScriptCmd)) → Alike done (front_of names ms lines loaders) → Alike (done ++ loader ∷ []) (front_of names ms lines (loaders ++ [] ∷ []))
  loader_more loaders like =
      let cs = code_form (flat_map (module_lines names) ms ++ lines) in
      let bs = flat_map (block_form names) loaders in
      same_by _ _ _ (append_assoc cs bs _ ∙ ap (λ (ls : List ScriptLine). cs ++ ls) (sym (flat_map-append (block_form names) loaders ([] ∷ []))))
      (lines_append done _ _ _ like (lines_same _))

  command_more : (loaders : List (List ScriptCmd)) (line : ScriptLine) (c : ScriptCmd) → command_line names c ≡ line → Alike done (front_of names ms lines loaders) → Alike (done ++ line ∷ []) (front_of names ms lines (onto_last loaders c))
  command_more loaders line c is like =
      let cs = code_form (flat_map (module_lines names) ms ++ lines) in
      let bs = flat_map (block_form names) loaders in
      let onto = lines_append cs cs _ _ (lines_same cs) (onto_alike names loaders c) in
      lines_then _ _ _ (same_by _ _ _ (append_assoc cs bs _) (lines_append done _ _ _ like (lines_same _)))
      (subst (λ (l : ScriptLine). Alike (cs ++ (bs ++ l ∷ [])) (front_of names ms lines (onto_last loaders c))) is onto)

-- a text that is closed
text_more : (names : Texts) (done : List ScriptLine) (ms : List Module) (text : List LineForm) (m : Module) (loaders : List (List ScriptCmd)) → AreAlike (module_lines names m) text → Alike done (front_of names ms text loaders) → Alike done (front_of names (ms ++ m ∷ []) [] loaders)
text_more names done ms text m loaders like told =
    let cs = flat_map (module_lines names) ms in
    let bs = flat_map (block_form names) loaders in
    let own = module_lines names m in
    let all : flat_map (module_lines names) (ms ++ m ∷ []) ++ [] ≡ cs ++ own = append-nil _ ∙ flat_map-append (module_lines names) ms _ ∙ ap (λ (ls : List LineForm). cs ++ ls) (append-nil own) in
    let back = alike_append cs cs text own (alike_same cs) (alike_back own text like) in
    lines_then done _ _ told (lines_append _ _ bs bs (subst (AreAlike (cs ++ text)) (sym all) back) (lines_same bs))

-- ---- functions

-- a line that names no function
quiet_functions : (names : Texts) (done : List ScriptLine) (line : ScriptLine) (fs : List Mfa) → AreFunctions names done fs → script_line_functions (home_of [] done) line ≡ [] → AreFunctions names (done ++ line ∷ []) fs
quiet_functions names done line fs f none = record { are = f.are ∙ sym (mfas_on-line names [] [] done line ∙ ap (mfas_on names (mfas_on names [] (functions_named [] done))) none); few = f.few }

-- ---- moves

outside_lines : (done : List ScriptLine) (s : Known) (p : Place) → IsOutside p → Stands done s p → s.lines ≡ []
outside_lines done s Between out h = h.0
outside_lines done s Observing out h = h.0
outside_lines done s Loading out h = h
outside_lines done s p out h = absurd out

front_stands : (done : List ScriptLine) (s : Known) (p : Place) → IsFront p → Stands done s p → (s.lines ≡ []) × (s.loaders ≡ [])
front_stands done s Between front h = h
front_stands done s Observing front h = h
front_stands done s p front h = absurd front

opened_ref : (names after : Texts) (lines : List LineForm) (r : RefForm) → lines ≡ [] → Extends (names_after after (title r.name r.version)) names → open_ref names (lines ++ title r.name r.version ∷ []) ≡ ref_in (names_after after (title r.name r.version)) r ∷ []
opened_ref names after [] r none e =
    λ i. record { name = record { 0 = (number_in-after _ names _ e (held_all after (r.name ∷ [])).0) i }; version = number_value r.version } ∷ []
opened_ref names after (line ∷ lines) r none e = absurd cc

open_is : (names : Texts) (text : List LineForm) → IsTitled text → open_ref names text ≡ ref_of (module_of names text) ∷ []
open_is names (title name version ∷ lines) t = refl
open_is names text t = absurd t

still_open : (names : Texts) (lines : List LineForm) (line : LineForm) → IsTitled lines → open_ref names (lines ++ line ∷ []) ≡ open_ref names lines
still_open names (title name version ∷ lines) line t = refl
still_open names lines line t = absurd t

opened : (done : List ScriptLine) (names : Texts) (lines : List LineForm) (r : RefForm) → lines ≡ [] → length names ≤ 4096 → IsNext names lines (line_written (title r.name r.version)) (title r.name r.version) → IsOpen (done ++ code (title r.name r.version) ∷ []) (names_after names (title r.name r.version)) (lines ++ title r.name r.version ∷ [])
opened done names [] r none room next = record { before = names; room = room; follow = (next, tt); names_are = refl; titled = tt; home = home_of-append [] done _ }
opened done names (line ∷ lines) r none room next = absurd cc

opened_more : (done : List ScriptLine) (s : Known) (line : LineForm) → IsOpen done s.names s.lines → is_line_form line ≡ true → IsJudged s line → IsOpen (done ++ code line ∷ []) (names_after s.names line) (s.lines ++ line ∷ [])
opened_more done s line o sound is = record {
  before = o.before;
  room = o.room;
  follow = follow_more o.before [] s.lines line o.follow (subst (λ (ns : Texts). IsNext ns s.lines (line_written line) line) o.names_are (next_is s line sound is));
  names_are = ap (λ (ns : Texts). names_after ns line) o.names_are ∙ sym (names_behind-more o.before s.lines line);
  titled = titled_more s.lines line o.titled;
  home = home_of-append [] done (code line ∷ []) ∙ home_stays (home_of [] done) s.lines line o.titled is.place ∙ o.home ∙ sym (ap (λ (t : List ℕ × List ℕ). t.0) (title_of-more s.lines line o.titled));
}

or_else_some : (o : Option ℕ) (x : ℕ) → or_else o (Some x) ≡ None → ⊥
or_else_some None x e = cc
or_else_some (Some y) x e = cc

given_by : (t : Bool) (o : Option ℕ) (number : ℕ) → cond t o (or_else o (Some number)) ≡ None → t ≡ true
given_by true o number e = refl
given_by false o number e = absurd (or_else_some o _ e)

module _ (names : Texts) (table : IsNames names) where
  told_title : (done : List ScriptLine) (s : Known) (number : ℕ) (r : RefForm) → IsTold names done s → s.place ≡ Between → length s.names ≤ 4096 → is_line_form (title r.name r.version) ≡ true → IsJudged s (title r.name r.version) → is_among s.titles (ref_in (names_after s.names (title r.name r.version)) r) ≡ false → Extends (names_after s.names (title r.name r.version)) names → IsTold names (done ++ code (title r.name r.version) ∷ []) (with_title s number r)
  told_title done s number r h place room sound is new e =
      let stands = subst (Stands done s) place h.stands in
      let line = title r.name r.version in
      let titles = h.titles in
      record {
        modules = h.modules;
        titles = record {
          are =
              ap (λ (rs : List ModRef). map ref_of s.modules ++ rs) (opened_ref names s.names s.lines r stands.0 e)
              ∙ ap (λ (rs : List ModRef). rs ++ ref_in (names_after s.names line) r ∷ []) (sym (append-nil (map ref_of s.modules)) ∙ ap (λ (ls : List LineForm). map ref_of s.modules ++ open_ref names ls) (sym stands.0) ∙ titles.are);
          apart = apart_more s.titles (ref_in (names_after s.names line) r) titles.apart new;
        };
        loaders = h.loaders;
        observers = h.observers;
        functions = quiet_functions names done (code line) s.functions h.functions refl;
        like = code_more names done s.modules s.lines line s.loaders stands.1 h.like;
        stands = (opened done s.names s.lines r stands.0 room (next_is s line sound is), stands.1);
      }

  -- a line of a text, before the text is closed
  told_line : (done : List ScriptLine) (s : Known) (line : LineForm) (functions : List Mfa) → IsTold names done s → s.place ≡ Within → is_line_form line ≡ true → IsJudged s line → counted_added s.functions (counted_name (names_after s.names line) (s.lines ++ line ∷ []) line) ≡ Ok functions → Extends (names_after s.names line) names → IsTold names (done ++ code line ∷ []) (with_line s line functions)
  told_line done s line functions h place sound is added e =
      let stands = subst (Stands done s) place h.stands in
      let o = stands.0 in
      let more = opened_more done s line o sound is in
      let after = names_after s.names line in
      let lines = s.lines ++ line ∷ [] in
      let now = added_is s.functions (counted_name after lines line) functions added h.functions.few in
      let home_held = title_held after lines more.titled (subst (λ (ns : Texts). HaveHeld ns lines) (sym more.names_are) (held_behind more.before lines)) in
      let counted = counted_line after names s.functions lines line e home_held (held_all s.names (line_atoms line)) in
      let home : (title_of lines).0 ≡ home_of [] done = ap (λ (t : List ℕ × List ℕ). t.0) (title_of-more s.lines line o.titled) ∙ sym o.home in
      let before = h.functions.are in
      record {
        modules = h.modules;
        titles = record { are = ap (λ (rs : List ModRef). map ref_of s.modules ++ rs) (still_open names s.lines line o.titled) ∙ h.titles.are; apart = h.titles.apart };
        loaders = h.loaders;
        observers = h.observers;
        functions = record { are = now.0 ∙ counted ∙ (λ i. mfas_on names (before i) (line_functions (home i) line)) ∙ sym (mfas_on-line names [] [] done (code line)); few = now.1 };
        like = code_more names done s.modules s.lines line s.loaders stands.1 h.like;
        stands = subst (Stands (done ++ code line ∷ []) (with_line s line functions)) (sym place) (more, stands.1);
      }

  -- a text that is closed, and settled
  told_closed : (done : List ScriptLine) (w : Known) → IsTold names done w → w.place ≡ Within → Extends w.names names → is_text_end (last_line w.lines) ≡ true → unsettled_line w.lines ≡ None → IsTold names done (closed_by w None)
  told_closed done w h place e closes settled =
      let stands = subst (Stands done w) place h.stands in
      let o = stands.0 in
      let text = w.lines in
      let c : IsClosed names text = record { before = o.before; room = o.room; follow = o.follow; closed = end_is (last_line text) closes; among = subst (λ (ns : Texts). Extends ns names) o.names_are e } in
      let m = module_of w.names text in
      let same : m ≡ module_of names text = ap (λ (ns : Texts). module_of ns text) o.names_are ∙ sym (same_module names text c) in
      let back = sym same in
      record {
        modules = record {
          sound = All-push IsModule w.modules m h.modules.sound (subst IsModule back (text_module names text c settled));
          held = All-push (IsModuleHeld names) w.modules m h.modules.held (subst (IsModuleHeld names) back (module_held names (some_names names table) text (sound_lines o.before [] text o.follow)));
        };
        titles = record {
          are =
              append-nil _
              ∙ map-append ref_of w.modules (m ∷ [])
              ∙ ap (λ (x : Module). map ref_of w.modules ++ ref_of x ∷ []) same
              ∙ ap (λ (rs : List ModRef). map ref_of w.modules ++ rs) (sym (open_is names text o.titled))
              ∙ h.titles.are;
          apart = h.titles.apart;
        };
        loaders = let l = h.loaders in record { told = subst (AllByRecursion (AllByRecursion (IsToldBy names (w.modules ++ m ∷ [])))) (sym stands.1) tt; few = l.few; spawns = l.spawns; few_processes = l.few_processes };
        observers = h.observers;
        functions = h.functions;
        like = text_more names done w.modules text m w.loaders (subst (λ (x : Module). AreAlike (module_lines names x) text) back (module_alike names text c settled)) h.like;
        stands = (refl, stands.1);
      }

  told_text : (done : List ScriptLine) (w : Known) (t : Bool) (o : Option ℕ) → is_text_end (last_line w.lines) ≡ t → unsettled_line w.lines ≡ o → IsTold names done w → w.place ≡ Within → Extends w.names names → (cond t (closed_by w o) w).unknown ≡ None → IsTold names done (cond t (closed_by w o) w)
  told_text done w true None closes settled h place e none = told_closed done w h place e closes settled
  told_text done w true (Some n) closes settled h place e none = absurd (or_else_some w.unknown (w.title + n) none)
  told_text done w false o closes settled h place e none = h

  told_command : (done : List ScriptLine) (s : Known) (number : ℕ) (line : ScriptLine) (functions : List Mfa) (processes : ℕ) → IsTold names done s → s.place ≡ Loading → IsCommand line → is_script_line line ≡ true → lacks 10 (script_line_written line) ≡ true → IsPassed s line → counted_added s.functions (spawned_in (names_with_all s.names (script_line_atoms line)) line) ≡ Ok functions → processes_with s.processes line ≡ Ok processes → Extends (names_with_all s.names (script_line_atoms line)) names → (with_command s number line functions processes).unknown ≡ None → IsTold names (done ++ line ∷ []) (with_command s number line functions processes)
  told_command done s number line functions processes h place is sound feed passed added spawns e none =
      let after = names_with_all s.names (script_line_atoms line) in
      let none_open = subst (Stands done s) place h.stands in
      let held = held_all s.names (script_line_atoms line) in
      let titles : s.titles ≡ map ref_of s.modules = sym h.titles.are ∙ ap (λ (ls : List LineForm). map ref_of s.modules ++ open_ref names ls) none_open ∙ append-nil (map ref_of s.modules) in
      let given = same_given (map ref_of s.modules) after names line e held ∙ ap (λ (ts : List ModRef). loads_given ts after line) (sym titles) ∙ given_by (loads_given s.titles after line) s.unknown number none in
      let l : IsLineOf names s.modules line = record { sound = sound; narrow = passed.narrow; brief = passed.brief; held = all_held_in after names (script_line_atoms line) e held; given = given } in
      let one = one_command names line is in
      let c = one.command in
      let says : one.command ∷ [] ≡ commands_on after line = sym one.is ∙ same_commands after names line e held in
      let back = told_by_line names s.modules line c is l one.is in
      let cmd = is_told names s.modules line c is l feed one.is back in
      let now = added_is s.functions (spawned_in after line) functions added h.functions.few in
      let more = processes_are s.processes processes line spawns h.loaders.few_processes in
      let before = h.functions.are in
      let sums : sum_by spawn_count (onto_last s.loaders c) ≡ processes = spawns-onto_last s.loaders c ∙ (let a = h.loaders.spawns in let b = one.spawns in let d = more.0 in omega (arith, a, b, d)) in
      record {
        modules = h.modules;
        titles = h.titles;
        loaders = record {
          told = subst (λ (cs : List ScriptCmd). AllByRecursion (AllByRecursion (IsToldBy names s.modules)) (fold onto_last s.loaders cs)) says (each_onto_last (IsToldBy names s.modules) s.loaders c h.loaders.told cmd);
          few = subst (λ (cs : List ScriptCmd). length (fold onto_last s.loaders cs) ≤ 8) says (few_onto_last s.loaders c h.loaders.few);
          spawns = subst (λ (cs : List ScriptCmd). sum_by spawn_count (fold onto_last s.loaders cs) ≡ processes) says sums;
          few_processes = more.1;
        };
        observers = h.observers;
        functions = record { are = now.0 ∙ counted_command after names s.functions (home_of [] done) line e held is ∙ (λ i. mfas_on names (before i) (script_line_functions (home_of [] done) line)) ∙ sym (mfas_on-line names [] [] done line); few = now.1 };
        like = subst (λ (cs : List ScriptCmd). Alike (done ++ line ∷ []) (front_of names s.modules s.lines (fold onto_last s.loaders cs))) says (command_more names done s.modules s.lines s.loaders line c back h.like);
        stands = subst (Stands (done ++ line ∷ []) (with_command s number line functions processes)) (sym place) none_open;
      }

  -- a line that names nothing, and leads to this place
  told_quiet : (done : List ScriptLine) (s : Known) (line : ScriptLine) (p : Place) → IsTold names done s → Stands (done ++ line ∷ []) (record s { place = p }) p → script_line_functions (home_of [] done) line ≡ [] → Alike (line ∷ []) [] → IsTold names (done ++ line ∷ []) (record s { place = p })
  told_quiet done s line p h stands none quiet = record {
    modules = h.modules;
    titles = h.titles;
    loaders = h.loaders;
    observers = h.observers;
    functions = quiet_functions names done line s.functions h.functions none;
    like = quiet_more done (front_of names s.modules s.lines s.loaders) line h.like quiet;
    stands = stands;
  }

  -- what a line tells besides, where nothing is lacking
  told_by : (done : List ScriptLine) (s : Known) (number : ℕ) {line : ScriptLine} {next : Known} → IsTold names done s → length s.names ≤ 4096 → is_script_line line ≡ true → lacks 10 (script_line_written line) ≡ true → Extends next.names names → next.unknown ≡ None → Move s number line next → IsTold names (done ++ line ∷ []) next
  told_by done s number h room sound feed e none (begins place) =
      let stands = subst (Stands done s) place h.stands in
      told_quiet done s head Between h stands refl (record { atoms = refl; homes = λ home. refl; functions = λ home. refl })
  told_by done s number h room sound feed e none (opens r place is new) = told_title done s number r h place room sound is new e
  told_by done s number h room sound feed e none (writes line functions place is few) =
      let w = with_line s line functions in
      let grown : Extends w.names names = subst (λ (ns : Texts). Extends ns names) (closed_names w (is_text_end (last_line w.lines)) (unsettled_line w.lines)) e in
      told_text (done ++ code line ∷ []) w (is_text_end (last_line w.lines)) (unsettled_line w.lines) refl refl (told_line done s line functions h place sound is few grown) place grown none
  told_by done s number h room sound feed e none (observes count front few) =
      let o = h.observers in
      let more = length-append s.observers (number_value count ∷ []) in
      let now : AreObservers (s.observers ++ number_value count ∷ []) = record { few = grind (arith, nat_tests, more, few); snapshots = each_snoc (λ n. (0 < n) × (n ≤ 16)) s.observers (number_value count) o.snapshots (snapshots_bounds count sound) } in
      let t = told_quiet done s (observer count) Observing h (front_stands done s s.place front h.stands) refl (record { atoms = refl; homes = λ home. refl; functions = λ home. refl }) in
      record { modules = t.modules; titles = t.titles; loaders = t.loaders; observers = now; functions = t.functions; like = t.like; stands = t.stands }
  told_by done s number h room sound feed e none (blocks out few) =
      let l = h.loaders in
      let more = length-append s.loaders ([] ∷ []) in
      record {
        modules = h.modules;
        titles = h.titles;
        loaders = record {
          told = each_snoc (AllByRecursion (IsToldBy names s.modules)) s.loaders [] l.told tt;
          few = grind (arith, nat_tests, more, few);
          spawns = let a = sum_by-append spawn_count s.loaders ([] ∷ []) in let b = sum_by-cons spawn_count [] [] in let p = l.spawns in omega (arith, a, b, p);
          few_processes = l.few_processes;
        };
        observers = h.observers;
        functions = quiet_functions names done loader s.functions h.functions refl;
        like = loader_more names done s.modules s.lines s.loaders h.like;
        stands = outside_lines done s s.place out h.stands;
      }
  told_by done s number h room sound feed e none (ends out) = told_quiet done s go Finished h (outside_lines done s s.place out h.stands) refl (record { atoms = refl; homes = λ home. refl; functions = λ home. refl })
  told_by done s number h room sound feed e none (commands line functions processes place is passed few some) = told_command done s number line functions processes h place is sound feed passed few some e none

-- ---- all lines

quiet_text : (w : Known) (t : Bool) (o : Option ℕ) → (cond t (closed_by w o) w).unknown ≡ None → w.unknown ≡ None
quiet_text w true None none = none
quiet_text w true (Some n) none = absurd (or_else_some _ _ none)
quiet_text w false o none = none

quiet_command : (t : Bool) (o : Option ℕ) (number : ℕ) → cond t o (or_else o (Some number)) ≡ None → o ≡ None
quiet_command true o number none = none
quiet_command false o number none = absurd (or_else_some o _ none)

-- where nothing is lacking, nothing was
quiet_by : (s : Known) (number : ℕ) {line : ScriptLine} {next : Known} → Move s number line next → next.unknown ≡ None → s.unknown ≡ None
quiet_by s number (writes line functions place is few) none = let w = with_line s line functions in quiet_text w _ _ none
quiet_by s number (commands line functions processes place is passed few some) none = quiet_command _ _ _ none
quiet_by s number m none = none

-- what lines were before all of those that are known
record IsEarlier (s known : Known) : Type 0 where
  grown : Extends s.names known.names
  quiet : known.unknown ≡ None → s.unknown ≡ None

earlier : (s : Known) (number : ℕ) (lines : List ScriptLine) (known : Known) → steps s number lines ≡ Ok known → IsEarlier s known
earlier s number [] known e = subst (IsEarlier s) (ok_is s known e) (record { grown = Extends-refl _; quiet = λ none. none })
earlier s number (line ∷ lines) known e =
    let first = bind_ok (step s number line) (λ next. steps next (number + 1) lines) known e in
    let m = moves s number line first.0 first.1 in
    let rest = earlier first.0 (number + 1) lines known first.2 in
    record { grown = Extends-trans s.names first.0.names known.names (grows_by s number m) rest.grown; quiet = λ none. quiet_by s number m (rest.quiet none) }

-- no line has a line feed
abbrev pub LackFeeds : List ScriptLine → Type 0
LackFeeds lines = AllByRecursion (λ line. lacks 10 (script_line_written line) ≡ true) lines

told_steps : (done todo : List ScriptLine) (s : Known) (number : ℕ) (known : Known) → IsNames known.names → known.unknown ≡ None → steps s number todo ≡ Ok known → AreSound todo → LackFeeds todo → IsKept s number → IsTold known.names done s → IsTold known.names (done ++ todo) known
told_steps done [] s number known table none e sound feeds kept h = subst (IsTold known.names (done ++ [])) (ok_is s known e) (subst (λ (ls : List ScriptLine). IsTold known.names ls s) (sym (append-nil done)) h)
told_steps done (line ∷ todo) s number known table none e sound feeds kept h =
    let first = bind_ok (step s number line) (λ next. steps next (number + 1) todo) known e in
    let m = moves s number line first.0 first.1 in
    let rest = earlier first.0 (number + 1) todo known first.2 in
    subst (λ (ls : List ScriptLine). IsTold known.names ls known) (append_assoc done (line ∷ []) todo)
    (told_steps (done ++ line ∷ []) todo first.0 (number + 1) known table none first.2 sound.1 feeds.1 (kept_by s number kept m) (told_by known.names table done s number h kept.room sound.0 feeds.0 rest.grown (rest.quiet none) m))

told_opening : (names : Texts) → IsTold names [] opening
told_opening names = record {
  modules = record { sound = All-nil IsModule; held = All-nil (IsModuleHeld names) };
  titles = record { are = refl; apart = tt };
  loaders = record { told = tt; few = omega arith; spawns = refl; few_processes = omega arith };
  observers = record { few = omega arith; snapshots = tt };
  functions = record { are = refl; few = omega arith };
  like = lines_same [];
  stands = (refl, refl);
}

-- what all lines of a text tell
pub told : (lines : List ScriptLine) (known : Known) → steps opening 1 lines ≡ Ok known → AreSound lines → LackFeeds lines → known.unknown ≡ None → IsTold known.names lines known
told lines known e sound feeds none = told_steps [] lines opening 1 known (steps_table opening 1 lines known given_names-IsNames opening_kept sound e) none e sound feeds opening_kept (told_opening known.names)
