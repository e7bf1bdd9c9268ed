-- The canonical text of a script runs: its modules, one after another, then its observers and its loader blocks.
use Rattle.std.proofs.Common.{◌≡◌, ℕ, List, [], ◌∷◌, ◌++◌, map, None, sym, refl, subst, ◌+◌, ◌≤◌, Bool, true, false, cond, length, Option}
use Rattle.std.proofs.Common.{Some, Result, Ok, Err, ap, ◌∙◌, append_assoc, append-nil, length-append, arith, ◌<◌, nat_le, nat_lt}
use Rattle.std.specs.Prelude.{All}
use Rattle.script_text.proofs.Common.{AllByRecursion, flat_map, All-head, All-tail, All-nil, All-push, le-ltb, or_from, map-append, Texts}
use Rattle.script_text.proofs.Common.{fold, sum_by, nat_tests, sum_by-append, sum_by-cons}
use Rattle.script_text.proofs.Texts.{IsNames, Extends, Extends-refl, number_value, names_with_all, decimal-writes}
use Rattle.script_text.proofs.Types.{Module, Mfa, ModRef, LineCause, Place, Between, Within, Script, ScriptCmd, Observing, Loading, Finished}
use Rattle.script_text.proofs.Modules.{canonical, IsModuleHeld, IsModule, LineForm, lines_written, title, end, line_written, module_of}
use Rattle.script_text.proofs.Modules.{unsettled_line, title_of, IsTitled, may_follow, last_line, line_atoms, names_after, has_high_register}
use Rattle.script_text.proofs.Modules.{has_wide_integer, has_long_term, overfills_names, is_seventeenth, ends_too_long, is_repeated, fault_of_line}
use Rattle.script_text.proofs.Modules.{counted_name, IsNext, FollowOn, Step, judged, kept, last_line-push, spawns_in, spawn_count, IsScript}
use Rattle.mod_text.proofs.CanonicalLaw.{canonical_is_text}
use Rattle.script_text.proofs.TextLines.{IsClosed, AreClosed, titled, titled_more, title_of-more, home_stays, title_held, have_held_in}
use Rattle.script_text.proofs.Alike.{AreAlike, alike_same, alike_append}
use Rattle.script_text.proofs.AlikeModules.{module_alike}
use Rattle.mod_text.specs.Keeping.{RowFrom}
use Rattle.mod_text.specs.declared.fault.LineFault.TheVariants as line_faults
use Rattle.mod_text.proofs.CanonicalParts.{IsSound}
use Rattle.mod_text.proofs.LineNames.{too_long_is}
use Rattle.script_text.proofs.Forms.{RefForm, ScriptLine, code, code_form, ref_in, ◌>>=◌, is_same_mod_ref, is_among, ref_added, Known, by_code}
use Rattle.script_text.proofs.Forms.{step_titled, is_text_end, closed_by, text_closed, code_judged, step_at, step, head, observer, loader, load}
use Rattle.script_text.proofs.Forms.{on_atom, put, trace, spawn, go, onto_last, script_line_atoms, commands_on, or_else, command_line, block_form}
use Rattle.script_text.proofs.Forms.{observer_form, opening, step_observer, block_step, end_step, spawned_in, processes_with, loads_given}
use Rattle.script_text.proofs.Forms.{step_named, step_command, step_loading, steps, script_of}
use Rattle.script_text.proofs.Commands.{ref_of, spawned, one_command, same_commands, same_given, processes_run, IsToldBy, Gathered, gathered_of}
use Rattle.script_text.proofs.Commands.{gathered, Built, Coming, grown, few_now, coming_next, Ran, ran_none, ran_line, ran_append}
use Rattle.script_text.proofs.FunctionNames.{line_functions, home_after_line, home_of, mfas_on, counted_with}
use Rattle.script_text.proofs.FunctionNames.{added_few, counted_line, home_after, counted_command}
use Rattle.script_text.proofs.HeldNames.{Extends-all, held_all, number_in-after}
use Rattle.script_text.proofs.ModuleNames.{HaveHeld, module_of-more}
use Rattle.script_text.proofs.StepMoves.{IsJudged, with_title, with_line, IsFront, IsOutside, front_outside, IsCommand, with_command, steps-append}
use Rattle.script_text.proofs.Told.{AreApart}
use Rattle.std.specs.Fmt.{decimal}
use Rattle.script_text.proofs.KeySets.{onto_last-snoc}
use Rattle.script_text.specs.declared.reading.cause.LineCause.TheVariants as causes
use Rattle.script_text.specs.declared.fault.Which.TheVariants as which

-- nothing is lacking in each text
abbrev pub AreSettled : List (List LineForm) → Type 0
AreSettled texts = AllByRecursion (λ text. unsettled_line text ≡ None) texts

-- the lines of the canonical texts of modules
pub record Readings (names : Texts) (ms : List Module) : Type 0 where
  pub texts : List (List LineForm)
  pub spelled : flat_map (λ m. lines_written (canonical names m)) ms ≡ flat_map (λ text. lines_written text) texts
  pub closed : AreClosed names texts
  pub settled : AreSettled texts
  pub value : map (module_of names) texts ≡ ms

pub readings : (names : Texts) (ms : List Module) → IsNames names → All IsModule ms → All (IsModuleHeld names) ms → Readings names ms
readings names [] sound are held = record { texts = []; spelled = refl; closed = tt; settled = tt; value = refl }
readings names (m ∷ ms) sound are held =
    let t = canonical_is_text names m sound (All-head IsModule m ms are) (All-head (IsModuleHeld names) m ms held) in
    let more = readings names ms sound (All-tail IsModule m ms are) (All-tail (IsModuleHeld names) m ms held) in
    let own : IsClosed names t.lines = record { before = names; room = sound.room; follow = t.faultless; closed = t.closed; among = subst (λ (ns : Texts). Extends ns names) t.named (Extends-refl names) } in
    record {
      texts = t.lines ∷ more.texts;
      spelled = λ i. t.spelled i ++ more.spelled i;
      closed = (own, more.closed);
      settled = (t.settled, more.settled);
      value = λ i. (sym t.value) i ∷ more.value i;
    }

-- the canonical lines of the modules that texts say name what the texts name
pub texts_alike : (names : Texts) (texts : List (List LineForm)) → AreClosed names texts → AreSettled texts → AreAlike (flat_map (canonical names) (map (module_of names) texts)) (flat_map (λ text. text) texts)
texts_alike names [] closed settled = alike_same []
texts_alike names (text ∷ texts) closed settled =
    alike_append (canonical names (module_of names text)) text (flat_map (canonical names) (map (module_of names) texts)) (flat_map (λ (t : List LineForm). t) texts)
    (module_alike names text closed.0 settled.0) (texts_alike names texts closed.1 settled.1)

-- ---- texts of modules run, one after another, where no two have one title: each is a module more

-- ---- a line, under other names

no_fault_by : (a b c d e f g : Bool) (x y : Bool) → cond a (Some line_faults.Register) (cond b (Some line_faults.Int) (cond c (Some line_faults.Term) (cond d (Some line_faults.Names) (cond e (Some line_faults.TooManyFunctions) (cond f (Some line_faults.TooLong) (cond g (Some line_faults.Duplicate) None)))))) ≡ None → x ≡ false → (f ≡ false → y ≡ false) → cond a (Some line_faults.Register) (cond b (Some line_faults.Int) (cond c (Some line_faults.Term) (cond x (Some line_faults.Names) (cond e (Some line_faults.TooManyFunctions) (cond y (Some line_faults.TooLong) (cond g (Some line_faults.Duplicate) None)))))) ≡ None
no_fault_by false false false false false false false x y none few short =
    λ i. cond (few i) (Some line_faults.Names) (cond ((short refl) i) (Some line_faults.TooLong) None)
no_fault_by a b c d e f g x y none few short = absurd cc

-- how long an image is does not depend on the names
short_under : (names others : Texts) (text : List LineForm) (line : LineForm) → RowFrom None text → All IsSound text → ends_too_long names text line ≡ false → ends_too_long others text line ≡ false
short_under names others text end row sound h = too_long_is _ text row sound ∙ sym (too_long_is names text row sound) ∙ h
short_under names others text line row sound h = refl

judged_under : (under : Texts) (v : Known) (line : LineForm) → IsNext under v.lines (line_written line) line → RowFrom None v.lines → All IsSound v.lines → length (names_after v.names line) ≤ 4096 → IsJudged v line
judged_under under v line next row sound few = record {
  place = next.stands.place;
  within = no_fault_by (has_high_register line) (has_wide_integer line) (has_long_term line) (overfills_names under line) (is_seventeenth v.lines line) (ends_too_long under v.lines line) (is_repeated v.lines line) (overfills_names v.names line) (ends_too_long v.names v.lines line)
      next.within (le-ltb 4096 (length (names_after v.names line)) few) (short_under under v.names v.lines line row sound);
}

judged_next : (v : Known) (line : LineForm) → IsJudged v line → judged v.names v.lines (Some line) ≡ Ok (names_after v.names line, v.lines ++ line ∷ [])
judged_next v line is =
    let place = is.place in
    let within = is.within in
    ap (λ t. cond {A = Step} t (kept v.names v.lines line (fault_of_line v.names v.lines line)) (judged v.names v.lines None)) place ∙ ap (kept v.names v.lines line) within

row_last : (first : LineForm) (lines : List LineForm) (line : LineForm) → RowFrom (Some first) lines → may_follow (last_line (first ∷ lines)) line ≡ true → RowFrom (Some first) (lines ++ line ∷ [])
row_last first [] line row place = (place, tt)
row_last first (l ∷ lines) line row place = (row.0, row_last l lines line row.1 place)

row_more : (lines : List LineForm) (line : LineForm) → RowFrom None lines → may_follow (last_line lines) line ≡ true → RowFrom None (lines ++ line ∷ [])
row_more [] line row place = (place, tt)
row_more (l ∷ lines) line row place = (row.0, row_last l lines line row.1 place)

-- ---- a text

-- a text is open, of which these lines were written
record Writing (v : Known) : Type 0 where
  place : v.place ≡ Within
  titled_so : IsTitled v.lines
  row : RowFrom None v.lines
  sound : All IsSound v.lines
  held : HaveHeld v.names v.lines

have_held_snoc : (names : Texts) (lines : List LineForm) (line : LineForm) → HaveHeld names lines → HaveHeld names (line ∷ []) → HaveHeld names (lines ++ line ∷ [])
have_held_snoc names [] line h k = k
have_held_snoc names (l ∷ ls) line h k = (h.0, have_held_snoc names ls line h.1 k)

no_end : (line next : LineForm) → may_follow (Some line) next ≡ true → is_text_end (Some line) ≡ false
no_end end (title name version) e = absurd cc
no_end end next e = absurd cc
no_end line next e = refl

module _ (names : Texts) (room : length names ≤ 4096) where
  few_names : (some : Texts) → Extends some names → length some ≤ 4096
  few_names some e = let len : length names ≡ length (some ++ e.more) = ap (λ (l : Texts). length l) e.whole in omega (arith, length-append some e.more, room)

  record IsWritten (home : List ℕ) (v : Known) (number : ℕ) (line : LineForm) (fs : List Mfa) (more : List ScriptLine) : Type 0 where
    step_is : step v number (code line) ≡ Ok (text_closed (with_line v line fs))
    writing : Writing (with_line v line fs)
    coming : Coming names (home_after_line home line) (with_line v line fs) more
    home_is : home_after_line home line ≡ (title_of (v.lines ++ line ∷ [])).0
    grows : Extends (names_after v.names line) names

  -- a line is not refused
  line_runs : (home : List ℕ) (v : Known) (number : ℕ) (under : Texts) (line : LineForm) (more : List ScriptLine) → home ≡ (title_of v.lines).0 → Writing v → IsNext under v.lines (line_written line) line → Coming names home v (code line ∷ more) → IsWritten home v number line (counted_with v.functions (counted_name (names_after v.names line) (v.lines ++ line ∷ []) line)) more
  line_runs home v number under line more home_so w next c =
      let after = names_after v.names line in
      let lines = v.lines ++ line ∷ [] in
      let o = counted_name after lines line in
      let fs = counted_with v.functions o in
      let e : Extends after names = grown names home v (code line) more c in
      let is = judged_under under v line next w.row w.sound (few_names after e) in
      let held = have_held_snoc after v.lines line (have_held_in v.names after v.lines (Extends-all v.names (line_atoms line)) w.held) (held_all v.names (line_atoms line), tt) in
      let titled_now = titled_more v.lines line w.titled_so in
      let same : home ≡ (title_of lines).0 = home_so ∙ sym (ap (λ (t : List ℕ × List ℕ). t.0) (title_of-more v.lines line w.titled_so)) in
      let functions : fs ≡ mfas_on names v.functions (line_functions home line) =
      counted_line after names v.functions lines line e (title_held after lines titled_now held) (held_all v.names (line_atoms line)) ∙ ap (λ (h : List ℕ). mfas_on names v.functions (line_functions h line)) (sym same) in
      let few : length fs ≤ 1024 = let now = few_now names home v (code line) more c in omega (arith, ap length functions, now) in
      let place = w.place in
      record {
        step_is =
            ap (λ (p : Place). step_at v number p (code line)) place
            ∙ ap (code_judged v line) (judged_next v line is)
            ∙ ap (λ (x : Result (List Mfa) LineCause). x >>= λ functions. Ok (text_closed (with_line v line functions))) (added_few v.functions o few);
        writing = record { place = place; titled_so = titled_now; row = row_more v.lines line w.row next.stands.place; sound = All-push IsSound v.lines line w.sound next.stands.is_text.sound; held = held };
        coming = coming_next names home v (with_line v line fs) (code line) more c refl functions;
        home_is = home_stays home v.lines line w.titled_so next.stands.place ∙ same;
        grows = e;
      }

  -- the lines behind a title, up to the end
  lines_run : (home : List ℕ) (v : Known) (number : ℕ) (under : Texts) (rest text : List LineForm) (more : List ScriptLine) (ms : List Module) (ts : List ModRef) → home ≡ (title_of v.lines).0 → Writing v → gathered_of v ≡ record (gathered ms [] []) { titles = ts } → FollowOn under v.lines rest → last_line rest ≡ Some end → v.lines ++ rest ≡ text → unsettled_line text ≡ None → Coming names home v (code_form rest ++ more)
      → Ran names home v number (code_form rest) more (Built (λ p. p ≡ Between) (record (gathered (ms ++ module_of names text ∷ []) [] []) { titles = ts }))
  lines_run home v number under [] text more ms ts home_so w g follow last whole settled c = absurd cc
  lines_run home v number under (line ∷ []) text more ms ts home_so w g follow last whole settled c =
      let r = line_runs home v number under line more home_so w follow.0 c in
      let fs = counted_with v.functions (counted_name (names_after v.names line) (v.lines ++ line ∷ []) line) in
      let k = with_line v line fs in
      let closes : is_text_end (last_line k.lines) ≡ true = ap is_text_end (last_line-push v.lines line ∙ last) in
      let none : unsettled_line k.lines ≡ None = ap unsettled_line whole ∙ settled in
      let closed : text_closed k ≡ closed_by k None = λ i. cond (closes i) (closed_by k (none i)) k in
      let module_is : module_of k.names k.lines ≡ module_of names text = sym (ap (λ (ns : Texts). module_of ns k.lines) r.grows.whole ∙ module_of-more k.names r.grows.more k.lines r.writing.titled_so r.writing.held) ∙ ap (module_of names) whole in
      ran_line names home v (closed_by k None) number (code line) [] more _ (r.step_is ∙ ap (λ (s : Known). let so : Result Known LineCause = Ok s in so) closed)
      (ran_none names (home_after_line home line) (closed_by k None) (number + 1) more _ (let d = r.coming in record { names_are = d.names_are; few = d.few })
      (record { place = refl; none_open = refl; is = (λ i. record (g i) { modules = (g i).modules ++ module_is i ∷ [] }) }))
  lines_run home v number under (line ∷ l ∷ rest) text more ms ts home_so w g follow last whole settled c =
      let r = line_runs home v number under line (code_form (l ∷ rest) ++ more) home_so w follow.0 c in
      let fs = counted_with v.functions (counted_name (names_after v.names line) (v.lines ++ line ∷ []) line) in
      let k = with_line v line fs in
      let pushed = last_line-push v.lines line in
      let open_still : is_text_end (last_line k.lines) ≡ false = ap is_text_end pushed ∙ no_end line l (sym (ap (λ (o : Option LineForm). may_follow o l) pushed) ∙ follow.1.0.stands.place) in
      let same : text_closed k ≡ k = ap (λ t. cond t (closed_by k (unsettled_line k.lines)) k) open_still in
      ran_line names home v k number (code line) (code_form (l ∷ rest)) more _ (r.step_is ∙ ap (λ (s : Known). let so : Result Known LineCause = Ok s in so) same)
      (lines_run (home_after_line home line) k (number + 1) (names_after under line) (l ∷ rest) text more ms ts r.home_is r.writing g follow.1 last (append_assoc v.lines (line ∷ []) (l ∷ rest) ∙ whole) settled r.coming)

  new_title : (titles : List ModRef) (r : ModRef) → is_among titles r ≡ false → ref_added titles r ≡ Ok (titles ++ r ∷ [])
  new_title titles r new = ap (λ t. cond {A = Result (List ModRef) LineCause} t (Err causes.Duplicate) (Ok (titles ++ r ∷ []))) new

  behind_title : (first : LineForm) (rest : List LineForm) → is_text_end (Some first) ≡ false → last_line (first ∷ rest) ≡ Some end → last_line rest ≡ Some end
  behind_title first [] goes_on last = let both = sym goes_on ∙ ap is_text_end last in absurd cc
  behind_title first (line ∷ rest) goes_on last = last

  clean_runs : (home : List ℕ) (v : Known) (number : ℕ) (text : List LineForm) (more : List ScriptLine) (ms : List Module) → IsTitled text → v.lines ≡ [] → IsClosed names text → unsettled_line text ≡ None → Built (λ p. p ≡ Between) (gathered ms [] []) v → is_among (map ref_of ms) (ref_of (module_of names text)) ≡ false → Coming names home v (code_form text ++ more)
      → Ran names home (record v { lines = [] }) number (code_form text) more (Built (λ p. p ≡ Between) (gathered (ms ++ module_of names text ∷ []) [] []))
  clean_runs home v number (title name version ∷ rest) more ms t none closed settled b new c =
      let u = record v { lines = [] } in
      let first = title name version in
      let r : RefForm = record { name = name; version = version } in
      let m = module_of names (first ∷ rest) in
      let after = names_after v.names first in
      let e : Extends after names = grown names home v (code first) (code_form rest ++ more) c in
      let follow = closed.follow in
      let is : IsJudged u first = judged_under closed.before u first follow.0 tt (All-nil IsSound) (few_names after e) in
      let ref_is : ref_in after r ≡ ref_of m = let same = sym (number_in-after after names name e (held_all v.names (name ∷ [])).0) in λ i. record { name = record { 0 = same i }; version = number_value version } in
      let g = b.is in
      let titles_are : v.titles ≡ map ref_of ms = ap (λ (g : Gathered). g.titles) g in
      let unlike : is_among v.titles (ref_in after r) ≡ false = (λ i. is_among (titles_are i) (ref_is i)) ∙ new in
      let w = with_title u number r in
      let place = b.place in
      let step_is : step u number (code first) ≡ Ok w =
      ap (λ (p : Place). step_at u number p (code first)) place
      ∙ ap (λ (x : Step). by_code x >>= step_titled u number r) (judged_next u first is)
      ∙ ap (λ (x : Result (List ModRef) LineCause). x >>= λ titles. Ok (record u { names = after; lines = first ∷ []; titles = titles; title = number; place = Within })) (new_title v.titles (ref_in after r) unlike) in
      let writing : Writing w = record { place = refl; titled_so = tt; row = (refl, tt); sound = All-push IsSound [] first (All-nil IsSound) follow.0.stands.is_text.sound; held = (held_all v.names (name ∷ []), tt) } in
      let gathered_now : gathered_of w ≡ record (gathered ms [] []) { titles = map ref_of ms ++ ref_of m ∷ [] } = λ i. record (g i) { titles = (g i).titles ++ ref_is i ∷ [] } in
      let next = coming_next names home v w (code first) (code_form rest ++ more) c refl refl in
      let titles_now : map ref_of ms ++ ref_of m ∷ [] ≡ map ref_of (ms ++ m ∷ []) = sym (map-append ref_of ms (m ∷ [])) in
      let ran = lines_run name w (number + 1) (names_after closed.before first) rest (first ∷ rest) more ms (map ref_of ms ++ ref_of m ∷ []) refl writing gathered_now follow.1 (behind_title first rest refl closed.closed) refl settled next in
      ran_line names home u w number (code first) (code_form rest) more (Built (λ p. p ≡ Between) (gathered (ms ++ m ∷ []) [] [])) step_is
      (subst (λ (ts : List ModRef). Ran names name w (number + 1) (code_form rest) more (Built (λ p. p ≡ Between) (record (gathered (ms ++ m ∷ []) [] []) { titles = ts }))) titles_now ran)
  clean_runs home v number text more ms t none closed settled b new c = absurd t

  -- a text is a module more
  text_runs : (home : List ℕ) (v : Known) (number : ℕ) (text : List LineForm) (more : List ScriptLine) (ms : List Module) → IsClosed names text → unsettled_line text ≡ None → Built (λ p. p ≡ Between) (gathered ms [] []) v → is_among (map ref_of ms) (ref_of (module_of names text)) ≡ false → Coming names home v (code_form text ++ more) → Ran names home v number (code_form text) more (Built (λ p. p ≡ Between) (gathered (ms ++ module_of names text ∷ []) [] []))
  text_runs home v number text more ms closed settled b new c =
      let none = b.none_open in
      let same : record v { lines = [] } ≡ v = λ i. record v { lines = sym none i } in
      subst (λ (k : Known). Ran names home k number (code_form text) more (Built (λ p. p ≡ Between) (gathered (ms ++ module_of names text ∷ []) [] []))) same
      (clean_runs home v number text more ms (titled closed.before text end closed.follow closed.closed) none closed settled b new c)

  -- ---- all texts

  at_middle : {X : Type 0} (P : X → Type 0) (xs ys : List X) (x : X) → AllByRecursion P (xs ++ x ∷ ys) → P x
  at_middle P [] ys x h = h.0
  at_middle P (y ∷ xs) ys x h = at_middle P xs ys x h.1

  apart_new : (refs more : List ModRef) (r : ModRef) → AreApart (refs ++ r ∷ more) → is_among refs r ≡ false
  apart_new [] more r h = refl
  apart_new (q ∷ refs) more r h = or_from _ _ (at_middle (λ s. is_same_mod_ref s q ≡ false) refs more r h.0) (apart_new refs more r h.1)

  pub texts_run : (home : List ℕ) (v : Known) (number : ℕ) (texts : List (List LineForm)) (more : List ScriptLine) (ms : List Module) → AreClosed names texts → AreSettled texts → AreApart (map ref_of (ms ++ map (module_of names) texts)) → Built (λ p. p ≡ Between) (gathered ms [] []) v → Coming names home v (code_form (flat_map (λ text. text) texts) ++ more)
      → Ran names home v number (code_form (flat_map (λ text. text) texts)) more (Built (λ p. p ≡ Between) (gathered (ms ++ map (module_of names) texts) [] []))
  texts_run home v number [] more ms closed settled apart b c = ran_none names home v number more _ c (subst (λ (ms : List Module). Built (λ p. p ≡ Between) (gathered ms [] []) v) (sym (append-nil ms)) b)
  texts_run home v number (text ∷ texts) more ms closed settled apart b c =
      let m = module_of names text in
      let others = flat_map (λ (t : List LineForm). t) texts in
      let all : (ms ++ m ∷ []) ++ map (module_of names) texts ≡ ms ++ map (module_of names) (text ∷ texts) = append_assoc ms (m ∷ []) (map (module_of names) texts) in
      let both : code_form text ++ code_form others ≡ code_form (text ++ others) = sym (map-append (λ l. code l) text others) in
      let new = apart_new (map ref_of ms) (map ref_of (map (module_of names) texts)) (ref_of m) (subst AreApart (map-append ref_of ms (m ∷ map (module_of names) texts)) apart) in
      let here = subst (Coming names home v) (ap (λ (ls : List ScriptLine). ls ++ more) (sym both) ∙ append_assoc (code_form text) (code_form others) more) c in
      let first = text_runs home v number text (code_form others ++ more) ms closed.0 settled.0 b new here in
      subst (λ (ls : List ScriptLine). Ran names home v number ls more (Built (λ p. p ≡ Between) (gathered (ms ++ map (module_of names) (text ∷ texts)) [] []))) both
      (ran_append names home v number (code_form text) (code_form others) more (Built (λ p. p ≡ Between) (gathered (ms ++ m ∷ []) [] [])) (Built (λ p. p ≡ Between) (gathered (ms ++ map (module_of names) (text ∷ texts)) [] [])) first
      (λ w built coming. subst (λ (xs : List Module). Ran names (home_of home (code_form text)) w (length (code_form text) + number) (code_form others) more (Built (λ p. p ≡ Between) (gathered xs [] []))) all
      (texts_run (home_of home (code_form text)) w (length (code_form text) + number) texts more (ms ++ m ∷ []) closed.1 settled.1 (subst (λ (xs : List Module). AreApart (map ref_of xs)) (sym all) apart) built coming)))

-- ---- the canonical lines of a script run, and what is known behind them is the script

-- ---- where a line may stand

module _ (v : Known) (number : ℕ) where
  at_front : (count : List ℕ) (p : Place) → IsFront p → step_at v number p (observer count) ≡ step_observer v (number_value count)
  at_front count Between h = refl
  at_front count Observing h = refl
  at_front count p h = absurd h

  at_block : (p : Place) → IsOutside p → step_at v number p loader ≡ block_step v
  at_block Between h = refl
  at_block Observing h = refl
  at_block Loading h = refl
  at_block p h = absurd h

  at_end : (p : Place) → IsOutside p → step_at v number p go ≡ end_step v
  at_end Between h = refl
  at_end Observing h = refl
  at_end Loading h = refl
  at_end p h = absurd h

  in_block : (line : ScriptLine) → IsCommand line → step_loading v number line ≡ step_command v number line
  in_block (load refs) is = refl
  in_block (on_atom c name) is = refl
  in_block (put key t) is = refl
  in_block (trace m f arity on) is = refl
  in_block (spawn m f args) is = refl
  in_block line is = absurd is

room_for : (n bound : ℕ) → n + 1 ≤ bound → nat_le bound n ≡ false
room_for n bound h = grind (arith, nat_tests)

module _ (names : Texts) (room : length names ≤ 4096) where
  -- ---- observers

  observers_run : (home : List ℕ) (v : Known) (number : ℕ) (counts : List ℕ) (more : List ScriptLine) (ms : List Module) (os : List ℕ) → AllByRecursion (λ n. (0 < n) × (n ≤ 16)) counts → length os + length counts ≤ 4 → Built IsFront (gathered ms os []) v → Coming names home v (observer_form counts ++ more)
      → Ran names home v number (observer_form counts) more (Built IsFront (gathered ms (os ++ counts) []))
  observers_run home v number [] more ms os small few b c = ran_none names home v _ more _ c (subst (λ (os : List ℕ). Built IsFront (gathered ms os []) v) (sym (append-nil os)) b)
  observers_run home v number (n ∷ counts) more ms os small few b c =
      let count = decimal n in
      let w = record v { observers = v.observers ++ number_value count ∷ []; place = Observing } in
      let value : number_value count ≡ n = (decimal-writes n (omega (arith, small.0.1))).value in
      let g = b.is in
      let len : length v.observers ≡ length os = ap (λ (g : Gathered). length g.observers) g in
      let small_now : nat_le 4 (length v.observers) ≡ false = room_for (length v.observers) 4 (omega arith) in
      let step_is : step v number (observer count) ≡ Ok w = at_front v number count v.place b.place ∙ ap (λ t. cond {A = Result Known LineCause} t (Err (causes.Limit which.Observers)) (Ok w)) small_now in
      let built : Built IsFront (gathered ms (os ++ n ∷ []) []) w = record { place = tt; none_open = b.none_open; is = λ i. record (g i) { observers = (g i).observers ++ value i ∷ [] } } in
      ran_line names home v w number (observer count) (observer_form counts) more _ step_is
      (subst (λ (xs : List ℕ). Ran names home w (number + 1) (observer_form counts) more (Built IsFront (gathered ms xs []))) (append_assoc os (n ∷ []) counts)
      (observers_run home w (number + 1) counts more ms (os ++ n ∷ []) small.1 (omega (arith, length-append os (n ∷ []))) built (coming_next names home v w (observer count) (observer_form counts ++ more) c refl refl)))

  -- ---- commands

  fewer : (some : Texts) → Extends some names → length some ≤ 4096
  fewer some e = let len : length names ≡ length (some ++ e.more) = ap (λ (l : Texts). length l) e.whole in omega (arith, length-append some e.more, room)

  -- a command that is told by its line is not refused
  command_runs : (v : Known) (number : ℕ) (ms : List Module) (c : ScriptCmd) → IsToldBy names ms c → v.place ≡ Loading → Extends (names_with_all v.names (script_line_atoms (command_line names c))) names → length (counted_with v.functions (spawned_in (names_with_all v.names (script_line_atoms (command_line names c))) (command_line names c))) ≤ 1024 → v.processes + spawned (command_line names c) ≤ 64
      → step v number (command_line names c) ≡ Ok (with_command v number (command_line names c) (counted_with v.functions (spawned_in (names_with_all v.names (script_line_atoms (command_line names c))) (command_line names c))) (v.processes + spawned (command_line names c)))
  command_runs v number ms c t place e few_fs few_ps =
      let line = command_line names c in
      let after = names_with_all v.names (script_line_atoms line) in
      let narrow = t.line.narrow in
      let brief = t.line.brief in
      let small : nat_lt 4096 (length after) ≡ false = le-ltb 4096 _ (fewer after e) in
      ap (λ (p : Place). step_at v number p line) place ∙ in_block v _ line t.is
      ∙ (λ i. cond (narrow i) (Err (causes.Limit which.Integer)) (cond (brief i) (Err (causes.Limit which.Term)) (cond (small i) (Err (causes.Limit which.Names)) (Ok after) >>= step_named v number line)))
      ∙ ap (λ (x : Result (List Mfa) LineCause). x >>= λ functions. processes_with v.processes line >>= λ processes. Ok (with_command v number line functions processes)) (added_few v.functions (spawned_in after line) few_fs)
      ∙ ap (λ (x : Result ℕ LineCause). x >>= λ processes. Ok (with_command v number line (counted_with v.functions (spawned_in after line)) processes)) (processes_run _ line few_ps)

  own_more : (ls : List (List ScriptCmd)) (own : List ScriptCmd) (c : ScriptCmd) → sum_by spawn_count (ls ++ (own ++ c ∷ []) ∷ []) ≡ sum_by spawn_count (ls ++ own ∷ []) + spawns_in c
  own_more ls own c =
      let a = sum_by-append spawn_count ls ((own ++ c ∷ []) ∷ []) in
      let b = sum_by-append spawn_count ls (own ∷ []) in
      let d = sum_by-cons spawn_count (own ++ c ∷ []) [] in
      omega (arith, sum_by-cons spawn_count own [], sum_by-append spawns_in own (c ∷ []), sum_by-cons spawns_in c [])

  commands_run : (home : List ℕ) (v : Known) (number : ℕ) (todo : List ScriptCmd) (more : List ScriptLine) (ms : List Module) (os : List ℕ) (ls : List (List ScriptCmd)) (own : List ScriptCmd) → AllByRecursion (IsToldBy names ms) todo → sum_by spawn_count (ls ++ own ∷ []) + spawn_count todo ≤ 64 → Built (λ p. p ≡ Loading) (gathered ms os (ls ++ own ∷ [])) v → Coming names home v (map (command_line names) todo ++ more)
      → Ran names home v number (map (command_line names) todo) more (Built (λ p. p ≡ Loading) (gathered ms os (ls ++ (own ++ todo) ∷ [])))
  commands_run home v number [] more ms os ls own are few b c = ran_none names home v _ more _ c (subst (λ (cs : List ScriptCmd). Built (λ p. p ≡ Loading) (gathered ms os (ls ++ cs ∷ [])) v) (sym (append-nil own)) b)
  commands_run home v number (cmd ∷ todo) more ms os ls own are few b c =
      let t = are.0 in
      let line = command_line names cmd in
      let lines = map (command_line names) todo in
      let after = names_with_all v.names (script_line_atoms line) in
      let e : Extends after names = grown names home v line (lines ++ more) c in
      let held = held_all v.names (script_line_atoms line) in
      let fs = counted_with v.functions (spawned_in after line) in
      let functions = counted_command after names v.functions home line e held t.is in
      let few_fs : length fs ≤ 1024 = let now = few_now names home v line (lines ++ more) c in omega (arith, ap length functions) in
      let one = one_command names line t.is in
      let says : commands_on after line ≡ cmd ∷ [] = sym (same_commands after names line e held) ∙ t.says in
      let itself : one.command ≡ cmd = let both : one.command ∷ [] ≡ cmd ∷ [] = sym one.is ∙ t.says in cc in
      let spawns : spawned line ≡ spawns_in cmd = sym one.spawns ∙ ap spawns_in itself in
      let g = b.is in
      let count : v.processes ≡ sum_by spawn_count (ls ++ own ∷ []) = ap (λ (g : Gathered). g.processes) g in
      let todo_sum = sum_by-cons spawns_in cmd todo in
      let ps = v.processes + spawned line in
      let w = with_command v number line fs ps in
      let place = b.place in
      let sums : ps ≡ sum_by spawn_count (ls ++ (own ++ cmd ∷ []) ∷ []) = let more = own_more ls own cmd in omega arith in
      let titles : v.titles ≡ map ref_of ms = ap (λ (g : Gathered). g.titles) g in
      let given : loads_given v.titles after line ≡ true = ap (λ (ts : List ModRef). loads_given ts after line) titles ∙ sym (same_given (map ref_of ms) after names line e held) ∙ t.line.given in
      let loaders = ap (λ (l : List (List ScriptCmd)). fold onto_last l (commands_on after line)) (ap (λ (g : Gathered). g.loaders) g) ∙ ap (fold onto_last (ls ++ own ∷ [])) says ∙ onto_last-snoc ls own cmd in
      let unknown : w.unknown ≡ None = ap (λ t. cond t v.unknown (or_else v.unknown (Some number))) given ∙ ap (λ (g : Gathered). g.unknown) g in
      let built : Built (λ p. p ≡ Loading) (gathered ms os (ls ++ (own ++ cmd ∷ []) ∷ [])) w = record { place = place; none_open = b.none_open; is = λ i. record { modules = (g i).modules; titles = (g i).titles; observers = (g i).observers; loaders = loaders i; processes = sums i; unknown = unknown i } } in
      let all : (own ++ cmd ∷ []) ++ todo ≡ own ++ cmd ∷ todo = append_assoc own (cmd ∷ []) todo in
      let rest_few : sum_by spawn_count (ls ++ (own ++ cmd ∷ []) ∷ []) + spawn_count todo ≤ 64 = let more = own_more ls own cmd in omega arith in
      ran_line names home v w number line lines more _ (command_runs v number ms cmd t place e few_fs (omega arith))
      (subst (λ (cs : List ScriptCmd). Ran names (home_after home line) w (number + 1) lines more (Built (λ p. p ≡ Loading) (gathered ms os (ls ++ cs ∷ [])))) all
      (commands_run (home_after home line) w (number + 1) todo more ms os ls (own ++ cmd ∷ []) are.1 rest_few built (coming_next names home v w line (lines ++ more) c refl functions)))

  -- ---- loader blocks

  block_runs : (home : List ℕ) (v : Known) (number : ℕ) (cs : List ScriptCmd) (more : List ScriptLine) (ms : List Module) (os : List ℕ) (ls : List (List ScriptCmd)) → AllByRecursion (IsToldBy names ms) cs → length ls + 1 ≤ 8 → sum_by spawn_count ls + spawn_count cs ≤ 64 → Built IsOutside (gathered ms os ls) v → Coming names home v (block_form names cs ++ more)
      → Ran names home v number (block_form names cs) more (Built (λ p. p ≡ Loading) (gathered ms os (ls ++ cs ∷ [])))
  block_runs home v number cs more ms os ls are few few_ps b c =
      let w = record v { loaders = v.loaders ++ [] ∷ []; place = Loading } in
      let g = b.is in
      let small : nat_le 8 (length v.loaders) ≡ false = room_for (length v.loaders) 8 (omega (arith, (ap (λ (g : Gathered). length g.loaders) g))) in
      let step_is : step v number loader ≡ Ok w = at_block v number v.place b.place ∙ ap (λ t. cond {A = Result Known LineCause} t (Err (causes.Limit which.Loaders)) (Ok w)) small in
      let none : sum_by spawn_count ls ≡ sum_by spawn_count (ls ++ [] ∷ []) = let a = sum_by-append spawn_count ls ([] ∷ []) in let d = sum_by-cons spawn_count [] [] in omega arith in
      let built : Built (λ p. p ≡ Loading) (gathered ms os (ls ++ [] ∷ [])) w = record { place = refl; none_open = b.none_open; is = λ i. record (g i) { loaders = (g i).loaders ++ [] ∷ []; processes = (ap (λ (g : Gathered). g.processes) g ∙ none) i } } in
      ran_line names home v w number loader (map (command_line names) cs) more _ step_is
      (commands_run home w (number + 1) cs more ms os ls [] are (omega arith) built (coming_next names home v w loader (map (command_line names) cs ++ more) c refl refl))

  coming_parts : (home : List ℕ) (v : Known) (xs ys more : List ScriptLine) → Coming names home v ((xs ++ ys) ++ more) → Coming names home v (xs ++ (ys ++ more))
  coming_parts home v xs ys more c = subst (Coming names home v) (append_assoc xs ys more) c

  blocks_run : (home : List ℕ) (v : Known) (number : ℕ) (todo : List (List ScriptCmd)) (more : List ScriptLine) (ms : List Module) (os : List ℕ) (ls : List (List ScriptCmd)) → AllByRecursion (AllByRecursion (IsToldBy names ms)) todo → length ls + length todo ≤ 8 → sum_by spawn_count ls + sum_by spawn_count todo ≤ 64 → Built IsOutside (gathered ms os ls) v → Coming names home v (flat_map (block_form names) todo ++ more)
      → Ran names home v number (flat_map (block_form names) todo) more (Built IsOutside (gathered ms os (ls ++ todo)))
  blocks_run home v number [] more ms os ls are few few_ps b c = ran_none names home v _ more _ c (subst (λ (ls : List (List ScriptCmd)). Built IsOutside (gathered ms os ls) v) (sym (append-nil ls)) b)
  blocks_run home v number (cs ∷ todo) more ms os ls are few few_ps b c =
      let block = block_form names cs in
      let rest = flat_map (block_form names) todo in
      let all : (ls ++ cs ∷ []) ++ todo ≡ ls ++ cs ∷ todo = append_assoc ls (cs ∷ []) todo in
      let a = sum_by-cons spawn_count cs todo in
      let d = sum_by-append spawn_count ls (cs ∷ []) in
      let f = sum_by-cons spawn_count cs [] in
      ran_append names home v number block rest more (Built (λ p. p ≡ Loading) (gathered ms os (ls ++ cs ∷ []))) (Built IsOutside (gathered ms os (ls ++ cs ∷ todo)))
      (block_runs home v number cs (rest ++ more) ms os ls are.0 (omega arith) (omega arith) b (coming_parts home v block rest more c)) (λ w built coming.
      let place = built.place in
      subst (λ (xs : List (List ScriptCmd)). Ran names (home_of home block) w (length block + number) rest more (Built IsOutside (gathered ms os xs))) all
      (blocks_run (home_of home block) w (length block + number) todo more ms os (ls ++ cs ∷ []) are.1 (omega (arith, length-append ls (cs ∷ []))) (omega arith) (record { place = subst IsOutside (sym place) tt; none_open = built.none_open; is = built.is }) coming))

-- ---- a whole script

-- the lines of a script, of which these are the lines of its modules' texts
abbrev pub lines_with : Script → List LineForm → List ScriptLine
lines_with s codes = head ∷ (code_form codes ++ (observer_form s.observers ++ (flat_map (block_form s.names) s.loaders ++ go ∷ [])))

-- what makes the lines of a script run
pub record IsReady (s : Script) : Type 0 where
  pub sound : IsScript s
  pub told : AllByRecursion (AllByRecursion (IsToldBy s.names s.modules)) s.loaders
  pub apart : AreApart (map ref_of s.modules)

-- the script is finished, and is what is known
pub record IsRun (s : Script) (lines : List ScriptLine) : Type 0 where
  pub known : Known
  pub known_is : steps opening 1 lines ≡ Ok known
  pub finished : known.place ≡ Finished
  pub found : known.unknown ≡ None
  pub value : s ≡ script_of known

sum_by-none : sum_by spawn_count [] ≡ 0
sum_by-none = refl

pub script_runs : (s : Script) → IsReady s → (r : Readings s.names s.modules) → Coming s.names [] opening (lines_with s (flat_map (λ text. text) r.texts)) → IsRun s (lines_with s (flat_map (λ text. text) r.texts))
script_runs s ready r c =
    let names = s.names in
    let room = ready.sound.names.room in
    let own = code_form (flat_map (λ (text : List LineForm). text) r.texts) in
    let seen = observer_form s.observers in
    let blocks = flat_map (block_form names) s.loaders in
    let u = record opening { place = Between } in
    let value = r.value in
    let few = ready.sound.few_observers in
    let few_ls = ready.sound.few_loaders in
    let few_ps = ready.sound.few_processes in
    let behind = coming_next names [] opening u head (own ++ (seen ++ (blocks ++ go ∷ []))) c refl refl in
    let built : Built (λ p. p ≡ Between) (gathered [] [] []) u = record { place = refl; none_open = refl; is = refl } in
    let texts = texts_run names room [] u 2 r.texts (seen ++ (blocks ++ go ∷ [])) [] r.closed r.settled (subst (λ (ms : List Module). AreApart (map ref_of ms)) (sym value) ready.apart) built behind in
    let modules = subst (λ (ms : List Module). Built (λ p. p ≡ Between) (gathered ms [] []) texts.next) value texts.holds in
    let place = modules.place in
    let observers = observers_run names room _ texts.next (length own + 2) s.observers (blocks ++ go ∷ []) s.modules [] ready.sound.snapshots (omega (arith, few)) (record { place = subst IsFront (sym place) tt; none_open = modules.none_open; is = modules.is }) texts.coming in
    let front = observers.holds in
    let loaders = blocks_run names room _ observers.next (length seen + (length own + 2)) s.loaders (go ∷ []) s.modules s.observers [] ready.told (omega (arith, few_ls)) (let none = sum_by-none in omega (arith, few_ps, none)) (record { place = front_outside observers.next.place front.place; none_open = front.none_open; is = front.is }) observers.coming in
    let last = loaders.next in
    let done = loaders.holds in
    let known = record last { place = Finished } in
    let number = length blocks + (length seen + (length own + 2)) in
    let step_is : step last number go ≡ Ok known = at_end last number last.place done.place in
    let named : last.names ≡ names = (coming_next names _ last known go [] loaders.coming refl refl).names_are in
    let g = done.is in
    record {
      known = known;
      known_is =
          steps-append u 2 own (seen ++ (blocks ++ go ∷ [])) texts.next texts.steps_is
          ∙ steps-append texts.next (length own + 2) seen (blocks ++ go ∷ []) observers.next observers.steps_is
          ∙ steps-append observers.next (length seen + (length own + 2)) blocks (go ∷ []) last loaders.steps_is
          ∙ ap (λ (x : Result Known LineCause). x >>= λ next. Ok next) step_is;
      finished = refl;
      found = ap (λ (g : Gathered). g.unknown) g;
      value = λ i. record { names = sym named i; modules = (sym g i).modules; observers = (sym g i).observers; loaders = (sym g i).loaders };
    }
