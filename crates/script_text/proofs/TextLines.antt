-- The lines of a module's text that follow on, so far or up to its end: their title, their names, and the module that they say.
use Rattle.script_text.proofs.Common.{◌≡◌, ℕ, ◌≤◌, true, false, List, [], ◌∷◌, ◌++◌, length, Option, Some, None, is_none, option_map, refl, sym, ap}
use Rattle.script_text.proofs.Common.{◌∙◌, subst, append_assoc, Texts, append-nil, AllByRecursion}
use Rattle.script_text.proofs.Texts.{Extends, Extends-refl, Extends-trans, HasNumber}
use Rattle.script_text.proofs.Modules.{IsModule, LineForm, title, end, line_written, is_line_form, may_follow, last_line, line_atoms}
use Rattle.script_text.proofs.Modules.{names_after, IsNext, title_of, IsTitled, module_of, unsettled_line, FollowOn, names_behind, module_is_sound}
use Rattle.script_text.proofs.Forms.{is_text_end, Known}
use Rattle.script_text.proofs.FunctionNames.{home_after_line}
use Rattle.script_text.proofs.HeldNames.{Extends-all, held_all, all_held_in}
use Rattle.script_text.proofs.ModuleNames.{HaveHeld, module_of-more}
use Rattle.script_text.proofs.StepMoves.{IsJudged}

-- ---- a line more

pub follow_more : (names : Texts) (before lines : List LineForm) (line : LineForm) → FollowOn names before lines → IsNext (names_behind names lines) (before ++ lines) (line_written line) line → FollowOn names before (lines ++ line ∷ [])
follow_more names before [] line follow next = (subst (λ (ls : List LineForm). IsNext names ls (line_written line) line) (append-nil _) next, tt)
follow_more names before (l ∷ lines) line follow next =
    (follow.0, follow_more (names_after names l) (before ++ l ∷ []) lines line follow.1 (subst (λ (ls : List LineForm). IsNext (names_behind (names_after names l) lines) ls (line_written line) line) (sym (append_assoc before (l ∷ []) lines)) next))

pub names_behind-more : (names : Texts) (lines : List LineForm) (line : LineForm) → names_behind names (lines ++ line ∷ []) ≡ names_after (names_behind names lines) line
names_behind-more names [] line = refl
names_behind-more names (l ∷ lines) line = names_behind-more (names_after names l) lines line

-- a line that was judged well may follow
pub next_is : (s : Known) (line : LineForm) → is_line_form line ≡ true → IsJudged s line → IsNext s.names s.lines (line_written line) line
next_is s line sound is = record { stands = record { is_text = record { text_is = refl; sound = sound }; place = is.place }; within = is.within }

-- ---- its title

pub titled_more : (lines : List LineForm) (line : LineForm) → IsTitled lines → IsTitled (lines ++ line ∷ [])
titled_more [] line h = absurd h
titled_more (title name version ∷ lines) line h = tt
titled_more lines line h = h

pub title_of-more : (lines : List LineForm) (line : LineForm) → IsTitled lines → title_of (lines ++ line ∷ []) ≡ title_of lines
title_of-more (title name version ∷ lines) line h = refl
title_of-more lines line h = absurd h

pub titled : (before : Texts) (text : List LineForm) (last : LineForm) → FollowOn before [] text → last_line text ≡ Some last → IsTitled text
titled before [] last follow e = absurd cc
titled before (title name version ∷ lines) last follow e = tt
titled before text last follow e = let place = follow.0.stands.place in absurd cc

some_last : (line : LineForm) (lines : List LineForm) → is_none (last_line (line ∷ lines)) ≡ false
some_last line [] = refl
some_last line (l ∷ lines) = some_last l lines

-- behind a title no other may follow, so the text's module stays
pub home_stays : (home : List ℕ) (lines : List LineForm) (line : LineForm) → IsTitled lines → may_follow (last_line lines) line ≡ true → home_after_line home line ≡ home
home_stays home (title name version ∷ lines) (title n v) h e = let some = some_last (title name version) lines in absurd cc
home_stays home lines (title n v) h e = absurd (untitled lines h e)
  where
    untitled : (ls : List LineForm) → IsTitled ls → is_none (last_line ls) ≡ true → ⊥
    untitled [] h e = h
    untitled (l ∷ ls) h e = let some = some_last l ls in cc
home_stays home lines line h e = refl

pub title_held : (names : Texts) (lines : List LineForm) → IsTitled lines → HaveHeld names lines → HasNumber names (title_of lines).0
title_held names (title name version ∷ lines) t held = held.0.0
title_held names lines t held = absurd t

pub end_is : (o : Option LineForm) → is_text_end o ≡ true → o ≡ Some end
end_is (Some end) e = refl
end_is o e = absurd cc

-- ---- its names

Extends-behind : (names : Texts) (lines : List LineForm) → Extends names (names_behind names lines)
Extends-behind names [] = Extends-refl names
Extends-behind names (line ∷ lines) = Extends-trans names (names_after names line) _ (Extends-all names (line_atoms line)) (Extends-behind (names_after names line) lines)

pub held_behind : (names : Texts) (lines : List LineForm) → HaveHeld (names_behind names lines) lines
held_behind names [] = tt
held_behind names (line ∷ lines) =
    (all_held_in (names_after names line) (names_behind (names_after names line) lines) (line_atoms line) (Extends-behind (names_after names line) lines) (held_all names (line_atoms line)), held_behind (names_after names line) lines)

pub have_held_in : (names after : Texts) (lines : List LineForm) → Extends names after → HaveHeld names lines → HaveHeld after lines
have_held_in names after [] e h = tt
have_held_in names after (line ∷ lines) e h = (all_held_in names after _ e h.0, have_held_in names after lines e h.1)

-- ---- a closed text

-- a text in a row, closed, and its names are among these
pub record IsClosed (names : Texts) (text : List LineForm) : Type 0 where
  pub before : Texts
  pub room : length before ≤ 4096
  pub follow : FollowOn before [] text
  pub closed : last_line text ≡ Some end
  pub among : Extends (names_behind before text) names

abbrev pub AreClosed : Texts → List (List LineForm) → Type 0
AreClosed names texts = AllByRecursion (IsClosed names) texts

-- the module that it says is the same under more names
pub same_module : (names : Texts) (text : List LineForm) (c : IsClosed names text) → module_of names text ≡ module_of (names_behind c.before text) text
same_module names text c =
    let after = names_behind c.before text in
    ap (λ (ns : Texts). module_of ns text) c.among.whole ∙ module_of-more after _ text (titled _ text end c.follow c.closed) (held_behind _ text)

pub text_module : (names : Texts) (text : List LineForm) → IsClosed names text → unsettled_line text ≡ None → IsModule (module_of names text)
text_module names text c settled =
    let after = names_behind c.before text in
    let m = module_of after text in
    let is : IsModule m = module_is_sound _ _ m after c.room (record { lines = text; spelled = refl; faultless = c.follow; closed = c.closed; settled = settled; named = refl; value = refl }) in
    subst IsModule (sym (same_module names text c)) is

pub unmapped : {X Y : Type 0} (f : X → Y) (o : Option X) → option_map f o ≡ None → o ≡ None
unmapped f None e = refl
unmapped f (Some x) e = absurd cc
