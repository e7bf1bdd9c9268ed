-- That a call does what the turn says: whom it reaches, and what it leaves.
use Rattle.std.proofs.Common.{◌≡◌, ◌+◌, ◌∙◌, ℕ, Bool, true, false, refl, sym, ap, arith, List, [], ◌∷◌, ◌++◌, length, map, Option, Some, None, option_map, IsTrue, Result, Ok, Err, OnOk, is_err, ◌||◌, ◌==◌, subst, inl, inr}
use Rattle.std.proofs.lemmas.Bool.Decides.{nat_tests}
use Rattle.std.proofs.Common.{All, drop, get_or, replicate, take}
use Rattle.std.proofs.lemmas.List.{drop-map, length-map, length-reverse, map-append, take-map}
use Rattle.std.proofs.lemmas.List.Elements.{All-append, All-cons, All-drop, All-map, All-nil, All-replicate, All-take}
use Rattle.std.proofs.lemmas.Option.{option_and_then_some}
use Rattle.term_core.specs.declared.area.CodeRef.{CodeRef}
use Rattle.term_core.specs.declared.atom.Mfa.{Mfa}
use Rattle.term_core.specs.declared.hold.Full.{Full}
use Rattle.term_core.specs.declared.hold.Kind.TheVariants.{Frame, Literal as for_literals}
use Rattle.term_core.specs.Plain.{term_of}
use Rattle.term_core.specs.PlainTerm.{PlainTerm}
use Rattle.server_core.specs.ServerState.{Entry}
use Rattle.machine_core.specs.declared.process.Line.{Line}
use Rattle.machine_core.specs.declared.process.End.TheVariants.{SystemLimit}
use Rattle.machine_core.specs.declared.process.Value.{Value}
use Rattle.machine_core.specs.declared.process.Value.TheVariants.{Owned, Literal}
use Rattle.machine_core.specs.Holds.{Holds, is_among, is_held, with_hold}
use Rattle.machine_core.specs.View.{AreValues, HasValues, IsInBlock, IsLawful, IsValue, Shown}
use Rattle.machine_core.specs.declared.process.Frame.{Frame as CodeFrame}
use Rattle.machine_core.specs.Process.{PlainFrame, PlainValue, Words, arguments_at, arguments_of, entered_values, first_registers, frame_of, frames_of, no_held, owned, owned_terms, owned_values, value_shown, values_shown}
use Rattle.machine_core.specs.Turn.{called, called_by_name, called_out, entered, stacked, trace_of}
use Rattle.machine_core.specs.Stand.{IsUsable, over, runs, stand_after}
use Rattle.machine_core.proofs.CodeNames.{frames_of-push}
use Rattle.machine_core.proofs.SerialLists.{among-with}
use Rattle.machine_core.specs.Reach.{MayHold}
use Rattle.machine_core.specs.Reads.{HasFunction, IsCurrent, Reads, dispatched}

-- what was just held may be read
pub held_now : (s : Reads) (before now : Holds) (serial : ℕ) → now ≡ with_hold before serial Frame → MayHold s now serial Frame
held_now s before now serial e = inl (subst (λ h. IsTrue (is_held h serial Frame)) (sym e) (among-with before.frames serial serial ∙ first serial (is_among before.frames serial)))
  where
    first : (n : ℕ) (b : Bool) → (n == n || b) ≡ true
    first n b = grind (arith, nat_tests)

-- the answer of a hold that succeeded
pub ok_of : (r : Result (Unit {0}) Full) (P : Type 0) → OnOk r P → is_err r ≡ false → P
ok_of (Ok done) P h e = h
ok_of (Err full) P h e = absurd (cc)

-- a call that enters its function, with the line that it makes
pub called_enters : (s : Reads) (frames : List PlainFrame) (held now : Holds) (e : Entry) (to : Mfa) (back : ℕ) (args : List PlainValue) (f : PlainFrame) (made lines : List Line) →
    Some f ≡ entered s (length frames) held e back (first_registers args) → now ≡ with_hold held e.serial Frame → lines ≡ made ++ trace_of s e to args →
    stand_after held made (called s frames held e to back args) ≡ runs (f ∷ frames) now lines
called_enters s frames held now e to back args f made lines enters holds traced = rw (← enters) (cc (holds, traced))

module _ (s : Reads) where
  -- what a name reaches: a function that a current instance exports
  pub record IsReached (to : Mfa) (e : Entry) : Type 0 where
    pub current : IsCurrent s e.serial
    pub exported : s.export e.serial to ≡ Some e.function

  function_exported : (serial : ℕ) (to : Mfa) (e : Entry) (o : Option ℕ) → s.current to.«module».0 ≡ Some serial → s.export serial to ≡ o →
      option_map (λ i. record { serial = serial; function = i }) o ≡ Some e → IsReached to e
  function_exported serial to e None current x h = absurd (cc)
  function_exported serial to e (Some i) current x h =
      let k : record { serial = serial; function = i } ≡ e = cc in
      subst (IsReached to) k (record { current = (to.«module».0, current); exported = x })

  -- so is what a call reaches
  pub dispatch_reaches : (to : Mfa) (e : Entry) → dispatched s to ≡ Some e → IsReached to e
  dispatch_reaches to e h =
      option_and_then_some (λ serial. option_map (λ i. record { serial = serial; function = i }) (s.export serial to)) (s.current to.«module».0) e h
      (λ serial current k. function_exported serial to e (s.export serial to) current refl k)

-- under a lawful view it is a function of its instance
pub reached_known : (shown : Shown) (to : Mfa) (e : Entry) → IsLawful shown → dispatched shown.reads to ≡ Some e → HasFunction shown.reads e
reached_known shown to e lawful h = lawful.exports e.serial to e.function (dispatch_reaches shown.reads to e h).exported

module _ (words : Words) where
  -- as many frames as the code's frames
  pub length-frames_of : (fs : List CodeFrame) → length (frames_of words fs) ≡ length fs
  length-frames_of fs = length-reverse (map (frame_of words) fs) ∙ length-map fs (frame_of words)

  -- the registers of a function that is entered
  pub entered_shown : (args : List Value) → values_shown words (entered_values args) ≡ first_registers (values_shown words args)
  entered_shown args = sym (take-map (value_shown words) 16 (args ++ replicate 16 no_held)) ∙ ap (take 16) (map-append (value_shown words) args (replicate 16 no_held))

  -- so many arguments
  pub arguments_shown : (registers : List Value) (at count : ℕ) → values_shown words (arguments_of registers at count) ≡ arguments_at (values_shown words registers) at count
  arguments_shown registers at count = sym (take-map (value_shown words) count (drop at registers)) ∙ ap (take count) (sym (drop-map (value_shown words) at registers))

  -- terms as values
  pub owned_shown : (terms : List PlainTerm) → values_shown words (owned_terms terms) ≡ owned_values terms
  owned_shown [] = refl
  owned_shown (t ∷ ts) = ap (λ vs. owned (term_of t) ∷ vs) (owned_shown ts)

  -- a call whose caller was put on the frames below it
  pub call_gives : (s : Reads) (caller f : PlainFrame) (below pushed : List CodeFrame) (left : CodeFrame) (held now : Holds) (e : Entry) (to : Mfa) (back standing : ℕ) (args registers : List PlainValue) (made lines : List Line) →
      frame_of words left ≡ caller → pushed ≡ below ++ left ∷ [] → standing ≡ length below + 1 → registers ≡ first_registers args →
      Some f ≡ entered s standing held e back registers → now ≡ with_hold held e.serial Frame → lines ≡ made ++ trace_of s e to args →
      stand_after held made (called s (caller ∷ frames_of words below) held e to back args) ≡ runs (f ∷ frames_of words pushed) now lines
  call_gives s caller f below pushed left held now e to back standing args registers made lines c p n r enters holds traced =
      let count : standing ≡ length (caller ∷ frames_of words below) = omega (arith, n, length-frames_of below) in
      called_enters s (caller ∷ frames_of words below) held now e to back args f made lines
      (enters ∙ ap (λ k. entered s k held e back registers) count ∙ ap (entered s (length (caller ∷ frames_of words below)) held e back) r) holds traced
      ∙ ap (λ fs. runs (f ∷ fs) now lines) (sym (ap (frames_of words) p ∙ frames_of-push words below left ∙ ap (λ g. g ∷ frames_of words below) c))

  -- a call past a limit
  pub call_refused : (s : Reads) (caller : PlainFrame) (below : List CodeFrame) (held now : Holds) (e : Entry) (to : Mfa) (back standing : ℕ) (args registers : List PlainValue) (made : List Line) →
      standing ≡ length below + 1 → registers ≡ first_registers args → None ≡ entered s standing held e back registers → now ≡ held →
      stand_after held made (called s (caller ∷ frames_of words below) held e to back args) ≡ over SystemLimit now made
  call_refused s caller below held now e to back standing args registers made n r enters h =
      let count : standing ≡ length (caller ∷ frames_of words below) = omega (arith, n, length-frames_of below) in
      ap (λ o. stand_after held made (stacked (caller ∷ frames_of words below) held e.serial (trace_of s e to args) o))
      (sym (enters ∙ ap (λ k. entered s k held e back registers) count ∙ ap (entered s (length (caller ∷ frames_of words below)) held e back) r))
      ∙ ap (λ x. over SystemLimit x made) (sym h)

-- ---- the target of a process

-- it cannot be entered
pub target_refused : (shown seen : Shown) (held still now : Holds) (e : Entry) (to : Mfa) (args registers : List PlainValue) (made : List Line) → seen ≡ shown → still ≡ held → Some e ≡ dispatched shown.reads to → registers ≡ first_registers args →
    None ≡ entered seen.reads 0 still e 0 registers → now ≡ still → stand_after held made (called_out shown.reads [] held to 0 args) ≡ over SystemLimit now made
target_refused shown seen held still now e to args registers made s h d r enters n =
    let at : None ≡ entered shown.reads 0 held e 0 (first_registers args) = enters ∙ ap (λ (v : Shown). entered v.reads 0 still e 0 registers) s ∙ ap (λ k. entered shown.reads 0 k e 0 registers) h ∙ ap (entered shown.reads 0 held e 0) r in
    ap (λ o. stand_after held made (called_by_name shown.reads [] held to 0 args o)) (sym d)
    ∙ ap (λ o. stand_after held made (stacked [] held e.serial (trace_of shown.reads e to args) o)) (sym at) ∙ ap (λ x. over SystemLimit x made) (sym (n ∙ h))

-- it is entered
pub target_enters : (shown seen : Shown) (held still now : Holds) (e : Entry) (to : Mfa) (args registers : List PlainValue) (f : PlainFrame) (made lines : List Line) → seen ≡ shown → still ≡ held → Some e ≡ dispatched shown.reads to →
    registers ≡ first_registers args → Some f ≡ entered seen.reads 0 still e 0 registers → now ≡ with_hold still e.serial Frame → lines ≡ made ++ trace_of shown.reads e to args →
    stand_after held made (called_out shown.reads [] held to 0 args) ≡ runs (f ∷ []) now lines
target_enters shown seen held still now e to args registers f made lines s h d r enters n traced =
    let at : Some f ≡ entered shown.reads 0 held e 0 (first_registers args) = enters ∙ ap (λ (v : Shown). entered v.reads 0 still e 0 registers) s ∙ ap (λ k. entered shown.reads 0 k e 0 registers) h ∙ ap (entered shown.reads 0 held e 0) r in
    ap (λ o. stand_after held made (called_by_name shown.reads [] held to 0 args o)) (sym d)
    ∙ called_enters shown.reads [] held now e to 0 args f made lines at (n ∙ ap (λ k. with_hold k e.serial Frame) h) traced

-- ---- values

-- what may be used stays so where an area is held for a frame too
usable_more : (shown : Shown) (held : Holds) (serial : ℕ) (value : Value) → IsUsable shown held value → IsUsable shown (with_hold held serial Frame) value
usable_more shown held serial (Owned term) h = tt
usable_more shown held serial (Literal at) h = (h.0, may h.1)
  where
    may : MayHold shown.reads held at.area.serial for_literals → MayHold shown.reads (with_hold held serial Frame) at.area.serial for_literals
    may (inl here) = inl here
    may (inr (inl key)) = inr (inl key)
    may (inr (inr frame)) = inr (inr (among-with held.frames serial at.area.serial ∙ or_true (serial == at.area.serial) (is_among held.frames at.area.serial) frame))
      where
        or_true : (a b : Bool) → b ≡ true → (a || b) ≡ true
        or_true true b e = refl
        or_true false b e = e

pub all_usable : (shown : Shown) (held now : Holds) (serial : ℕ) (values : List Value) → now ≡ with_hold held serial Frame → All (IsUsable shown held) values → All (IsUsable shown now) values
all_usable shown held now serial values e h =
    subst (λ (k : Holds). All (IsUsable shown k) values) (sym e) (λ k d l. usable_more shown held serial (get_or values k d) (h k d l))

-- the arguments among values
pub all_arguments : (P : Value → Type 0) (registers : List Value) (at count : ℕ) → All P registers → All P (arguments_of registers at count)
all_arguments P registers at count h = All-take P count (drop at registers) (All-drop P at registers h)

-- the registers of a function that is entered are values
pub all_entered : (shown : Shown) (args : List Value) → All (IsValue shown) args → All (IsValue shown) (entered_values args)
all_entered shown args h = All-take (IsValue shown) 16 (args ++ replicate 16 no_held) (All-append (IsValue shown) args (replicate 16 no_held) h (All-replicate (IsValue shown) 16 no_held tt))

pub all_owned : (shown : Shown) (terms : List PlainTerm) → All (IsValue shown) (owned_terms terms)
all_owned shown terms = All-map (IsValue shown) (λ t. Owned (term_of t)) terms (λ k d l. tt)

-- frames with one more that has values have them
pub values_pushed : (shown : Shown) (below pushed : List CodeFrame) (left : CodeFrame) → pushed ≡ below ++ left ∷ [] → AreValues shown below → HasValues shown left → AreValues shown pushed
values_pushed shown below pushed left e h one = subst (AreValues shown) (sym e) (All-append (HasValues shown) below (left ∷ []) h (All-cons (HasValues shown) left [] one (All-nil (HasValues shown))))

-- the values of a frame that is entered
pub frame_values : (shown : Shown) (f : CodeFrame) (code : CodeRef) (registers args : List Value) → f.code ≡ code → IsInBlock shown code.area → f.registers ≡ registers → registers ≡ entered_values args →
    All (IsValue shown) args → HasValues shown f
frame_values shown f code registers args c stands e r h = (
  subst (λ (k : CodeRef). IsInBlock shown k.area) (sym c) stands,
  subst (λ (vs : List Value). All (IsValue shown) vs) (sym (e ∙ r)) (all_entered shown args h),
)

-- the same frame in another place
pub values_same : (shown : Shown) (f g : CodeFrame) → f ≡ g → HasValues shown g → HasValues shown f
values_same shown f g e h = subst (HasValues shown) (sym e) h

-- values that may be used still may, where the view shows and holds what it did
pub usable_seen : (shown seen : Shown) (held still : Holds) (values same : List Value) → seen ≡ shown → still ≡ held → same ≡ values → All (IsUsable shown held) values → All (IsUsable seen still) same
usable_seen shown seen held still values same s h e all =
    subst (λ (v : Shown). All (IsUsable v still) same) (sym s) (subst (λ (k : Holds). All (IsUsable shown k) same) (sym h) (subst (λ (vs : List Value). All (IsUsable shown held) vs) (sym e) all))
