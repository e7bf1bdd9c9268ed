-- A change of what is traced: the function is one that can be patched, and the state that the change leaves may be published.
use Rattle.std.proofs.Common.{◌≡◌, ℕ, ◌+◌, ◌<◌, inl, true, false, cond, List, length, Option, Some, Global, refl, sym, ap, subst, ◌∙◌}
use Rattle.std.specs.Prelude.{Vec, nat_lt, option_map}
use Rattle.std.proofs.lemmas.Bool.{and_from, lt-ltb}
use Rattle.prgr_core.proofs.Parts.{some_same}
use Rattle.term_core.specs.declared.area.AreaRef.{AreaRef}
use Rattle.term_core.specs.declared.area.CodeRef.{CodeRef}
use Rattle.term_core.specs.declared.atom.Mfa.{Mfa}
use Rattle.term_core.specs.Image as images
use Rattle.mod_core.specs.declared.code.Module.{Module}
use Rattle.area_core.specs.declared.table.Published.{Published}
use Rattle.area_core.specs.Blocks.{Among}
use Rattle.area_core.specs.Generations.{functions_in_image, has_function}
use Rattle.shared_words.specs.declared.view.WriterView.{WriterView}
use Rattle.progress_words.specs.Roots.{newest_of}
use Rattle.server_core.specs.declared.change.Change.{Change}
use Rattle.server_core.specs.declared.change.Change.TheVariants.{SetTrace, ClearTrace}
use Rattle.server_core.specs.Decided.{Fits}
use Rattle.server_core.specs.Generations.{AreNumbered, generation_of}
use Rattle.server_core.specs.ServerState.{Entry, IsSound, ServerState, code_of, entry_of, first_words, instance_image, is_same_entry, term_of_area, words_of_area}
use Rattle.breakpoints.specs.declared.patch.Patch.{Patch}
use Rattle.breakpoints.specs.declared.patch.Phase.{Phase}
use Rattle.breakpoints.specs.declared.patch.Phase.TheVariants.{Begun}
use Rattle.breakpoints.specs.Indices.{BreakpointsRest}
use Rattle.breakpoints.specs.Patches.{IsPatchOf, IsPatchable, PhaseStands}
use Rattle.breakpoints.specs.Switched.{TracesWith}
use Rattle.change_laws.specs.Breakpoints.{IsFunctionOfArea, KnowsItsCode, TracesInCode}
use Rattle.change_laws.specs.Changes.{changed_state}
use Rattle.change_laws.specs.Uses.{IsCurrentCode}
use Rattle.change_laws.proofs.KeptTraced.{traced_since}
use Rattle.change_laws.proofs.KnownCode.{knows_after}
use Rattle.change_laws.proofs.SoundChanges.{change_sound}
use Rattle.literal_areas.specs.declared.areas.Areas.{Areas}
use Rattle.literal_areas.specs.declared.blocks.BlockUse.TheVariants.{Live}
use Rattle.literal_areas.specs.Blocks.{IsLive, Stands}
use Rattle.literal_areas.specs.Owned.{AreOf}
use Rattle.literal_areas.proofs.Serials.{serial_here}
use Rattle.staging.specs.Stages.{IsPatchFor}
use Rattle.staging.specs.Standing.{IsShownBy, StandFor}
use Rattle.staging.specs.Traced.{IsTraceChange, TraceLives}
use Rattle.staging.proofs.Coming.{ComesNext, HasImage, entry_in}
use Rattle.staging.proofs.Follows.{newest_lives, newest_traced, shown_traced}

-- ---- the patch

pub set_patch : (change : Change) (generation : ℕ) (at : CodeRef) (traced : Vec CodeRef Global) → change ≡ SetTrace generation at traced → (x : Patch) (placed : CodeRef) → x ≡ record { at = placed; on = true; phase = Begun } → entry_of placed ≡ entry_of at → IsPatchFor change x
set_patch change generation at traced is x placed made same = subst (λ (c : Change). IsPatchFor c x) (sym is) (ap (λ (y : Patch). entry_of y.at) made ∙ same, ap (λ (y : Patch). y.on) made)

pub clear_patch : (change : Change) (generation : ℕ) (at : CodeRef) → change ≡ ClearTrace generation at → (x : Patch) (placed : CodeRef) → x ≡ record { at = placed; on = false; phase = Begun } → entry_of placed ≡ entry_of at → IsPatchFor change x
clear_patch change generation at is x placed made same = subst (λ (c : Change). IsPatchFor c x) (sym is) (ap (λ (y : Patch). entry_of y.at) made ∙ same, ap (λ (y : Patch). y.on) made)

-- a change of what is traced is one of the two
pub no_trace : (change : Change) → IsTraceChange change → ((generation : ℕ) (at : CodeRef) (traced : Vec CodeRef Global) → change ≡ SetTrace generation at traced → ⊥) → ((generation : ℕ) (at : CodeRef) → change ≡ ClearTrace generation at → ⊥) → ⊥
no_trace (SetTrace generation at traced) is set clear = set generation at traced refl
no_trace (ClearTrace generation at) is set clear = clear generation at refl
no_trace change is set clear = is

pub trace_lives : (names : List Mfa) (s : ServerState) (change : Change) (pools : Areas) (w : WriterView) → StandFor names s pools w → IsTraceChange change → TracesInCode s change → TraceLives change pools
trace_lives names s (SetTrace generation at traced) pools w stands is code = stands.blocks.used at.area.serial (inl code.current)
trace_lives names s (ClearTrace generation at) pools w stands is code = stands.blocks.used at.area.serial (inl code.current)
trace_lives names s change pools w stands is code = absurd is

-- ---- the function

moved : (s : ServerState) (a b : CodeRef) → entry_of a ≡ entry_of b → IsFunctionOfArea s a → IsFunctionOfArea s b
moved s a b same f =
    let serial = ap (λ (e : Entry). e.serial) same in
    let function = ap (λ (e : Entry). e.function) same in
    record {
      current = subst (IsCurrentCode s) serial f.current;
      code = f.code;
      is = subst (λ (n : ℕ). code_of s n ≡ Some f.code) serial f.is;
      has = subst (λ (n : ℕ). n < length f.code.functions) function f.has;
    }

-- the patch is of a function of current code
pub function_of : (s : ServerState) (change : Change) (x : Patch) → IsPatchFor change x → TracesInCode s change → IsFunctionOfArea s x.at
function_of s (SetTrace generation at traced) x of code = moved s at x.at (sym of.0) code
function_of s (ClearTrace generation at) x of code = moved s at x.at (sym of.0) code
function_of s change x of code = absurd of

module _ (names : List Mfa) (s : ServerState) (pools : Areas) (w : WriterView) (stands : StandFor names s pools w) (at : CodeRef) (f : IsFunctionOfArea s at) (live : IsLive pools at.area) where
  here : Stands pools at.area
  here = serial_here pools at.area.block (Live at.area.serial) live

  kept : (words : List ℕ) × Among w.kept (record { area = at.area; words = words })
  kept = stands.images.areas at.area here

  image_is : kept.0 ≡ instance_image at.area.serial f.code
  image_is =
      let is : words_of_area s at.area.serial ≡ Some (instance_image at.area.serial f.code) = ap (λ (o : Option Module). first_words (option_map (instance_image at.area.serial) o) (option_map images.image_of (term_of_area s at.area.serial))) f.is in
      some_same kept.0 (instance_image at.area.serial f.code) (sym (stands.images.images (record { area = at.area; words = kept.0 }) kept.1) ∙ is)

  has : has_function (record { area = at.area; words = kept.0 }) at.function ≡ true
  has =
      and_from (nat_lt at.area.block 64) (nat_lt at.function (functions_in_image kept.0)) (lt-ltb at.area.block 64 (stands.placed.instances at.area f.code here f.is).last)
      (ap (λ (ws : List ℕ). nat_lt at.function (functions_in_image ws)) image_is ∙ lt-ltb at.function (length f.code.functions) f.has)

  -- it can be patched
  pub patchable : IsPatchable w at
  patchable = record {
    area = record { area = at.area; words = kept.0 };
    kept = kept.1;
    is = refl;
    has = has;
    listed = stands.stay (record { area = at.area; words = kept.0 }) kept.1;
    instance = newest_lives names s (newest_of w) stands.newest_is at.area.serial (inl f.current);
  }

-- so its patch may begin
pub begun_stands : (w : WriterView) (x : Patch) → x.phase ≡ Begun → BreakpointsRest w → IsPatchable w x.at → IsPatchOf x w
begun_stands w x begun rest can = subst (λ (f : Phase). PhaseStands x.at x.on f w) (sym begun) (rest, can)

-- ---- the state that the change leaves

module _ (names : List Mfa) (s : ServerState) (pools : Areas) (w : WriterView) (stands : StandFor names s pools w) (owned : AreOf pools w) (traced : List Entry) (generation : ℕ) where
  abbrev after : ServerState
  after = record s { traced = traced; generation = generation }

  image_after : (a : AreaRef) → Stands pools a → HasImage after pools w a
  image_after a there =
      let kept = stands.images.areas a there in
      record { words = kept.0; of = stands.images.images (record { area = a; words = kept.0 }) kept.1; stands = inl kept.1 }

  comes_after : IsSound after → KnowsItsCode after → AreNumbered names after → ComesNext names after pools w
  comes_after sound knows numbered = record {
    sound = sound;
    numbered = numbered;
    keys_once = stands.keys_once;
    narrow = stands.narrow;
    owned = owned;
    blocks = record {
      next = stands.blocks.next;
      used = stands.blocks.used;
      live = stands.blocks.live;
      waiting = stands.blocks.waiting;
      retired = stands.blocks.retired;
      unreleased = stands.blocks.unreleased;
      instances = stands.blocks.instances;
      terms = stands.blocks.terms;
    };
    placed = record { instances = stands.placed.instances; terms = stands.placed.terms };
    images = image_after;
    kept = stands.images.images;
    apart = stands.images.apart;
    words = record {
      retire = stands.words.retire;
      since = stands.words.since;
      free = stands.words.free;
      doom = λ block serial big is. let was = stands.words.doom block serial big is in record { clear = was.clear; set = was.set };
    };
    dropped = record { old = stands.dropped.old; doomed = stands.dropped.doomed; retired = stands.dropped.retired; old_stays = stands.dropped.old_stays; retired_stays = stands.dropped.retired_stays };
    bp = stands.bp;
    knows = knows;
    stay = stands.stay;
    lives = λ k at. newest_lives names s (newest_of w) stands.newest_is k.area.serial;
  }

-- it comes next
pub trace_comes : (names : List Mfa) (s : ServerState) (change : Change) (pools : Areas) (w : WriterView) (x : Patch) → IsPatchFor change x → IsSound s → Fits s change → TracesInCode s change → AreNumbered names (changed_state s change) → StandFor names s pools w → AreOf pools w → ComesNext names (changed_state s change) pools w
trace_comes names s (SetTrace generation at traced) pools w x of sound fits code numbered stands owned =
    comes_after names s pools w stands owned (changed_state s (SetTrace generation at traced)).traced (s.generation + 1) (change_sound s (SetTrace generation at traced) sound fits) (knows_after s (SetTrace generation at traced) sound fits code.current stands.knows) numbered
trace_comes names s (ClearTrace generation at) pools w x of sound fits code numbered stands owned =
    comes_after names s pools w stands owned (changed_state s (ClearTrace generation at)).traced (s.generation + 1) (change_sound s (ClearTrace generation at) sound fits) (knows_after s (ClearTrace generation at) sound fits tt stands.knows) numbered
trace_comes names s change pools w x of sound fits code numbered stands owned = absurd of

-- its current code is that of before, and so are its keys and what calls reach
pub trace_current : (s : ServerState) (change : Change) (x : Patch) (serial : ℕ) → IsPatchFor change x → IsCurrentCode s serial → IsCurrentCode (changed_state s change) serial
trace_current s (SetTrace generation at traced) x serial of now = now
trace_current s (ClearTrace generation at) x serial of now = now
trace_current s change x serial of now = absurd of

-- a generation of it traces what the newest one traces, but for the function
pub traces_with : (names : List Mfa) (s : ServerState) (change : Change) (x : Patch) (p q : Published) → IsPatchFor change x → IsShownBy names s p → q.state ≡ generation_of names (changed_state s change) → TracesWith x.at x.on p q
traces_with names s (SetTrace generation at traced) x p q of shown shows serial function =
    shown_traced names (changed_state s (SetTrace generation at traced)) q shows serial function ∙ traced_since s (SetTrace generation at traced) (entry_in serial function)
    ∙ (λ i. cond (is_same_entry (entry_in serial function) (sym of.0 i)) (sym of.1 i) (sym (newest_traced names s p shown serial function) i))
traces_with names s (ClearTrace generation at) x p q of shown shows serial function =
    shown_traced names (changed_state s (ClearTrace generation at)) q shows serial function ∙ traced_since s (ClearTrace generation at) (entry_in serial function)
    ∙ (λ i. cond (is_same_entry (entry_in serial function) (sym of.0 i)) (sym of.1 i) (sym (newest_traced names s p shown serial function) i))
traces_with names s change x p q of shown shows serial function = absurd of
