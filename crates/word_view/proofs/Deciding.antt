-- What a breakpoint is asked of: a function of an instance that a turn may come to stands in the generation, which has not forgotten its code.
use Rattle.std.proofs.Common.{◌≡◌, ℕ, ◌<◌, ◌≤◌, ◌⊎◌, inl, inr, Bool, true, false, List, [], Option, sym, ap, subst, ◌∙◌, arith}
use Rattle.std.specs.Prelude.{nat_lt, unwrap_or, slice_index, if◌then◌else◌, IsTrue}
use Rattle.std.proofs.lemmas.Bool.{and_from, cases_Bool, or_left, or_right}
use Rattle.std.proofs.lemmas.Bool.Decides.{nat_tests}
use Rattle.std.proofs.lemmas.Option.{unwrap_or-slice_get}
use Rattle.term_core.specs.declared.area.AreaRef.{AreaRef}
use Rattle.term_core.specs.declared.area.CodeRef.{CodeRef}
use Rattle.term_core.specs.declared.atom.Mfa.{Mfa}
use Rattle.term_core.specs.declared.hold.Kind.TheVariants.{Frame}
use Rattle.area_core.specs.declared.table.Published.{Published}
use Rattle.area_core.specs.Generations.{functions_in_image, has_function, has_image, has_serial, is_current, is_instance, is_retired_area, is_traced_function}
use Rattle.shared_words.specs.declared.opening.Opening.{Opening}
use Rattle.shared_words.specs.declared.seats.Member as tokens
use Rattle.shared_words.specs.declared.view.MemberView.{MemberView}
use Rattle.shared_words.specs.Processes.{NamesArea, held_by_view}
use Rattle.anchors.specs.Holds.{anchors_of}
use Rattle.breakpoints.specs.Decisions.{HasLookedUp, MayDecide}
use Rattle.server_core.specs.ServerState.{entry_of}
use Rattle.machine_core.specs.GenerationReads.{function_count, is_term_image, words_in}
use Rattle.machine_core.specs.Reach.{MayHold}
use Rattle.machine_core.specs.Reads.{HasFunction}
use Rattle.machine_core.specs.View.{IsInBlock, IsLawful}
use Rattle.machine_core.proofs.Viewing.{is_entry}
use Rattle.code_law.specs.Laws.{ForgetsNoCode}
use Rattle.code_law.proofs.ServedAreas.{forgets_none, image_same}
use Rattle.word_view.specs.Anchored.{holds_by}
use Rattle.word_view.specs.Loaded.{HasRead}
use Rattle.word_view.specs.Views.{IsAreaOf, IsReader, IsReading, StandsIn, shown_by}
use Rattle.word_view.proofs.Anchoring.{held_names, named_any}
use Rattle.word_view.proofs.Coming.{area_in_block, current_there, once, stands_held}

less_test : (a b : ℕ) → a < b → nat_lt a b ≡ true
less_test a b less = grind (arith, nat_tests)

-- an image with so many functions has each of them
in_image : (function : ℕ) (words : List ℕ) → function < function_count words → nat_lt function (functions_in_image words) ≡ true
in_image function words known = by_kind (is_term_image words) known
  where
    by_kind : (b : Bool) → function < (if b then 0 else slice_index words 3) → nat_lt function (functions_in_image words) ≡ true
    by_kind true none = absurd (omega (arith, none))
    by_kind false less = less_test function (functions_in_image words) (subst (λ (n : ℕ). function < n) (sym (unwrap_or-slice_get words 3 0)) less)

-- what was looked up was read
pub looked_read : (old new : tokens.Member) → HasLookedUp old new → HasRead old new
looked_read old new h = record { seat = h.seat; number = h.number; root = h.root; anchors = h.anchors; blocks = h.blocks; view = h.view }

module _ (names : List Mfa) (opening : Opening) (process : ℕ) (m : MemberView) (h : IsReader names opening process m) where
  abbrev p : Published
  p = held_by_view m

  module _ (at : CodeRef) (lawful : IsLawful (shown_by names p)) (block : IsInBlock (shown_by names p) at.area) (known : HasFunction (shown_by names p).reads (entry_of at))
      (reached : MayHold (shown_by names p).reads (holds_by (anchors_of m process)) at.area.serial Frame) where
    stands : StandsIn p at.area.serial
    stands = stands_held names opening process m h at.area.serial Frame reached

    is_area : IsAreaOf p at.area stands.words
    is_area = subst (λ (a : AreaRef). IsAreaOf p a stands.words) (area_in_block p h.areas at.area.serial stands at.area.block block) stands.stands

    knows : ForgetsNoCode names p.state
    knows = forgets_none names p.state h.served.of

    -- what was not dropped is current or old code
    live : is_retired_area p at.area.serial ≡ false → IsTrue (is_instance p at.area.serial)
    live kept =
        elim (knows.kept at.area.serial (omega (arith, known)) kept) as (λ _. is_instance p at.area.serial ≡ true) [
          | inl current ↦ or_left (has_serial p.state.current at.area.serial) (has_serial p.state.old at.area.serial) current
          | inr old ↦ or_right (has_serial p.state.current at.area.serial) (has_serial p.state.old at.area.serial) old
        ]

    -- and has a big block, so what has a small one is not traced
    pub small_untraced : 64 ≤ at.area.block → is_traced_function p at.area.serial at.function ≡ false
    small_untraced small =
        elim (cases_Bool (is_retired_area p at.area.serial)) as (λ _. is_traced_function p at.area.serial at.function ≡ false) [
          | inl dropped ↦ knows.traced at.area.serial at.function dropped
          | inr kept ↦ let last = (h.placed at.area is_area.listed (live kept)).last in absurd (omega (arith, small, last))
        ]

    come : IsTrue (is_current p at.area.serial) ⊎ NamesArea m at.area.serial
    come = by_hold reached
      where
        by_hold : MayHold (shown_by names p).reads (holds_by (anchors_of m process)) at.area.serial Frame → IsTrue (is_current p at.area.serial) ⊎ NamesArea m at.area.serial
        by_hold (inl held) = inr (process, named_any Frame (anchors_of m process) at.area.serial (held_names Frame (anchors_of m process) at.area.serial held))
        by_hold (inr current) = inl (current_there names p at.area.serial current)

    -- each image of it has the function
    has : (words : List ℕ) → at.area.block < 64 → has_image p.state.areas at.area.serial words ≡ true → has_function (record { area = at.area; words = words }) at.function ≡ true
    has words big image =
        let is : words_in p.state at.area.serial ≡ words = ap (λ (o : Option (List ℕ)). unwrap_or o []) (sym (image_same p.state.areas at.area.serial) ∙ (once names opening process m h).images at.area.serial words image) in
        and_from (nat_lt at.area.block 64) (nat_lt at.function (functions_in_image words)) (less_test at.area.block 64 big) (in_image at.function words (subst (λ (w : List ℕ). at.function < function_count w) is known))

    pub may_decide : (root : ℕ) → IsReading root m → at.area.block < 64 → MayDecide root m at
    may_decide root reading big = record {
      awake = reading.awake;
      rooted = reading.rooted;
      listed = is_area.listed;
      apart = h.areas;
      placed = record { first = is_area.fits.first; last = big };
      few = (is_entry (shown_by names p) (entry_of at) lawful known).few;
      has = λ words image. has words big image;
      come = come;
      live = live;
      gone = λ dropped. knows.traced at.area.serial at.function dropped;
    }
