-- A store of the root keeps the rule: what is published next stands in the words, and earlier generations as before.
use Rattle.std.proofs.Common.{◌≡◌, ℕ, ◌+◌, ◌*◌, ◌≤◌, ◌⊎◌, inl, inr, ⊎_elim, Bool, true, List, [], ◌∷◌, ◌++◌, length, length-append, length-set, append_assoc, append-nil, set, get_or-set_other, get_or-set_same, refl, sym, ap, subst, ◌∙◌, arith}
use mathlib.Core.Option.{none, some}
use Rattle.std.specs.Prelude.{◌==◌, Some, Option, unwrap_or, slice_get, slice_index}
use Rattle.std.specs.List.{list_any}
use Rattle.std.proofs.lemmas.Bool.{or_left}
use Rattle.atomic_table.specs.Table.{State, keeps, step, Allows}
use Rattle.prgr_core.specs.declared.event.PrgrEvent.TheVariants as prgr
use Rattle.prgr_core.specs.Step.{IsSound}
use Rattle.prgr_core.proofs.Parts.{slice_get-push_at}
use Rattle.prgr_core.proofs.Sound.{keeps_sound}
use Rattle.term_core.specs.declared.area.AreaRef.{AreaRef}
use Rattle.area_core.specs.declared.map.TheConstants.{SLOTS_START, RETIRE_START}
use Rattle.area_core.specs.declared.table.Published.{Published}
use Rattle.area_core.specs.declared.table.KeptArea.{KeptArea}
use Rattle.area_core.specs.Map.{word_at, opening_words, slot_place}
use Rattle.area_core.specs.Generations.{is_kept_as, serial_in}
use Rattle.area_core.specs.Terms.{TermsStand}
use Rattle.area_core.specs.Blocks.{Blocks, BlockInvariant, EachCounted, Among, RootFits, InstancesPlaced, CodeStands, BreakpointsStand, term_blocks_words, UsedAreKept, FitsBlock, ImageStands, AreaStands}
use Rattle.area_core.specs.Roots.{fresh_areas}
use Rattle.area_core.specs.Step.{opening_published}
use Rattle.area_core.proofs.Joined.{any_joined}
use Rattle.area_core.proofs.RootTests.{in_either}
use Rattle.shared_words.specs.declared.table.TheConstants.{ROOT, COUNTER, LEAD, DELAYS, CONFIRMED}
use Rattle.shared_words.specs.declared.opening.Opening.{Opening}
use Rattle.shared_words.specs.declared.view.WriterView.{WriterView}
use Rattle.shared_words.specs.declared.view.View.{View}
use Rattle.shared_words.specs.declared.view.View.TheVariants.{Writer}
use Rattle.shared_words.specs.Views.{newest_number, newest_root, published_at, root_word}
use Rattle.shared_words.specs.Shown.{block_words, progress_of}
use Rattle.shared_words.specs.Seats.{writer_of}
use Rattle.shared_words.specs.Kinds.{Sat}
use Rattle.shared_words.specs.Rule.{IsBeginning, HasArea, AreAreasApart, AreasStay, MayBeRead, RunningRule}
use Rattle.shared_words.specs.Publishing.{kept_next, StandsFor, FreshStand, AreasGoOn, MayPublish, IsRootOf, with_next, root_stored}
use Rattle.shared_words.proofs.ShownMembers.{drop_set, within_get}
use Rattle.shared_words.proofs.KeptWords.{kept_with}
use Rattle.shared_words.proofs.ShownWords.{shown_word}
use Rattle.shared_words.proofs.SlotFrames.{ended_still}
use Rattle.shared_words.proofs.Mirrors.{code_mirrored, breakpoints_mirrored, terms_mirrored, area_mirrored, image_mirrored}
use Rattle.shared_words.proofs.OpeningRule.{last_get}
use Rattle.shared_words.proofs.Frames.{after_step, progress_words}
use Rattle.shared_words.proofs.WriterFrames.{writer_step, writer_at}

-- ---- the list of what was published

-- the number of the newest with one more
pub newest_next : (published : List Published) (p : Published) → newest_number (published ++ p ∷ []) ≡ length published
newest_next published p = omega (arith, length-append published (p ∷ []))

-- and what it is
pub at_next : (published : List Published) (p : Published) → published_at (published ++ p ∷ []) (length published) ≡ p
at_next published p = ap (λ (o : Option Published). unwrap_or o opening_published) (last_get published p)

-- the root word of the newest with one more
root_next : (published : List Published) (p : Published) (code bp term n : ℕ) → IsRootOf p.root code bp term → length published ≡ n + 1 → newest_root (published ++ p ∷ []) ≡ code + 4 * bp + 8 * term + 32 * (n + 1)
root_next published p code bp term n root long =
    ap (λ (g : ℕ). root_word (published_at (published ++ p ∷ []) g).root g) (newest_next published p)
    ∙ ap (λ (q : Published). root_word q.root (length published)) (at_next published p)
    ∙ (λ i. root.code_is i + 4 * root.bp_is i + 8 * root.term_is i + 32 * long i)

-- the beginning of a list is one of a longer list
pub begins_longer : (xs published : List Published) (p : Published) → IsBeginning xs published → IsBeginning xs (published ++ p ∷ [])
begins_longer xs published p is = (is.0 ++ p ∷ [], ap (λ (ys : List Published). ys ++ p ∷ []) is.1 ∙ append_assoc xs is.0 (p ∷ []))

-- ---- the blocks

module _ (words : List ℕ) (w : WriterView) (sound : BlockInvariant (record { word = word_at words; published = w.published; kept = w.kept }) (MayBeRead w)) (p : Published) (stands : StandsFor w p) (fresh : FreshStand w p) (mirrored : (place : ℕ) → RETIRE_START ≤ place → word_at words place ≡ word_at w.words place) where
  abbrev b : Blocks
  b = record { word = word_at words; published = w.published; kept = w.kept }

  abbrev after : Blocks
  after = record { word = word_at words; published = w.published ++ p ∷ []; kept = kept_next w p }

  -- what holds of the new generation and of earlier ones holds of each
  each_after : (Holds : ℕ → Published → Type 0) → Holds (length w.published) p → EachCounted b (MayBeRead w) Holds → EachCounted after (MayBeRead w) Holds
  each_after Holds new old g q counts at =
      ⊎_elim (λ (before : slice_get w.published g ≡ Some q). old g q counts before)
      (λ (last : (g ≡ length w.published) × (q ≡ p)). subst (λ (z : ℕ × Published). Holds z.0 z.1) (λ i. (sym last.0 i, sym last.1 i)) new)
      (slice_get-push_at w.published p g q at)

  more : (test : KeptArea → Bool) → list_any test w.kept ≡ true → list_any test (kept_next w p) ≡ true
  more test passes = any_joined test w.kept (fresh_areas w.kept p) ∙ or_left (list_any test w.kept) (list_any test (fresh_areas w.kept p)) passes

  -- an area that is kept was kept, or is fresh
  either_kept : (k : KeptArea) → Among (kept_next w p) k → (Among w.kept k) ⊎ (Among (fresh_areas w.kept p) k)
  either_kept k among =
      elim (in_either w.kept (fresh_areas w.kept p) among.0 k among.1) as (λ _. (Among w.kept k) ⊎ (Among (fresh_areas w.kept p) k)) [
        | inl was ↦ inl (among.0, was)
        | inr new ↦ inr (new.0, new.2)
      ]

  old_area : (g : ℕ) (q : Published) → MayBeRead w g → slice_get w.published g ≡ Some q → (k : KeptArea) → (Among w.kept k) ⊎ (Among (fresh_areas w.kept p) k) → AreaStands (word_at words) k g q
  old_area g q counts at k (inl was) = sound.areas_stand g q counts at k was
  old_area g q counts at k (inr new) = area_mirrored (word_at w.words) (word_at words) mirrored k g q (fresh.areas g q counts at k new)

  image : (k : KeptArea) → (Among w.kept k) ⊎ (Among (fresh_areas w.kept p) k) → ImageStands (word_at words) k
  image k (inl was) = sound.images_stand k was
  image k (inr new) = image_mirrored (word_at w.words) (word_at words) mirrored k (fresh.images k new)

  fit : (k : KeptArea) → (Among w.kept k) ⊎ (Among (fresh_areas w.kept p) k) → FitsBlock k
  fit k (inl was) = sound.kept_fit k was
  fit k (inr new) = fresh.fit k new

  pub blocks_next : BlockInvariant after (MayBeRead w)
  blocks_next = record {
    roots_fit = each_after (λ g q. RootFits q.root) stands.root sound.roots_fit;
    instances_placed = each_after (λ g q. InstancesPlaced q) stands.placed sound.instances_placed;
    code_stands = each_after (λ g q. CodeStands (word_at words) q) (code_mirrored (word_at w.words) (word_at words) mirrored p stands.code) sound.code_stands;
    breakpoints_stand = each_after (λ g q. BreakpointsStand (word_at words) q) (breakpoints_mirrored (word_at w.words) (word_at words) mirrored p stands.breakpoints) sound.breakpoints_stand;
    terms_stand = each_after (λ g q. TermsStand (term_blocks_words (word_at words) q.root) q) (terms_mirrored (word_at w.words) (word_at words) mirrored p stands.terms) sound.terms_stand;
    used_kept = each_after (λ g q. UsedAreKept (kept_next w p) q) stands.used (λ g q counts at serial uses. more (is_kept_as q serial) (sound.used_kept g q counts at serial uses));
    areas_stand = each_after (λ g q. (k : KeptArea) → Among (kept_next w p) k → AreaStands (word_at words) k g q)
        (λ k among. area_mirrored (word_at w.words) (word_at words) mirrored k (length w.published) p (stands.areas k among))
        (λ g q counts at k among. old_area g q counts at k (either_kept k among));
    images_stand = λ k among. image k (either_kept k among);
    kept_fit = λ k among. fit k (either_kept k among);
    kept_apart = fresh.apart;
    named_kept = λ process anchor is naming. more (λ (k : KeptArea). k.area.serial == serial_in (word_at words (slot_place process anchor))) (sound.named_kept process anchor is naming);
    anchors_apart = sound.anchors_apart;
  }

-- ---- the areas

-- each kept area is the same in what is published next, and in what was published before
module _ (w : WriterView) (stay : AreasStay w.published w.kept) (p : Published) (goes : AreasGoOn w p) where
  before_or_next : (g : ℕ) (q : Published) → slice_get (w.published ++ p ∷ []) g ≡ Some q → (slice_get w.published g ≡ Some q) ⊎ ((g ≡ length w.published) × (q ≡ p))
  before_or_next g q at = slice_get-push_at w.published p g q at

  has_next : (q : Published) (k : KeptArea) → q ≡ p → Among (kept_next w p) k → HasArea q k
  has_next q k is among = subst (λ (x : Published). HasArea x k) (sym is) (goes.kept k among)

  same_next : (g : ℕ) (q : Published) (k : KeptArea) (a : AreaRef) → slice_get w.published g ≡ Some q → Among (kept_next w p) k → Among q.areas a → a.serial ≡ k.area.serial → HasArea q k
  same_next g q k a at among listed serial =
      elim (in_either w.kept (fresh_areas w.kept p) among.0 k among.1) as (λ _. HasArea q k) [
        | inl was ↦ stay.same q k a (g, at) (among.0, was) listed serial
        | inr new ↦ absurd (goes.new k q a (new.0, new.2) (g, at) listed serial)
      ]

  stay_next : (g later : ℕ) (q x : Published) (k : KeptArea) → g ≤ later → slice_get w.published g ≡ Some q → slice_get w.published later ≡ Some x → Among (kept_next w p) k → HasArea q k → HasArea x k
  stay_next g later q x k le at_q at_x among has =
      elim (in_either w.kept (fresh_areas w.kept p) among.0 k among.1) as (λ _. HasArea x k) [
        | inl was ↦ stay.stay g later q x k le at_q at_x (among.0, was) has
        | inr new ↦ absurd (goes.new k q k.area (new.0, new.2) (g, at_q) has.listed refl)
      ]

  areas_next : AreasStay (w.published ++ p ∷ []) (kept_next w p)
  areas_next = record {
    apart = λ q among.
        elim (before_or_next among.0 q among.1) as (λ _. AreAreasApart q) [
          | inl before ↦ stay.apart q (among.0, before)
          | inr last ↦ subst AreAreasApart (sym last.1) goes.apart
        ];
    same = λ q k a published among listed serial.
        elim (before_or_next published.0 q published.1) as (λ _. HasArea q k) [
          | inl before ↦ same_next published.0 q k a before among listed serial
          | inr last ↦ has_next q k last.1 among
        ];
    stay = λ g later q x k le at_q at_x among has.
        elim (before_or_next later x at_x) as (λ _. HasArea x k) [
          | inr last ↦ has_next x k last.1 among
          | inl before ↦ elim (before_or_next g q at_q) as (λ _. HasArea x k) [
            | inl earlier ↦ stay_next g later q x k le earlier before among has
            | inr last ↦ absurd (let few = within_get w.published later x before in omega (arith, few, le, last.0))
          ]
        ];
  }

-- ---- the rule

module _ {Served : Published → Type 0} {opening : Opening} (s : State (Unit {0}) View) (r : RunningRule Served opening s) where
  -- each is served
  all_served : (p : Published) → Served p → (q : Published) → Among (r.writer.published ++ p ∷ []) q → Served q
  all_served p new q among =
      ⊎_elim (λ (before : slice_get r.writer.published among.0 ≡ Some q). r.published.served q (among.0, before))
      (λ (last : (among.0 ≡ length r.writer.published) × (q ≡ p)). subst (λ (x : Published). Served x) (sym last.1) new)
      (slice_get-push_at r.writer.published p among.0 q among.1)

  pub root_stores : (p : Published) (code bp term n : ℕ) → IsRootOf p.root code bp term → length r.writer.published ≡ n + 1 → MayPublish Served r.writer p → RunningRule Served opening (after_step s (set s.words ROOT (code + 4 * bp + 8 * term + 32 * (n + 1))) 0 (Writer (with_next p r.writer)))
  root_stores p code bp term n root number may =
      let w = r.writer in
      let x : ℕ = code + 4 * bp + 8 * term + 32 * (n + 1) in
      let words' : List ℕ = set s.words ROOT x in
      let w' : WriterView = with_next p w in
      let first = r.published.some in
      let size = r.words.all in
      let behind = drop_set SLOTS_START ROOT s.words x (omega arith) in
      let q = progress_of s.words w r.seats in
      let one_more : newest_number (w.published ++ p ∷ []) ≡ newest_number w.published + 1 = omega (arith, newest_next w.published p, first) in
      let shown = progress_words s.words words' w' r.seats (slice_index s.words COUNTER) (slice_index s.words LEAD)
      (get_or-set_other s.words ROOT COUNTER x 0 (λ e. absurd (omega arith)))
      (get_or-set_other s.words ROOT LEAD x 0 (λ e. absurd (omega arith)))
      (get_or-set_other s.words ROOT DELAYS x 0 (λ e. absurd (omega arith)))
      (get_or-set_other s.words ROOT (DELAYS + 1) x 0 (λ e. absurd (omega arith))) in
      writer_step s r words' w' (record { members = refl; watchers = refl; learnt = λ xs is. begins_longer xs w.published p is; noted = λ note is. is; words = kept_with w p }) refl refl refl refl
      (record {
        looks = refl;
        ended = ended_still w w' [] (p ∷ []) (sym (append-nil w.pairs)) refl (omega arith);
        slots = λ process place below few. get_or-set_other s.words ROOT (slot_place process place) x 0 (λ e. absurd (omega (arith, e)));
      })
      (record {
        made = r.published.made;
        staffed = r.published.staffed;
        watched = r.published.watched;
        some = omega (arith, length-append w.published (p ∷ []));
        served = all_served p may.served;
        old_stays = may.old_stays;
        retired_stays = may.retired_stays;
        areas_stay = areas_next w r.published.areas_stay p may.areas_go_on;
        notes_fit = λ note among. (let fits = r.published.notes_fit note among in record { process = fits.process; counted = omega (arith, fits.counted, length-append w.published (p ∷ [])) });
      })
      (record {
        all = length-set s.words ROOT x ∙ r.words.all;
        root = get_or-set_same s.words ROOT x 0 (omega (arith, size)) ∙ sym (root_next w.published p code bp term n root number);
        mirror = r.words.mirror;
        mirrored = λ place late. get_or-set_other s.words ROOT place x 0 (λ e. absurd (omega (arith, e, late))) ∙ r.words.mirrored place late;
        reached = (let same = get_or-set_other s.words ROOT COUNTER x 0 (λ e. absurd (omega arith)) in let before = r.words.reached in omega arith);
        blocks = subst (λ (ws : List ℕ). BlockInvariant (record { word = word_at (opening_words SLOTS_START ++ ws); published = w'.published; kept = w'.kept }) (MayBeRead w)) (sym behind) (blocks_next (block_words s.words) w r.words.blocks p may.stands may.fresh (λ place late. shown_word s.words place (omega (arith, late)) ∙ r.words.mirrored place late));
      })
      (record {
        progress = subst IsSound (sym (shown ∙ (λ i. record q { generation = one_more i }))) (keeps_sound q prgr.Publish (record q { generation = newest_number w.published + 1 }) r.machine.progress refl);
        own_words = λ k a at. get_or-set_other s.words ROOT (CONFIRMED + k) x 0 (λ e. absurd (omega arith)) ∙ r.machine.own_words k a at;
        others_wait = λ k beyond below. get_or-set_other s.words ROOT (CONFIRMED + k) x 0 (λ e. absurd (omega arith)) ∙ r.machine.others_wait k beyond below;
        leader_made = subst (λ (l : ℕ). l ≤ length w.members) (sym (get_or-set_other s.words ROOT LEAD x 0 (λ e. absurd (omega arith)))) r.machine.leader_made;
      })

-- the writer may publish what its words and areas stand for
pub store_root_is_allowed : (Served : Published → Type 0) (opening : Opening) (slots id code bp term n x : ℕ) (p : Published) (me : Sat) → x ≡ code + 4 * bp + 8 * term + 32 * (n + 1) → me.0 ≡ Writer (writer_of me.0) → IsRootOf p.root code bp term → length (writer_of me.0).published ≡ n + 1 → MayPublish Served (writer_of me.0) p
    → Allows (RunningRule Served opening) slots id me ROOT (λ _. x) (λ _. root_stored p (step slots ROOT x 0 none) me x)
store_root_is_allowed Served opening slots id code bp term n x p me word is root number may s r wide at fits =
    let w = writer_of me.0 in
    let seat = writer_at s r id w (at ∙ ap some is) in
    let done = root_stores s r p code bp term n root (ap (λ (v : WriterView). length v.published) seat.1 ∙ number) (subst (λ (v : WriterView). MayPublish Served v p) (sym seat.1) may) in (
      Writer (with_next p w),
      keeps,
      tt,
      subst (λ (z : ℕ × (ℕ × WriterView)). RunningRule Served opening (after_step s (set s.words ROOT z.0) z.1.0 (Writer (with_next p z.1.1)))) (λ i. (sym word i, (sym seat.0 i, seat.1 i))) done,
      refl,
    )
