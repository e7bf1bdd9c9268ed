-- A key is staged: which change of the keys it is, and that the words hold what the keys hold once the change is made.
use Rattle.std.proofs.Common.{◌≡◌, ℕ, ◌+◌, ◌<◌, inr, true, List, [], ◌∷◌, length, map, Option, Some, None, refl, sym, ap, subst, ◌∙◌, arith}
use Rattle.std.specs.Prelude.{slice_get}
use Rattle.std.specs.Option.{option_and_then}
use Rattle.std.proofs.lemmas.Option.{none-some}
use Rattle.prgr_core.proofs.Parts.{some_same}
use Rattle.term_core.specs.declared.area.AreaRef.{AreaRef}
use Rattle.term_core.specs.declared.atom.Mfa.{Mfa}
use Rattle.term_core.specs.declared.generation.Generation.{Generation}
use Rattle.term_core.specs.declared.generation.Holding.TheVariants as holdings
use Rattle.term_core.specs.declared.generation.KeyTerm.{KeyTerm}
use Rattle.term_core.specs.declared.term.Term.{Term}
use Rattle.term_core.specs.declared.term.Term.TheVariants.{Int, Atom, Tuple, List as ListOf}
use Rattle.term_core.specs.Image.{IsImmediate, immediate_word, is_immediate}
use Rattle.term_core.specs.Plain.{plain, term_of}
use Rattle.term_core.specs.PlainTerm.{PlainTerm}
use Rattle.term_core.proofs.PlainTerms.{term_of-plain}
use Rattle.area_core.specs.declared.table.Published.{Published}
use Rattle.area_core.specs.Blocks.{Among}
use Rattle.area_core.specs.Generations.{is_term_word}
use Rattle.shared_words.specs.declared.view.WriterView.{WriterView}
use Rattle.progress_words.specs.Roots.{newest_of}
use Rattle.server_core.specs.declared.change.Change.{Change}
use Rattle.server_core.specs.declared.change.Change.TheVariants.{HoldWord, HoldArea, Forget}
use Rattle.server_core.specs.Decided.{Fits, change_made}
use Rattle.server_core.specs.Generations.{generation_of, holding_of, key_term}
use Rattle.server_core.specs.ServerState.{IsShortTerm, ServerState, key_area}
use Rattle.literal_areas.specs.declared.areas.Areas.{Areas}
use Rattle.literal_areas.specs.declared.blocks.BlockUse.TheVariants.{Free, Live}
use Rattle.literal_areas.specs.Blocks.{Stands, serial_at, use_of, with_area}
use Rattle.literal_areas.proofs.Serials.{serial_here, serial_other}
use Rattle.term_table.specs.declared.change.Change as changes
use Rattle.term_table.specs.declared.change.Change.TheVariants.{Put, Erase}
use Rattle.term_table.specs.Keys.{ChangesTo}
use Rattle.staging.specs.Keyed.{HasKeyWord, area_word, key_change}
use Rattle.change_laws.specs.Changes.{Incoming, incoming, stored}
use Rattle.staging.specs.Placed.{ArePlaced, AreTaken, IsAreaOf, with_areas}
use Rattle.staging.specs.Standing.{StandFor}
use Rattle.staging.specs.Upcoming.{areas_in}
use Rattle.staging.proofs.AreasIn.{stands_listed}
use Rattle.staging.proofs.KeyLists.{StandOnce, key_at, once_stand, stand_held}
use Rattle.staging.proofs.KeyStaged.{KeepsAreas, area_stands, erase_changes, newest_keys, put_changes, word_stands}
use Rattle.staging.proofs.Taken.{taken_live}

-- ---- areas that stand

-- an area stands still when others are taken
pub stands_with : (taken : List AreaRef) (pools : Areas) (block n : ℕ) → AreTaken taken pools → serial_at pools block ≡ Some n → serial_at (with_areas taken pools) block ≡ Some n
stands_with [] pools block n were stands = stands
stands_with (a ∷ taken) pools block n were stands =
    stands_with taken (with_area a pools) block n were.2 (serial_other (record pools { next = pools.next + 1 }) a.block block Free (Live a.serial) were.1 (λ same. none-some n (sym (ap (serial_at pools) same ∙ serial_here pools a.block Free were.1) ∙ stands)) ∙ stands)

-- what holds an area is the area of its key
holds_area : (term : PlainTerm) (area : Option ℕ) (serial : ℕ) → holding_of term area ≡ holdings.Area serial → area ≡ Some serial
holds_area term None serial e = absurd (cc)
holds_area term (Some n) serial e = let same : n ≡ serial = cc in ap Some same

module _ (names : List Mfa) (s : ServerState) (rest pools : Areas) (w : WriterView) (taken : List AreaRef) (comes : List Incoming) (stands : StandFor names s rest w) (placed : ArePlaced comes rest pools w taken) where
  -- what stood stands among the pools that are published
  pub listed_with : (a : AreaRef) → Stands rest a → Among (areas_in pools) a
  listed_with a there = stands_listed pools a (subst (λ (p : Areas). Stands p a) (sym placed.pools_are) (stands_with taken rest a.block a.serial placed.taken_are there))

  -- the keys that stay have their areas in the same blocks
  pub keeps_areas : (key : ℕ) (q : Published) → q.areas ≡ areas_in pools → KeepsAreas key (newest_of w) q
  keeps_areas key q areas k serial a among differ holds listed same =
      let keys = newest_keys names s (newest_of w) stands.newest_is in
      let found = key_at s.keys among.0 k (ap (λ (ks : List KeyTerm). slice_get ks among.0) (sym keys) ∙ among.1) in
      let its = holds_area found.0.term found.0.area serial (ap (λ (x : KeyTerm). x.holding) found.2 ∙ holds) in
      let held : key_area s found.0.key ≡ Some a.serial = ap (option_and_then (λ p. p.area)) (stand_held s.keys among.0 found.0 (once_stand s.keys stands.keys_once) found.1) ∙ its ∙ ap Some (sym same) in
      subst (λ (xs : List AreaRef). Among xs a) (sym areas) (listed_with a (stands.listed a listed (inr (inr (found.0.key, held)))))

-- ---- the word of a key

-- an integer or an atom stands in one word
immediate_is : (term : Term) → IsShortTerm (plain term) → is_immediate (plain term) ≡ true → IsImmediate term
immediate_is (Int z) short e = short.fits
immediate_is (Atom a) short e = tt
immediate_is (Tuple ts) short e = absurd (cc)
immediate_is (ListOf ts) short e = absurd (cc)

block_small : (term : PlainTerm) (w : WriterView) (a : AreaRef) → IsAreaOf w (stored term) a → a.block < 320
block_small term w a is = is.last

module _ (names : List Mfa) (s : ServerState) (rest pools : Areas) (w : WriterView) where
  pub has_word : (change : Change) (taken : List AreaRef) → Fits s change → ArePlaced (incoming change) rest pools w taken → HasKeyWord change taken
  has_word (HoldWord generation key term keys retired) taken fits placed = immediate_is term fits.1.short fits.2
  has_word (HoldArea generation key term kept areas keys retired) taken fits placed = λ area at. let is = placed.each 0 (stored (plain term)) area refl at in (is.small, block_small (plain term) w area is)
  has_word change taken fits placed = tt

-- ---- the change of the keys

module _ (names : List Mfa) (s : ServerState) (rest pools : Areas) (w : WriterView) (q : Published) (stands : StandFor names s rest w) (areas : q.areas ≡ areas_in pools) where
  once : StandOnce s.keys
  once = once_stand s.keys stands.keys_once

  keys : (newest_of w).state.keys ≡ map key_term s.keys
  keys = newest_keys names s (newest_of w) stands.newest_is

  -- the area of what comes in
  module _ (change : Change) (term : PlainTerm) (a : AreaRef) (is : incoming change ≡ stored term ∷ []) (placed : ArePlaced (incoming change) rest pools w (a ∷ [])) where
    came : Among q.areas a
    came = subst (λ (xs : List AreaRef). Among xs a) (sym areas) (stands_listed pools a (serial_here pools a.block (Live a.serial) (ap (λ (p : Areas). use_of p a.block) placed.pools_are ∙ taken_live (a ∷ []) rest 0 a placed.taken_are refl)))

    serial_is : a.serial ≡ s.next_serial
    serial_is = placed.taken_are.0 ∙ stands.blocks.next

    low : a.block < 512
    low = let last = block_small term w a (placed.each 0 (stored term) a (ap (λ (xs : List Incoming). slice_get xs 0) is) refl) in omega (arith, last)

    area_word_stands : is_term_word q (holding_of term (Some s.next_serial)) (area_word a) ≡ true
    area_word_stands = subst (λ (n : ℕ). is_term_word q (holdings.Area n) (area_word a) ≡ true) serial_is (area_stands q a came low)

  pub one_taken : (change : Change) (taken : List AreaRef) (staged : changes.Change) → ArePlaced (incoming change) rest pools w taken → length taken ≡ length (incoming change) → q.state ≡ generation_of names (change_made s change).state → key_change change taken ≡ Some staged → ChangesTo staged (newest_of w) q
  one_taken (HoldWord generation key term kept retired) taken staged placed whole state is =
      subst (λ (c : changes.Change). ChangesTo c (newest_of w) q) (some_same (Put key (immediate_word term)) staged is)
      (put_changes (newest_of w) q s.keys key (plain term) None (immediate_word term) once keys (ap (λ (g : Generation). g.keys) state)
      (word_stands q (immediate_word (term_of (plain term))) (immediate_word term) (ap immediate_word (sym (term_of-plain term))))
      (keeps_areas names s rest pools w taken [] stands placed key.0 q areas))
  one_taken (HoldArea generation key term kept blocks places retired) (a ∷ []) staged placed whole state is =
      subst (λ (c : changes.Change). ChangesTo c (newest_of w) q) (some_same (Put key (area_word a)) staged is)
      (put_changes (newest_of w) q s.keys key (plain term) (Some s.next_serial) (area_word a) once keys (ap (λ (g : Generation). g.keys) state)
      (area_word_stands (HoldArea generation key term kept blocks places retired) (plain term) a refl placed)
      (keeps_areas names s rest pools w (a ∷ []) (stored (plain term) ∷ []) stands placed key.0 q areas))
  one_taken (HoldArea generation key term kept blocks places retired) (a ∷ b ∷ taken) staged placed whole state is = absurd (let more = placed.few in omega (arith, more))
  one_taken (Forget generation key retired) taken staged placed whole state is =
      subst (λ (c : changes.Change). ChangesTo c (newest_of w) q) (some_same (Erase key) staged is)
      (erase_changes (newest_of w) q s.keys key keys (ap (λ (g : Generation). g.keys) state) (keeps_areas names s rest pools w taken [] stands placed key.0 q areas))
  one_taken change taken staged placed whole state is = absurd (cc)
