-- What the calls that place areas know of what comes in.
use Rattle.std.proofs.Common.{◌≡◌, ℕ, zero, suc, ◌^◌, ◌<◌, ◌≤◌, map, List, [], ◌∷◌, ◌++◌, length, Option, Some, None, Result, Ok, Err, refl, sym, ap, subst, ◌∙◌, arith}
use Rattle.std.specs.Prelude.{IfOk, IsSomeAnd, slice_get}
use Rattle.prgr_core.proofs.Parts.{some_same}
use Rattle.term_core.specs.declared.area.AreaRef.{AreaRef}
use Rattle.term_core.specs.declared.atom.Mfa.{Mfa}
use Rattle.term_core.specs.Image.{image_of}
use Rattle.term_core.specs.Plain.{plain}
use Rattle.mod_core.specs.declared.code.Module.{Module}
use Rattle.area_core.specs.Map.{room_of}
use Rattle.server_core.specs.declared.change.Change.{Change}
use Rattle.server_core.specs.declared.change.Change.TheVariants.{BringIn, HoldArea}
use Rattle.server_core.specs.Decided.{Fits}
use Rattle.server_core.specs.ServerState.{ServerState}
use Rattle.literal_areas.specs.declared.areas.Areas.{Areas}
use Rattle.literal_areas.specs.declared.blocks.Pool.{Pool}
use Rattle.literal_areas.specs.declared.blocks.Pool.TheVariants.{Big, Small}
use Rattle.literal_areas.specs.declared.taking.Take.{Take}
use Rattle.literal_areas.specs.declared.taking.Take.TheVariants.{Area}
use Rattle.literal_areas.specs.Blocks.{AreAllLive, AwaitsRelease, HasSizes, blocks_of, first_of}
use Rattle.staging.specs.Exported.{FitsSome}
use Rattle.staging.specs.declared.tables.Tables.{Tables}
use Rattle.change_laws.specs.Changes.{Incoming, incoming, instance, stored}
use Rattle.change_laws.specs.Images.{words_of}
use Rattle.staging.specs.Placed.{HasPlaced, IsRefused, NextAwaitsRelease, PlaceAnswers, pool_of}
use Rattle.staging.specs.Stages.{HavePlaced}
use Rattle.staging.proofs.Counts.{block_left}
use Rattle.staging.proofs.PlacedMore.{placed_more}
use Rattle.staging.proofs.Sizes.{words_fit}

pub if_ok_more : {X E : Type 0} (r : Result X E) {P Q : X → Type 0} → IfOk r P → ((x : X) → P x → Q x) → IfOk r Q
if_ok_more (Ok x) has more = more x has
if_ok_more (Err e) has more = tt

all_big : (ms : List Module) (at : ℕ) (comes : Incoming) → slice_get (map instance ms) at ≡ Some comes → Big ≡ pool_of comes
all_big [] at comes e = absurd (cc)
all_big (m ∷ ms) zero comes e = ap pool_of (some_same (instance m) comes e)
all_big (m ∷ ms) (suc at) comes e = all_big ms at comes e

pub pool_big : (change : Change) (generation : _) (modules : _) (areas : _) (versions : _) → change ≡ BringIn generation modules areas versions → (at : ℕ) (comes : Incoming) → slice_get (incoming change) at ≡ Some comes → Big ≡ pool_of comes
pool_big change generation modules areas versions is at comes e = all_big modules.items at comes (sym (ap (λ (x : Change). slice_get (incoming x) at) is) ∙ e)

one_small : (comes : Incoming) (i : Incoming) (at : ℕ) → Small ≡ pool_of i → slice_get (i ∷ []) at ≡ Some comes → Small ≡ pool_of comes
one_small comes i zero small e = small ∙ ap pool_of (some_same i comes e)
one_small comes i (suc at) small e = absurd (cc)

pub pool_small : (change : Change) (generation : _) (key : _) (term : _) (kept : _) (areas : _) (keys : _) (retired : _) → change ≡ HoldArea generation key term kept areas keys retired → (at : ℕ) (comes : Incoming) → slice_get (incoming change) at ≡ Some comes → Small ≡ pool_of comes
pool_small change generation key term kept areas keys retired is at comes e = one_small comes (stored (plain term)) at refl (sym (ap (λ (x : Change). slice_get (incoming x) at) is) ∙ e)

-- what a put of a complex term brings in are the words that were stored for it
abbrev pub HasWordsAt : Change → ℕ → ℕ → List ℕ → Type 0
HasWordsAt change place serial words = IsSomeAnd (slice_get (incoming change) place) (λ comes. words ≡ words_of serial comes)

pub term_words_at : (change : Change) (generation : _) (key : _) (term : _) (kept : _) (areas : _) (keys : _) (retired : _) → change ≡ HoldArea generation key term kept areas keys retired → FitsSome change → (place serial : ℕ) → place < length (incoming change) → (words : List ℕ) → words ≡ image_of kept → HasWordsAt change place serial words
term_words_at change generation key term kept areas keys retired is fits place serial there words same =
    subst (λ (x : Change). HasWordsAt x place serial words) (sym is) (at_place place (subst (λ (x : Change). place < length (incoming x)) is there))
  where
    holds : kept ≡ plain term
    holds = (subst FitsSome is fits).1.3

    at_place : (k : ℕ) → k < 1 → HasWordsAt (HoldArea generation key term kept areas keys retired) k serial words
    at_place zero few = same ∙ ap image_of holds
    at_place (suc k) few = absurd (omega (arith, few))

-- they have room
pub room_for : (s : ServerState) (change : Change) → Fits s change → (at serial : ℕ) (words : List ℕ) (pool : Pool) → HasWordsAt change at serial words → ((at : ℕ) (comes : Incoming) → slice_get (incoming change) at ≡ Some comes → pool ≡ pool_of comes) → length words ≤ room_of (first_of pool)
room_for s change fits at serial words pool has big = by_option (slice_get (incoming change) at) refl has
  where
    by_option : (o : Option Incoming) → slice_get (incoming change) at ≡ o → IsSomeAnd o (λ comes. words ≡ words_of serial comes) → length words ≤ room_of (first_of pool)
    by_option None is has = absurd has
    by_option (Some comes) is has =
        subst (λ (ws : List ℕ). length ws ≤ room_of (first_of pool)) (sym has) (subst (λ (p : Pool). length (words_of serial comes) ≤ room_of (first_of p)) (sym (big at comes is)) (words_fit s change fits at serial comes is))

-- one more is placed by a call
pub placed_next : (names : List Mfa) (s : ServerState) (change : Change) (old new : Tables) (taken : List AreaRef) (at serial : ℕ) (words given : List ℕ) (pool : Pool) (take : Take) (area : AreaRef) (items : List AreaRef) → Fits s change → HavePlaced names s change old taken → at ≡ length taken
    → serial ≡ old.pools.next → serial < 2 ^ 40 → HasWordsAt change at serial words → given ≡ words → ((at : ℕ) (comes : Incoming) → slice_get (incoming change) at ≡ Some comes → pool ≡ pool_of comes) → PlaceAnswers pool given old new take → take ≡ Area area → items ≡ taken ++ area ∷ []
    → HavePlaced names s change new items
placed_next names s change old new taken at serial words given pool take area items fits had next serial_is low has given_is pool_is answers take_is items_are = by_option (slice_get (incoming change) at) refl has
  where
    by_option : (o : Option Incoming) → slice_get (incoming change) at ≡ o → IsSomeAnd o (λ comes. words ≡ words_of serial comes) → HavePlaced names s change new items
    by_option None is has = absurd has
    by_option (Some comes) is has =
        let answered : HasPlaced pool given area old new = subst (PlaceAnswers pool given old new) take_is answers in
        let placed : HasPlaced (pool_of comes) words area old new = subst (λ (p : Pool). HasPlaced p words area old new) (pool_is at comes is) (subst (λ (ws : List ℕ). HasPlaced pool ws area old new) given_is answered) in
        let there : slice_get (incoming change) (length taken) ≡ Some comes = ap (slice_get (incoming change)) (sym next) ∙ is in
        let room : length words ≤ room_of (first_of (pool_of comes)) = subst (λ (ws : List ℕ). length ws ≤ room_of (first_of (pool_of comes))) (sym has) (words_fit s change fits at serial comes is) in
        subst (HavePlaced names s change new) (sym items_are) (placed_more names s change old new taken area comes words had there (has ∙ ap (λ (n : ℕ). words_of n comes) serial_is) room (omega (arith, serial_is, low)) placed)

-- a block is left for it
pub never_full : (names : List Mfa) (s : ServerState) (change : Change) (old : Tables) (taken : List AreaRef) (at serial : ℕ) (words : List ℕ) (pool : Pool) → Fits s change → HavePlaced names s change old taken → HasSizes old.pools → at ≡ length taken → HasWordsAt change at serial words
    → ((at : ℕ) (comes : Incoming) → slice_get (incoming change) at ≡ Some comes → pool ≡ pool_of comes) → AreAllLive (blocks_of pool old.pools) → ⊥
never_full names s change old taken at serial words pool fits had sizes next has pool_is live = by_option (slice_get (incoming change) at) refl has
  where
    by_option : (o : Option Incoming) → slice_get (incoming change) at ≡ o → IsSomeAnd o (λ comes. words ≡ words_of serial comes) → ⊥
    by_option None is has = has
    by_option (Some comes) is has =
        block_left names s change old taken comes had sizes (ap (slice_get (incoming change)) (sym next) ∙ is) fits (subst (λ (p : Pool). AreAllLive (blocks_of p old.pools)) (pool_is at comes is) live)

-- or the pool of it waits
pub next_awaits : (change : Change) (old new : Tables) (taken items : List AreaRef) (at serial : ℕ) (words : List ℕ) (pool : Pool) → at ≡ length taken → items ≡ taken → HasWordsAt change at serial words
    → ((at : ℕ) (comes : Incoming) → slice_get (incoming change) at ≡ Some comes → pool ≡ pool_of comes) → IsRefused (AwaitsRelease (blocks_of pool old.pools)) old new → NextAwaitsRelease change new.pools items
next_awaits change old new taken items at serial words pool next same has pool_is refused = by_option (slice_get (incoming change) at) refl has
  where
    by_option : (o : Option Incoming) → slice_get (incoming change) at ≡ o → IsSomeAnd o (λ comes. words ≡ words_of serial comes) → NextAwaitsRelease change new.pools items
    by_option None is has = absurd has
    by_option (Some comes) is has = record {
      comes = comes;
      next = ap (λ (xs : List AreaRef). slice_get (incoming change) (length xs)) same ∙ ap (slice_get (incoming change)) (sym next) ∙ is;
      awaits = subst (λ (s : Areas). AwaitsRelease (blocks_of (pool_of comes) s)) (sym refused.pools) (subst (λ (p : Pool). AwaitsRelease (blocks_of p old.pools)) (pool_is at comes is) refused.why);
    }
