-- A lawful log meets each clause entry by entry, and one whose entries do is lawful.
use Rattle.std.proofs.Common.{◌≡◌, ℕ, zero, suc, ◌<◌, ◌≤◌, List, [], ◌∷◌, take, slice_get, Option, Some, None, refl, sym, ap, subst, arith}
use Rattle.std.proofs.lemmas.Option.{none-some, same_Some}
use Rattle.mod_core.specs.declared.code.Module.{Module}
use Rattle.server_core.specs.ServerState.{ServerState, empty_state}
use Rattle.script_core.specs.declared.script.Script.{Script}
use Rattle.run_log.specs.declared.logs.Entry.{Entry}
use Rattle.run_log.specs.declared.logs.RunLog.{RunLog}
use Rattle.run_log.specs.Journal.{next_state, newest_state}
use Rattle.run_log.specs.Legal.{EntryFollows, Legal, MayStand, PurgesGo, Replays, half_after}
use Rattle.run_log.specs.declared.underway.HalfPurge.{HalfPurge}
use Rattle.legality.specs.Entries.{EntryMeets, MeetBefore, half_before, half_over}

-- an entry of a replayed journal follows from the state before it
pub follows_at : (texts : List Module) (s : ServerState) (journal : List Entry) (place : ℕ) (e : Entry) → Replays texts s journal → slice_get journal place ≡ Some e → EntryFollows texts (newest_state texts s (take place journal)) e
follows_at texts s [] place e r at = absurd (none-some e at)
follows_at texts s (x ∷ journal) zero e r at = subst (EntryFollows texts s) (same_Some x e at) r.0
follows_at texts s (x ∷ journal) (suc place) e r at = follows_at texts (next_state texts s x.cmd) journal place e r.1 at

-- and each entry may stand where it stands
pub stands_at : (texts : List Module) (s : ServerState) (half last : Option HalfPurge) (journal : List Entry) (place : ℕ) (e : Entry) → PurgesGo texts s half journal last → slice_get journal place ≡ Some e
    → MayStand (newest_state texts s (take place journal)) (half_over half (take place journal)) e
stands_at texts s half last [] place e go at = absurd (none-some e at)
stands_at texts s half last (x ∷ journal) zero e go at = subst (MayStand s half) (same_Some x e at) go.0
stands_at texts s half last (x ∷ journal) (suc place) e go at = stands_at texts (next_state texts s x.cmd) (half_after half x.who x.cmd) last journal place e go.1 at

-- the purge that waits at the end
pub half_last : (texts : List Module) (s : ServerState) (half last : Option HalfPurge) (journal : List Entry) → PurgesGo texts s half journal last → half_over half journal ≡ last
half_last texts s half last [] go = go
half_last texts s half last (x ∷ journal) go = half_last texts (next_state texts s x.cmd) (half_after half x.who x.cmd) last journal go.1

-- each entry of a lawful log meets the clauses
pub legal_meets : (s : Script) (log : RunLog) → Legal s log → (place : ℕ) (e : Entry) → slice_get log.journal place ≡ Some e → EntryMeets s log place e
legal_meets s log legal place e at = record {
  follows = follows_at s.modules empty_state log.journal place e legal.replays at;
  stands = stands_at s.modules empty_state None None log.journal place e legal.loaders_in_order.purges at;
  released = λ serial number process is known. legal.released_unnamed place serial number e process at is known;
  unnamed = λ serial number process drops known. legal.purged_unnamed.unnamed place serial number e process at drops known;
  told = λ serial name killed is old. legal.purged_unnamed.told place serial e name killed at is old;
}

-- where each entry follows, the journal is replayed
replays_from : (texts : List Module) (s : ServerState) (journal : List Entry) → ((place : ℕ) (e : Entry) → slice_get journal place ≡ Some e → EntryFollows texts (newest_state texts s (take place journal)) e) → Replays texts s journal
replays_from texts s [] h = tt
replays_from texts s (x ∷ journal) h = (h 0 x refl, replays_from texts (next_state texts s x.cmd) journal (λ place e at. h (suc place) e at))

purges_from : (texts : List Module) (s : ServerState) (half : Option HalfPurge) (journal : List Entry) → ((place : ℕ) (e : Entry) → slice_get journal place ≡ Some e → MayStand (newest_state texts s (take place journal)) (half_over half (take place journal)) e)
    → PurgesGo texts s half journal (half_over half journal)
purges_from texts s half [] h = refl
purges_from texts s half (x ∷ journal) h = (h 0 x refl, purges_from texts (next_state texts s x.cmd) (half_after half x.who x.cmd) journal (λ place e at. h (suc place) e at))

-- what stands in a front stands at its place in the whole, and not past it
pub front_within : {X : Type 0} (place k : ℕ) (xs : List X) (x : X) → slice_get (take place xs) k ≡ Some x → (k < place) × (slice_get xs k ≡ Some x)
front_within zero k xs x at = absurd (none-some x at)
front_within (suc place) k [] x at = absurd (none-some x at)
front_within (suc place) zero (y ∷ xs) x at = (omega arith, at)
front_within (suc place) (suc k) (y ∷ xs) x at = let rest = front_within place k xs x at in (omega (arith, rest.0), rest.1)

-- a front of a front
pub take_front : {X : Type 0} (place k : ℕ) (xs : List X) → k ≤ place → take k (take place xs) ≡ take k xs
take_front place zero xs h = refl
take_front zero (suc k) xs h = absurd (omega (arith, h))
take_front (suc place) (suc k) [] h = refl
take_front (suc place) (suc k) (x ∷ xs) h = ap (λ ys. x ∷ ys) (take_front place k xs (omega (arith, h)))

module _ (s : Script) (log : RunLog) (place : ℕ) (meet : MeetBefore s log place) where
  -- the entries before a place are replayed
  pub replays_before : Replays s.modules empty_state (take place log.journal)
  replays_before =
      replays_from s.modules empty_state (take place log.journal)
      (λ k e at. let h = front_within place k log.journal e at in
      subst (λ xs. EntryFollows s.modules (newest_state s.modules empty_state xs) e) (sym (take_front place k log.journal (omega (arith, h.0)))) (meet k e h.0 h.1).follows)

  -- and their purges stand in their halves
  pub purges_before : PurgesGo s.modules empty_state None (take place log.journal) (half_before place log.journal)
  purges_before =
      purges_from s.modules empty_state None (take place log.journal)
      (λ k e at. let h = front_within place k log.journal e at in
      subst (λ xs. MayStand (newest_state s.modules empty_state xs) (half_over None xs) e) (sym (take_front place k log.journal (omega (arith, h.0)))) (meet k e h.0 h.1).stands)
