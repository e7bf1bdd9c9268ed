-- A generation that is served reads as that of a sound state of the server.
use Rattle.std.proofs.Common.{◌≡◌, ℕ, zero, suc, ◌≤◌, ◌^◌, ◌⊎◌, inl, inr, List, [], ◌∷◌, Option, Some, None, refl, sym, ap, subst, ◌∙◌, lit≤}
use Rattle.std.specs.Prelude.{slice_get, unwrap_or, option_map, option_and_then}
use Rattle.term_core.specs.declared.atom.Mfa.{Mfa}
use Rattle.term_core.specs.declared.generation.FunctionRef.{FunctionRef}
use Rattle.term_core.specs.declared.generation.Generation.{Generation}
use Rattle.term_core.specs.declared.generation.KeyTerm.{KeyTerm}
use Rattle.area_core.specs.Step.{empty_generation}
use Rattle.server_core.specs.Generations.{AreNumbered, function_ref, generation_of, number_of_name}
use Rattle.server_core.specs.ServerState.{Entry, IsSound, ServerState, dispatch_of, empty_state}
use Rattle.server_core.proofs.EmptyState.{empty_sound}
use Rattle.change_laws.specs.Breakpoints.{KnowsItsCode}
use Rattle.change_laws.proofs.KnownCode.{empty_knows}
use Rattle.machine_core.specs.GenerationReads.{exported_under, found_held, holding_among, place_within, reads_in, shown_in, words_in}
use Rattle.machine_core.specs.Process.{PlainProcess}
use Rattle.machine_core.specs.Reads.{Reads, dispatched, found_of}
use Rattle.machine_core.specs.Turn.{ArePlaced, held_after, turn_by}
use Rattle.machine_core.specs.GenerationLaws.{IsTurnOfState}
use Rattle.machine_core.specs.View.{IsLawful}
use Rattle.machine_core.proofs.GenerationExports.{dispatched_is, exported_is}
use Rattle.machine_core.proofs.GenerationKeys.{key_found-is}
use Rattle.machine_core.proofs.GenerationTurns.{generation_lawful, generation_ran}
use Rattle.code_law.specs.Laws.{IsTurnOfServer}
use Rattle.code_law.specs.Served.{IsOfServer, IsOfState}

-- the entry of a function
abbrev pub entry_ref : FunctionRef → Entry
entry_ref f = record { serial = f.serial; function = f.function }

-- ---- the state of a generation

-- the state that a generation has, or the empty one
pub record HasState (names : List Mfa) (g : Generation) : Type 0 where
  pub state : ServerState
  pub sound : IsSound state
  pub numbered : AreNumbered names state
  pub narrow : state.next_serial ≤ 2 ^ 62
  pub knows : KnowsItsCode state
  -- all that is read is read alike
  pub reads : reads_in names g ≡ reads_in names (generation_of names state)
  pub words : words_in g ≡ words_in (generation_of names state)
  pub keys : g.keys ≡ (generation_of names state).keys
  pub calls : (to : Mfa) → exported_under names g to ≡ exported_under names (generation_of names state) to
  pub of : (g ≡ generation_of names state) ⊎ ((g ≡ empty_generation) × (state ≡ empty_state))

of_state : (names : List Mfa) (g : Generation) → IsOfState names g → HasState names g
of_state names g h =
    record {
      state = h.state;
      sound = h.sound;
      numbered = h.numbered;
      narrow = h.narrow;
      knows = h.knows;
      reads = ap (reads_in names) h.is;
      words = ap words_in h.is;
      keys = ap (λ (x : Generation). x.keys) h.is;
      calls = λ to. ap (λ (x : Generation). exported_under names x to) h.is;
      of = inl h.is;
    }

-- generation 0 exports nothing, and neither does that of the empty state
none_exported : (names : List Mfa) (to : Mfa) (xs : List (Option FunctionRef)) → ((n : ℕ) → unwrap_or (slice_get xs n) None ≡ None) → (o : Option ℕ) → option_and_then (λ n. unwrap_or (slice_get xs n) None) o ≡ None
none_exported names to xs none None = refl
none_exported names to xs none (Some n) = none n

no_exports : (names : List Mfa) (n : ℕ) → unwrap_or (slice_get (generation_of names empty_state).exports n) None ≡ None
no_exports [] n = refl
no_exports (to ∷ names) zero = refl
no_exports (to ∷ names) (suc n) = no_exports names n

both_none : (names : List Mfa) (to : Mfa) → exported_under names empty_generation to ≡ exported_under names (generation_of names empty_state) to
both_none names to =
    none_exported names to [] (λ n. refl) (number_of_name names to)
    ∙ sym (none_exported names to (generation_of names empty_state).exports (no_exports names) (number_of_name names to))

-- all that is read of them is read alike
pub empty_reads : (names : List Mfa) → reads_in names empty_generation ≡ reads_in names (generation_of names empty_state)
empty_reads names = λ i. record (reads_in names (generation_of names empty_state)) { export = λ serial to. option_and_then (place_within serial) (both_none names to i) }

of_empty : (names : List Mfa) (g : Generation) → g ≡ empty_generation → HasState names g
of_empty names g is =
    record {
      state = empty_state;
      sound = empty_sound;
      numbered = λ to h. absurd (cc);
      narrow = lit≤ tt;
      knows = empty_knows;
      reads = ap (reads_in names) is ∙ empty_reads names;
      words = ap words_in is;
      keys = ap (λ (x : Generation). x.keys) is;
      calls = λ to. ap (λ (x : Generation). exported_under names x to) is ∙ both_none names to;
      of = inr (is, refl);
    }

pub state_of : (names : List Mfa) (g : Generation) → IsOfServer names g → HasState names g
state_of names g served =
    elim served as (λ _. HasState names g) [
      | inl empty ↦ of_empty names g empty
      | inr of ↦ of_state names g of
    ]

-- ---- laws

-- what it shows is lawful
pub served_lawful : (names : List Mfa) (g : Generation) → IsOfServer names g → (block : ℕ → ℕ) → IsLawful (shown_in names block g)
served_lawful names g served block =
    let h = state_of names g served in
    subst IsLawful (λ i. record { reads = sym h.reads i; words = sym h.words i; block = block }) (generation_lawful names h.state h.sound h.numbered block)

-- a turn by it is the turn under the state
pub served_turn : (names : List Mfa) (g : Generation) → IsOfServer names g → (p : PlainProcess) → ArePlaced (reads_in names g) p.frames → IsTurnOfServer names g p
served_turn names g served p placed =
    let h = state_of names g served in
    let ran : IsTurnOfState names h.state p = generation_ran names h.state h.sound h.numbered p (subst (λ (r : Reads). ArePlaced r p.frames) h.reads placed) in
    record {
      state = h.state;
      is = record { sound = h.sound; numbered = h.numbered; of = h.of };
      turn = ap (λ (r : Reads). turn_by r p) h.reads ∙ ran.turn;
      held = ap (λ (r : Reads). held_after r p) h.reads;
    }

-- what a call reaches is what the export table has at the number of the name
pub served_calls : (names : List Mfa) (g : Generation) → IsOfServer names g → (to : Mfa) → dispatched (reads_in names g) to ≡ option_map entry_ref (exported_under names g to)
served_calls names g served to =
    let h = state_of names g served in
    ap (λ (r : Reads). dispatched r to) h.reads ∙ dispatched_is names h.state h.sound h.numbered to
    ∙ sym (ap (option_map entry_ref) (h.calls to ∙ exported_is names h.state h.numbered to) ∙ back (dispatch_of h.state to))
  where
    back : (o : Option Entry) → option_map entry_ref (option_map function_ref o) ≡ o
    back None = refl
    back (Some e) = refl

-- what a reader finds of a key is the word or the area that the generation has
pub served_keys : (names : List Mfa) (g : Generation) → IsOfServer names g → (key : ℕ) → found_held (holding_among g.keys key) ≡ found_of ((reads_in names g).key key)
served_keys names g served key =
    let h = state_of names g served in
    ap (λ (ks : List KeyTerm). found_held (holding_among ks key)) h.keys ∙ sym (key_found-is names h.state h.sound key) ∙ ap (λ (r : Reads). found_of (r.key key)) (sym h.reads)
