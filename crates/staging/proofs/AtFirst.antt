-- Before the writer's first step the words stand for the state before the first command.
use Rattle.std.proofs.Common.{◌≡◌, ℕ, zero, suc, ◌<◌, inl, inr, List, [], ◌∷◌, replicate, Option, Some, None, refl, sym, ap, subst, ◌∙◌, arith}
use Rattle.std.specs.Prelude.{IsTrue, slice_get}
use Rattle.std.proofs.lemmas.Bool.{false≢true}
use Rattle.std.proofs.lemmas.Option.{none-some}
use Rattle.prgr_core.proofs.Parts.{and_then_some, some_same}
use Rattle.term_core.specs.declared.area.AreaRef.{AreaRef}
use Rattle.term_core.specs.declared.atom.Mfa.{Mfa}
use Rattle.area_core.specs.declared.table.Published.{Published}
use Rattle.area_core.specs.Generations.{has_serial}
use Rattle.area_core.specs.Map.{doom_place, retire_place}
use Rattle.area_core.specs.Step.{opening_published}
use Rattle.shared_words.specs.declared.view.WriterView.{WriterView}
use Rattle.shared_words.specs.Views.{newest_number, published_at}
use Rattle.progress_words.specs.Roots.{newest_of}
use Rattle.progress_words.specs.Tokens.{written_by}
use Rattle.server_core.specs.ServerState.{empty_state}
use Rattle.server_core.proofs.EmptyState.{empty_sound}
use Rattle.breakpoints.specs.Indices.{BreakpointsRest}
use Rattle.breakpoints.proofs.AtFirst.{rest_at_first}
use Rattle.change_laws.proofs.KnownCode.{empty_knows}
use Rattle.code_index.specs.Staging.{IsAtFirst}
use Rattle.code_index.specs.declared.index.Staging.TheVariants.{Nothing}
use Rattle.literal_areas.specs.declared.areas.Areas.{Areas}
use Rattle.literal_areas.specs.declared.blocks.BlockUse.{BlockUse}
use Rattle.literal_areas.specs.declared.blocks.BlockUse.TheVariants.{Free, Live, Retired}
use Rattle.literal_areas.specs.Blocks.{Stands, opening_areas, serial_of, use_of}
use Rattle.literal_areas.proofs.AtFirst.{each_free}
use Rattle.change_laws.specs.Uses.{IsUsed}
use Rattle.staging.specs.declared.tables.Tables.{Tables}
use Rattle.staging.specs.Stages.{AreAtRest}
use Rattle.staging.specs.Standing.{IsShownBy, StandFor, WordsTell, live_blocks, retire_word_of}
use Rattle.staging.proofs.BlockUses.{live_some, retired_some}

-- ---- no block is in use

free_use : (block : ℕ) (u : BlockUse) → use_of opening_areas block ≡ Some u → u ≡ Free
free_use block u at = each_free 55 256 block u at

no_serial : (u : BlockUse) (n : ℕ) → u ≡ Free → serial_of u ≡ Some n → ⊥
no_serial u n is at = none-some n (sym (ap serial_of is) ∙ at)

none_stands : (a : AreaRef) → Stands opening_areas a → ⊥
none_stands a stands =
    let found = and_then_some serial_of (use_of opening_areas a.block) a.serial stands in
    no_serial found.0 a.serial (free_use a.block found.0 found.1) found.2

none_live : (n : ℕ) → live_blocks (replicate n Free) ≡ 0
none_live zero = refl
none_live (suc n) = let behind = none_live n in omega (arith, behind)

retire_none : (o : Option BlockUse) → ((u : BlockUse) → o ≡ Some u → u ≡ Free) → retire_word_of o ≡ 0
retire_none None free = refl
retire_none (Some Free) free = refl
retire_none (Some (Live n)) free = refl
retire_none (Some (Retired n since)) free = absurd (retired_some n since (free (Retired n since) refl))

unused : (n : ℕ) → IsUsed empty_state n → ⊥
unused n used =
    elim used as (λ _. ⊥) [
      | inl current ↦ none-some n current.1
      | inr rest ↦ elim rest as (λ _. ⊥) [
        | inl old ↦ none-some n old.1
        | inr held ↦ none-some n held.1
      ]
    ]

-- ---- nothing was published

nothing_at : {X : Type 0} (xs : List X) (k : ℕ) (x : X) → xs ≡ [] → slice_get xs k ≡ Some x → ⊥
nothing_at xs k x none at = none-some x (sym (ap (λ ys. slice_get ys k) none) ∙ at)

first_alone : (k : ℕ) (p : Published) → slice_get (opening_published ∷ []) k ≡ Some p → p ≡ opening_published
first_alone zero p at = sym (some_same opening_published p at)
first_alone (suc k) p at = absurd (none-some p at)

module _ (names : List Mfa) (w : WriterView) (is : IsAtFirst w) where
  newest_first : newest_of w ≡ opening_published
  newest_first = ap (λ (ps : List Published). published_at ps (newest_number ps)) is.published

  each_first : (k : ℕ) (p : Published) → slice_get w.published k ≡ Some p → p ≡ opening_published
  each_first k p at = first_alone k p (sym (ap (λ (ps : List Published). slice_get ps k) is.published) ∙ at)

  no_old : (k : ℕ) (p : Published) (serial : ℕ) → slice_get w.published k ≡ Some p → IsTrue (has_serial p.state.old serial) → ⊥
  no_old k p serial at has = false≢true (sym (ap (λ (q : Published). has_serial q.state.old serial) (each_first k p at)) ∙ has)

  no_doomed : (k : ℕ) (p : Published) (serial : ℕ) → slice_get w.published k ≡ Some p → IsTrue (has_serial p.state.doomed serial) → ⊥
  no_doomed k p serial at has = false≢true (sym (ap (λ (q : Published). has_serial q.state.doomed serial) (each_first k p at)) ∙ has)

  no_retired_in : (k : ℕ) (p : Published) (serial : ℕ) → slice_get w.published k ≡ Some p → IsTrue (has_serial p.state.retired serial) → ⊥
  no_retired_in k p serial at has = false≢true (sym (ap (λ (q : Published). has_serial q.state.retired serial) (each_first k p at)) ∙ has)

  shown_first : IsShownBy names empty_state (newest_of w)
  shown_first = record {
    stood = empty_state;
    sound = empty_sound;
    since = record { same = refl; fewer = λ serial h. h; more = λ serial h. h };
    shows = inr (newest_first, refl);
  }

  words_first : WordsTell empty_state opening_areas w
  words_first = record {
    retire = λ block few. is.words (retire_place block) ∙ sym (retire_none (use_of opening_areas block) (free_use block));
    since = λ block serial since at. absurd (retired_some serial since (free_use block (Retired serial since) at));
    free = λ block few at. is.words (doom_place block);
    doom = λ block serial few at. absurd (live_some serial (free_use block (Live serial) at));
  }

  -- the words stand for the empty state
  pub stand_first : StandFor names empty_state opening_areas w
  stand_first = record {
    newest_is = shown_first;
    numbered = λ to some. absurd (false≢true some);
    keys_once = λ i j p q at also same. absurd (none-some p at);
    knows = empty_knows;
    narrow = omega (arith);
    bp = subst (λ (p : Published). p.root.bp < 2) (sym newest_first) (omega (arith));
    listed = λ a among used. absurd (unused a.serial used);
    stay = λ k among. absurd (nothing_at w.kept among.0 k is.kept among.1);
    blocks = record {
      next = refl;
      used = λ serial used. absurd (unused serial used);
      live = λ block serial at. absurd (live_some serial (free_use block (Live serial) at));
      waiting = λ serial retired. absurd (false≢true retired);
      retired = λ block serial since at. absurd (retired_some serial since (free_use block (Retired serial since) at));
      unreleased = λ block serial at. refl;
      instances = none_live 55;
      terms = none_live 256;
    };
    placed = record {
      instances = λ a m stands code. absurd (none_stands a stands);
      terms = λ a stands none. absurd (none_stands a stands);
    };
    images = record {
      areas = λ a stands. absurd (none_stands a stands);
      images = λ k among. absurd (nothing_at w.kept among.0 k is.kept among.1);
      apart = λ i j a b differ at also. absurd (nothing_at w.kept i a is.kept at);
    };
    words = words_first;
    dropped = record {
      old = λ p serial among has. absurd (no_old among.0 p serial among.1 has);
      doomed = λ p serial among has. absurd (no_doomed among.0 p serial among.1 has);
      retired = λ p serial among has. absurd (no_retired_in among.0 p serial among.1 has);
      old_stays = λ g later p q serial le at also has. absurd (no_old g p serial at has);
      retired_stays = λ g later p q serial le at also has. absurd (no_retired_in g p serial at has);
    };
  }

-- no breakpoint is switched, and the breakpoint indices are at rest
pub breakpoints_first : (w : WriterView) → IsAtFirst w → BreakpointsRest w
breakpoints_first w is = rest_at_first w (record { all = is.all; published = is.published; kept = is.kept; words = is.words })

-- the tables are at rest
pub rest_first : (names : List Mfa) (t : Tables) → IsAtFirst (written_by t.writer) → t.index ≡ Nothing → t.terms.staged ≡ None → t.pools ≡ opening_areas → t.patch ≡ None → AreAtRest names empty_state t
rest_first names t is index staged pools_are patch = record {
  stands = subst (λ (s : Areas). StandFor names empty_state s (written_by t.writer)) (sym pools_are) (stand_first names (written_by t.writer) is);
  staged = record { index = index; terms = staged; patch = patch };
}
