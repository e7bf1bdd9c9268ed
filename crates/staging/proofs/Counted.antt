-- Loads of the counter change nothing of what the words stand for.
use Rattle.std.proofs.Common.{◌≡◌, ℕ, ◌⊎◌, inl, inr, List, Option, None, sym, subst}
use Rattle.term_core.specs.declared.area.AreaRef.{AreaRef}
use Rattle.term_core.specs.declared.atom.Mfa.{Mfa}
use Rattle.prgr_core.specs.declared.member.Retirement.{Retirement}
use Rattle.area_core.specs.Blocks.{Among}
use Rattle.shared_words.specs.declared.view.WriterView.{WriterView}
use Rattle.shared_words.specs.Kinds.{counter_kept}
use Rattle.shared_words.proofs.ShownMembers.{still_at}
use Rattle.server_core.specs.ServerState.{ServerState}
use Rattle.literal_areas.specs.declared.areas.Areas.{Areas}
use Rattle.literal_areas.specs.Owned.{AreOf, IsUnpublished}
use Rattle.change_laws.specs.Changes.{Incoming}
use Rattle.term_table.specs.Tables.{GoesWith, IsTableOf, Terms}
use Rattle.staging.specs.Placed.{ArePlaced}
use Rattle.staging.specs.Standing.{StandFor}
use Rattle.staging.proofs.Coming.{ComesNext, HasImage, IsFresh}

-- ---- the term tables

pub tables_counted : (t : Terms) (w : WriterView) (counter : ℕ) → t.staged ≡ None → IsTableOf t w → IsTableOf t (counter_kept counter w)
tables_counted t w counter none own = record {
  all = own.all;
  long = own.long;
  areas = own.areas;
  fits = own.fits;
  table = own.table;
  active = own.active;
  counted = own.counted;
  past = λ table g p few differ at has. let past = own.past table g p few differ at has in record { generation = past.generation; taken = (past.taken.0, still_at w.pairs _ past.taken.0 _ past.taken.1); before = past.before };
  staged = subst (λ (o : Option ℕ). GoesWith o (counter_kept counter w)) (sym none) tt;
}

-- ---- what the words stand for

-- the view with another counter, and what the writer keeps of waits
abbrev pub with_waits : List Retirement → ℕ → WriterView → WriterView
with_waits pairs counter w = record w { pairs = pairs; counter = counter }

module _ (pairs : List Retirement) (counter : ℕ) (w : WriterView) where
  unpublished_counted : (a : AreaRef) → IsUnpublished w a → IsUnpublished (with_waits pairs counter w) a
  unpublished_counted a was = record { listed = was.listed; kept = was.kept }

  pub stands_counted : (names : List Mfa) (s : ServerState) (pools : Areas) → StandFor names s pools w → StandFor names s pools (with_waits pairs counter w)
  stands_counted names s pools stands = record {
    newest_is = stands.newest_is;
    numbered = stands.numbered;
    keys_once = stands.keys_once;
    knows = stands.knows;
    narrow = stands.narrow;
    bp = stands.bp;
    listed = stands.listed;
    stay = stands.stay;
    blocks = stands.blocks;
    placed = stands.placed;
    images = stands.images;
    words = record { retire = stands.words.retire; since = stands.words.since; free = stands.words.free; doom = stands.words.doom };
    dropped = stands.dropped;
  }

  pub placed_counted : (comes : List Incoming) (rest pools : Areas) (taken : List AreaRef) → ArePlaced comes rest pools w taken → ArePlaced comes rest pools (with_waits pairs counter w) taken
  placed_counted comes rest pools taken placed = record {
    few = placed.few;
    taken_are = placed.taken_are;
    pools_are = placed.pools_are;
    each = λ place i a comes at. let of = placed.each place i a comes at in record { small = of.small; first = of.first; last = of.last; room = of.room; unpublished = unpublished_counted a of.unpublished; written = of.written };
  }

  image_counted : (s : ServerState) (pools : Areas) (a : AreaRef) → HasImage s pools w a → HasImage s pools (with_waits pairs counter w) a
  image_counted s pools a has = record {
    words = has.words;
    of = has.of;
    stands = elim has.stands as (λ _. Among w.kept (record { area = a; words = has.words }) ⊎ IsFresh s pools (with_waits pairs counter w) a has.words) [
      | inl kept ↦ inl kept
      | inr comes ↦ inr (record {
        unpublished = unpublished_counted a comes.unpublished;
        live = comes.live;
        room = comes.room;
        functions = comes.functions;
        written = comes.written;
        undoomed = comes.undoomed;
        unheard = comes.unheard;
        unretired = comes.unretired;
        untraced = comes.untraced;
      })
    ];
  }

  pub comes_counted : (names : List Mfa) (s : ServerState) (pools : Areas) → AreOf pools (with_waits pairs counter w) → ComesNext names s pools w → ComesNext names s pools (with_waits pairs counter w)
  comes_counted names s pools owned next = record {
    sound = next.sound;
    numbered = next.numbered;
    keys_once = next.keys_once;
    narrow = next.narrow;
    owned = owned;
    blocks = next.blocks;
    placed = next.placed;
    images = λ a stands. image_counted s pools a (next.images a stands);
    kept = next.kept;
    apart = next.apart;
    words = record { retire = next.words.retire; since = next.words.since; free = next.words.free; doom = next.words.doom };
    dropped = next.dropped;
    bp = next.bp;
    knows = next.knows;
    stay = next.stay;
    lives = next.lives;
  }
