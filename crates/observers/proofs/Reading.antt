-- What a load leaves of a watcher's token, and what stays true of it.
use Rattle.std.proofs.Common.{◌≡◌, ℕ, List, Option, Some, refl, sym, ap, subst, ◌∙◌}
use Rattle.std.specs.Prelude.{unwrap_or}
use Rattle.atomic_table.specs.Seated.{TableId}
use Rattle.term_core.specs.declared.atom.Mfa.{Mfa}
use Rattle.shared_words.specs.declared.seats.Watcher as watching
use Rattle.shared_words.specs.declared.view.View.{View}
use Rattle.shared_words.specs.declared.view.View.TheVariants.{Watcher}
use Rattle.shared_words.specs.declared.view.WatcherView.{WatcherView}
use Rattle.shared_words.specs.Publishing.{with_watched_word, word_found}
use Rattle.shared_words.specs.Seats.{IsSameSeat, IsWatcherSeat, SeatPlace, counts_held, watcher_of}
use Rattle.progress_words.specs.Tokens.{watched_by}
use Rattle.word_view.specs.Loaded.{IsReadAt, IsWordThere}
use Rattle.observers.specs.Watching.{HasRead, HoldsServed, IsReading, as_member, held_by_watching}

-- ---- one load

pub token_read : (table : TableId) (holds after : ℕ) (old new : SeatPlace) (word found : ℕ) → IsWatcherSeat table holds old → IsSameSeat old new → after ≡ holds → new.me.0 ≡ word_found word found old.me.0 → IsWatcherSeat table after new
token_read table holds after old new word found h same counted view =
    let is : new.me.0 ≡ Watcher (with_watched_word word found (watcher_of old.me.0)) = view ∙ ap (word_found word found) h.view in
    record {
      of_table = record { same_table = same.same_table ∙ h.of_table.same_table; no_slots = same.same_slots ∙ h.of_table.no_slots };
      view = is ∙ sym (ap (λ (v : View). Watcher (watcher_of v)) is);
      counted = counted ∙ h.counted ∙ sym (ap (λ (v : View). counts_held (watcher_of v)) is);
    }

pub read_one : (table : TableId) (old new : watching.Watcher) (word found : ℕ) → IsWatcherSeat table old.holds old.seat → IsSameSeat old.seat new.seat → ◌≡◌ {A = Option ℕ} (Some new.root) (Some old.root) → new.seat.me.0 ≡ word_found word found old.seat.me.0 → HasRead old new
read_one table old new word found h same rooted view = record {
  seat = same;
  root = ap (λ (o : Option ℕ). unwrap_or o 0) rooted;
  blocks = (with_watched_word word found (watched_by old)).blocks;
  view = ap watcher_of (view ∙ ap (word_found word found) h.view);
}

-- none, and some words and then some more
pub read_none : (a : watching.Watcher) → HasRead a a
read_none a = record {
  seat = record { same_table = refl; same_number = refl; same_slots = refl };
  root = refl;
  blocks = (watched_by a).blocks;
  view = refl;
}

pub read_more : (a b c : watching.Watcher) → HasRead a b → HasRead b c → HasRead a c
read_more a b c first second = record {
  seat = record {
    same_table = second.seat.same_table ∙ first.seat.same_table;
    same_number = second.seat.same_number ∙ first.seat.same_number;
    same_slots = second.seat.same_slots ∙ first.seat.same_slots;
  };
  root = second.root ∙ first.root;
  blocks = second.blocks;
  view = second.view ∙ ap (λ (v : WatcherView). record v { blocks = second.blocks }) first.view;
}

-- ---- what stays true over loads

module _ (a b : watching.Watcher) (read : HasRead a b) where
  -- the watcher holds what it held
  pub held_still : held_by_watching (watched_by b) ≡ held_by_watching (watched_by a)
  held_still = ap held_by_watching read.view

  pub reading_still : IsReading a.root (watched_by a) → IsReading b.root (watched_by b)
  reading_still h =
      subst (λ (z : ℕ × WatcherView). IsReading z.0 z.1) (λ i. (sym read.root i, sym read.view i))
      (record {
        delaying = record { claimed = h.delaying.claimed; holds = h.delaying.holds };
        rooted = record { holds = h.rooted.holds; learnt = h.rooted.learnt; fits = h.rooted.fits; held = h.rooted.held };
      })

  pub served_still : (names : List Mfa) → HoldsServed names (watched_by a) → HoldsServed names (watched_by b)
  served_still names h = subst (HoldsServed names) (sym read.view) (record { served = h.served; areas = h.areas })

  -- a word that might be read may be read
  pub read_at_still : (block at : ℕ) → IsReadAt (as_member (watched_by a)) block at → IsReadAt (as_member (watched_by b)) block at
  read_at_still block at r =
      subst (λ (v : WatcherView). IsReadAt (as_member v) block at) (sym read.view) (record { area = r.area; words = r.words; may = r.may; stands = r.stands; once = r.once; block_is = r.block_is; within = r.within })

  -- and what was found there then is what was there
  pub there_back : (block at found : ℕ) → IsWordThere (as_member (watched_by b)) block at found → IsWordThere (as_member (watched_by a)) block at found
  there_back block at found there r =
      let moved : IsWordThere (as_member (record (watched_by a) { blocks = read.blocks })) block at found = subst (λ (v : WatcherView). IsWordThere (as_member v) block at found) read.view there in
      moved (record { area = r.area; words = r.words; may = r.may; stands = r.stands; once = r.once; block_is = r.block_is; within = r.within })
