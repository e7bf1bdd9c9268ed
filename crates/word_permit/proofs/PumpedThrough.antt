-- What a call that pumps says of the book before it, where the counter or slots were looked at first.
use Rattle.std.proofs.Common.{◌≡◌, ℕ, [], Some, IsTrue, IsSomeAnd, IfOk, Result, Ok, Err, sym, subst, ◌∙◌, arith}
use Rattle.term_core.specs.declared.no_memory.NoMemory.{NoMemory}
use Rattle.progress_words.specs.Tokens.{written_by}
use Rattle.server_core.specs.ServerState.{is_retired}
use Rattle.breakpoints.specs.Patches.{LoadsCounter}
use Rattle.staging.specs.declared.tables.Tables.{Tables}
use Rattle.staging.specs.Released.{IsStagedStill}
use Rattle.write_permit.specs.declared.book.Book.{Book}
use Rattle.write_permit.specs.Book.{shown}
use Rattle.write_permit.specs.Permit.{released_by}
use Rattle.word_permit.specs.declared.answers.Pumped.{Pumped}
use Rattle.word_permit.specs.declared.answers.Pumped.TheVariants.{Released, NotYet, Named, Nothing}
use Rattle.word_permit.specs.declared.book.AreaNeed.{AreaNeed}
use Rattle.word_permit.specs.declared.book.WordBook.{WordBook}
use Rattle.word_permit.specs.Looks.{KeepsLooks}
use Rattle.word_permit.specs.Pumped.{HasReleased, PumpAnswers, ReleasesNone, asked_behind}
use Rattle.word_permit.proofs.AreaLooks.{named_since}

staged_both : (a b c : Tables) → IsStagedStill a b → IsStagedStill b c → IsStagedStill a c
staged_both a b c x y = record { index = y.index ∙ x.index; terms = y.terms ∙ x.terms; patch = y.patch ∙ x.patch }

-- twice nothing is released
pub none_twice : (a b c : WordBook) → ReleasesNone a b → ReleasesNone b c → ReleasesNone a c
none_twice a b c x y = record {
  same = y.same ∙ x.same;
  pools = y.pools ∙ x.pools;
  published = y.published ∙ x.published;
  staged = staged_both a.tables b.tables c.tables x.staged y.staged;
  waiting = y.waiting ∙ x.waiting;
  look = y.look ∙ x.look;
}

module _ (b m c : WordBook) (first : ReleasesNone b m) (same : m.plain ≡ b.plain) where
  still_retired : (serial : ℕ) → IsTrue (is_retired m.plain.server serial) → IsTrue (is_retired b.plain.server serial)
  still_retired serial h = subst (λ (p : Book). IsTrue (is_retired p.server serial)) same h

  -- an area is released
  pub released_through : (serial : ℕ) → HasReleased serial m c → HasReleased serial b c
  released_through serial h = record {
    waited = still_retired serial h.waited;
    step = subst (λ (p : Book). released_by (shown p) serial ≡ Some (shown c.plain)) same h.step;
    published = h.published ∙ first.published;
    staged = staged_both b.tables m.tables c.tables first.staged h.staged;
    waiting = h.waiting ∙ first.waiting;
    look = h.look ∙ first.look;
  }

  module _ (loads : LoadsCounter (written_by b.tables.writer) (written_by m.tables.writer)) (need : (before : AreaNeed) → b.need ≡ Some before → IsTrue (is_retired b.plain.server before.serial) → m.need ≡ Some before)
      (looks : KeepsLooks (written_by b.tables.writer) (written_by m.tables.writer)) where
    pumped_through : (answer : Pumped) → PumpAnswers m c answer → PumpAnswers b c answer
    pumped_through (Released serial) h = released_through serial h
    pumped_through (NotYet answer) h = let more = h.1.below.loads in (
      none_twice b m c first h.0,
      record {
        need = h.1.need;
        kept = h.1.kept;
        waits = still_retired h.1.need.serial h.1.waits;
        taken = h.1.taken;
        same = λ (before : AreaNeed) was waits. h.1.same before (need before was waits) (subst (λ (p : Book). IsTrue (is_retired p.server before.serial)) (sym same) waits);
        value = h.1.value;
        below = record { loads = omega (arith, loads, more); loaded = h.1.below.loaded; below = h.1.below.below };
      },
    )
    pumped_through (Named serial process turn place word) h = (
      none_twice b m c first h.0,
      (
        still_retired serial h.1.0,
        (named_since serial (written_by b.tables.writer) (written_by m.tables.writer) (written_by c.tables.writer) process turn place word looks h.1.1.0, subst (λ (p : Book). IsSomeAnd c.need (λ n. n.serial ≡ asked_behind p.server.retired serial)) same h.1.1.1),
      ),
    )
    pumped_through Nothing h = (none_twice b m c first h.0, subst (λ (p : Book). p.server.retired ≡ []) same h.1)

    pub pump_through : (r : Result Pumped NoMemory) → IfOk r (PumpAnswers m c) → IfOk r (PumpAnswers b c)
    pump_through (Ok answer) h = pumped_through answer h
    pump_through (Err fault) h = tt
