-- A look that was clear leaves what was waited for; behind one that was not the counter is loaded.
use Rattle.std.proofs.Common.{◌≡◌, ap, ◌∙◌}
use Rattle.progress_words.specs.Tokens.{written_by}
use Rattle.run_log.proofs.SpanRuns.{some_at}
use Rattle.write_permit.specs.declared.book.Book.{Book}
use Rattle.word_permit.specs.Pumped.{asked_behind}
use Rattle.word_permit.proofs.AreaLooks.{named_loaded}
use Rattle.word_permit.proofs.PumpedThrough.{none_twice, released_through}
use Rattle.word_permit.proofs.pumping.look_for.Goals as goal

pub returns-in_ok-release_area-in-Clear-clause-ok : goal.returns-in_ok-release_area-in-Clear-clause-ok
returns-in_ok-release_area-in-Clear-clause-ok g c =
    released_through c.args.book.now c.look_through.new.book c.release_area.new.book c.in-Clear.ensures.none_released c.in-Clear.ensures.plain c.args.serial c.in_ok-release_area-in-Clear.ensures.ok

pub returns-in-Named-clause-ok : goal.returns-in-Named-clause-ok
returns-in-Named-clause-ok g c =
    let a = c.in-Named.ensures.none_released in
    let b = c.take_need.ensures.none_released in (
      none_twice c.args.book.now c.look_through.new.book c.take_need.new.book a b,
      (
        c.requires.waits,
        (
          named_loaded c.args.serial (written_by c.args.book.now.tables.writer) (written_by c.look_through.new.book.tables.writer) (written_by c.take_need.new.book.tables.writer) c.in-Named.process c.in-Named.turn c.in-Named.place c.in-Named.word
              c.take_need.ensures.looks c.take_need.ensures.known.waits c.take_need.ensures.counter b.published c.in-Named.ensures.found,
          some_at c.take_need.new.book.need (λ n. n.serial ≡ asked_behind c.args.book.now.plain.server.retired c.args.serial) c.take_need.result c.take_need.ensures.kept
              (c.take_need.ensures.serial ∙ c.next_behind-next.ensures.next ∙ ap (λ (p : Book). asked_behind p.server.retired c.args.serial) c.in-Named.ensures.plain),
        ),
      ),
    )
