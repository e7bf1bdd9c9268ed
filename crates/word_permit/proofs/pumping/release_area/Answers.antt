-- The server has released the area, and the words stand for it.
use Rattle.std.proofs.Common.{refl}
use Rattle.write_permit.specs.Book.{shown}
use Rattle.write_permit.proofs.BookKeeps.{book_released}
use Rattle.word_permit.proofs.Freed.{freed_book, has_freed, words_releasable}
use Rattle.word_permit.proofs.pumping.release_area.Goals as goal

pub release-requires-clause-may : goal.release-requires-clause-may
release-requires-clause-may g c =
    words_releasable g.K.Naming.names (shown c.args.book.now.plain) c.args.book.now.tables c.args.book.now.waiting c.args.serial c.clear_areas_are_releasable.ensures c.clear_areas_are_releasable_while_settling.ensures c.requires.book.words c.requires.waits c.requires.clear

pub returns-clause-book : goal.returns-clause-book
returns-clause-book g c =
    let freed = has_freed (shown c.args.book.now.plain) (shown c.make.new.book) c.args.serial c.in_ok-make.field-0 c.in_ok-make.ensures.ok c.requires.waits in
    let book = book_released c.args.book.now.plain c.make.new.book c.args.serial c.in_ok-make.field-0 c.requires.book.has.book c.in_ok-make.ensures.ok c.make.ensures.sound c.make.ensures.agrees in
    freed_book g.K.Naming.names _ _ c.args.book.now (record (c.args.book.now) { plain = c.make.new.book; tables = c.release.new.tables }) c.args.serial c.requires.book book freed c.release.ensures.tables c.release.ensures.exports c.release.ensures.drop
    refl refl refl c.decided_commands_stay.ensures c.changes_wait_for_releases.ensures c.release.ensures.stands c.release.ensures.stages c.release.ensures.settling
