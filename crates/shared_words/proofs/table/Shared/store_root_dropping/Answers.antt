use Rattle.std.proofs.Common.{◌+◌, [], ◌∷◌, length-append, refl, ap, ◌∙◌, arith}
use Rattle.marks.specs.declared.kept.LookKind.TheVariants.{Frame}
use Rattle.shared_words.specs.Seats.{writer_of}
use Rattle.shared_words.specs.Publishing.{with_next}
use Rattle.shared_words.specs.Drops.{drop_of, with_drop}
use Rattle.shared_words.proofs.WriterSeats.{writer_seat_next}
use Rattle.shared_words.proofs.table.Shared.store_root_dropping.Goals as goal

-- the token knows its newest generation
pub returns-clause-token : goal.returns-clause-token
returns-clause-token g c =
    let w = writer_of c.args.writer.now.seat.me.0 in
    writer_seat_next _ _ _ _ c.args.writer.now.seat c.root_at.new.writer (with_drop (drop_of w Frame c.args.area.serial) (with_next g.M.Next.next w)) c.requires.token
    c.root_at.ensures.token
    c.root_at.ensures.view
    (length-append w.published (g.M.Next.next ∷ []) ∙ ap (λ n. n + 1) c.requires.token.published)
    refl
    (omega arith)
