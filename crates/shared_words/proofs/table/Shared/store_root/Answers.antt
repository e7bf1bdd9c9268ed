use Rattle.std.proofs.Common.{◌≡◌, ◌+◌, [], ◌∷◌, length-append, refl, ap, ◌∙◌, arith}
use Rattle.area_core.specs.declared.map.TheConstants.{TABLE_WORDS}
use Rattle.shared_words.specs.Seats.{writer_of}
use Rattle.shared_words.specs.Publishing.{with_next}
use Rattle.shared_words.proofs.RootStores.{store_root_is_allowed}
use Rattle.shared_words.proofs.WriterSeats.{writer_seat_next}
use Rattle.shared_words.proofs.table.Shared.store_root.Goals as goal

-- the store is one that the rule allows
pub store-requires : goal.store-requires
store-requires g c = (
  c.requires.token.of_table.same_table,
  (let size : c.args.self.now.table.shared.table_id.words ≡ TABLE_WORDS = c.args.self.now.sized in omega arith),
  store_root_is_allowed g.N.Served.served _ _ _ c.args.code c.args.bp c.args.term c.args.writer.now.generation c.root_word-root.result g.M.Next.next _ c.root_word-root.ensures c.requires.token.view c.requires.root c.requires.token.published c.requires.may,
)

-- the token knows its newest generation
pub returns-clause-token : goal.returns-clause-token
returns-clause-token g c =
    let w = writer_of c.args.writer.now.seat.me.0 in
    writer_seat_next _ _ _ _ c.args.writer.now.seat _ (with_next g.M.Next.next w) c.requires.token
    (record { same_table = c.store.ensures.0; same_number = c.store.ensures.1; same_slots = ap (λ m. m.1) c.store.ensures.2 })
    (ap (λ m. m.0) c.store.ensures.2)
    (length-append w.published (g.M.Next.next ∷ []) ∙ ap (λ n. n + 1) c.requires.token.published)
    refl
    (omega arith)
