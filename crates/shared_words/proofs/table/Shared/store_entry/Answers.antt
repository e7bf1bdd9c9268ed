use Rattle.std.proofs.Common.{◌≡◌, ◌∙◌, refl, ap, arith}
use Rattle.area_core.specs.declared.map.TheConstants.{TABLE_WORDS}
use Rattle.shared_words.specs.Seats.{writer_of}
use Rattle.shared_words.specs.Publishing.{with_word}
use Rattle.shared_words.specs.declared.view.View.TheVariants.{Writer}
use Rattle.shared_words.proofs.EntryStores.{in_big, store_entry_is_allowed}
use Rattle.shared_words.proofs.WriterSeats.{writer_seat_next}
use Rattle.shared_words.proofs.table.Shared.store_entry.Goals as goal

-- the function is one of an instance
pub entry_place-place-requires : goal.entry_place-place-requires
entry_place-place-requires g c = record { big = in_big (writer_of c.args.writer.now.seat.me.0) c.args.at c.args.on c.requires.may; few = c.requires.may.few }

-- the store is one that the rule allows
pub store-requires : goal.store-requires
store-requires g c = (
  c.requires.token.of_table.same_table,
  (let there = c.entry_place-place.ensures.there in let size : c.args.self.now.table.shared.table_id.words ≡ TABLE_WORDS = c.args.self.now.sized in omega (arith, there, size)),
  store_entry_is_allowed g.N.Served.served _ _ _ c.entry_place-place.result c.entry_word.result c.args.at c.args.on _ c.entry_place-place.ensures.place c.entry_word.ensures c.requires.token.view c.requires.may,
)

-- it is the word of the function
pub returns-clause-view : goal.returns-clause-view
returns-clause-view g c =
    let w = writer_of c.args.writer.now.seat.me.0 in
    let place = c.entry_place-place.ensures.place in
    let value = c.entry_word.ensures in
    ap (λ m. m.0) c.store.ensures.2 ∙ (λ i. Writer (with_word (place i) (value i) w))

-- the token is the writer's
pub returns-clause-token : goal.returns-clause-token
returns-clause-token g c =
    let w = writer_of c.args.writer.now.seat.me.0 in
    writer_seat_next _ _ _ _ c.args.writer.now.seat _ (with_word c.entry_place-place.result c.entry_word.result w) c.requires.token
    (record { same_table = c.store.ensures.0; same_number = c.store.ensures.1; same_slots = ap (λ m. m.1) c.store.ensures.2 })
    (ap (λ m. m.0) c.store.ensures.2)
    c.requires.token.published
    refl
    (omega arith)
