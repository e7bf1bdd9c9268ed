use Rattle.std.proofs.Common.{◌≡◌, ℕ, List, length, sym, ap, subst, ◌∙◌, arith}
use Rattle.area_core.specs.declared.map.TheConstants.{TABLE_WORDS}
use Rattle.area_core.specs.declared.table.Published.{Published}
use Rattle.shared_words.specs.declared.view.WriterView.{WriterView}
use Rattle.shared_words.specs.Seats.{member_of, watcher_of, writer_of}
use Rattle.shared_words.specs.Closing.{AreAllMembers, HasAllMembers, HaveMarks}
use Rattle.shared_words.specs.Rule.{IsBeginning}
use Rattle.shared_words.proofs.MemberJoins.{see_members_is_allowed}
use Rattle.shared_words.proofs.SeatsTaken.{all_since, each_begins, each_marked}
use Rattle.shared_words.proofs.closing.close.Goals as goal

-- the writer keeps as many members while the watchers come in
pub take_in_all-requires-clause-members : goal.take_in_all-requires-clause-members
take_in_all-requires-clause-members g c =
    subst (λ (n : ℕ). AreAllMembers c.args.shared.table.shared.table_id n c.args.parts.members.items)
    (sym (ap (λ (w : WriterView). length w.members) c.take_in_all_watchers.ensures.watchers.same ∙ c.requires.token.made)) c.requires.members

-- the last load is one that the rule allows
pub load-requires : goal.load-requires
load-requires g c = (
  c.take_in_all.ensures.token.same_table ∙ c.take_in_all_watchers.ensures.token.same_table ∙ c.requires.token.of_table.same_table,
  (let size : c.args.shared.table.shared.table_id.words ≡ TABLE_WORDS = c.args.shared.sized in omega arith),
  see_members_is_allowed g.N.Served.served _ _ _ _ c.take_in_all.ensures.view,
)

-- what each member had learnt was published
pub returns-clause-seen : goal.returns-clause-seen
returns-clause-seen g c = λ k token at.
    subst (λ (w : WriterView). IsBeginning (member_of token.seat.me.0).seen w.published) (sym (ap writer_of c.in_ok-words.ensures.view ∙ ap (λ m. writer_of m.0) c.load.ensures.2.same))
    (each_begins _ _ _ c.take_in_all.ensures.members (c.load.ensures.2.known _ c.take_in_all.ensures.view) k token at)

-- what is known of the processes of each member
pub returns-clause-marks : goal.returns-clause-marks
returns-clause-marks g c =
    subst (λ (w : WriterView). HaveMarks c.args.parts.members.items w) (sym (ap writer_of c.in_ok-words.ensures.view ∙ ap (λ m. writer_of m.0) c.load.ensures.2.same))
    (each_marked _ _ _ c.take_in_all.ensures.members (c.requires.members.all ∙ sym c.requires.token.made ∙ sym (ap (λ (w : WriterView). length w.members) c.take_in_all_watchers.ensures.watchers.same)) (c.load.ensures.2.marked _ c.take_in_all.ensures.view))

-- the writer's seat is of the same table
pub returns-clause-table : goal.returns-clause-table
returns-clause-table g c = c.in_ok-words.ensures.table ∙ c.load.ensures.0 ∙ c.take_in_all.ensures.token.same_table ∙ c.take_in_all_watchers.ensures.token.same_table ∙ c.requires.token.of_table.same_table

-- what the writer knows of the members, and what it knew
pub returns-clause-members : goal.returns-clause-members
returns-clause-members g c =
    subst (λ (w : WriterView). HasAllMembers c.args.parts.members.items (writer_of c.args.parts.writer.seat.me.0) w) (sym (ap writer_of c.in_ok-words.ensures.view ∙ ap (λ m. writer_of m.0) c.load.ensures.2.same))
    (all_since _ _ _ _ c.take_in_all_watchers.ensures.watchers.same c.take_in_all.ensures.members)

-- what each watcher had learnt of was published
pub returns-clause-watched : goal.returns-clause-watched
returns-clause-watched g c = λ k token at.
    subst (λ (w : WriterView). IsBeginning (watcher_of token.seat.me.0).seen w.published)
    (sym (ap writer_of c.in_ok-words.ensures.view ∙ ap (λ m. writer_of m.0) c.load.ensures.2.same))
    (subst (λ (xs : List Published). IsBeginning (watcher_of token.seat.me.0).seen xs) (sym (ap (λ (w : WriterView). w.published) c.take_in_all.ensures.members.same))
    (c.take_in_all_watchers.ensures.watchers.learnt k token at))
