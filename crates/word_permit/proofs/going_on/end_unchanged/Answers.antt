-- The change leaves the server, and its entry publishes nothing.
use Rattle.std.proofs.Common.{◌≤◌, ◌∷◌, [], ◌++◌, is_some, sym, ap, subst, ◌∙◌}
use Rattle.server_core.specs.declared.command.Applied.{Applied}
use Rattle.server_core.specs.CommandTable.{Outcome}
use Rattle.run_log.specs.declared.logs.Entry.{Entry}
use Rattle.write_permit.specs.Agreement.{new_modules}
use Rattle.write_permit.specs.Permit.{PermitState}
use Rattle.word_permit.specs.Books.{SpawnsNone, TellsNone}
use Rattle.word_permit.proofs.Answered.{goes_quiet, goes_spawnless}
use Rattle.word_permit.proofs.Ended.{can_follow, plain_done}
use Rattle.word_permit.proofs.Followed.{leaves_state}
use Rattle.word_permit.proofs.going_on.end_unchanged.Goals as goal

pub after_next-after-requires-clause-next : goal.after_next-after-requires-clause-next
after_next-after-requires-clause-next c = ap is_some c.requires.decided.next

pub finish_change-requires-clause-can : goal.finish_change-requires-clause-can
finish_change-requires-clause-can c =
    can_follow c.args.book.now c.requires.book c.args.who c.args.decision c.requires.holds c.requires.decided c.take_room.new.modules c.take_room.ensures.table (subst (λ (e : Entry). new_modules e.cmd ≤ c.take_room.new.modules.room) c.entry_of-entry.ensures c.in_ok-take_room.ensures.room) c.take_room.new.journal
    (c.in_ok-take_room.ensures.ok ∙ ap (λ (e : Entry). c.args.book.now.journal ++ e ∷ []) c.entry_of-entry.ensures)

pub returns-clause-ok : goal.returns-clause-ok
returns-clause-ok c =
    let d =
    plain_done c.args.book.now c.requires.book c.args.who c.args.decision c.requires.holds c.requires.decided c.take_room.new.modules c.take_room.ensures.table (subst (λ (e : Entry). new_modules e.cmd ≤ c.take_room.new.modules.room) c.entry_of-entry.ensures c.in_ok-take_room.ensures.room) c.take_room.new.journal
    (c.in_ok-take_room.ensures.ok ∙ ap (λ (e : Entry). c.args.book.now.journal ++ e ∷ []) c.entry_of-entry.ensures) c.finish_change.new.book c.after_next-after.result c.finish_change.result c.finish_change.ensures c.after_next-after.ensures.counted in
    d.ended

pub returns-clause-book : goal.returns-clause-book
returns-clause-book c =
    let d =
    plain_done c.args.book.now c.requires.book c.args.who c.args.decision c.requires.holds c.requires.decided c.take_room.new.modules c.take_room.ensures.table (subst (λ (e : Entry). new_modules e.cmd ≤ c.take_room.new.modules.room) c.entry_of-entry.ensures c.in_ok-take_room.ensures.room) c.take_room.new.journal
    (c.in_ok-take_room.ensures.ok ∙ ap (λ (e : Entry). c.args.book.now.journal ++ e ∷ []) c.entry_of-entry.ensures) c.finish_change.new.book c.after_next-after.result c.finish_change.result c.finish_change.ensures c.after_next-after.ensures.counted in
    d.book

pub returns-clause-free : goal.returns-clause-free
returns-clause-free c = ap (λ (x : PermitState). x.holder) c.finish_change.ensures.state

pub returns-clause-server : goal.returns-clause-server
returns-clause-server c =
    let l = leaves_state c.args.book.now.server c.args.decision.change c.requires.unchanged in
    ap (λ (o : Outcome). o.state) (sym c.finish_change.ensures.made_is) ∙ l.state

pub returns-clause-journal : goal.returns-clause-journal
returns-clause-journal c =
    let l = leaves_state c.args.book.now.server c.args.decision.change c.requires.unchanged in (
      c.entry_of-entry.result,
      (
        ap (λ (x : PermitState). x.journal) c.finish_change.ensures.state ∙ c.in_ok-take_room.ensures.ok,
        (
          ap (λ (e : Entry). e.published) c.entry_of-entry.ensures ∙ ap (λ (a : Applied). a.published) (sym c.requires.decided.answer) ∙ l.published,
          (
            subst TellsNone (sym (ap (λ (e : Entry). e.cmd) c.entry_of-entry.ensures ∙ c.requires.decided.cmd_is)) (goes_quiet c.args.book.now.server c.requires.decided.command c.requires.decided.goes),
            subst SpawnsNone (sym (ap (λ (e : Entry). e.cmd) c.entry_of-entry.ensures ∙ c.requires.decided.cmd_is)) (goes_spawnless c.args.book.now.server c.requires.decided.command c.requires.decided.goes),
          ),
        ),
      ),
    )
