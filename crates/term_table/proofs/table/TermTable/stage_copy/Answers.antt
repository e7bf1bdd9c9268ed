-- The active table is loaded and built anew with the change, and stored where no thread reads it.
use Rattle.std.proofs.Common.{refl, sym, ap, subst, ◌∙◌}
use Rattle.progress_words.specs.Tokens.{written_by}
use Rattle.term_table.specs.Tables.{Terms}
use Rattle.term_table.specs.Staged.{IsWaiting}
use Rattle.term_table.proofs.StageCalls.{no_full_waits, no_full_staged, same_wait, call_fits, call_active, call_owned, call_built, call_few, call_full, call_room, call_counted, call_waits, call_free, call_staged, call_stands, call_owned_then}
use Rattle.term_table.proofs.table.TermTable.stage_copy.Goals as goal

pub load_table-held-requires-clause-table : goal.load_table-held-requires-clause-table
load_table-held-requires-clause-table g c =
    let root = c.newest_root-root in
    call_fits c.args.self.now (written_by c.args.writer.now) c.requires.owned (written_by root.new.writer) (written_by root.new.writer) root.ensures.view refl root.result root.ensures.root

pub load_table-held-requires-clause-active : goal.load_table-held-requires-clause-active
load_table-held-requires-clause-active g c =
    let root = c.newest_root-root in
    call_active c.args.self.now (written_by c.args.writer.now) c.requires.owned (written_by root.new.writer) (written_by root.new.writer) root.ensures.view refl root.result root.ensures.root

pub returns-then-is_full-clause-full : goal.returns-then-is_full-clause-full
returns-then-is_full-clause-full g c =
    let root = c.newest_root-root in
    let held = c.load_table-held in
    (λ _. call_full c.args.self.now (written_by c.args.writer.now) c.requires.owned (written_by root.new.writer) (written_by held.new.writer) root.ensures.view held.ensures.view root.result root.ensures.root held.result held.ensures.loaded c.args.change (sym c.is_full.ensures ∙ c.if-is_full.true), λ _. refl)

pub returns-then-is_full-clause-full_same : goal.returns-then-is_full-clause-full_same
returns-then-is_full-clause-full_same g c =
    let root = c.newest_root-root in
    λ _. c.load_table-held.ensures.view ∙ root.ensures.view

pub returns-then-is_full-clause-owned : goal.returns-then-is_full-clause-owned
returns-then-is_full-clause-owned g c =
    let root = c.newest_root-root in
    call_owned c.args.self.now (written_by c.args.writer.now) c.requires.owned (written_by root.new.writer) (written_by c.load_table-held.new.writer) root.ensures.view c.load_table-held.ensures.view root.result root.ensures.root

pub returns-in-Err-clause-full : goal.returns-in-Err-clause-full
returns-in-Err-clause-full g c =
    let root = c.newest_root-root in
    let held = c.load_table-held in (
      λ is. absurd (no_full_waits c.in-Err.answer is),
      λ both. absurd (call_room c.args.self.now (written_by c.args.writer.now) c.requires.owned (written_by root.new.writer) (written_by held.new.writer) root.ensures.view held.ensures.view root.result root.ensures.root held.result held.ensures.loaded c.args.change (sym c.is_full.ensures ∙ c.if-is_full.false) both),
    )

pub returns-in-Err-clause-not_yet : goal.returns-in-Err-clause-not_yet
returns-in-Err-clause-not_yet g c =
    let root = c.newest_root-root in
    let held = c.load_table-held in
    λ answer is. subst (IsWaiting c.args.self.now (written_by c.args.writer.now) (written_by c.reached.new.writer)) (same_wait c.in-Err.answer answer is)
    (call_waits c.args.self.now (written_by c.args.writer.now) c.requires.owned (written_by root.new.writer) (written_by held.new.writer) root.ensures.view held.ensures.view root.result root.ensures.root (written_by c.reached.new.writer) c.reached.ensures.loaded c.self.inside.needs (ap (λ (t : Terms). t.needs) c.self.view_is) c.in-Err.answer c.in-Err.ensures.below)

pub returns-in-Err-clause-owned : goal.returns-in-Err-clause-owned
returns-in-Err-clause-owned g c =
    let root = c.newest_root-root in
    let held = c.load_table-held in
    call_counted c.args.self.now (written_by c.args.writer.now) c.requires.owned (written_by root.new.writer) (written_by held.new.writer) root.ensures.view held.ensures.view root.result root.ensures.root (written_by c.reached.new.writer) c.reached.ensures.loaded

pub rebuilt-requires-clause-built : goal.rebuilt-requires-clause-built
rebuilt-requires-clause-built g c =
    let root = c.newest_root-root in
    let held = c.load_table-held in
    call_built c.args.self.now (written_by c.args.writer.now) c.requires.owned (written_by root.new.writer) (written_by held.new.writer) root.ensures.view held.ensures.view root.result root.ensures.root held.result held.ensures.loaded

pub rebuilt-requires-clause-few : goal.rebuilt-requires-clause-few
rebuilt-requires-clause-few g c =
    let root = c.newest_root-root in
    let held = c.load_table-held in
    call_few c.args.self.now (written_by c.args.writer.now) c.requires.owned (written_by root.new.writer) (written_by held.new.writer) root.ensures.view held.ensures.view root.result root.ensures.root held.result held.ensures.loaded

pub store_table-requires-clause-free : goal.store_table-requires-clause-free
store_table-requires-clause-free g c =
    let root = c.newest_root-root in
    let held = c.load_table-held in
    call_free c.args.self.now (written_by c.args.writer.now) c.requires.owned (written_by root.new.writer) (written_by held.new.writer) root.ensures.view held.ensures.view root.result root.ensures.root (written_by c.reached.new.writer) c.reached.ensures.loaded c.self.inside.needs (ap (λ (t : Terms). t.needs) c.self.view_is) c.in_default.ensures.ok

pub returns-clause-staged : goal.returns-clause-staged
returns-clause-staged g c =
    let root = c.newest_root-root in
    let held = c.load_table-held in
    call_staged c.args.self.now (written_by c.args.writer.now) c.requires.owned (written_by root.new.writer) (written_by held.new.writer) root.ensures.view held.ensures.view root.result root.ensures.root (written_by c.reached.new.writer) c.reached.ensures.loaded c.self.inside.needs (ap (λ (t : Terms). t.needs) c.self.view_is) c.in_default.ensures.ok
    c.args.change held.result c.rebuilt.result held.ensures.loaded c.rebuilt.ensures (sym c.is_full.ensures ∙ c.if-is_full.false) (written_by c.store_table.new.writer) c.store_table.ensures.stored

pub returns-clause-stands : goal.returns-clause-stands
returns-clause-stands g c =
    let root = c.newest_root-root in
    let held = c.load_table-held in
    call_stands c.args.self.now (written_by c.args.writer.now) c.requires.owned (written_by root.new.writer) (written_by held.new.writer) root.ensures.view held.ensures.view root.result root.ensures.root (written_by c.reached.new.writer) c.reached.ensures.loaded c.self.inside.needs (ap (λ (t : Terms). t.needs) c.self.view_is) c.in_default.ensures.ok
    c.args.change held.result c.rebuilt.result held.ensures.loaded c.rebuilt.ensures (sym c.is_full.ensures ∙ c.if-is_full.false) (written_by c.store_table.new.writer) c.store_table.ensures.stored

pub returns-clause-owned : goal.returns-clause-owned
returns-clause-owned g c =
    let root = c.newest_root-root in
    let held = c.load_table-held in
    call_owned_then c.args.self.now (written_by c.args.writer.now) c.requires.owned (written_by root.new.writer) (written_by held.new.writer) root.ensures.view held.ensures.view root.result root.ensures.root (written_by c.reached.new.writer) c.reached.ensures.loaded c.self.inside.needs (ap (λ (t : Terms). t.needs) c.self.view_is) c.in_default.ensures.ok
    c.args.change held.result c.rebuilt.result held.ensures.loaded c.rebuilt.ensures (sym c.is_full.ensures ∙ c.if-is_full.false) (written_by c.store_table.new.writer) c.store_table.ensures.stored

pub returns-clause-full : goal.returns-clause-full
returns-clause-full g c =
    let root = c.newest_root-root in
    let held = c.load_table-held in (
      λ is. absurd (no_full_staged is),
      λ both. absurd (call_room c.args.self.now (written_by c.args.writer.now) c.requires.owned (written_by root.new.writer) (written_by held.new.writer) root.ensures.view held.ensures.view root.result root.ensures.root held.result held.ensures.loaded c.args.change (sym c.is_full.ensures ∙ c.if-is_full.false) both),
    )
