-- The look-up ends at an empty bucket or at that of the key, in one table.
use Rattle.std.proofs.Common.{◌≡◌, ◌↔◌, ℕ, ◌/◌, ◌%◌, refl, sym, ap, subst, ◌∙◌, arith}
use Rattle.term_core.specs.declared.area.Found.{Found}
use Rattle.term_core.specs.declared.area.Found.TheVariants as founds
use Rattle.progress_words.specs.Tokens.{view_of}
use Rattle.term_table.specs.Keys.{IsHeld, Lacks}
use Rattle.term_table.proofs.Lookups.{may_read_rooted, looks_none, same_on, looks_more, ends_all, may_mid, read_mid, ends_empty, read_next, ends_found, absent_not, answered}
use Rattle.term_table.proofs.looking.lookup.Goals as goal
use Rattle.shared_words.specs.Processes.{held_by_view}

pub loop-tried-init : goal.loop-tried-init
loop-tried-init g c = looks_none _ _ c.args.key.0 c.args.member.now c.requires.token
    (may_read_rooted c.args.member.now.root _ (view_of c.args.member.now) c.requires.awake c.requires.rooted (c.table_of-table.ensures ∙ ap (λ (n : ℕ). n / 8 % 4) (c.root.ensures ∙ sym c.requires.rooted.held)))

pub read_at-held-requires-clause-may : goal.read_at-held-requires-clause-may
read_at-held-requires-clause-may g c = c.loop-tried.invariant.may

pub returns-then-held-eq0-clause-read : goal.returns-then-held-eq0-clause-read
returns-then-held-eq0-clause-read g c = read_mid _ _ c.args.key.0 c.loop-tried.tried c.args.member.now c.loop-tried.member c.loop-tried.invariant c.read_at-held.result c.read_at-held.new.member c.read_at-held.ensures.read c.loop-tried-test.true

pub returns-then-held-eq0-clause-held : goal.returns-then-held-eq0-clause-held
returns-then-held-eq0-clause-held g c = λ _. ends_empty _ _ c.args.key.0 c.loop-tried.tried c.args.member.now c.loop-tried.member c.loop-tried.invariant c.read_at-held.result c.read_at-held.new.member c.read_at-held.ensures.read c.loop-tried-test.true c.if-held-eq0.true

pub returns-then-held-eq0-clause-absent : goal.returns-then-held-eq0-clause-absent
returns-then-held-eq0-clause-absent g c = (λ _. ends_empty _ _ c.args.key.0 c.loop-tried.tried c.args.member.now c.loop-tried.member c.loop-tried.invariant c.read_at-held.result c.read_at-held.new.member c.read_at-held.ensures.read c.loop-tried-test.true c.if-held-eq0.true, λ _. refl)

pub read_at-requires-clause-token : goal.read_at-requires-clause-token
read_at-requires-clause-token g c = c.read_at-held.ensures.token

pub read_at-requires-clause-may : goal.read_at-requires-clause-may
read_at-requires-clause-may g c = may_mid _ _ c.args.key.0 c.loop-tried.tried c.args.member.now c.loop-tried.member c.loop-tried.invariant c.read_at-held.result c.read_at-held.new.member c.read_at-held.ensures.read c.loop-tried-test.true

pub returns-then-held-from-clause-same : goal.returns-then-held-from-clause-same
returns-then-held-from-clause-same g c = same_on _ _ _ (same_on _ _ _ c.loop-tried.invariant.same c.read_at-held.ensures.same) c.read_at.ensures.same

pub returns-then-held-from-clause-root : goal.returns-then-held-from-clause-root
returns-then-held-from-clause-root g c = c.read_at.ensures.root ∙ c.read_at-held.ensures.root ∙ c.loop-tried.invariant.root

pub returns-then-held-from-clause-read : goal.returns-then-held-from-clause-read
returns-then-held-from-clause-read g c = read_next _ _ c.args.key.0 c.loop-tried.tried c.args.member.now c.loop-tried.member c.loop-tried.invariant c.read_at-held.result c.read_at-held.new.member c.read_at-held.ensures.read c.loop-tried-test.true c.read_at.result c.read_at.new.member c.read_at.ensures.read

pub returns-then-held-from-clause-held : goal.returns-then-held-from-clause-held
returns-then-held-from-clause-held g c = λ plain. subst (IsHeld (held_by_view (view_of c.args.member.now)) c.args.key.0) (sym c.found_word.ensures)
    (answered (held_by_view (view_of c.args.member.now)) c.args.key.0 c.read_at.result (ends_found _ _ c.args.key.0 c.loop-tried.tried c.args.member.now c.loop-tried.member c.loop-tried.invariant c.read_at-held.result c.read_at-held.new.member c.read_at-held.ensures.read c.loop-tried-test.true c.read_at.result c.read_at.new.member c.read_at.ensures.read
    (let word = c.from.ensures in let test = c.if-held-from.true in omega (arith, word, test))) plain)

pub returns-then-held-from-clause-absent : goal.returns-then-held-from-clause-absent
returns-then-held-from-clause-absent g c = subst (λ (r : Found). (r ≡ founds.Absent) ↔ Lacks (held_by_view (view_of c.args.member.now)) c.args.key.0) (sym c.found_word.ensures)
    (absent_not (held_by_view (view_of c.args.member.now)) c.args.key.0 c.read_at.result (ends_found _ _ c.args.key.0 c.loop-tried.tried c.args.member.now c.loop-tried.member c.loop-tried.invariant c.read_at-held.result c.read_at-held.new.member c.read_at-held.ensures.read c.loop-tried-test.true c.read_at.result c.read_at.new.member c.read_at.ensures.read
    (let word = c.from.ensures in let test = c.if-held-from.true in omega (arith, word, test))))

pub loop-tried-preserved : goal.loop-tried-preserved
loop-tried-preserved g c = looks_more _ _ c.args.key.0 c.loop-tried.tried c.read_at-held.result c.args.member.now c.loop-tried.member c.read_at-held.new.member c.loop-tried.invariant c.read_at-held.ensures.token c.read_at-held.ensures.same c.read_at-held.ensures.root c.read_at-held.ensures.read
    c.if-held-eq0.false (λ same. let word = c.from.ensures in let test = c.if-held-from.false in omega (arith, word, test, same))

pub returns-clause-held : goal.returns-clause-held
returns-clause-held g c = λ _. ends_all _ _ c.args.key.0 c.loop-tried.tried c.args.member.now c.loop-tried.member c.loop-tried.invariant (let most = c.loop-tried.auto.tried-end in let over = c.loop-tried-test.false in omega (arith, most, over))

pub returns-clause-absent : goal.returns-clause-absent
returns-clause-absent g c = (λ _. ends_all _ _ c.args.key.0 c.loop-tried.tried c.args.member.now c.loop-tried.member c.loop-tried.invariant (let most = c.loop-tried.auto.tried-end in let over = c.loop-tried-test.false in omega (arith, most, over)), λ _. refl)
