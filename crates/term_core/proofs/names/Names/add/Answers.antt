-- What `add` answers, by the number that its set finds.
use Rattle.std.proofs.Common.{rules, ◌≡◌, None, length, ap, ◌∙◌, arith, subst}
use Rattle.term_core.specs.Names.{IsNames, number_of, names_with, set_texts}
use Rattle.term_core.proofs.NameTables.{AtomText-known, number_at, length-texts, Grows, grows}
use Rattle.term_core.proofs.Truths.{none_is_not_some}
use Rattle.term_core.proofs.names.Names.add.Goals as goal

-- a known text keeps its number, and the table stays
pub returns-in-Some-clause-ok : goal.returns-in-Some-clause-ok
returns-in-Some-clause-ok c =
    let found = number_at c.self.inside.texts c.args.self.now c.ascii_text-text.result.now c.args.text.now c.get_index_of.result c.self.view_is c.ascii_text-text.ensures c.get_index_of.ensures.index in
    AtomText-known c.args.self.now c.args.text.now c.in-Some.number (subst IsNames c.self.view_is c.self.invariant) c.requires (found ∙ c.in-Some.is)

-- and that is no fault, since it has one
pub returns-in-Some-clause-full : goal.returns-in-Some-clause-full
returns-in-Some-clause-full c =
    let found = number_at c.self.inside.texts c.args.self.now c.ascii_text-text.result.now c.args.text.now c.get_index_of.result c.self.view_is c.ascii_text-text.ensures c.get_index_of.ensures.index in
    (search rules, (λ full. absurd (none_is_not_some (number_of c.args.self.now c.args.text.now) c.in-Some.number full.0 (found ∙ c.in-Some.is))))

-- a new text has no number, and a table of 4,096 is full
pub returns-then-number-ge-MOST_NAMES-clause-full : goal.returns-then-number-ge-MOST_NAMES-clause-full
returns-then-number-ge-MOST_NAMES-clause-full c =
    let found = number_at c.self.inside.texts c.args.self.now c.ascii_text-text.result.now c.args.text.now c.get_index_of.result c.self.view_is c.ascii_text-text.ensures c.get_index_of.ensures.index in
    let none : number_of c.args.self.now c.args.text.now ≡ None = found ∙ c.in_default.is in
    let sound : IsNames c.args.self.now = subst IsNames c.self.view_is c.self.invariant in
    let held : length c.args.self.now ≡ 4096 = omega (arith, length-texts c.self.inside.texts c.args.self.now c.self.view_is, sound.room) in
    ((λ _. (none, held)), (λ _. search rules))

-- the set after the insertion is the table with the text named
growth : (c : goal.In_ok-insert_text) → Grows c.args.self.now c.args.text.now c.len-number.result (set_texts c.insert_text.new.texts)
growth c =
    let found = number_at c.self.inside.texts c.args.self.now c.ascii_text-text.result.now c.args.text.now c.get_index_of.result c.self.view_is c.ascii_text-text.ensures c.get_index_of.ensures.index in
    let after : set_texts c.insert_text.new.texts ≡ names_with c.args.self.now c.args.text.now = c.in_ok-insert_text.ensures.ok ∙ ap (λ names. names_with names c.ascii_text-text.result.now) c.self.view_is ∙ ap (names_with c.args.self.now) c.ascii_text-text.ensures in
    let held : c.len-number.result ≡ length c.args.self.now = c.len-number.ensures.len ∙ length-texts c.self.inside.texts c.args.self.now c.self.view_is in
    grows c.args.self.now c.args.text.now c.len-number.result (set_texts c.insert_text.new.texts) (subst IsNames c.self.view_is c.self.invariant) c.requires (found ∙ c.in_default.is) held c.if-number-ge-MOST_NAMES.false after

-- it is a table
pub invariant_of-self-2 : goal.invariant_of-self-2
invariant_of-self-2 c = (growth c).sound

-- the text has the next number
pub returns-clause-ok : goal.returns-clause-ok
returns-clause-ok c = (growth c).named

-- callers know that it is a table
pub returns-clause-sound : goal.returns-clause-sound
returns-clause-sound c = (growth c).sound
