-- What `add` answers, by the number that its set finds.
use Rattle.std.proofs.Common.{rules, ◌≡◌, Ok, length, map, sym, ap, ◌∙◌, arith, subst}
use Rattle.std.proofs.lemmas.List.{length-map}
use Rattle.term_core.proofs.Truths.{none_is_not_some}
use Rattle.export_table.specs.FunctionKeys.{name_of_key}
use Rattle.export_table.specs.Exports.{AreEntries, entry_of, exports_with}
use Rattle.export_table.proofs.Entries.{found_at, key_added, entries_with, entry_added, entry_held, one_number}
use Rattle.export_table.proofs.table.ExportTable.add.Goals as goal

-- a name that is held keeps its number
pub returns-in-Some-clause-ok : goal.returns-in-Some-clause-ok
returns-in-Some-clause-ok c =
    let found = found_at c.self.inside.keys.keys c.function_key-key.result c.args.self.now c.args.to c.get_index_of.result c.get_index_of.ensures.index c.self.view_is c.function_key-key.ensures in
    entry_held c.args.self.now c.args.to c.in-Some.number (found ∙ c.in-Some.is) (omega (arith, c.in-Some.ensures.within, length-map c.self.inside.keys.keys name_of_key, c.self.invariant.room))

pub returns-in-Some-clause-known : goal.returns-in-Some-clause-known
returns-in-Some-clause-known c = λ number at.
    let found = found_at c.self.inside.keys.keys c.function_key-key.result c.args.self.now c.args.to c.get_index_of.result c.get_index_of.ensures.index c.self.view_is c.function_key-key.ensures in
    ap Ok (one_number c.args.self.now c.args.to c.in-Some.number number (found ∙ c.in-Some.is) at)

pub returns-in-Some-clause-full : goal.returns-in-Some-clause-full
returns-in-Some-clause-full c =
    let found = found_at c.self.inside.keys.keys c.function_key-key.result c.args.self.now c.args.to c.get_index_of.result c.get_index_of.ensures.index c.self.view_is c.function_key-key.ensures in
    (search rules, (λ full. absurd (none_is_not_some (entry_of c.args.self.now c.args.to) c.in-Some.number full.0 (found ∙ c.in-Some.is))))

-- a new name finds no number, and a table of 1,024 is full
pub returns-then-number-ge-MOST_ENTRIES-clause-known : goal.returns-then-number-ge-MOST_ENTRIES-clause-known
returns-then-number-ge-MOST_ENTRIES-clause-known c = λ number at.
    let found = found_at c.self.inside.keys.keys c.function_key-key.result c.args.self.now c.args.to c.get_index_of.result c.get_index_of.ensures.index c.self.view_is c.function_key-key.ensures in
    absurd (none_is_not_some (entry_of c.args.self.now c.args.to) number (found ∙ c.in_default.is) at)

pub returns-then-number-ge-MOST_ENTRIES-clause-full : goal.returns-then-number-ge-MOST_ENTRIES-clause-full
returns-then-number-ge-MOST_ENTRIES-clause-full c =
    let found = found_at c.self.inside.keys.keys c.function_key-key.result c.args.self.now c.args.to c.get_index_of.result c.get_index_of.ensures.index c.self.view_is c.function_key-key.ensures in
    let sound : AreEntries c.args.self.now = subst AreEntries c.self.view_is c.self.invariant in
    let held : length c.args.self.now ≡ 1024 = omega (arith, length-map c.self.inside.keys.keys name_of_key, ap length c.self.view_is, c.len-number.ensures.len, c.if-number-ge-MOST_ENTRIES.true, sound.room) in
    ((λ _. (found ∙ c.in_default.is, held)), (λ _. search rules))

-- nor does it where memory is refused
pub returns-in_err-insert-clause-known : goal.returns-in_err-insert-clause-known
returns-in_err-insert-clause-known c = λ number at.
    let found = found_at c.self.inside.keys.keys c.function_key-key.result c.args.self.now c.args.to c.get_index_of.result c.get_index_of.ensures.index c.self.view_is c.function_key-key.ensures in
    absurd (none_is_not_some (entry_of c.args.self.now c.args.to) number (found ∙ c.in_default.is) at)

-- the names after the insertion
after : (c : goal.In_ok-insert) → map name_of_key c.insert.new.self.keys ≡ exports_with c.args.self.now c.args.to
after c = ap (map name_of_key) c.in_ok-insert.ensures.keys ∙ key_added c.self.inside.keys.keys c.function_key-key.result ∙ (λ i. exports_with (c.self.view_is i) (c.function_key-key.ensures i))

held : (c : goal.In_ok-insert) → c.len-number.result ≡ length c.args.self.now
held c = c.len-number.ensures.len ∙ sym (length-map c.self.inside.keys.keys name_of_key) ∙ ap length c.self.view_is

-- are those of a table
pub invariant_of-self-2 : goal.invariant_of-self-2
invariant_of-self-2 c =
    let found = found_at c.self.inside.keys.keys c.function_key-key.result c.args.self.now c.args.to c.get_index_of.result c.get_index_of.ensures.index c.self.view_is c.function_key-key.ensures in
    subst AreEntries (sym (after c)) (entries_with c.args.self.now c.args.to (subst AreEntries c.self.view_is c.self.invariant) (found ∙ c.in_default.is) (omega (arith, held c, c.if-number-ge-MOST_ENTRIES.false)))

-- and have the next number for a new one
pub returns-clause-ok : goal.returns-clause-ok
returns-clause-ok c =
    let found = found_at c.self.inside.keys.keys c.function_key-key.result c.args.self.now c.args.to c.get_index_of.result c.get_index_of.ensures.index c.self.view_is c.function_key-key.ensures in
    entry_added c.args.self.now c.args.to c.len-number.result (map name_of_key c.insert.new.self.keys) (found ∙ c.in_default.is) (held c) (omega (arith, c.if-number-ge-MOST_ENTRIES.false)) (after c)

pub returns-clause-known : goal.returns-clause-known
returns-clause-known c = λ number at.
    let found = found_at c.self.inside.keys.keys c.function_key-key.result c.args.self.now c.args.to c.get_index_of.result c.get_index_of.ensures.index c.self.view_is c.function_key-key.ensures in
    absurd (none_is_not_some (entry_of c.args.self.now c.args.to) number (found ∙ c.in_default.is) at)
