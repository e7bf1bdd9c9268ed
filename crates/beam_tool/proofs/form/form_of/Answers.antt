-- Two, four and six words have no form, nor have more than seven.
use Rattle.beam_tool.proofs.Forms.{none_of_four, none_of_more, none_of_six, none_of_two}
use Rattle.beam_tool.proofs.form.form_of.Goals as goal

pub returns-in_default-2 : goal.returns-in_default-2
returns-in_default-2 c = none_of_two _ c.args.words.now c.in_default.len_at_least c.in_default.len_below

pub returns-in_default-3 : goal.returns-in_default-3
returns-in_default-3 c = none_of_four _ c.args.words.now c.in_default.len_at_least c.in_default.len_below

pub returns-in_default-4 : goal.returns-in_default-4
returns-in_default-4 c = none_of_six _ c.args.words.now c.in_default.len_at_least c.in_default.len_below

pub returns-in_default-5 : goal.returns-in_default-5
returns-in_default-5 c = none_of_more _ c.args.words.now c.in_default.len_at_least
