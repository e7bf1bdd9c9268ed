-- What `parse` says of a number's digits.
use Rattle.std.proofs.Common.{◌∙◌, subst, List, ℕ}
use Rattle.std.specs.Str.Parse.{ParsesUnsigned}
use Rattle.term_core.proofs.Text.Numbers.{IsAscii-number}
use Rattle.term_core.proofs.Text.Words.{parsed_wide}
use Rattle.term_core.proofs.integer.wide_number.Goals as goal

-- they are ASCII
pub ascii_text-requires : goal.ascii_text-requires
ascii_text-requires c = IsAscii-number c.args.digits.now c.requires

-- they are read as their number, unless it has more than 64 bits
pub returns : goal.returns
returns c =
    let read = subst (λ (t : List ℕ). ParsesUnsigned 64 10 t c.parse.result) c.ascii_text.ensures c.parse.ensures.value.0 in
    c.ok.ensures.value ∙ parsed_wide c.args.digits.now c.parse.result read c.requires
