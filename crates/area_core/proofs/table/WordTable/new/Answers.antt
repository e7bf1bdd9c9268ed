-- Each word is 0.
use Rattle.std.proofs.Common.{◌≡◌, ◌∙◌, rules, replicate}
use Rattle.area_core.proofs.Counted.{opened}
use Rattle.area_core.proofs.table.WordTable.new.Goals as goal

pub returns : goal.returns
returns c =
    let zeros : c.in_ok-words.words.items ≡ replicate c.args.count 0 = let h = c.in_ok-words.ensures.items_if_clones_equal in search rules in
    zeros ∙ opened c.args.count
