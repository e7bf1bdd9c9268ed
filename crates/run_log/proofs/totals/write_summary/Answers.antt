use Rattle.std.proofs.Common.{◌++◌, length, codes, decimal, ap, ◌∙◌}
use Rattle.std.specs.List.{count_by}
use Rattle.run_log.specs.Summary.{command_count, is_normal, print_count}
use Rattle.run_log.proofs.RenderingText.{four_counts}
use Rattle.run_log.proofs.totals.write_summary.Goals as goal

-- the four counts with their words
pub returns-clause-ok : goal.returns-clause-ok
returns-clause-ok c =
    let loaders = c.in_ok-command_count.ensures ∙ ap command_count c.as_slice.ensures in
    let prints = c.in_ok-print_count.ensures ∙ ap print_count c.as_slice-processes.ensures in
    let normal = c.normal_count.ensures ∙ ap (count_by is_normal) c.as_slice-processes.ensures in
    four_counts _ _ _ _ _ _ _ (codes "commands ") _ (codes " processes ") _ (codes " prints ") _ (codes " normal ") _
    (c.in_ok-write_count.ensures.ok ∙ ap (λ n. c.args.out.now ++ (codes "commands " ++ decimal n)) loaders)
    (c.in_ok-write_count-2.ensures.ok ∙ ap (λ ps. c.write_count.new.out ++ (codes " processes " ++ decimal (length ps))) c.as_slice-processes.ensures)
    (c.in_ok-write_count-3.ensures.ok ∙ ap (λ n. c.write_count-2.new.out ++ (codes " prints " ++ decimal n)) prints)
    (c.in_ok-write_count-4.ensures.ok ∙ ap (λ n. c.write_count-3.new.out ++ (codes " normal " ++ decimal n)) normal)
    c.push.ensures.ok
