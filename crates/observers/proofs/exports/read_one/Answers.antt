-- The function joins the list if it has a serial.
use Rattle.std.proofs.Common.{ℕ, ◌++◌, ap, append-nil, sym, ◌∙◌, Option, option_map}
use Rattle.std.specs.Option.{option_to_list}
use Rattle.term_core.specs.declared.atom.Mfa.{Mfa}
use Rattle.machine_core.specs.GenerationReads.{reads_in}
use Rattle.progress_words.specs.Tokens.{watched_by}
use Rattle.observers.specs.Watching.{held_by_watching}
use Rattle.observers.proofs.Exporting.{export_of}
use Rattle.observers.proofs.exports.read_one.Goals as goal

pub returns-in-Some-clause-found : goal.returns-in-Some-clause-found
returns-in-Some-clause-found g c =
    let r = reads_in c.args.exports.now (held_by_watching (watched_by c.args.watcher.now)).state in
    c.push_reserved.ensures.items
    ∙ ap (λ (o : Option ℕ). c.args.found.now.items ++ option_to_list (option_map {U = Mfa × ℕ} (λ n. (c.args.to, n)) o)) (sym c.in-Some.is ∙ c.serial_read.ensures.serial)
    ∙ ap (λ (o : Option (Mfa × ℕ)). c.args.found.now.items ++ option_to_list o) (export_of r c.args.to)

pub returns-in-None-clause-found : goal.returns-in-None-clause-found
returns-in-None-clause-found g c =
    let r = reads_in c.args.exports.now (held_by_watching (watched_by c.args.watcher.now)).state in
    sym (append-nil c.args.found.now.items)
    ∙ ap (λ (o : Option ℕ). c.args.found.now.items ++ option_to_list (option_map {U = Mfa × ℕ} (λ n. (c.args.to, n)) o)) (sym c.in-None.is ∙ c.serial_read.ensures.serial)
    ∙ ap (λ (o : Option (Mfa × ℕ)). c.args.found.now.items ++ option_to_list o) (export_of r c.args.to)
