use Rattle.script_text.proofs.Common.{◌++◌, ◌∙◌, ℕ, ap, subst, sym, All, List, flat_map}
use Rattle.term_core.proofs.Text.Starts.{starts_own, starts_more}
use Rattle.script_text.proofs.Types.{Module, ScriptCmd}
use Rattle.script_text.proofs.Modules.{canonical, IsModuleHeld, IsModule, lines_written}
use Rattle.script_text.proofs.Forms.{observer_bytes, block_bytes}
use Rattle.script_text.proofs.CanonicalScripts.{modules_sound, modules_held}
use Rattle.script_text.proofs.PrintedText.{script_at}
use Rattle.script_text.proofs.printing.write_script.Goals as goal

-- the modules are modules
pub write_modules-requires-clause-valid : goal.write_modules-requires-clause-valid
write_modules-requires-clause-valid c = subst (λ (ms : List Module). All IsModule ms) (sym c.as_slice.ensures) (modules_sound c.args.script.now c.requires)

-- their atoms are held
pub write_modules-requires-clause-held : goal.write_modules-requires-clause-held
write_modules-requires-clause-held c = subst (λ (ms : List Module). All (IsModuleHeld c.args.script.now.names) ms) (sym c.as_slice.ensures) (modules_held c.args.script.now c.requires)

-- what was appended before and the part of the last call
pub returns-in_err-write_modules-clause-kept : goal.returns-in_err-write_modules-clause-kept
returns-in_err-write_modules-clause-kept c = starts_more _ _ _ (starts_own _ _ _ c.in_ok-extend_from_slice.ensures.ok) c.in_err-write_modules.ensures.kept

-- what was appended before and the part of the last call
pub returns-in_err-write_observers-clause-kept : goal.returns-in_err-write_observers-clause-kept
returns-in_err-write_observers-clause-kept c =
    starts_more _ _ _ (starts_own _ _ _ c.in_ok-extend_from_slice.ensures.ok) (starts_more _ _ _ (starts_own _ _ _ c.in_ok-write_modules.ensures.ok) c.in_err-write_observers.ensures.kept)

-- what was appended before and the part of the last call
pub returns-in_err-write_loaders-clause-kept : goal.returns-in_err-write_loaders-clause-kept
returns-in_err-write_loaders-clause-kept c =
    starts_more _ _ _ (starts_own _ _ _ c.in_ok-extend_from_slice.ensures.ok)
    (starts_more _ _ _ (starts_own _ _ _ c.in_ok-write_modules.ensures.ok) (starts_more _ _ _ (starts_own _ _ _ c.in_ok-write_observers.ensures.ok) c.in_err-write_loaders.ensures.kept))

-- the text of the script
pub returns-clause-ok : goal.returns-clause-ok
returns-clause-ok c =
    let modules = ap (λ (ms : List Module). c.extend_from_slice.new.self ++ flat_map (λ m. lines_written (canonical c.args.script.now.names m)) ms) c.as_slice.ensures in
    let observers = ap (λ (counts : List ℕ). c.write_modules.new.out ++ flat_map observer_bytes counts) c.as_slice-2.ensures in
    let loaders = ap (λ (ls : List (List ScriptCmd)). c.write_observers.new.out ++ flat_map (block_bytes c.args.script.now.names) ls) c.as_slice-3.ensures in
    script_at c.extend_from_slice-2.result c.args.script.now c.args.out.now c.extend_from_slice.new.self c.write_modules.new.out c.write_observers.new.out c.write_loaders.new.out c.extend_from_slice-2.new.self
    c.in_ok-extend_from_slice.ensures.ok (c.in_ok-write_modules.ensures.ok ∙ modules) (c.in_ok-write_observers.ensures.ok ∙ observers) (c.in_ok-write_loaders.ensures.ok ∙ loaders) c.extend_from_slice-2.ensures.ok
